-- Document 01's number of each refusal.
use Rattle.std.specs.Prelude.{ℕ}
use Rattle.lines.specs.declared.record.Fault.{Fault}
use Rattle.lines.specs.declared.record.Fault.TheVariants.{TooShort, TooLong, Sparse, NotUtf8, SectorCount, NoType, OtherType, NoQuote, OneQuote, NotThreeWords, FileStart, VersionNumber, ParentHint, GeometryNumber, OtherKey, TooManyExtents, OtherVersion, SizeTooLarge, SumTooLarge, FileStartTooLarge, Inaccessible, OffsetTooLarge, CountTooLarge, InputTooLong}

abbrev pub refusal_number : Fault → ℕ
refusal_number TooShort = 1
refusal_number TooLong = 2
refusal_number Sparse = 3
refusal_number NotUtf8 = 4
refusal_number SectorCount = 5
refusal_number NoType = 6
refusal_number OtherType = 7
refusal_number NoQuote = 8
refusal_number OneQuote = 9
refusal_number NotThreeWords = 10
refusal_number FileStart = 11
refusal_number VersionNumber = 12
refusal_number ParentHint = 13
refusal_number GeometryNumber = 14
refusal_number OtherKey = 15
refusal_number TooManyExtents = 16
refusal_number OtherVersion = 17
refusal_number SizeTooLarge = 18
refusal_number SumTooLarge = 19
refusal_number FileStartTooLarge = 20
refusal_number Inaccessible = 21
refusal_number OffsetTooLarge = 22
refusal_number CountTooLarge = 23
refusal_number InputTooLong = 24
