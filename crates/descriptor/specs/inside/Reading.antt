-- How the code reads: the sizes are summed on the way, with their first refusal; what is read is answered apart from what is left.
use Rattle.std.specs.Prelude.{ℕ, ◌+◌, List, Result, Ok, Err, leb, None, Option, Some}
use Rattle.text.specs.Ranges.{pick, within}
use Rattle.text.specs.Sector.{bytes_of, largest}
use Rattle.text.specs.declared.sector.Sectors.{Sectors}
use Rattle.lines.specs.Record.{over, refused_with, Verdict}
use Rattle.lines.specs.declared.line.Said.{Said}
use Rattle.lines.specs.declared.record.Fault.{Fault}
use Rattle.lines.specs.declared.record.Fault.TheVariants.{OtherVersion, SizeTooLarge, SumTooLarge}
use Rattle.lines.specs.declared.record.Refusal.{Refusal}
use Rattle.lines.specs.declared.record.VmdkDesc.{VmdkDesc}
use Rattle.lines.specs.declared.record.ReadExtent.{ReadExtent}
use Rattle.lines.specs.declared.record.Record.{Record}
use Rattle.descriptor.specs.Read.{Read, before_lines}
use Rattle.text.specs.declared.sector.Bytes.{Bytes}

-- before the lines: the length, and then sparse bytes
abbrev pub bytes_checked : List ℕ → Result (Unit {0}) Refusal
bytes_checked t = before_lines t (λ f. refused_with f 0) (Ok tt)

-- ---- the sizes
-- the running sum, within 2^64-1, with the size of line k's extent
abbrev pub sized_by : ℕ → ℕ → Option Bytes → Result ℕ Refusal
sized_by k sum (Some b) = pick (leb (sum + b.0) largest) (Ok (sum + b.0)) (refused_with SumTooLarge k)
sized_by k sum None = refused_with SizeTooLarge k

-- the sum with one more, that of line k's extent; the first refusal stays
abbrev pub sized_of : Result ℕ Refusal → ℕ → Sectors → Result ℕ Refusal
sized_of (Ok sum) k s = sized_by k sum (bytes_of s)
sized_of (Err r) k s = Err r

-- after the lines: version 1 to 3; then the sizes
abbrev pub checked_of : ℕ → Result ℕ Refusal → Result ℕ Refusal
checked_of version sizes = pick (within 1 3 version) sizes (refused_with OtherVersion 0)

-- ---- the lines
-- what line k says, or its refusal with the line's number
abbrev pub told : Result Said Fault → ℕ → Result Said Refusal
told (Ok s) k = Ok s
told (Err f) k = refused_with f k

-- ---- what is answered, and what is left
-- the values and the count, or the refusal
abbrev pub head_by : Verdict → Record → Result (VmdkDesc × ℕ) Refusal
head_by (Ok tt) r = Ok (r.desc, r.count)
head_by (Err k) r = Err k

unfoldable pub head_of : Read → Result (VmdkDesc × ℕ) Refusal
head_of r = head_by r.verdict r.descriptor

-- a record with some extents in its first places
abbrev pub with_extents : List ReadExtent → Record → Record
with_extents xs r = record { desc = r.desc; count = r.count; extents = over xs r.extents }
