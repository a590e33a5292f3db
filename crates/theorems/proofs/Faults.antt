-- The faults in the order of document 01's numbers: each number up to 24 is that of one of them, and of no other.
-- Assumes nothing.
use Prim.Native.Nat.{ℕ, suc, ◌+◌, ◌-◌, ◌≤◌}
use native.Mathlib.Omega.{arith}
use mathlib.Core.Bool.{Bool, true}
use mathlib.Core.List.{List, [], ◌∷◌}
use mathlib.Core.Path.{◌≡◌, refl, sym, ap, ◌∙◌}
use lib.Dec.{eqb}
use lib.ListN.{get_or}
use borrow.Author.Tests.{eqb-true}
use Rattle.std.proofs.lemmas.Bool.{agree_below, agree_below_at}
use Rattle.lines.specs.Fault.{refusal_number}
use Rattle.lines.specs.declared.record.Fault.{Fault}
use Rattle.lines.specs.declared.record.Fault.TheVariants.{TooShort, TooLong, Sparse, NotUtf8, SectorCount, NoType, OtherType, NoQuote, OneQuote, NotThreeWords, FileStart, VersionNumber, ParentHint, GeometryNumber, OtherKey, TooManyExtents, OtherVersion, SizeTooLarge, SumTooLarge, FileStartTooLarge, Inaccessible, OffsetTooLarge, CountTooLarge, InputTooLong}

abbrev faults : List Fault
faults =
    TooShort
    ∷ TooLong
    ∷ Sparse
    ∷ NotUtf8
    ∷ SectorCount
    ∷ NoType
    ∷ OtherType
    ∷ NoQuote
    ∷ OneQuote
    ∷ NotThreeWords
    ∷ FileStart
    ∷ VersionNumber
    ∷ ParentHint
    ∷ GeometryNumber
    ∷ OtherKey
    ∷ TooManyExtents
    ∷ OtherVersion
    ∷ SizeTooLarge
    ∷ SumTooLarge
    ∷ FileStartTooLarge
    ∷ Inaccessible
    ∷ OffsetTooLarge
    ∷ CountTooLarge
    ∷ InputTooLong
    ∷ []

-- the fault with a number
abbrev fault_at : ℕ → Fault
fault_at n = get_or faults (n - 1) TooShort

numbered : (f : Fault) → fault_at (refusal_number f) ≡ f
numbered TooShort = refl
numbered TooLong = refl
numbered Sparse = refl
numbered NotUtf8 = refl
numbered SectorCount = refl
numbered NoType = refl
numbered OtherType = refl
numbered NoQuote = refl
numbered OneQuote = refl
numbered NotThreeWords = refl
numbered FileStart = refl
numbered VersionNumber = refl
numbered ParentHint = refl
numbered GeometryNumber = refl
numbered OtherKey = refl
numbered TooManyExtents = refl
numbered OtherVersion = refl
numbered SizeTooLarge = refl
numbered SumTooLarge = refl
numbered FileStartTooLarge = refl
numbered Inaccessible = refl
numbered OffsetTooLarge = refl
numbered CountTooLarge = refl
numbered InputTooLong = refl

pub number_within : (f : Fault) → (1 ≤ refusal_number f) × (refusal_number f ≤ 24)
number_within TooShort = omega arith
number_within TooLong = omega arith
number_within Sparse = omega arith
number_within NotUtf8 = omega arith
number_within SectorCount = omega arith
number_within NoType = omega arith
number_within OtherType = omega arith
number_within NoQuote = omega arith
number_within OneQuote = omega arith
number_within NotThreeWords = omega arith
number_within FileStart = omega arith
number_within VersionNumber = omega arith
number_within ParentHint = omega arith
number_within GeometryNumber = omega arith
number_within OtherKey = omega arith
number_within TooManyExtents = omega arith
number_within OtherVersion = omega arith
number_within SizeTooLarge = omega arith
number_within SumTooLarge = omega arith
number_within FileStartTooLarge = omega arith
number_within Inaccessible = omega arith
number_within OffsetTooLarge = omega arith
number_within CountTooLarge = omega arith
number_within InputTooLong = omega arith

has : ℕ → Bool
has i = eqb (refusal_number (get_or faults i TooShort)) (i + 1)

all_have : agree_below has (λ i. true) 24 ≡ true
unfolding has
all_have = refl

pub number_taken : (n : ℕ) → 1 ≤ n → n ≤ 24 → (f : Fault) × (refusal_number f ≡ n)
unfolding has
number_taken n h k =
    let q : n - 1 + 1 ≡ n = omega arith in
    (fault_at n, eqb-true _ _ (agree_below_at has (λ i. true) 24 (n - 1) all_have (omega arith)) ∙ q)

pub number_once : (f g : Fault) → refusal_number f ≡ refusal_number g → f ≡ g
number_once f g e = sym (numbered f) ∙ ap fault_at e ∙ numbered g
