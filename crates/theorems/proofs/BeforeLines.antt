-- A line is refused with a number from 4 on, and so is what comes after the lines, so 1, 2 and 3 are left to the bytes alone.
-- Each of their three tests then stands for its number.
use Rattle.std.specs.Prelude.{Err, Ok, Result}
use Prim.Native.Nat.{ℕ, ◌≤◌, ◌<◌}
use native.Mathlib.Omega.{arith}
use mathlib.Core.List.{List, []}
use mathlib.Core.Logic.{◌↔◌}
use mathlib.Core.Bool.{true}
use mathlib.Core.Path.{ap, ◌≡◌, refl, sym}
use lib.ListN.{length}
use lib.Dec.{ltb}
use borrow.Author.Tests.{lt-ltb, le-ltb, ltb-true, ltb-false}
use Rattle.text.specs.Find.{begins}
use Rattle.text.specs.Lines.{lines_of}
use Rattle.text.proofs.Flat.{by_test}
use Rattle.lines.specs.Record.{most_bytes, no_desc, refusal}
use Rattle.lines.specs.Line.{line_of}
use Rattle.descriptor.specs.Read.{least_bytes, sparse, read_of}
use Rattle.theorems.specs.Statements.{ByLine, RefusedWith}
use Rattle.lines.specs.declared.line.Said.TheVariants.{Nothing, Extent, Set}
use Rattle.lines.specs.declared.line.Said.{Said}
use Rattle.lines.specs.declared.record.Fault.{Fault}
use Rattle.lines.specs.declared.record.Fault.TheVariants.{TooShort, TooLong, Sparse}
use Rattle.lines.specs.Fault.{refusal_number}
use Rattle.theorems.proofs.RefusalNumbers.{line_number}
use Rattle.theorems.proofs.Sayings.{never, stopped}
use Rattle.theorems.proofs.Verdicts.{by_line}

-- a line is refused with a number from 4 on
line_from : (p : ℕ) (l : List ℕ) (n : Fault) (count : ℕ) (s : Result Said Fault) → line_of p l ≡ s → RefusedWith n count s → 4 ≤ refusal_number n
line_from p l n count (Ok Nothing) e r = absurd r
line_from p l n count (Ok (Set v)) e r = absurd r
line_from p l n count (Ok (Extent x)) e r = omega (arith, ap refusal_number r.0)
line_from p l n count (Err m) e r = omega (arith, line_number p l m e, ap refusal_number r)

-- and a descriptor that is read by line too
by_line_from : (t : List ℕ) (n : Fault) (k : ℕ) → ByLine t → (read_of t).verdict ≡ refusal n k → refusal_number n ≤ 3 → ⊥
by_line_from t n k b e h =
    let s = stopped 1 0 no_desc [] (lines_of t) n k (omega arith) (omega arith) (rw (by_line t b) at e) in
    let f = line_from _ s.line n _ (line_of _ s.line) refl s.refused in
    omega arith

-- 1, 2 or 3 is answered with what its test found
module _ (t : List ℕ) (n : Fault) (k : ℕ) (h : refusal_number n ≤ 3) (e : (read_of t).verdict ≡ refusal n k) where
  pub by_bytes : {C : Type 0} → (n ≡ TooShort → k ≡ 0 → length t < least_bytes → C) → (n ≡ TooLong → k ≡ 0 → most_bytes < length t → C) → (n ≡ Sparse → k ≡ 0 → least_bytes ≤ length t → length t ≤ most_bytes → begins t sparse ≡ true → C) → C
  unfolding read_of
  by_bytes f g j =
      by_test (ltb (length t) least_bytes)
      (λ a. let q = never n k TooShort 0 (rw a at e) in f (sym q.0) (sym q.1) (ltb-true _ _ a))
      (λ a. by_test (ltb most_bytes (length t))
      (λ b. let q = never n k TooLong 0 (rw (a, b) at e) in g (sym q.0) (sym q.1) (ltb-true _ _ b))
      (λ b. by_test (begins t sparse)
      (λ c. let q = never n k Sparse 0 (rw (a, b, c) at e) in j (sym q.0) (sym q.1) (ltb-false _ _ a) (ltb-false _ _ b) c)
      (λ c. absurd (by_line_from t n k (record { least = ltb-false _ _ a; small = ltb-false _ _ b; plain = c }) e h))))

module _ (t : List ℕ) (k : ℕ) where
  pub too_few : ((read_of t).verdict ≡ refusal TooShort k) ↔ ((length t < least_bytes) × (k ≡ 0))
  unfolding read_of
  too_few = (
    λ e. by_bytes t TooShort k (omega arith) e (λ n z h. (h, z)) (λ n z h. absurd (omega (arith, ap refusal_number n))) (λ n z a b c. absurd (omega (arith, ap refusal_number n))),
    λ w. rw (lt-ltb _ _ w.0, w.1),
  )

  pub too_many : ((read_of t).verdict ≡ refusal TooLong k) ↔ ((most_bytes < length t) × (k ≡ 0))
  unfolding read_of
  too_many = (
    λ e. by_bytes t TooLong k (omega arith) e (λ n z h. absurd (omega (arith, ap refusal_number n))) (λ n z h. (h, z)) (λ n z a b c. absurd (omega (arith, ap refusal_number n))),
    λ w. let h : least_bytes ≤ length t = let g = w.0 in omega arith in rw (le-ltb _ _ h, lt-ltb _ _ w.0, w.1),
  )

  pub sparse_bytes : ((read_of t).verdict ≡ refusal Sparse k) ↔ ((least_bytes ≤ length t) × (length t ≤ most_bytes) × (begins t sparse ≡ true) × (k ≡ 0))
  unfolding read_of
  sparse_bytes = (
    λ e. by_bytes t Sparse k (omega arith) e (λ n z h. absurd (omega (arith, ap refusal_number n))) (λ n z h. absurd (omega (arith, ap refusal_number n))) (λ n z a b c. (a, b, c, z)),
    λ w. rw (le-ltb _ _ w.0, le-ltb _ _ w.1, w.2, w.3),
  )
