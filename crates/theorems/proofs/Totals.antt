-- A list's total is the sum of what each element counts for.
-- Numbers that rise take each number at most once, so what they count for is at most the total of all.
-- Assumes nothing.
use Prim.Native.Nat.{ℕ, zero, suc, ◌+◌, ◌<◌, ◌≤◌}
use native.Mathlib.Omega.{arith}
use mathlib.Core.List.{List, [], ◌∷◌, ◌++◌}
use mathlib.Core.Path.{◌≡◌, refl}
use lib.ListN.{length, get_or}
use lib.Dec.{eqb}
use borrow.Author.Tests.{eqb-true, eqb-false}
use Rattle.theorems.specs.Reports.{total}
use Rattle.theorems.specs.Tiling.{All, Rise}
use Rattle.text.proofs.Flat.{by_test}

pub total_append : {A : Type 0} (f : A → ℕ) (xs ys : List A) → total f (xs ++ ys) ≡ total f xs + total f ys
unfolding total
total_append f [] ys = omega arith
total_append f (x ∷ xs) ys = omega (arith, total_append f xs ys)

-- the sum over n numbers from i on
unfoldable pub span : (ℕ → ℕ) → ℕ → ℕ → ℕ
span f i zero = 0
span f i (suc n) = f i + span f (suc i) n

-- numbers below m that rise, from one of them on
pub total_rise : (f : ℕ → ℕ) (m n i : ℕ) (ks : List ℕ) → i + n ≡ m → Rise i ks → All (λ (k : ℕ). k < m) ks → total f ks ≤ span f i n
unfolding total span
total_rise f m zero i [] s r a = omega arith
total_rise f m zero i (k ∷ ks) s r a = absurd (omega (arith, r.0, a.0))
total_rise f m (suc n) i [] s r a = omega arith
total_rise f m (suc n) i (k ∷ ks) s r a =
    by_test (eqb i k)
    (λ e. let q = eqb-true i k e in
    let g : total f ks ≤ span f (suc i) n = total_rise f m n (suc i) ks (omega arith) (rw (← q) at r.1) a.1 in
    rw (← q) (omega arith))
    (λ e. let q = eqb-false i k e in
    let g : total f (k ∷ ks) ≤ span f (suc i) n = total_rise f m n (suc i) (k ∷ ks) (omega arith) (omega (arith, r.0), r.1) a in
    omega arith)

-- the sum over a list, by its elements' numbers
pub span_total : {A : Type 0} (f : ℕ → ℕ) (g : A → ℕ) (none : A) (xs : List A) (i : ℕ) → ((j : ℕ) → j < length xs → f (i + j) ≡ g (get_or xs j none)) → span f i (length xs) ≡ total g xs
unfolding total span
span_total f g none [] i h = refl
span_total f g none (x ∷ xs) i h =
    let e : f i ≡ g x = let z : i + 0 ≡ i = omega arith in rw z at (h 0 (omega arith)) in
    let r = span_total f g none xs (suc i) (λ j l. let z : i + suc j ≡ suc i + j = omega arith in rw z at (h (suc j) (omega arith))) in
    rw (e, r)
