-- A text is accepted as a number exactly if it is a numeral whose value is within the limit: correct and complete.
-- A digit is no `+`, so the sign's test tells the two ways to write a numeral apart; a zero in front adds nothing to the value.
use Rattle.std.specs.Prelude.{None, Some}
use Prim.Native.Nat.{ℕ, zero, suc, ◌^◌, ◌≤◌, ◌<◌}
use native.Mathlib.Omega.{arith}
use native.Mathlib.Nat.{zero-mul}
use mathlib.Core.List.{List, [], ◌∷◌, ◌++◌}
use mathlib.Core.Logic.{◌⊎◌, inl, inr}
use mathlib.Core.Bool.{true, false}
use mathlib.Core.Path.{◌≡◌, refl}
use lib.ListN.{length}
use lib.Dec.{leb, eqb}
use borrow.Author.Tests.{leb-true, eqb-true}
use Rattle.text.specs.Number.{all_digits, value, up_to, digits_of, digits_at, sign_of, number_of, Numeral, zeros}
use Rattle.text.proofs.Flat.{by_test}

-- ---- digits
up_out : (limit u : ℕ) {v : ℕ} → up_to limit u ≡ Some v → (u ≡ v) × (v ≤ limit)
up_out limit u {v} e =
    by_test (leb u limit)
    (λ h. let g : Some u ≡ Some v = rw h at e in let q : u ≡ v = cc in (q, rw (← q) (leb-true u limit h)))
    (λ h. let g : None ≡ Some v = rw h at e in let z : ◌≡◌ {A = ℕ} 0 1 = cc in absurd (omega arith))

digits_out : (limit : ℕ) (l : List ℕ) {v : ℕ} → digits_of limit l ≡ Some v → (0 < length l) × (all_digits l ≡ true) × (value l ≡ v) × (v ≤ limit)
unfolding digits_of
digits_out limit [] e = let z : ◌≡◌ {A = ℕ} 0 1 = cc in absurd (omega arith)
digits_out limit (b ∷ r) {v} e =
    by_test (all_digits (b ∷ r))
    (λ h. let g = up_out limit (value (b ∷ r)) (rw h at e) in (omega arith, h, g.0, g.1))
    (λ h. let g : None ≡ Some v = rw h at e in let z : ◌≡◌ {A = ℕ} 0 1 = cc in absurd (omega arith))

digits_in : (limit : ℕ) (l : List ℕ) → 0 < length l → all_digits l ≡ true → digits_of limit l ≡ up_to limit (value l)
unfolding digits_of
digits_in limit [] h d = absurd (omega arith)
digits_in limit (b ∷ r) h d = rw d

-- ---- numerals
-- what is accepted is a numeral, of that value, within the limit
pub number_out : (limit : ℕ) (t : List ℕ) {v : ℕ} → number_of limit t ≡ Some v → (ds : List ℕ) × Numeral ds t × (value ds ≡ v) × (v ≤ limit)
unfolding number_of digits_at sign_of
number_out limit [] e = let g = digits_out limit [] e in absurd (omega arith)
number_out limit (b ∷ r) e =
    by_test (eqb b 0x2B)
    (λ h. let g = digits_out limit r (rw h at e) in
    let q : b ≡ 0x2B = eqb-true b 0x2B h in
    (r, (g.0, g.1, inr (rw q)), g.2, g.3))
    (λ h. let g = digits_out limit (b ∷ r) (rw h at e) in
    (b ∷ r, (g.0, g.1, inl refl), g.2, g.3))

-- a list of digits does not start with a sign
no_sign : (b : ℕ) (r : List ℕ) → all_digits (b ∷ r) ≡ true → eqb b 0x2B ≡ false
unfolding all_digits
no_sign b r d =
    by_test (eqb b 0x2B)
    (λ h. let q : b ≡ 0x2B = eqb-true b 0x2B h in
    let g : false ≡ true = rw q at d in
    let z : ◌≡◌ {A = ℕ} 0 1 = cc in
    absurd (omega arith))
    (λ h. h)

plain : (limit : ℕ) (l : List ℕ) → 0 < length l → all_digits l ≡ true → number_of limit l ≡ up_to limit (value l)
unfolding number_of digits_at sign_of
plain limit [] h d = absurd (omega arith)
plain limit (b ∷ r) h d = rw (no_sign b r d) (digits_in limit (b ∷ r) h d)

signed : (limit : ℕ) (l : List ℕ) → 0 < length l → all_digits l ≡ true → number_of limit (0x2B ∷ l) ≡ up_to limit (value l)
unfolding number_of digits_at sign_of
signed limit l h d = digits_in limit l h d

-- every numeral is read as its value, if that is within the limit
pub number_in : (limit : ℕ) (ds t : List ℕ) → Numeral ds t → number_of limit t ≡ up_to limit (value ds)
number_in limit ds t n = ways n.2
  where
    ways : (t ≡ ds) ⊎ (t ≡ 0x2B ∷ ds) → number_of limit t ≡ up_to limit (value ds)
    ways (inl e) = rw e (plain limit ds n.0 n.1)
    ways (inr e) = rw e (signed limit ds n.0 n.1)

-- ---- zeros in front
pub zeros_value : (n : ℕ) (ds : List ℕ) → value (zeros n ++ ds) ≡ value ds
unfolding zeros value
zeros_value zero ds = refl
zeros_value (suc n) ds = rw (zeros_value n ds, zero-mul (10 ^ length (zeros n ++ ds))) (omega arith)

pub zeros_digits : (n : ℕ) (ds : List ℕ) → all_digits (zeros n ++ ds) ≡ all_digits ds
unfolding zeros all_digits
zeros_digits zero ds = refl
zeros_digits (suc n) ds = zeros_digits n ds
