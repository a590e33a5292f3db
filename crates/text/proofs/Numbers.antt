-- Reading digits from the left and refusing as soon as the limit is passed is `digits_of`: the value only grows, so it stays refused.
-- The value so far, times ten, and a digit more is the value of the digits so far, by the places of the digits.
use Rattle.std.specs.Prelude.{None, Option, Some}
use Prim.Native.Nat.{ℕ, ◌+◌, ◌-◌, ◌*◌, ◌^◌, ◌≤◌, ◌<◌}
use native.Mathlib.Omega.{arith}
use mathlib.Core.Bool.{Bool, true, false}
use mathlib.Core.List.{List, [], ◌∷◌}
use mathlib.Core.Path.{◌≡◌, refl, sym, ◌∙◌}
use lib.ListN.{length, get_or, take, drop, drop_of_length-le}
use lib.Seq.{drop-cons}
use native.Mathlib.Nat.{pow-zero, pow-succ', add-mul, mul_assoc, zero-mul}
use native.Mathlib.Numerals.{add-one}
use lib.Dec.{leb, eqb}
use borrow.Author.Tests.{le-leb, lt-leb, leb-true, leb-false, eq-eqb, ne_eqb, tests}
use borrow.Author.Rules.{rules}
use Rattle.text.specs.Ranges.{pick}
use Rattle.text.specs.Number.{digit, all_digits, value, up_to, digits_of, digits_at, sign_of, number_of}
use Rattle.text.proofs.Parts.{part_rest}
use Rattle.text.proofs.Flat.{by_test, pick_same}

-- what digits say after those that say v, from the left, as the code does
value_on : ℕ → List ℕ → ℕ
value_on v [] = v
value_on v (b ∷ r) = value_on (v * 10 + (b - 0x30)) r

on_is : (v : ℕ) (l : List ℕ) → value_on v l ≡ v * 10 ^ length l + value l
unfolding value_on value
on_is v [] = omega (arith, pow-zero 10)
on_is v (b ∷ r) =
    rw (on_is (v * 10 + (b - 0x30)) r, add-mul (v * 10) (b - 0x30) (10 ^ length r), mul_assoc v 10 (10 ^ length r), pow-succ' 10 (length r)) (omega arith)

-- the number that digits say after those that say v, refused once it is above the limit
unfoldable pub num_from : ℕ → ℕ → List ℕ → Option ℕ
num_from limit v [] = Some v
num_from limit v (b ∷ r) = pick (digit b) (pick (leb (v * 10 + (b - 0x30)) limit) (num_from limit (v * 10 + (b - 0x30)) r) None) None

grows : (v : ℕ) (l : List ℕ) → v ≤ value_on v l
unfolding value_on
grows v [] = omega arith
grows v (b ∷ r) = let h = grows (v * 10 + (b - 0x30)) r in omega arith

-- within the limit so far: what is left decides
from_is : (limit v : ℕ) (l : List ℕ) → v ≤ limit → num_from limit v l ≡ pick (all_digits l) (up_to limit (value_on v l)) None
unfolding num_from all_digits value_on
from_is limit v [] h = rw (le-leb v limit h)
from_is limit v (b ∷ r) h =
    by_test (digit b)
    (λ e. by_test (leb (v * 10 + (b - 0x30)) limit)
    (λ f. rw (e, f) (from_is limit (v * 10 + (b - 0x30)) r (leb-true _ _ f)))
    (λ f. let g = grows (v * 10 + (b - 0x30)) r in
    let o : limit < value_on (v * 10 + (b - 0x30)) r = omega (arith, leb-false (v * 10 + (b - 0x30)) limit f) in
    rw (e, f, lt-leb _ _ o) (sym (pick_same (all_digits r) None))))
    (λ e. rw e)

digits_is : (limit : ℕ) (l : List ℕ) → 0 < length l → digits_of limit l ≡ num_from limit 0 l
unfolding digits_of
digits_is limit [] h = absurd (omega arith)
digits_is limit (b ∷ r) h =
    let e : value_on 0 (b ∷ r) ≡ value (b ∷ r) = on_is 0 (b ∷ r) ∙ rw zero-mul (omega arith) in
    sym (from_is limit 0 (b ∷ r) (omega arith) ∙ rw e)

-- the same at a place of a text. It stays shut, so that `search` finds its arguments
unfoldable pub num_at : ℕ → List ℕ → ℕ → ℕ → Option ℕ
num_at limit t at v = num_from limit v (drop at t)

-- what one digit more says
step_some : (d g : Bool) (n w : ℕ) → ◌≡◌ {A = Option ℕ} (Some w) (pick d (pick g (Some n) None) None) → (d ≡ true) × (g ≡ true) × (w ≡ n)
step_some true true n w e = (refl, refl, cc)
step_some true false n w e = let z : ◌≡◌ {A = ℕ} 0 1 = cc in absurd (omega arith)
step_some false g n w e = let z : ◌≡◌ {A = ℕ} 0 1 = cc in absurd (omega arith)

step_none : (d g : Bool) (n : ℕ) (x : Option ℕ) → ◌≡◌ {A = Option ℕ} None (pick d (pick g (Some n) None) None) → ◌≡◌ {A = Option ℕ} (pick d (pick g x None) None) None
step_none true true n x e = let z : ◌≡◌ {A = ℕ} 0 1 = cc in absurd (omega arith)
step_none true false n x e = refl
step_none false g n x e = refl

-- Rules of `digits`
pub digits_none : (limit : ℕ) (t : List ℕ) → length t ≡ 0 → None ≡ digits_of limit t
unfolding digits_of
digits_none limit [] h = refl
digits_none limit (b ∷ r) h = absurd (omega arith)

pub digits_start : (limit : ℕ) (t : List ℕ) → (length t ≡ 0 → ⊥) → digits_of limit t ≡ num_at limit t 0 0
unfolding num_at
digits_start limit t h = let p : 0 < length t = omega (arith, h) in digits_is limit t p

module _ (limit : ℕ) (t : List ℕ) (at v : ℕ) (i : digits_of limit t ≡ num_at limit t at v) where
  pub num_end : length t ≤ at → Some v ≡ digits_of limit t
  unfolding num_from num_at
  num_end h = rw (i, drop_of_length-le t h)

  module _ (h : at < length t) {r : Option ℕ} (p : r ≡ pick (digit (get_or t at 0)) (up_to limit (v * 10 + (get_or t at 0 - 0x30))) None) where
    num_at_lem : digits_of limit t ≡ pick (digit (get_or t at 0)) (pick (leb (v * 10 + (get_or t at 0 - 0x30)) limit) (num_at limit t (at + 1) (v * 10 + (get_or t at 0 - 0x30))) None) None
    unfolding num_from num_at
    num_at_lem = rw (i, drop-cons t at 0 h, add-one)

    pub num_none : r ≡ None → None ≡ digits_of limit t
    num_none q = sym (num_at_lem ∙ step_none _ _ _ _ (sym q ∙ p))

    pub num_more : {w : ℕ} → r ≡ Some w → digits_of limit t ≡ num_at limit t (at + 1) w
    num_more q = let s = step_some _ _ _ _ (sym q ∙ p) in rw (num_at_lem, s.0, s.1, s.2)

pub ruleset digits = (digits_none, digits_start, num_end, num_none, num_more, rules, tests)

-- the sign, by the tests that the code makes
pub number_by : (limit : ℕ) (t : List ℕ) → number_of limit t ≡ pick (leb 1 (length t)) (pick (eqb (get_or t 0 0) 0x2B) (digits_of limit (take (length t - 1) (drop 1 t))) (digits_of limit t)) (digits_of limit t)
unfolding number_of sign_of digits_at
number_by limit [] = refl
number_by limit (b ∷ t) =
    let r = part_rest 1 (b ∷ t) in
    let k = le-leb 1 (length (b ∷ t)) (omega arith) in
    by_test (eqb b 0x2B) (λ e. rw (e, r, k)) (λ e. rw (e, k))
