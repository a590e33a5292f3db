-- What is to be found from a place on: bytes that differ from it are passed over, and a place that is found lies where it was looked for.
-- What std's comparisons of slices say is what the definitions say, element by element.
use Rattle.std.specs.Prelude.{None, Option, Some, MatchOption}
use Rattle.std.specs.List.{AllWithin, HoldsAt}
use Prim.Native.Nat.{ℕ, zero, suc, ◌+◌, ◌-◌, ◌^◌, ◌≤◌, ◌<◌}
use native.Mathlib.Omega.{arith}
use native.Mathlib.Nat.{add-zero}
use mathlib.Core.List.{List, [], ◌∷◌, ◌++◌}
use mathlib.Core.Bool.{true, false}
use mathlib.Core.Path.{◌≡◌, refl, sym, ap, ◌∙◌}
use lib.ListN.{length, get_or, take, drop, drop_of_length-le, length-take, length-drop, length-append}
use lib.Seq.{drop-cons, get_or-append_seam, take-append_seam}
use lib.Dec.{eqb}
use lib.Pointwise.{pointwise}
use borrow.Author.Tests.{eq-eqb, ne_eqb, eqb-true, eqb-false, le-leb}
use Rattle.text.specs.Find.{find_from, find_at, same, begins, strip_of, part_of}
use mir.Syntax.{w64}
use mir.Val.{Fits}
use Rattle.text.proofs.Flat.{by_test}
use Rattle.text.proofs.Parts.{part_rest}

-- ---- finding
-- bytes that are not b are passed over
pub past_other : (b n p : ℕ) (l : List ℕ) → n ≤ length l → ((i : ℕ) → i < n → get_or l i 0 ≡ b → ⊥) → find_from b p l ≡ find_from b (p + n) (drop n l)
unfolding find_from
past_other b zero p l h e = rw (add-zero p)
past_other b (suc n) p [] h e = absurd (omega arith)
past_other b (suc n) p (x ∷ l) h e =
    let o : suc p + n ≡ p + suc n = omega arith in
    rw (ne_eqb x b (e 0 (omega arith)), past_other b n (suc p) l (omega arith) (λ i k. e (suc i) (omega arith)), o)

-- the first place, by what std's `position` says
pub first_is : (b : ℕ) (l : List ℕ) (r : Option ℕ) → MatchOption r (AllWithin (λ x. x ≡ b → ⊥) l 0 (length l)) (λ i. (i < length l) × HoldsAt (λ x. x ≡ b) l i × AllWithin (λ x. x ≡ b → ⊥) l 0 i) → r ≡ find_from b 0 l
unfolding find_from
first_is b l (Some i) h =
    let z : i ≡ 0 + i = omega arith in
    rw (past_other b i 0 l (omega (arith, h.0)) (λ j k. h.2 j 0 (omega arith) k), drop-cons l i 0 h.0, eq-eqb _ b (h.1 0)) (ap Some z)
first_is b l None h =
    rw (past_other b (length l) 0 l (omega arith) (λ j k. h j 0 (omega arith) k), drop_of_length-le l {i = length l} (omega arith))

-- a place counted from p on
unfoldable add_to : ℕ → Option ℕ → Option ℕ
add_to p (Some i) = Some (p + i)
add_to p None = None

counted_on : (b p q : ℕ) (l : List ℕ) → find_from b (p + q) l ≡ add_to p (find_from b q l)
unfolding find_from add_to
counted_on b p q [] = refl
counted_on b p q (x ∷ l) =
    let o : suc (p + q) ≡ p + suc q = omega arith in
    by_test (eqb x b) (λ e. rw e) (λ e. rw (e, o) (counted_on b p (suc q) l))

-- what is found lies where it was looked for
pub inside : (b p : ℕ) (l : List ℕ) {i : ℕ} → find_from b p l ≡ Some i → (p ≤ i) × (i < p + length l)
unfolding find_from
inside b p [] h = let z : ◌≡◌ {A = ℕ} 0 1 = cc in absurd (omega arith)
inside b p (x ∷ r) {i} h =
    by_test (eqb x b)
    (λ e. let q : Some p ≡ Some i = rw e at h in let q₂ : p ≡ i = cc in omega arith)
    (λ e. let q = inside b (suc p) r {i = i} (rw e at h) in omega arith)

-- Rules of `find_byte`
pub find_beyond : (b : ℕ) (t : List ℕ) (from : ℕ) → length t < from → None ≡ find_at b t from
unfolding find_at find_from
find_beyond b t from h = rw (drop_of_length-le t {i = from} (omega arith))

module _ (b : ℕ) (t : List ℕ) (from at : ℕ) {rest : List ℕ} {f : Option ℕ} (e : rest ≡ take (length t - from) (drop from t)) (h : at ≤ length rest) (o : (i : ℕ) → i < at → get_or rest i 0 ≡ b → ⊥) (g : f ≡ find_from b 0 (take (length rest - at) (drop at rest))) where
  found_on : find_at b t from ≡ add_to (from + at) f
  unfolding find_at
  found_on =
      let s₁ : find_from b from rest ≡ find_from b (from + at) (drop at rest) = past_other b at from rest h o in
      let s₂ : find_from b (from + at) (drop at rest) ≡ add_to (from + at) (find_from b 0 (drop at rest)) = rw add-zero at (counted_on b (from + at) 0 (drop at rest)) in
      rw (← part_rest from t, ← e, s₁, s₂, g, part_rest at rest)

  pub found_none : f ≡ None → None ≡ find_at b t from
  unfolding add_to
  found_none q = rw (found_on, q)

  module _ {i : ℕ} (q : f ≡ Some i) where
    pub found_some : Some (from + at + i) ≡ find_at b t from
    unfolding add_to
    found_some = rw (found_on, q)

    pub found_fits : length t < 2 ^ 64 → from ≤ length t → Fits w64 (from + at + i)
    found_fits n m =
        let r = inside b 0 (take (length rest - at) (drop at rest)) {i = i} (sym g ∙ q) in
        let d : length rest ≡ length t - from = rw (e, part_rest from t) (length-drop from t) in
        let k : length (take (length rest - at) (drop at rest)) ≡ length rest - at = simp (length-take, length-drop) (omega arith) in
        omega (arith, r.1, k, d)

pub found_within : (b : ℕ) (t : List ℕ) (at : ℕ) {i : ℕ} → find_at b t at ≡ Some i → (at ≤ i) × (i < length t)
unfolding find_at
found_within b t at h = let q = rw length-drop at (inside b at (drop at t) h) in omega arith

-- ---- comparing
-- what `==` says of two texts
pub same_bytes : (t k : List ℕ) → same t k ≡ pointwise eqb t k
unfolding same
same_bytes [] [] = refl
same_bytes [] (y ∷ s) = refl
same_bytes (x ∷ r) [] = refl
same_bytes (x ∷ r) (y ∷ s) = by_test (eqb x y) (λ e. rw (e, same_bytes r s)) (λ e. rw e)

eqb_turned : (x y : ℕ) → eqb x y ≡ eqb y x
eqb_turned x y =
    by_test (eqb x y)
    (λ e. let n = eqb-true x y e in rw (e, eq-eqb y x (sym n)))
    (λ e. let n = eqb-false x y e in rw (e, ne_eqb y x (λ q. n (sym q))))

-- what `starts_with` says of them
pub begins_bytes : (t k : List ℕ) → begins t k ≡ pointwise eqb k (take (length k) t)
unfolding begins
begins_bytes [] [] = refl
begins_bytes (x ∷ r) [] = refl
begins_bytes [] (y ∷ s) = refl
begins_bytes (x ∷ r) (y ∷ s) = by_test (eqb x y) (λ e. rw (← eqb_turned x y, e, begins_bytes r s)) (λ e. rw (← eqb_turned x y, e))

-- a text in quotes is stripped to what stands between them
pub strip_between : (l : List ℕ) → part_of (0x22 ∷ l ++ 0x22 ∷ []) (strip_of (0x22 ∷ l ++ 0x22 ∷ [])) ≡ l
unfolding strip_of
strip_between l =
    let n : length (0x22 ∷ l ++ 0x22 ∷ []) ≡ length l + 2 = rw length-append (omega arith) in
    let m : length (0x22 ∷ l ++ 0x22 ∷ []) - 1 - 1 ≡ length l = omega arith in
    let k : length (0x22 ∷ l ++ 0x22 ∷ []) - 1 ≡ length (0x22 ∷ l) = omega arith in
    let q : get_or (0x22 ∷ l ++ 0x22 ∷ []) (length (0x22 ∷ l ++ 0x22 ∷ []) - 1) 0 ≡ 0x22 = rw k (get_or-append_seam (0x22 ∷ l) 0x22 [] 0) in
    rw (le-leb 2 (length (0x22 ∷ l ++ 0x22 ∷ [])) (omega arith), eq-eqb _ _ q, m) (take-append_seam l (0x22 ∷ []))

-- what is the same is equal
pub same_is : (t k : List ℕ) → same t k ≡ true → t ≡ k
unfolding same
same_is [] [] h = refl
same_is [] (y ∷ k) h = let z : ◌≡◌ {A = ℕ} 0 1 = cc in absurd (omega arith)
same_is (x ∷ t) [] h = let z : ◌≡◌ {A = ℕ} 0 1 = cc in absurd (omega arith)
same_is (x ∷ t) (y ∷ k) h =
    by_test (eqb x y) (λ e. let q : x ≡ y = eqb-true x y e in rw (q, same_is t k (rw e at h)))
    (λ e. let g : false ≡ true = rw e at h in let z : ◌≡◌ {A = ℕ} 0 1 = cc in absurd (omega arith))
