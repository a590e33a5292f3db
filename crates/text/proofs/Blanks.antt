-- A `match` with ranges comes to a place where the number lies in lo to hi and is none of some keys.
-- There every listed number lies outside or is a key, or every number of lo to hi is listed: both are computed from lo, hi and the keys.
use Prim.Native.Nat.{ℕ, zero, suc, ◌+◌, ◌≤◌}
use native.Mathlib.Omega.{arith}
use mathlib.Core.List.{List, [], ◌∷◌}
use mathlib.Core.Bool.{Bool, true, false}
use mathlib.Core.Path.{◌≡◌, refl, sym, subst, ap, ◌∙◌}
use lib.Dec.{T, ltb}
use borrow.Author.Tests.{ne_eqb, ltb-true, ltb-false}
use types.Run.{OneOf, hit}
use mir.Val.{has_key}
use Rattle.text.specs.Ranges.{pick}
use Rattle.text.specs.Blank.{white_space, listed, blank}
use Rattle.text.proofs.Flat.{by_test, and_T}

-- each of the points lies outside lo to hi, or is a key
abbrev pub outside : ℕ → ℕ → List ℕ → List ℕ → Bool
outside lo hi ks [] = true
outside lo hi ks (k ∷ ps) = pick (pick (ltb k lo) true (pick (ltb hi k) true (has_key ks k))) (outside lo hi ks ps) false

-- lo and the n numbers after it are points
abbrev pub spanned : ℕ → ℕ → List ℕ → Bool
spanned lo zero ps = listed lo ps
spanned lo (suc n) ps = pick (listed lo ps) (spanned (suc lo) n ps) false

T_true : (b : Bool) → T b → b ≡ true
T_true true t = refl
T_true false t = absurd t

module _ (lo hi : ℕ) (ks : List ℕ) (x : ℕ) (p : lo ≤ x) (q : x ≤ hi) (n : OneOf ks x → ⊥) where
  apart : (k : ℕ) → T (pick (ltb k lo) true (pick (ltb hi k) true (has_key ks k))) → x ≡ k → ⊥
  apart k t e =
      by_test (ltb k lo) (λ f. let g = ltb-true k lo f in absurd (omega arith))
      (λ f. by_test (ltb hi k) (λ g. let h = ltb-true hi k g in absurd (omega arith))
      (λ g. n (hit ks x (subst (λ (m : ℕ). T (has_key ks m)) (sym e) (rw (f, g) at t)))))

  unlisted : (ps : List ℕ) → T (outside lo hi ks ps) → listed x ps ≡ false
  unlisted [] t = refl
  unlisted (k ∷ ps) t =
      let u = and_T (pick (ltb k lo) true (pick (ltb hi k) true (has_key ks k))) (outside lo hi ks ps) t in
      rw (ne_eqb x k (apart k u.0)) (unlisted ps u.1)

  pub not_blank : T (outside lo hi ks white_space) → false ≡ blank x
  unfolding blank
  not_blank t = sym (unlisted white_space t)

run_listed : (lo n x : ℕ) (ps : List ℕ) → T (spanned lo n ps) → lo ≤ x → x ≤ lo + n → listed x ps ≡ true
run_listed lo zero x ps t p q = let e : x ≡ lo = omega arith in ap (λ (m : ℕ). listed m ps) e ∙ T_true (listed lo ps) t
run_listed lo (suc n) x ps t p q =
    let u = and_T (listed lo ps) (spanned (suc lo) n ps) t in
    by_test (ltb lo x)
    (λ e. run_listed (suc lo) n x ps u.1 (omega (arith, ltb-true lo x e)) (omega arith))
    (λ e. let g : x ≡ lo = omega (arith, ltb-false lo x e) in ap (λ (m : ℕ). listed m ps) g ∙ T_true (listed lo ps) u.0)

pub all_blank : (lo n x : ℕ) → T (spanned lo n white_space) → lo ≤ x → x ≤ lo + n → true ≡ blank x
unfolding blank
all_blank lo n x t p q = sym (run_listed lo n x white_space t p q)
