-- A `match` with ranges comes to a place where the number lies in lo to hi, each row's range holding all of it or nothing of it.
-- There a table of ranges has one value, which is computed from lo and hi alone.
use Rattle.std.specs.Prelude.{Option, Some, Result, Ok}
use Prim.Native.Nat.{ℕ, ◌≤◌, ◌<◌}
use native.Mathlib.Omega.{arith}
use mathlib.Core.List.{List, [], ◌∷◌}
use mathlib.Core.Logic.{inl, inr}
use mathlib.Core.Bool.{Bool, true, false, not, ◌&&◌, ◌||◌}
use mathlib.Core.Path.{◌≡◌, refl, sym, subst, ap, ◌∙◌}
use lib.Dec.{T, leb, ltb, eqb, leb→le}
use borrow.Author.Tests.{eq-eqb, le-leb, lt-leb, leb-true, leb-false, ltb-true}
use types.Run.{OneOf}
use Rattle.text.specs.Ranges.{Row, row, look, pick, within}

-- where two pairs that are there are the same, so are their parts
pub pair_parts : {A B : Type 0} {a x : A} {e y : B} → ◌≡◌ {A = Option (A × B)} (Some (a, e)) (Some (x, y)) → (a ≡ x) × (e ≡ y)
pair_parts {A} {B} {a} {x} {e} {y} p = let q : ◌≡◌ {A = A × B} (a, e) (x, y) = cc in (ap (λ (z : A × B). z.0) q, ap (λ (z : A × B). z.1) q)

pub ok_parts : {A B E : Type 0} {a x : A} {e y : B} → ◌≡◌ {A = Result (A × B) E} (Ok (a, e)) (Ok (x, y)) → (a ≡ x) × (e ≡ y)
ok_parts {A} {B} {E} {a} {x} {e} {y} p = let q : ◌≡◌ {A = A × B} (a, e) (x, y) = cc in (ap (λ (z : A × B). z.0) q, ap (λ (z : A × B). z.1) q)

-- the two cases of a test, each with what it says
pub by_test : {C : Type 0} (b : Bool) → (b ≡ true → C) → (b ≡ false → C) → C
by_test true f g = f refl
by_test false f g = g refl

pub pick_same : {A : Type 0} (b : Bool) (x : A) → pick b x x ≡ x
pick_same true x = refl
pick_same false x = refl

pub and_T : (a b : Bool) → T (pick a b false) → T a × T b
and_T true b t = (tt, t)
and_T false b t = absurd t

-- the two halves of an `&`
pub both : (a b : Bool) → a && b ≡ true → (a ≡ true) × (b ≡ true)
both true b e = (refl, e)
both false b e = let z : ◌≡◌ {A = ℕ} 0 1 = cc in absurd (omega arith)

-- the second half of an `|` whose first half is that two numbers differ
pub unless : (a b : ℕ) (c : Bool) → not (eqb a b) || c ≡ true → a ≡ b → c ≡ true
unless a b c e h = rw (eq-eqb a b h) at e

pub within_in : (l h x : ℕ) → l ≤ x → x ≤ h → within l h x ≡ true
within_in l h x p q = rw (le-leb l x p, le-leb x h q)

pub within_below : (l h x : ℕ) → x < l → within l h x ≡ false
within_below l h x p = rw (lt-leb l x p)

pub within_above : (l h x : ℕ) → h < x → within l h x ≡ false
within_above l h x q = rw (lt-leb x h q) (pick_same (leb l x) false)

pub within_out : (lo hi x : ℕ) → within lo hi x ≡ true → (lo ≤ x) × (x ≤ hi)
within_out lo hi x e =
    by_test (leb lo x)
    (λ f. let g : leb x hi ≡ true = rw f at e in (leb-true lo x f, leb-true x hi g))
    (λ f. let g : false ≡ true = rw f at e in let z : ◌≡◌ {A = ℕ} 0 1 = cc in absurd (omega arith))

-- a row's range holds all of lo to hi
abbrev pub covers : ℕ → ℕ → ℕ → ℕ → Bool
covers lo hi l h = pick (leb l lo) (leb hi h) false

-- or it holds nothing of it
abbrev pub misses : ℕ → ℕ → ℕ → ℕ → Bool
misses lo hi l h = pick (ltb h lo) true (ltb hi l)

-- each row does one or the other
abbrev pub flat : {A : Type 0} → ℕ → ℕ → List (Row A) → Bool
flat lo hi [] = true
flat lo hi (row l h v ∷ rs) = pick (pick (covers lo hi l h) true (misses lo hi l h)) (flat lo hi rs) false

-- the value of the first row that holds all of lo to hi
abbrev pub look_in : {A : Type 0} → A → List (Row A) → ℕ → ℕ → A
look_in d [] lo hi = d
look_in d (row l h v ∷ rs) lo hi = pick (covers lo hi l h) v (look_in d rs lo hi)

module _ (lo hi : ℕ) (x : ℕ) (p : lo ≤ x) (q : x ≤ hi) where
  missed : (l h : ℕ) → T (misses lo hi l h) → within l h x ≡ false
  missed l h t =
      by_test (ltb h lo) (λ e. within_above l h x (omega (arith, ltb-true h lo e)))
      (λ e. by_test (ltb hi l) (λ e₂. within_below l h x (omega (arith, ltb-true hi l e₂)))
      (λ e₂. absurd (rw (e, e₂) at t)))

  held : (l h : ℕ) → T (pick (covers lo hi l h) true (misses lo hi l h)) → within l h x ≡ covers lo hi l h
  held l h t =
      by_test (covers lo hi l h)
      (λ e. let u = and_T (leb l lo) (leb hi h) (subst T (sym e) tt) in within_in l h x (omega (arith, leb→le l lo u.0)) (omega (arith, leb→le hi h u.1)) ∙ sym e)
      (λ e. missed l h (rw e at t) ∙ sym e)

pub look_flat : {A : Type 0} (d : A) (rs : List (Row A)) (lo hi x : ℕ) → T (flat lo hi rs) → lo ≤ x → x ≤ hi → look d rs x ≡ look_in d rs lo hi
look_flat d [] lo hi x t p q = refl
look_flat d (row l h v ∷ rs) lo hi x t p q =
    let u = and_T (pick (covers lo hi l h) true (misses lo hi l h)) (flat lo hi rs) t in
    rw (held lo hi x p q l h u.0, look_flat d rs lo hi x u.1 p q)

-- what holds at each of some keys holds of a number that is one of them
abbrev pub Each : (ℕ → Type 0) → List ℕ → Type 0
Each P [] = Unit {0}
Each P (k ∷ ks) = P k × Each P ks

pub at_key : (P : ℕ → Type 0) (ks : List ℕ) (x : ℕ) → Each P ks → OneOf ks x → P x
at_key P [] x a r = absurd r
at_key P (k ∷ []) x a e = subst P (sym e) a.0
at_key P (k ∷ k' ∷ ks) x a (inl e) = subst P (sym e) a.0
at_key P (k ∷ k' ∷ ks) x a (inr r) = at_key P (k' ∷ ks) x a.1 r

-- what holds of every row's value, and of the value where there is no row, holds of the value at a number
abbrev pub Every : {A : Type 0} → (A → Type 0) → List (Row A) → Type 0
Every P [] = Unit {0}
Every P (row l h v ∷ rs) = P v × Every P rs

pub pick_all : {A : Type 0} (P : A → Type 0) (b : Bool) (v w : A) → P v → P w → P (pick b v w)
pick_all P true v w p q = p
pick_all P false v w p q = q

pub look_all : {A : Type 0} (P : A → Type 0) (d : A) (rs : List (Row A)) (x : ℕ) → P d → Every P rs → P (look d rs x)
look_all P d [] x p a = p
look_all P d (row l h v ∷ rs) x p a = pick_all P (within l h x) v (look d rs x) a.0 (look_all P d rs x p a.1)

-- what holds of a row's value wherever the row's range holds a number, and of the value where there is no row, holds of the value there
abbrev pub Rows : {A : Type 0} → (A → Type 0) → ℕ → List (Row A) → Type 0
Rows P x [] = Unit {0}
Rows P x (row l h v ∷ rs) = (l ≤ x → x ≤ h → P v) × Rows P x rs

pub look_each : {A : Type 0} (P : A → Type 0) (d : A) (rs : List (Row A)) (x : ℕ) → P d → Rows P x rs → P (look d rs x)
look_each P d [] x p a = p
look_each P d (row l h v ∷ rs) x p a =
    by_test (leb l x)
    (λ e. by_test (leb x h)
    (λ f. subst (λ (b : Bool). P (pick b v (look d rs x))) (sym (within_in l h x (leb-true l x e) (leb-true x h f))) (a.0 (leb-true l x e) (leb-true x h f)))
    (λ f. subst (λ (b : Bool). P (pick b v (look d rs x))) (sym (within_above l h x (leb-false x h f))) (look_each P d rs x p a.1)))
    (λ e. subst (λ (b : Bool). P (pick b v (look d rs x))) (sym (within_below l h x (leb-false l x e))) (look_each P d rs x p a.1))
