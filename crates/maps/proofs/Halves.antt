-- Facts on the halving search that the proofs cite. A look leaves a narrower window or ends the search, and a width that is more than the window's changes nothing, so the definition's steps are those of a loop over the window that is left. The row that it ends at holds the offset.
-- Assumes nothing.
use Prim.Native.Nat.{ℕ, zero, suc, ◌+◌, ◌-◌, ◌<◌, ◌≤◌}
use native.Mathlib.Omega.{arith}
use mathlib.Core.Path.{◌≡◌, refl, sym, ◌∙◌, ap}
use mathlib.Core.Bool.{Bool, true, false, true≢false}
use mathlib.Core.List.{List}
use lib.Dec.{ltb, leb}
use lib.ListN.{get_or}
use borrow.Author.Tests.{ltb-true, leb-true, le-ltb, lt-ltb, le-leb, lt-leb}
use Rattle.text.specs.Ranges.{pick}
use Rattle.tables.specs.declared.table.Row.{Row}
use Rattle.tables.specs.declared.table.Table.{Table}
use Rattle.tables.specs.Build.{no_row}
use Rattle.maps.specs.Map.{Search, found, nowhere, looked, holds, middle, decide, halve, search_of}
use Rattle.maps.specs.inside.Halving.{upon}

-- by cases on a test
pub pick_elim : {X : Type 0} (P : X → Type 0) (b : Bool) (x y : X) → (b ≡ true → P x) → (b ≡ false → P y) → P (pick b x y)
pick_elim P true x y f g = f refl
pick_elim P false x y f g = g refl

pub by_test : {X : Type 0} (b : Bool) → (b ≡ true → X) → (b ≡ false → X) → X
by_test true f g = f refl
by_test false f g = g refl

-- the middle lies in the window
pub middle_in : (lo hi : ℕ) → lo < hi → (lo ≤ middle lo hi) × (middle lo hi < hi)
middle_in lo hi l = (omega arith, omega arith)

-- the row in the middle
abbrev pub mid_row : List Row → ℕ → ℕ → Row
mid_row rows lo hi = get_or rows (middle lo hi) no_row

-- a window that is empty
pub halve_none : (w : ℕ) (rows : List Row) (lo hi o : ℕ) → ltb lo hi ≡ false → halve w rows lo hi o ≡ nowhere 0
unfolding halve
halve_none zero rows lo hi o e = refl
halve_none (suc w) rows lo hi o e = rw e

-- a width that is more than the window's changes nothing
pub halve_fuel : (v w : ℕ) (rows : List Row) (lo hi o : ℕ) → hi - lo ≤ v → hi - lo ≤ w → halve v rows lo hi o ≡ halve w rows lo hi o
unfolding halve
halve_fuel zero w rows lo hi o a b = sym (halve_none w rows lo hi o (le-ltb lo hi (omega arith)))
halve_fuel (suc v) zero rows lo hi o a b = halve_none (suc v) rows lo hi o (le-ltb lo hi (omega arith))
halve_fuel (suc v) (suc w) rows lo hi o a b =
    by_test (ltb lo hi)
    (λ e.
    let m = middle_in lo hi (ltb-true lo hi e) in
    rw (e, halve_fuel v w rows (suc (middle lo hi)) hi o (omega (arith, m.0)) (omega (arith, m.0)), halve_fuel v w rows lo (middle lo hi) o (omega (arith, m.1)) (omega (arith, m.1))))
    (λ e. rw e)

-- a row that ends at or before the offset does not hold it
holds_late : (r : Row) (o : ℕ) → r.end.0 ≤ o → holds r o ≡ false
holds_late r o h = pick_elim (λ (z : Bool). z ≡ false) (leb r.start.0 o) _ _ (λ _. le-ltb _ _ h) (λ _. refl)

upon_looked : (k : ℕ) (s : Search) → upon k (looked s) ≡ upon (k + 1) s
upon_looked k (found i n) = ap (found i) (omega arith)
upon_looked k (nowhere n) = ap nowhere (omega arith)

-- a search of the window from lo up to hi, after k looks, where row i is in its middle: where that row ends at or before the offset, it is the search of the rows after it, after one
-- look more; where that row starts after the offset, that of the rows before it; and where it holds the offset, the search ends there
module _ (rows : List Row) (lo hi o k i : ℕ) (l : lo < hi) (m : i ≡ middle lo hi) where
  -- a look, with as many looks allowed as there are rows
  look : halve (hi - lo) rows lo hi o ≡ decide (get_or rows i no_row) lo i hi o (λ lo hi. halve (hi - lo) rows lo hi o)
  unfolding halve
  look =
      let w : hi - lo ≡ suc (hi - lo - 1) = omega arith in
      let n = middle_in lo hi l in
      rw (w, lt-ltb lo hi l, m, halve_fuel (hi - lo - 1) (hi - suc (middle lo hi)) rows (suc (middle lo hi)) hi o (omega (arith, n.0)) (omega arith), halve_fuel (hi - lo - 1) (middle lo hi - lo) rows lo (middle lo hi) o (omega (arith, n.1)) (omega arith))

  pub on_after : (get_or rows i no_row).end.0 ≤ o → upon (k + 1) (halve (hi - (i + 1)) rows (i + 1) hi o) ≡ upon k (halve (hi - lo) rows lo hi o)
  on_after e =
      let n : i + 1 ≡ suc i = omega arith in
      rw (n, look, holds_late (get_or rows i no_row) o e, le-leb _ _ e) (sym (upon_looked k (halve (hi - suc i) rows (suc i) hi o)))

  pub on_before : o < (get_or rows i no_row).end.0 → o < (get_or rows i no_row).start.0 → upon (k + 1) (halve (i - lo) rows lo i o) ≡ upon k (halve (hi - lo) rows lo hi o)
  on_before e s = rw (look, lt-leb _ _ s, lt-leb _ _ e) (sym (upon_looked k (halve (i - lo) rows lo i o)))

  pub on_hit : o < (get_or rows i no_row).end.0 → (get_or rows i no_row).start.0 ≤ o → found i (k + 1) ≡ upon k (halve (hi - lo) rows lo hi o)
  on_hit e s = rw (look, le-leb _ _ s, lt-ltb _ _ e)

-- where no row is left, it ends at none
pub on_none : (rows : List Row) (lo hi o k : ℕ) → hi ≤ lo → nowhere k ≡ upon k (halve (hi - lo) rows lo hi o)
on_none rows lo hi o k l =
    let z : k ≡ k + 0 = omega arith in
    rw (halve_none (hi - lo) rows lo hi o (le-ltb lo hi l)) (ap nowhere z)

-- the search of a table begins with all the rows that it counts
pub on_start : (t : Table) (o : ℕ) → upon 0 (halve (t.count - 0) t.rows 0 t.count o) ≡ search_of t o
unfolding search_of
on_start t o =
    let e : t.count - 0 ≡ t.count = omega arith in
    rw e (plain (halve t.count t.rows 0 t.count o))
  where
    plain : (s : Search) → upon 0 s ≡ s
    plain (found i n) = ap (found i) (omega arith)
    plain (nowhere n) = ap nowhere (omega arith)

-- the row found holds the offset, and is one of the rows
abbrev pub Finds : List Row → ℕ → ℕ → Search → Type 0
Finds rows o bound (found i n) = (((get_or rows i no_row).start.0 ≤ o) × (o < (get_or rows i no_row).end.0)) × (i < bound)
Finds rows o bound (nowhere n) = Unit {0}

finds_looked : (rows : List Row) (o bound : ℕ) (s : Search) → Finds rows o bound s → Finds rows o bound (looked s)
finds_looked rows o bound (found i n) h = h
finds_looked rows o bound (nowhere n) h = h

holds_true : (r : Row) (o : ℕ) → holds r o ≡ true → (r.start.0 ≤ o) × (o < r.end.0)
holds_true r o e =
    by_test (leb r.start.0 o) (λ a. (leb-true _ _ a, ltb-true _ _ (ap (λ (c : Bool). pick c (ltb o r.end.0) false) (sym a) ∙ e)))
    (λ a. absurd (true≢false (sym e ∙ ap (λ (c : Bool). pick c (ltb o r.end.0) false) a)))

pub halve_finds : (w : ℕ) (rows : List Row) (lo hi o bound : ℕ) → hi ≤ bound → Finds rows o bound (halve w rows lo hi o)
unfolding halve
halve_finds zero rows lo hi o bound a = tt
halve_finds (suc w) rows lo hi o bound a =
    pick_elim (Finds rows o bound) (ltb lo hi) (decide (mid_row rows lo hi) lo (middle lo hi) hi o (λ l h. halve w rows l h o)) (nowhere 0)
    (λ e.
    let m = middle_in lo hi (ltb-true lo hi e) in
    let upper : Search = halve w rows (suc (middle lo hi)) hi o in
    let lower : Search = halve w rows lo (middle lo hi) o in
    let side : Search = pick (leb (mid_row rows lo hi).end.0 o) upper lower in
    pick_elim (Finds rows o bound) (holds (mid_row rows lo hi) o) (found (middle lo hi) 1) (looked side) (λ h. (holds_true (mid_row rows lo hi) o h, omega (arith, m.1)))
    (λ _. finds_looked rows o bound side (pick_elim (Finds rows o bound) (leb (mid_row rows lo hi).end.0 o) upper lower (λ _. halve_finds w rows (suc (middle lo hi)) hi o bound a) (λ _. halve_finds w rows lo (middle lo hi) o bound (omega (arith, m.1))))))
    (λ _. tt)

pub search_finds : (t : Table) (o : ℕ) → Finds t.rows o t.count (search_of t o)
unfolding search_of
search_finds t o = halve_finds t.count t.rows 0 t.count o t.count (omega arith)
