-- Halving never throws away the row that holds the offset, since rows before it end at or below the offset and rows after it start above.
-- Each look leaves at most half of the rows, so fewer than 2 ^ k rows are done with after k looks.
-- Assumes nothing.
use Prim.Native.Nat.{ℕ, zero, suc, ◌+◌, ◌-◌, ◌^◌, ◌<◌, ◌≤◌}
use native.Mathlib.Omega.{arith}
use mathlib.Core.List.{List}
use mathlib.Core.Bool.{true, false}
use mathlib.Core.Path.{◌≡◌, refl, sym, ap, ◌∙◌, subst}
use lib.ListN.{length, get_or}
use lib.Dec.{leb, ltb}
use borrow.Author.Tests.{le-leb, lt-leb, leb-true, leb-false, ltb-true, ltb-false}
use Rattle.text.specs.Sector.{largest}
use Rattle.lines.specs.Record.{most, counted}
use Rattle.lines.specs.declared.record.Record.{Record}
use Rattle.lines.specs.declared.record.VmdkParsedExtent.{VmdkParsedExtent}
use Rattle.tables.specs.declared.table.Source.{Source}
use Rattle.tables.specs.declared.table.Source.TheVariants.{NoAccess as Locked, Zero as Zeros, Flat as File}
use Rattle.tables.specs.declared.table.Row.{Row}
use Rattle.tables.specs.declared.table.Table.{Table}
use Rattle.tables.specs.Build.{no_row}
use Rattle.maps.specs.Map.{Search, found, nowhere, looked, holds, middle, halve, sourced, in_row, search_of, map_of}
use Rattle.maps.specs.Place.{size_of}
use Rattle.theorems.specs.Looks.{looks, Finds, FewLooks}
use Rattle.text.proofs.Flat.{by_test}
use Rattle.theorems.proofs.Orders.{three_ways}
use Rattle.theorems.specs.Rows.{Builds, row_at, line_at}
use Rattle.theorems.proofs.Built.{table_in, table_laid, length_laid}
use Rattle.theorems.proofs.Places.{Held, held}
use Rattle.theorems.proofs.Rows.{one_in, holds_true, true_holds, start_in, end_in, rows_apart}

-- one look: the ways on from it, each with what is known there
module _ (rs : List Row) (o : ℕ) (lo hi : ℕ) where
  abbrev at : Row
  at = get_or rs (middle lo hi) no_row

  one_look : (P : Search → Type 0) (w : ℕ)
      → (hi ≤ lo → P (nowhere 0))
      → (lo < hi → holds at o ≡ true → P (found (middle lo hi) 1))
      → (lo < hi → holds at o ≡ false → at.end.0 ≤ o → P (looked (halve w rs (suc (middle lo hi)) hi o)))
      → (lo < hi → holds at o ≡ false → o < at.end.0 → P (looked (halve w rs lo (middle lo hi) o)))
      → P (halve (suc w) rs lo hi o)
  unfolding halve
  one_look P w none here above below =
      by_test (ltb lo hi)
      (λ l. rw l (by_test (holds at o)
      (λ e. rw e (here (ltb-true lo hi l) e))
      (λ e. rw e (by_test (leb at.end.0 o)
      (λ g. rw g (above (ltb-true lo hi l) e (leb-true _ _ g)))
      (λ g. rw g (below (ltb-true lo hi l) e (leb-false _ _ g)))))))
      (λ l. rw l (none (ltb-false lo hi l)))

looks_looked : (s : Search) (k : ℕ) → looks s ≤ k → looks (looked s) ≤ suc k
looks_looked (found i n) k h = omega arith
looks_looked (nowhere n) k h = omega arith

-- fewer than 2 ^ k rows: at most k looks
pub halve_looks : (w : ℕ) (rs : List Row) (lo hi o k : ℕ) → hi - lo < 2 ^ k → looks (halve w rs lo hi o) ≤ k
halve_looks zero rs lo hi o k h = unfold halve in omega arith
halve_looks (suc w) rs lo hi o zero h =
    one_look rs o lo hi (λ s. looks s ≤ 0) w (λ g. omega arith) (λ g _. absurd (omega arith)) (λ g _ _. absurd (omega arith)) (λ g _ _. absurd (omega arith))
halve_looks (suc w) rs lo hi o (suc k) h =
    one_look rs o lo hi (λ s. looks s ≤ suc k) w (λ g. omega arith) (λ g _. omega arith)
    (λ g _ _. looks_looked (halve w rs (suc (middle lo hi)) hi o) k (halve_looks w rs (suc (middle lo hi)) hi o k (omega arith)))
    (λ g _ _. looks_looked (halve w rs lo (middle lo hi) o) k (halve_looks w rs lo (middle lo hi) o k (omega arith)))

-- a row that is found lies among those searched, and holds the offset
abbrev Sure : List Row → ℕ → ℕ → ℕ → Search → Type 0
Sure rs o lo hi (found i n) = (lo ≤ i) × (i < hi) × (holds (get_or rs i no_row) o ≡ true)
Sure rs o lo hi (nowhere n) = Unit {0}

sure_looked : (rs : List Row) (o lo hi lo' hi' : ℕ) (s : Search) → lo ≤ lo' → hi' ≤ hi → Sure rs o lo' hi' s → Sure rs o lo hi (looked s)
sure_looked rs o lo hi lo' hi' (found i n) a b h = (omega arith, omega arith, h.2)
sure_looked rs o lo hi lo' hi' (nowhere n) a b h = tt

halve_sure : (w : ℕ) (rs : List Row) (lo hi o : ℕ) → Sure rs o lo hi (halve w rs lo hi o)
halve_sure zero rs lo hi o = unfold halve in tt
halve_sure (suc w) rs lo hi o =
    one_look rs o lo hi (Sure rs o lo hi) w (λ g. tt) (λ g e. (omega arith, omega arith, e))
    (λ g _ _. sure_looked rs o lo hi (suc (middle lo hi)) hi (halve w rs (suc (middle lo hi)) hi o) (omega arith) (omega arith) (halve_sure w rs (suc (middle lo hi)) hi o))
    (λ g _ _. sure_looked rs o lo hi lo (middle lo hi) (halve w rs lo (middle lo hi) o) (omega arith) (omega arith) (halve_sure w rs lo (middle lo hi) o))

pub halve_found : (w : ℕ) (rs : List Row) (lo hi o : ℕ) {i n : ℕ} → halve w rs lo hi o ≡ found i n → (lo ≤ i) × (i < hi) × (holds (get_or rs i no_row) o ≡ true)
halve_found w rs lo hi o e = subst (Sure rs o lo hi) e (halve_sure w rs lo hi o)

-- Among rows in order the search ends at the one that holds the offset
abbrev Ends : ℕ → Search → Type 0
Ends k (found i n) = i ≡ k
Ends k (nowhere n) = ⊥

ends_looked : (k : ℕ) (s : Search) → Ends k s → Ends k (looked s)
ends_looked k (found i n) e = e
ends_looked k (nowhere n) e = e

module _ (rs : List Row) (o k n : ℕ)
    (low : (j : ℕ) → j < k → (get_or rs j no_row).end.0 ≤ o)
    (here : holds (get_or rs k no_row) o ≡ true)
    (high : (j : ℕ) → k < j → j < n → (o < (get_or rs j no_row).start.0) × (o < (get_or rs j no_row).end.0)) where
  same : (j : ℕ) → j < n → holds (get_or rs j no_row) o ≡ true → j ≡ k
  same j h e =
      let g = holds_true (get_or rs j no_row) o e in
      three_ways j k (λ l. absurd (omega (arith, low j l))) (λ q. q) (λ l. absurd (omega (arith, high j l h)))

  above : (j : ℕ) → j < n → (get_or rs j no_row).end.0 ≤ o → j < k
  above j h f =
      three_ways j k (λ l. l)
      (λ q. let g = holds_true (get_or rs k no_row) o here in let f₂ : (get_or rs k no_row).end.0 ≤ o = subst (λ (i : ℕ). (get_or rs i no_row).end.0 ≤ o) q f in absurd (omega arith))
      (λ l. absurd (omega (arith, high j l h)))

  below : (j : ℕ) → holds (get_or rs j no_row) o ≡ false → o < (get_or rs j no_row).end.0 → k < j
  below j e f =
      three_ways j k (λ l. absurd (omega (arith, low j l)))
      (λ q. let e₂ : holds (get_or rs k no_row) o ≡ false = subst (λ (i : ℕ). holds (get_or rs i no_row) o ≡ false) q e in
      let z : ◌≡◌ {A = ℕ} 0 1 = cc in
      absurd (omega arith))
      (λ l. l)

  halve_ends : (w lo hi : ℕ) → lo ≤ k → k < hi → hi ≤ n → hi - lo ≤ w → Ends k (halve w rs lo hi o)
  halve_ends zero lo hi a b c d = absurd (omega arith)
  halve_ends (suc w) lo hi a b c d =
      let m = middle lo hi in
      one_look rs o lo hi (Ends k) w (λ g. absurd (omega arith))
      (λ g e. same m (omega arith) e)
      (λ g e f. ends_looked k (halve w rs (suc m) hi o) (halve_ends w (suc m) hi (above m (omega arith) f) b c (omega arith)))
      (λ g e f. ends_looked k (halve w rs lo m o) (halve_ends w lo m a (below m e f) (omega arith) (omega arith)))

ends_found : (k : ℕ) (s : Search) → Ends k s → s ≡ found k (looks s)
ends_found k (found i n) e = rw e
ends_found k (nowhere n) e = absurd e

-- on a table of extents the search ends at the extent that holds the offset
pub search_in : (ln : ℕ → ℕ) (xs : List VmdkParsedExtent) (o : ℕ) (k : Held 0 xs o) → search_of (table_in ln xs) o ≡ found k.nth (looks (search_of (table_in ln xs) o))
unfolding search_of
search_in ln xs o k =
    let t = table_in ln xs in
    let n = k.nth in
    let c : t.count ≡ length xs = length_laid ln 0 xs in
    let s = start_in ln xs n k.below in
    let e = end_in ln xs n k.below in
    ends_found n (halve t.count t.rows 0 t.count o)
    (halve_ends t.rows o n t.count
    (λ j h. omega (arith, rows_apart ln xs j n h k.below))
    (true_holds (row_at t n) o (omega arith) (omega arith))
    (λ j h l. let l₂ : j < length xs = omega arith in let a = rows_apart ln xs n j h l₂ in (omega arith, omega (arith, start_in ln xs j l₂, end_in ln xs j l₂)))
    t.count 0 t.count (omega arith) (omega (arith, k.below)) (omega arith) (omega arith))

finds_in : (ln : ℕ → ℕ) (xs : List VmdkParsedExtent) (o : ℕ) → o < size_of xs → Finds (table_in ln xs) o
unfolding search_of
finds_in ln xs o h =
    let t = table_in ln xs in
    let k = held 0 xs o h in
    let s = search_in ln xs o k in
    let f = halve_found t.count t.rows 0 t.count o s in
    let one = one_in ln xs o k in
    record { one = one; looked = looks (search_of t o); search = s ∙ ap (λ (i : ℕ). found i (looks (search_of t o))) (one.only k.nth f.1 f.2) }

-- a mapping counts what its search looked at
sourced_looked : (s : Source) (i within run n : ℕ) → (sourced s i within run n).looked ≡ n
unfolding sourced
sourced_looked Locked i within run n = refl
sourced_looked (Zeros a) i within run n = refl
sourced_looked (File a start name) i within run n =
    by_test (leb (start.0 + within) largest) (λ e. rw e) (λ e. rw e)

row_looked : (t : Table) (o asked : ℕ) (s : Search) → (in_row t o asked s).looked ≡ looks s
unfolding in_row
row_looked t o asked (nowhere n) = refl
row_looked t o asked (found i n) = sourced_looked (row_at t i).source i _ _ n

module _ (t : Table) (o asked : ℕ) where
  pub looked_23 : most < t.count → (map_of t o asked).looked ≡ 0
  unfolding map_of
  looked_23 h = rw (lt-leb _ _ h)

  pub looked_end : t.size.0 ≤ o → (map_of t o asked).looked ≡ 0
  unfolding map_of
  looked_end h = by_test (leb t.count most) (λ e. rw (e, le-leb _ _ h)) (λ e. rw e)

  pub looked_search : t.count ≤ most → o < t.size.0 → (map_of t o asked).looked ≡ looks (search_of t o)
  unfolding map_of
  looked_search h g = rw (le-leb _ _ h, lt-leb _ _ g) (row_looked t o asked (search_of t o))

  pub looked_most : (k : ℕ) → t.count < 2 ^ k → (map_of t o asked).looked ≤ k
  unfolding search_of
  looked_most k h =
      by_test (leb t.count most)
      (λ e. by_test (leb t.size.0 o)
      (λ g. omega (arith, looked_end (leb-true _ _ g)))
      (λ g. rw (looked_search (leb-true _ _ e) (leb-false _ _ g)) (halve_looks t.count t.rows 0 t.count o k (omega arith))))
      (λ e. omega (arith, looked_23 (leb-false _ _ e)))

  pub looked_eleven : (map_of t o asked).looked ≤ 11
  looked_eleven =
      by_test (leb t.count most)
      (λ e. let g = leb-true t.count most e in looked_most 11 (omega arith))
      (λ e. omega (arith, looked_23 (leb-false _ _ e)))

  pub few_looks : FewLooks t o asked
  unfolding search_of
  few_looks =
      record {
        steps = looked_search;
        refused = looked_23;
        end = looked_end;
        eleven = looked_eleven;
        log = looked_most;
        found_row = λ i n e. let g = halve_found t.count t.rows 0 t.count o e in (g.1, g.2);
      }

-- on a built table halving finds the one row that holds the offset
pub built_finds : (r : Record) (t : Table) → Builds r t → (o : ℕ) → o < t.size.0 → Finds t o
built_finds r t b o h =
    let g = table_laid r t b in
    let q : t.size.0 ≡ size_of (counted r) = ap (λ (t : Table). t.size.0) g.0 in
    subst (λ (t : Table). Finds t o) (sym g.0) (finds_in (line_at r) (counted r) o (omega arith))
