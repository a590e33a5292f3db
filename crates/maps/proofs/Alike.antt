-- Halving looks only at rows of its window, so in tables that are alike it ends at the same row, which both count, and a mapping tells of that row alone. A walk is made of the size and of mappings: by induction on its room.
-- Assumes nothing.
use Prim.Native.Nat.{ℕ, zero, suc, ◌+◌, ◌-◌, ◌<◌, min}
use native.Mathlib.Omega.{arith}
use mathlib.Core.Path.{◌≡◌, refl, sym, ap, ◌∙◌}
use mathlib.Core.List.{List}
use lib.Dec.{ltb}
use lib.ListN.{take, get_or}
use lib.Seq.{get_or-take}
use borrow.Author.Tests.{ltb-true}
use Rattle.lines.specs.Record.{most}
use Rattle.tables.specs.declared.table.Row.{Row}
use Rattle.tables.specs.declared.table.Table.{Table}
use Rattle.tables.specs.Build.{no_row}
use Rattle.maps.specs.Map.{Search, found, nowhere, middle, decide, halve, in_row, search_of, map_of}
use Rattle.maps.specs.Walk.{walk_from, walk_of}
use Rattle.maps.specs.Alike.{AlikeRows, AlikeTables, SameTable}
use Rattle.maps.proofs.Halves.{by_test, middle_in, mid_row, Finds, search_finds}

-- ---- halving
decide_alike : (r q : Row) → AlikeRows r q → (lo i hi o : ℕ) (f g : ℕ → ℕ → Search) → f (suc i) hi ≡ g (suc i) hi → f lo i ≡ g lo i → decide r lo i hi o f ≡ decide q lo i hi o g
decide_alike r q e lo i hi o f g a b = rw (e.start, e.end, a, b)

-- rows that are alike below the window's end
halve_alike : (w : ℕ) (rs qs : List Row) (lo hi o : ℕ) → ((i : ℕ) → i < hi → AlikeRows (get_or rs i no_row) (get_or qs i no_row)) → halve w rs lo hi o ≡ halve w qs lo hi o
unfolding halve
halve_alike zero rs qs lo hi o h = refl
halve_alike (suc w) rs qs lo hi o h =
    by_test (ltb lo hi)
    (λ e.
    let m = middle_in lo hi (ltb-true lo hi e) in
    rw e (decide_alike (mid_row rs lo hi) (mid_row qs lo hi) (h (middle lo hi) m.1) lo (middle lo hi) hi o (λ lo hi. halve w rs lo hi o) (λ lo hi. halve w qs lo hi o) (halve_alike w rs qs (suc (middle lo hi)) hi o h) (halve_alike w rs qs lo (middle lo hi) o (λ i l. h i (omega (arith, l, m.1))))))
    (λ e. rw e)

module _ (s t : Table) (d : AlikeTables s t) where
  search_alike : (o : ℕ) → search_of s o ≡ search_of t o
  unfolding search_of
  search_alike o = rw (← d.count) (halve_alike s.count s.rows t.rows 0 s.count o d.rows)

  -- ---- mapping
  row_alike : (o asked : ℕ) (z : Search) → Finds s.rows o s.count z → in_row s o asked z ≡ in_row t o asked z
  unfolding in_row
  row_alike o asked (nowhere n) f = refl
  row_alike o asked (found i n) f = let e = d.rows i f.1 in rw (e.start, e.end, e.source, d.size)

  pub map_alike : (o asked : ℕ) → map_of s o asked ≡ map_of t o asked
  unfolding map_of
  map_alike o asked = rw (row_alike o asked (search_of s o) (search_finds s o), search_alike o, d.count, d.size)

  -- ---- the walk
  from_alike : (room pos left : ℕ) → walk_from room s pos left ≡ walk_from room t pos left
  unfolding walk_from
  from_alike zero pos left = rw d.size
  from_alike (suc room) pos left =
      rw (from_alike room (pos + (map_of s pos left).run) (left - (map_of s pos left).run), map_alike pos left, d.size)

  pub walk_alike : (places pos left : ℕ) → walk_of s places pos left ≡ walk_of t places pos left
  unfolding walk_of
  walk_alike places pos left = rw (from_alike (min places most) pos left, d.count)

-- ---- tables that agree in what they count are the same
equal_rows : (r q : Row) → r ≡ q → AlikeRows r q
equal_rows r q e = record { start = ap (λ (z : Row). z.start) e; end = ap (λ (z : Row). z.end) e; source = ap (λ (z : Row). z.source) e }

pub same_table : (s t : Table) → s.size ≡ t.size → s.count ≡ t.count → take s.count s.rows ≡ take t.count t.rows → SameTable s t
same_table s t size count rows =
    record {
      alike = record { size = size; count = count; rows = λ i l. equal_rows (get_or s.rows i no_row) (get_or t.rows i no_row) (row i l) };
      lines = λ i l. ap (λ (r : Row). r.line) (row i l);
    }
  where
    row : (i : ℕ) → i < s.count → get_or s.rows i no_row ≡ get_or t.rows i no_row
    row i l =
        sym (get_or-take s.count s.rows i no_row l) ∙ ap (λ (rs : List Row). get_or rs i no_row) rows ∙ get_or-take t.count t.rows i no_row (rw (← count) l)

pub alike_itself : (t : Table) → AlikeTables t t
alike_itself t = (same_table t t refl refl refl).alike
