-- The search ends at the extent that holds the offset, and there a row's source and what is left of it are the extent's.
-- So mapping a table of extents is told by the extents alone.
-- Assumes nothing.
use Prim.Native.Nat.{ℕ, ◌+◌, ◌-◌, ◌*◌, ◌<◌, ◌≤◌, min}
use native.Mathlib.Omega.{arith}
use mathlib.Core.List.{List}
use mathlib.Core.Path.{◌≡◌, refl, sym, ◌∙◌, subst}
use lib.ListN.{length, get_or, take}
use lib.Dec.{leb}
use borrow.Author.Tests.{le-leb, lt-leb, leb-true, leb-false}
use Rattle.text.specs.Sector.{largest, sector_size}
use Rattle.lines.specs.Record.{most, counted, no_extent}
use Rattle.lines.specs.declared.record.Record.{Record}
use Rattle.lines.specs.declared.record.VmdkParsedExtent.{VmdkParsedExtent}
use Rattle.lines.specs.declared.record.VmdkParsedStorage.{VmdkParsedStorage}
use Rattle.lines.specs.declared.record.VmdkParsedStorage.TheVariants.{NoAccess, Zero, Flat}
use Rattle.tables.specs.declared.table.Table.{Table}
use Rattle.maps.specs.Map.{sourced, in_row, search_of, map_of}
use Rattle.maps.specs.Place.{past, within, bytes_in, size_of, place_of}
use Rattle.theorems.specs.Rows.{Builds, source_of, line_at}
use Rattle.theorems.specs.Looks.{looks}
use Rattle.theorems.specs.Maps.{rest_of, shown, run_at, MapsBy}
use Rattle.text.proofs.Flat.{by_test}
use Rattle.theorems.proofs.Built.{table_in, table_laid, length_laid}
use Rattle.theorems.proofs.Places.{Held, held, beyond}
use Rattle.theorems.proofs.Rows.{row_in, size_upto}
use Rattle.theorems.proofs.Halving.{search_in}

-- a source of a row is a place in the extent
sourced_place : (st : VmdkParsedStorage) (i o run n : ℕ) → ((sourced (source_of st) i o run n).mapping ≡ shown (within i st o)) × ((sourced (source_of st) i o run n).run ≡ run_at (within i st o) run)
unfolding sourced
sourced_place NoAccess i o run n = (refl, refl)
sourced_place (Zero a) i o run n = (refl, refl)
sourced_place (Flat a name start) i o run n =
    by_test (leb (start.0 * sector_size + o) largest) (λ e. (rw e, rw e)) (λ e. (rw e, rw e))

not_past : (st : VmdkParsedStorage) (i o : ℕ) → within i st o ≡ past → ⊥
not_past NoAccess i o e = let z : ◌≡◌ {A = ℕ} 0 1 = cc in omega arith
not_past (Zero a) i o e = let z : ◌≡◌ {A = ℕ} 0 1 = cc in omega arith
not_past (Flat a name start) i o e = let z : ◌≡◌ {A = ℕ} 0 1 = cc in omega arith

module _ (ln : ℕ → ℕ) (xs : List VmdkParsedExtent) (o asked : ℕ) (short : length xs ≤ most) where
  abbrev t : Table
  t = table_in ln xs

  few : t.count ≤ most
  few = omega (arith, length_laid ln 0 xs)

  maps_end : size_of xs ≤ o → MapsBy xs t o asked
  unfolding map_of place_of
  maps_end h =
      let e = le-leb t.count most few in
      let g = le-leb (size_of xs) o h in
      record { end = (λ p. h, beyond 0 xs o); mapping = rw (e, g, beyond 0 xs o h); run = rw (e, g, beyond 0 xs o h) }

  map_held : o < size_of xs → (k : Held 0 xs o) → map_of t o asked ≡ sourced (source_of (get_or xs k.nth no_extent).storage) k.nth (o - size_of (take k.nth xs)) (min asked (rest_of xs o)) (looks (search_of t o))
  unfolding map_of in_row
  map_held h k =
      let least : min asked (min (size_of xs - o) (size_of (take k.nth xs) + bytes_in (get_or xs k.nth no_extent) - o)) ≡ min asked (rest_of xs o) = omega (arith, size_upto ln xs k.nth k.below, k.rest) in
      rw (le-leb t.count most few, lt-leb (size_of xs) o h, search_in ln xs o k, row_in ln xs k.nth k.below, least)

  maps_held : o < size_of xs → Held 0 xs o → MapsBy xs t o asked
  unfolding place_of
  maps_held h k =
      let e : 0 + k.nth ≡ k.nth = omega arith in
      let p = rw e at k.place in
      let s = sourced_place (get_or xs k.nth no_extent).storage k.nth (o - size_of (take k.nth xs)) (min asked (rest_of xs o)) (looks (search_of t o)) in
      record { end = (λ q. absurd (not_past (get_or xs k.nth no_extent).storage _ _ (sym p ∙ q)), beyond 0 xs o); mapping = rw (map_held h k, p) s.0; run = rw (map_held h k, p) s.1 }

  -- mapping a table of extents equals their places
  pub maps_in : MapsBy xs (table_in ln xs) o asked
  maps_in =
      by_test (leb (size_of xs) o)
      (λ e. maps_end (leb-true _ _ e))
      (λ e. let h = leb-false (size_of xs) o e in maps_held h (held 0 xs o h))

-- mapping a built table equals the places of its record's extents
pub built_maps : (r : Record) (t : Table) → Builds r t → (o asked : ℕ) → MapsBy (counted r) t o asked
built_maps r t b o asked =
    let g = table_laid r t b in subst (λ (t : Table). MapsBy (counted r) t o asked) (sym g.0) (maps_in (line_at r) (counted r) o asked g.1)
