-- Demand 3: the walk over a built table takes a route, and a route tiles.
-- The rows of its pieces are the extents met, so they rise, which is why no tiling is shorter.
-- Assumes nothing.
use Prim.Native.Nat.{ℕ, ◌+◌, ◌-◌, ◌≤◌, min}
use native.Mathlib.Omega.{arith}
use mathlib.Core.List.{List}
use mathlib.Core.Path.{◌≡◌, refl, sym, subst}
use lib.ListN.{length}
use borrow.Author.Tests.{le-leb}
use Rattle.lines.specs.Record.{most, counted}
use Rattle.lines.specs.declared.record.Record.{Record}
use Rattle.lines.specs.declared.record.VmdkParsedExtent.{VmdkParsedExtent}
use Rattle.tables.specs.declared.table.Table.{Table}
use Rattle.tables.specs.declared.table.Piece.{Piece}
use Rattle.maps.specs.Place.{place_of, Reachable}
use Rattle.maps.specs.Walk.{Walk, walk_from, walk_of}
use Rattle.theorems.specs.Rows.{Builds, line_at}
use Rattle.theorems.specs.Tiling.{Placed, Rise, met_by, Tiles}
use Rattle.theorems.proofs.Built.{table_in, table_laid, length_laid}
use Rattle.theorems.proofs.Maps.{maps_in}
use Rattle.theorems.proofs.Routes.{Takes, walk_takes}
use Rattle.theorems.proofs.Tiles.{Lies, all_map, route_follow, route_lies, route_zeros, route_reached, route_met}
use Rattle.theorems.proofs.Least.{follow_none, least}
use Rattle.theorems.proofs.Shared.{met_is}
use Rattle.theorems.proofs.Limits.{position_is, refused_is, otherwise_is, walk_few, Few}

placed : (xs : List VmdkParsedExtent) (p : Piece) → Lies 0 0 xs p → Placed xs p
unfolding place_of
placed xs p h d l = let e : p.start + d - 0 ≡ p.start + d = omega arith in rw e at (h.1 d l)

-- a route from the first extent on tiles
tiles : (xs : List VmdkParsedExtent) (start long : ℕ) (w : Walk) → Takes 0 0 xs start long w → Few w → Tiles xs start long w
unfolding met_by
tiles xs start long w r few =
    let reached = route_reached r in
    let places = all_map (Lies 0 0 xs) (Placed xs) (placed xs) w.pieces (route_lies r) in
    record {
      follow = route_follow r;
      no_pieces = follow_none start w.pieces w.position (route_follow r);
      position = position_is xs start (start + long) w.position w.stop reached;
      places = places;
      zero_pieces = route_zeros r;
      one_each = route_met r;
      least = least xs 0 w.pieces start w.position (route_follow r) places (subst (Rise 0) (sym (route_met r)) (met_is xs start w.position).order);
      refused = refused_is xs start (start + long) w.position w.stop reached;
      otherwise = otherwise_is xs start (start + long) w.position w.stop reached;
      few = few;
    }

tiles_in : (ln : ℕ → ℕ) (xs : List VmdkParsedExtent) → length xs ≤ most → Reachable xs → (places start long : ℕ) → most ≤ places → Tiles xs start long (walk_of (table_in ln xs) places start long)
unfolding walk_of
tiles_in ln xs short reach places start long h =
    let t = table_in ln xs in
    let c : t.count ≤ most = omega (arith, length_laid ln 0 xs) in
    let e : min places most ≡ most = omega arith in
    rw (le-leb t.count most c, e)
    (tiles xs start long (walk_from most t start long) (walk_takes xs t (λ o asked. maps_in ln xs o asked short) refl most start long reach short) (walk_few most t start long))

-- a walk over a built table, given `most` list places
pub built_tiles : (r : Record) (t : Table) → Builds r t → Reachable (counted r) → (places start long : ℕ) → most ≤ places → Tiles (counted r) start long (walk_of t places start long)
built_tiles r t b reach places start long h =
    let g = table_laid r t b in
    subst (λ (t : Table). Tiles (counted r) start long (walk_of t places start long)) (sym g.0) (tiles_in (line_at r) (counted r) g.1 reach places start long h)
