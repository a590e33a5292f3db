-- A walk has room for as many pieces as there are places, and leaves its pieces in front of what stood behind as many places.
-- So the list is as long as it was, and behind the pieces nothing has changed.
use Prim.Native.Nat.{ℕ, ◌≤◌, min}
use native.Mathlib.Omega.{arith}
use mathlib.Core.List.{List}
use mathlib.Core.Path.{◌≡◌, refl}
use lib.ListN.{length, take, drop, get_or}
use lib.Seq.{drop-append_seam}
use Rattle.lines.specs.Record.{most, over}
use Rattle.lines.proofs.Overs.{over_first, over_past, over_length}
use Rattle.tables.specs.declared.table.Table.{Table}
use Rattle.tables.specs.declared.table.Piece.{Piece}
use Rattle.maps.proofs.Marks.{walk_most, walk_room}
use Rattle.theorems.specs.Counted.{walk_with, count_of, left_in, OnlyCounted}

module _ (t : Table) (list : List Piece) (pos left : ℕ) where
  counts : count_of t list pos left ≤ min (length list) most
  counts =
      let e : min (length list) most ≡ min (min (length list) most) most = omega arith in
      rw (walk_room t (length list) (min (length list) most) pos left e) (walk_most t (min (length list) most) pos left)

  keeps : drop (count_of t list pos left) (left_in t list pos left) ≡ drop (count_of t list pos left) list
  unfolding over
  keeps = drop-append_seam (walk_with t list pos left).pieces (drop (count_of t list pos left) list)

  keeps_at : (i : ℕ) (none : Piece) → count_of t list pos left ≤ i → get_or (left_in t list pos left) i none ≡ get_or list i none
  keeps_at = over_past (walk_with t list pos left).pieces list

  keeps_long : length (left_in t list pos left) ≡ length list
  keeps_long = let h = counts in over_length (walk_with t list pos left).pieces list (omega arith)

  writes : take (count_of t list pos left) (left_in t list pos left) ≡ (walk_with t list pos left).pieces
  writes = over_first (walk_with t list pos left).pieces list

  pub only_counted : OnlyCounted t list pos left
  only_counted =
      let h = counts in
      record {
        count = refl;
        room = omega arith;
        few = omega arith;
        long = keeps_long;
        written = writes;
        kept = keeps;
        kept_at = keeps_at;
      }
