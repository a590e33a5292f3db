-- What a walk leaves in the list that the caller lends: its pieces in as many places as it counts, and the others as they were.
use Rattle.std.specs.Prelude.{ℕ, ◌≤◌, List, ◌≡◌, length, take, drop, get_or}
use Rattle.lines.specs.Record.{most}
use Rattle.tables.specs.declared.table.Table.{Table}
use Rattle.tables.specs.declared.table.Piece.{Piece}
use Rattle.maps.specs.Walk.{Walk, walk_of, walked, listed}

-- a walk with a list, the count that it answers, and the list as it leaves it
abbrev pub walk_with : Table → List Piece → ℕ → ℕ → Walk
walk_with t list pos left = walk_of t (length list) pos left

abbrev pub count_of : Table → List Piece → ℕ → ℕ → ℕ
count_of t list pos left = (walked (walk_with t list pos left)).count

abbrev pub left_in : Table → List Piece → ℕ → ℕ → List Piece
left_in t list pos left = listed (walk_with t list pos left) list

-- A walk writes only the places that it counts.
pub record OnlyCounted (t : Table) (list : List Piece) (pos left : ℕ) : Type 0 where
  -- it counts its pieces, which are at most as many as the list has places, and at most `most`
  pub count : count_of t list pos left ≡ length (walk_with t list pos left).pieces
  pub room : count_of t list pos left ≤ length list
  pub few : count_of t list pos left ≤ most
  -- the list stays as long as it was
  pub long : length (left_in t list pos left) ≡ length list
  -- the places up to the count hold the pieces
  pub written : take (count_of t list pos left) (left_in t list pos left) ≡ (walk_with t list pos left).pieces
  -- and every place from the count on holds what it held
  pub kept : drop (count_of t list pos left) (left_in t list pos left) ≡ drop (count_of t list pos left) list
  pub kept_at : (i : ℕ) (none : Piece) → count_of t list pos left ≤ i → get_or (left_in t list pos left) i none ≡ get_or list i none
