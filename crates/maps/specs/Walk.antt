-- The walk: pieces that follow each other from a position, until nothing is left, the disk ends, there is no more room, or a mapping is refused.
use Rattle.std.specs.Prelude.{ℕ, zero, suc, ◌+◌, ◌-◌, min, Bool, false, List, [], ◌∷◌, length, replicate, leb, eqb, Err, Ok, Result}
use Rattle.text.specs.Ranges.{pick}
use Rattle.lines.specs.Record.{most, over}
use Rattle.tables.specs.declared.table.Table.{Table}
use Rattle.tables.specs.declared.table.ShallowMapping.TheVariants.{Eof, Zero, Raw}
use Rattle.tables.specs.declared.table.Mapping.{Mapping}
use Rattle.tables.specs.declared.table.PieceSource.TheVariants.{Zero as Zeros, Raw as File}
use Rattle.tables.specs.declared.table.Piece.{Piece}
use Rattle.tables.specs.declared.table.Stop.TheVariants.{Done, More}
use Rattle.tables.specs.declared.table.Walked.{Walked}
use Rattle.tables.specs.declared.table.ShallowMapping.{ShallowMapping}
use Rattle.tables.specs.declared.table.Stop.{Stop}
use Rattle.lines.specs.declared.record.Fault.{Fault}
use Rattle.lines.specs.declared.record.Fault.TheVariants.{CountTooLarge}
use Rattle.maps.specs.Map.{map_of}

-- the pieces written, why the walk stopped, the position reached, and the sum of rows looked at
pub record Walk : Type 0 where
  pub pieces : List Piece
  pub stop : Result Stop Fault
  pub position : ℕ
  pub looked : ℕ

-- a walk that ends where it stands, after a mapping that looked at n rows
abbrev pub ends : Result Stop Fault → ℕ → ℕ → Walk
ends s pos n = record { pieces = []; stop = s; position = pos; looked = n }

-- one piece, whose mapping looked at n rows, and then the walk that follows it
abbrev pub then : Piece → ℕ → Walk → Walk
then p n w = record { pieces = p ∷ w.pieces; stop = w.stop; position = w.position; looked = n + w.looked }

-- a zero piece has file offset 0 and is not writable
abbrev pub zero_piece : ℕ → ℕ → ℕ → Piece
zero_piece pos run i = record { start = pos; run = run; source = Zeros; row = i; file_offset = 0; writable = false }

abbrev pub raw_piece : ℕ → ℕ → ℕ → ℕ → Bool → Piece
raw_piece pos run i at w = record { start = pos; run = run; source = File; row = i; file_offset = at; writable = w }

-- a mapping's piece and the walk after it; an end answer is Done there, and a refusal stops the walk with its number
abbrev pub step : ℕ → Result ShallowMapping Fault → ℕ → ℕ → Walk → Walk
step pos (Ok Eof) run n after = ends (Ok Done) pos n
step pos (Err number) run n after = ends (Err number) pos n
step pos (Ok (Zero i)) run n after = then (zero_piece pos run i) n after
step pos (Ok (Raw i at w)) run n after = then (raw_piece pos run i at w) n after

-- before each step: nothing left, Done; position at or past the size, Done
abbrev pub unless_over : Table → ℕ → ℕ → Walk → Walk
unless_over t pos left go = pick (eqb left 0) (ends (Ok Done) pos 0) (pick (leb t.size.0 pos) (ends (Ok Done) pos 0) go)

-- a walk from a position, with a length left and room for some pieces: no room, More; otherwise map the position with all that is left
unfoldable pub walk_from : ℕ → Table → ℕ → ℕ → Walk
walk_from zero t pos left = unless_over t pos left (ends (Ok More) pos 0)
walk_from (suc room) t pos left =
    let m : Mapping = map_of t pos left in
    unless_over t pos left (step pos m.mapping m.run m.looked (walk_from room t (pos + m.run) (left - m.run)))

-- the walk with a list of so many places: 23 first; at most `most` pieces
unfoldable pub walk_of : Table → ℕ → ℕ → ℕ → Walk
walk_of t places pos left =
    pick (leb t.count most) (walk_from (min places most) t pos left) (ends (Err CountTooLarge) pos 0)

-- what the walk answers
abbrev pub walked : Walk → Walked
walked w = record { count = length w.pieces; stop = w.stop; position = w.position; looked = w.looked }

-- what it leaves in the list: places beyond the count keep their contents
abbrev pub listed : Walk → List Piece → List Piece
listed w list = over w.pieces list

-- a piece of nothing
abbrev pub no_piece : Piece
no_piece = zero_piece 0 0 0

-- so many of them as a walk may write
unfoldable pub no_pieces : List Piece
no_pieces = replicate most no_piece
