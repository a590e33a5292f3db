-- A walk's lines are added piece by piece; the pieces are the first places of the list that the walk filled.
-- Assumes nothing.
use Prim.Native.Nat.{ℕ, ◌+◌, ◌≤◌, ◌<◌, min}
use native.Mathlib.Omega.{arith}
use mathlib.Core.List.{List, ◌∷◌, ◌++◌}
use mathlib.Core.Path.{◌≡◌}
use lib.ListN.{length, get_or, take, length-replicate}
use lib.Seq.{take_all}
use Rattle.lines.specs.Record.{most}
use Rattle.lines.proofs.Overs.{over_first, over_length}
use Rattle.maps.specs.Walk.{Walk, walk_of, walked, listed, no_piece, no_pieces}
use Rattle.maps.proofs.Marks.{walk_most}
use Rattle.tables.specs.declared.table.Row.{Row}
use Rattle.tables.specs.declared.table.Table.{Table}
use Rattle.tables.specs.declared.table.Source.{Source}
use Rattle.tables.specs.declared.table.PieceSource.{PieceSource}
use Rattle.tables.specs.declared.table.PieceSource.TheVariants.{Zero, Raw}
use Rattle.tables.specs.declared.table.Piece.{Piece}
use Rattle.tables.specs.declared.table.Walked.{Walked}
use Rattle.phrases.specs.Line.{line, lines_from, lines_to, spaced}
use Rattle.phrases.specs.Adding.{Adds}
use Rattle.phrases.specs.declared.line.Answer.{Answer}
use Rattle.walk_lines.specs.Walk.{piece_words, piece_line, stop_line, walk_lines}
use Rattle.phrases.proofs.Lines.{adds_then, line_more, lines_next}

-- a piece's source has at least one word, so that a word before it is not the line's last
pub piece_words_more : (w d : List ℕ) (z : Source) (x : Piece) (y : PieceSource) → line (w ∷ piece_words d z x y) ≡ spaced w ++ line (piece_words d z x y)
piece_words_more w d z x Zero = line_more w _ _
piece_words_more w d z x Raw = line_more w _ _

-- a turn of `piece_lines`
pub pieces_next : (d : List ℕ) (rows : List Row) (xs : List Piece) (i : ℕ) → i < length xs → lines_from (piece_line d rows) 0 (take (i + 1) xs) ≡ lines_from (piece_line d rows) 0 (take i xs) ++ piece_line d rows i (get_or xs i no_piece)
pieces_next d rows xs i h = lines_next (piece_line d rows) xs i no_piece h

blanks_long : length no_pieces ≡ most
unfolding no_pieces
blanks_long = length-replicate most no_piece

-- the walk with at most most places is the walk
walk_least : (t : Table) (places pos left : ℕ) → walk_of t (min places most) pos left ≡ walk_of t places pos left
unfolding walk_of
walk_least t places pos left = let e : min (min places most) most ≡ min places most = omega arith in rw e

-- Rules of `table_walk`, which lends the walk a list of blank places: what it writes there are the walk's pieces
module _ (t : Table) (places pos left : ℕ) {list : List Piece} (n : list ≡ no_pieces) where
  lent_walk : walk_of t (min places (length list)) pos left ≡ walk_of t places pos left
  lent_walk = rw (n, blanks_long) (walk_least t places pos left)

  pub counted : {x : Walked} {ys : List Piece} → x ≡ walked (walk_of t (min places (length list)) pos left) → ys ≡ listed (walk_of t (min places (length list)) pos left) list → x.count ≤ length ys
  counted e f =
      let w : Walk = walk_of t (min places (length list)) pos left in
      let l : length w.pieces ≤ min places (length list) = walk_most t (min places (length list)) pos left in
      let m : length w.pieces ≤ length list = omega arith in
      rw (e, f, over_length w.pieces list m) m

  pub table_walk : {a b c : Answer} {x : Walked} {ys : List Piece} (d : List ℕ) → x ≡ walked (walk_of t (min places (length list)) pos left) → ys ≡ listed (walk_of t (min places (length list)) pos left) list → Adds a (lines_from (piece_line d t.rows) 0 (take x.count ys)) b → Adds b (stop_line x) c → Adds a (walk_lines d t.rows (walk_of t places pos left)) c
  unfolding walk_lines lines_to
  table_walk {x = x} {ys = ys} d e f h k =
      let w : Walk = walk_of t places pos left in
      let e₂ : x ≡ walked w = rw lent_walk at e in
      let f₂ : ys ≡ listed w list = rw lent_walk at f in
      let q : take x.count ys ≡ w.pieces = rw (e₂, f₂) (over_first w.pieces list) in
      let z : take (length w.pieces) w.pieces ≡ w.pieces = take_all (length w.pieces) w.pieces (omega arith) in
      rw z (adds_then (rw q at h) (rw e₂ at k))
