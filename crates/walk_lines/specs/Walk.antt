-- The lines of a walk: one for each piece, and one that says why it stopped; or only the refusal of a read or a build.
use Rattle.std.specs.Prelude.{ℕ, List, [], ◌∷◌, ◌++◌, Bool, length, Err, Ok, Result}
use Rattle.text.specs.Ascii.{ascii}
use Rattle.maps.specs.Walk.{Walk, walk_of, walked}
use Rattle.tables.specs.declared.table.Row.{Row}
use Rattle.tables.specs.declared.table.Source.{Source}
use Rattle.tables.specs.declared.table.PieceSource.{PieceSource}
use Rattle.tables.specs.declared.table.PieceSource.TheVariants.{Zero, Raw}
use Rattle.tables.specs.declared.table.Piece.{Piece}
use Rattle.tables.specs.declared.table.Stop.TheVariants.{Done, More}
use Rattle.tables.specs.declared.table.Walked.{Walked}
use Rattle.tables.specs.declared.table.Stop.{Stop}
use Rattle.lines.specs.declared.record.Fault.{Fault}
use Rattle.lines.specs.Fault.{refusal_number}
use Rattle.puts.specs.Decimal.{decimal_of}
use Rattle.phrases.specs.Line.{spaced, field, line, lines_to, mode_word, name_of, source_at}
use Rattle.phrases.specs.Opening.{Opened, open_of, unless}

-- where a piece's bytes come from
abbrev pub raw_words : ℕ → ℕ → Bool → List ℕ → List (List ℕ)
raw_words o i w name = ascii "raw" ∷ decimal_of o ∷ ascii "row" ∷ decimal_of i ∷ mode_word w ∷ name ∷ []

abbrev pub piece_words : List ℕ → Source → Piece → PieceSource → List (List ℕ)
piece_words d s p Raw = raw_words p.file_offset p.row p.writable (name_of d s)
piece_words d s p Zero = ascii "zero row" ∷ decimal_of p.row ∷ []

-- a piece of a source: where it starts on the disk, how many bytes it has, and where they come from
unfoldable pub piece_from : List ℕ → Source → Piece → List ℕ
piece_from d s p = line (decimal_of p.start ∷ decimal_of p.run ∷ piece_words d s p p.source)

-- a piece, by its number, which is not written: its source is its row's
unfoldable pub piece_line : List ℕ → List Row → ℕ → Piece → List ℕ
piece_line d rows i p = piece_from d (source_at rows p.row) p

-- why a walk stopped
abbrev pub stop_text : Result Stop Fault → List ℕ
stop_text (Ok Done) = spaced (ascii "done at")
stop_text (Ok More) = spaced (ascii "more at")
stop_text (Err f) = field (ascii "refused") (refusal_number f) ++ spaced (ascii "0 at")

-- the position reached, the number of pieces, and the sum of rows looked at
unfoldable pub stop_line : Walked → List ℕ
stop_line w =
    stop_text w.stop
    ++ line (decimal_of w.position ∷ ascii "pieces" ∷ decimal_of w.count ∷ ascii "looked" ∷ decimal_of w.looked ∷ [])

-- a walk
unfoldable pub walk_lines : List ℕ → List Row → Walk → List ℕ
walk_lines d rows w = lines_to (piece_line d rows) w.pieces (length w.pieces) ++ stop_line (walked w)

-- the walk of a descriptor's disk from an offset, for at most a length, with room for so many pieces
unfoldable pub walk_lines_of : List ℕ → ℕ → ℕ → ℕ → List ℕ
walk_lines_of d offset length places =
    let o : Opened = open_of d in
    unless o.verdict (walk_lines d o.table.rows (walk_of o.table places offset length))
