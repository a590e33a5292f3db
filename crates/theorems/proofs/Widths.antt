-- A line is as long as its words, with one byte more for each; a number has at most 20 digits.
-- So each line of an answer has at most so many bytes, and its name.
-- Assumes nothing.
use Rattle.std.specs.Prelude.{Err, Ok, Result}
use Prim.Native.Nat.{ℕ, suc, ◌+◌, ◌≤◌}
use native.Mathlib.Omega.{arith}
use mathlib.Core.List.{List, [], ◌∷◌}
use mathlib.Core.Bool.{Bool, true, false}
use mathlib.Core.Path.{◌≡◌}
use lib.ListN.{length, length-append}
use Rattle.text.specs.Sector.{largest}
use Rattle.lines.specs.declared.record.Refusal.{Refusal}
use Rattle.lines.specs.declared.record.VmdkAccessType.{VmdkAccessType}
use Rattle.lines.specs.declared.record.VmdkAccessType.TheVariants.{RdOnly, RW}
use Rattle.tables.specs.declared.table.Source.{Source}
use Rattle.tables.specs.declared.table.Source.TheVariants.{NoAccess, Zero, Flat}
use Rattle.tables.specs.declared.table.Row.{Row}
use Rattle.tables.specs.declared.table.Piece.{Piece}
use Rattle.tables.specs.declared.table.PieceSource.{PieceSource}
use Rattle.tables.specs.declared.table.PieceSource.TheVariants.{Zero as Zeros, Raw as File}
use Rattle.tables.specs.declared.table.Stop.TheVariants.{Done, More}
use Rattle.tables.specs.declared.table.Walked.{Walked}
use Rattle.tables.specs.declared.table.Mapping.{Mapping}
use Rattle.tables.specs.declared.table.ShallowMapping.TheVariants.{Eof, Zero as Zeroed, Raw}
use Rattle.tables.specs.declared.table.ShallowMapping.{ShallowMapping}
use Rattle.tables.specs.declared.table.Stop.{Stop}
use Rattle.lines.specs.declared.record.Fault.{Fault}
use Rattle.lines.specs.Fault.{refusal_number}
use Rattle.phrases.specs.Line.{spaced, ended, field, line, name_of, source_at, access_word, mode_word, refused_line}
use Rattle.disk_lines.specs.Report.{probe_line, source_words, row_line, head_lines}
use Rattle.map_lines.specs.Map.{mapping_line, mapping_words}
use Rattle.walk_lines.specs.Walk.{piece_words, piece_from, piece_line, stop_text, stop_line}
use Rattle.report.specs.Room.{row_most}
use Rattle.theorems.proofs.Digits.{decimal_short}

-- ---- a line
-- the words' bytes, with one more for each word
abbrev pub long : List (List ℕ) → ℕ
long [] = 0
long (w ∷ ws) = length w + suc (long ws)

pub line_long : (w : List ℕ) (ws : List (List ℕ)) → length (line (w ∷ ws)) ≡ long (w ∷ ws)
unfolding line spaced ended
line_long w [] = simp length-append
line_long w (v ∷ ws) = simp length-append (omega (arith, line_long v ws))

access_short : (a : VmdkAccessType) → length (access_word a) ≤ 6
access_short RdOnly = omega arith
access_short RW = omega arith

mode_short : (w : Bool) → length (mode_word w) ≤ 6
mode_short true = omega arith
mode_short false = omega arith

-- ---- the report
pub probe_short : (b : Bool) → length (probe_line b) ≤ 10
unfolding probe_line
probe_short true = rw line_long (omega arith)
probe_short false = rw line_long (omega arith)

pub refused_short : (x : Refusal) → refusal_number x.fault ≤ largest → x.second ≤ largest → length (refused_line x) ≤ 50
unfolding refused_line
refused_short x h g = rw line_long (omega (arith, decimal_short _ h, decimal_short _ g))

pub head_short : (version size count : ℕ) → version ≤ largest → size ≤ largest → count ≤ largest → length (head_lines version size count) ≤ 84
unfolding head_lines
head_short version size count h g k =
    simp (length-append, line_long) (omega (arith, decimal_short _ h, decimal_short _ g, decimal_short _ k))

-- a source's file start is a number of 64 bits
abbrev pub Starts : Source → Type 0
Starts NoAccess = Unit {0}
Starts (Zero a) = Unit {0}
Starts (Flat a start name) = start.0 ≤ largest

source_short : (d : List ℕ) (s : Source) → Starts s → long (source_words d s) ≤ 34 + length (name_of d s)
source_short d NoAccess h = omega arith
source_short d (Zero a) h = omega (arith, access_short a)
source_short d (Flat a start name) h = omega (arith, access_short a, decimal_short _ h)

pub row_short : (d : List ℕ) (i : ℕ) (r : Row) → i ≤ largest → r.start.0 ≤ largest → r.end.0 ≤ largest → Starts r.source → length (row_line d i r) ≤ row_most + length (name_of d r.source)
unfolding row_line
row_short d i r h g k s =
    rw line_long (omega (arith, decimal_short _ h, decimal_short _ g, decimal_short _ k, source_short d r.source s))

-- ---- a mapping
-- the numbers of a mapping that gives a run are of 64 bits, and so is a refusal's
abbrev pub Shows : Result ShallowMapping Fault → ℕ → Type 0
Shows (Ok Eof) run = Unit {0}
Shows (Ok (Zeroed i)) run = (run ≤ largest) × (i ≤ largest)
Shows (Ok (Raw i o w)) run = (run ≤ largest) × (i ≤ largest) × (o ≤ largest)
Shows (Err k) run = refusal_number k ≤ largest

-- how many bytes the name has that stands in its line
abbrev pub shown_name : List ℕ → List Row → Result ShallowMapping Fault → ℕ
shown_name d rows (Ok Eof) = 0
shown_name d rows (Ok (Zeroed i)) = 0
shown_name d rows (Ok (Raw i o w)) = length (name_of d (source_at rows i))
shown_name d rows (Err k) = 0

words_shown : (d : List ℕ) (rows : List Row) (run n : ℕ) (m : Result ShallowMapping Fault) → n ≤ largest → Shows m run → length (line (mapping_words d rows run n m)) ≤ 111 + shown_name d rows m
words_shown d rows run n (Ok Eof) g k = rw line_long (omega (arith, decimal_short _ g))
words_shown d rows run n (Ok (Zeroed i)) g k = rw line_long (omega (arith, decimal_short _ g, decimal_short _ k.0, decimal_short _ k.1))
words_shown d rows run n (Ok (Raw i o w)) g k =
    rw line_long (omega (arith, decimal_short _ g, decimal_short _ k.0, decimal_short _ k.1, decimal_short _ k.2, mode_short w))
words_shown d rows run n (Err e) g k = rw line_long (omega (arith, decimal_short _ g, decimal_short _ k))

pub mapping_short : (d : List ℕ) (rows : List Row) (m : Mapping) → m.looked ≤ largest → Shows m.mapping m.run → length (mapping_line d rows m) ≤ 111 + shown_name d rows m.mapping
mapping_short d rows m g k = words_shown d rows m.run m.looked m.mapping g k

-- ---- a walk
-- a piece's numbers are of 64 bits
pub record Numbered (p : Piece) : Type 0 where
  pub start : p.start ≤ largest
  pub run : p.run ≤ largest
  pub row : p.row ≤ largest
  pub offset : p.file_offset ≤ largest

words_short : (d : List ℕ) (x : Source) (p : Piece) (s : PieceSource) → Numbered p → long (piece_words d x p s) ≤ 58 + length (name_of d x)
words_short d x p Zeros h = omega (arith, decimal_short _ h.row)
words_short d x p File h = omega (arith, decimal_short _ h.row, decimal_short _ h.offset, mode_short p.writable)

pub piece_short : (d : List ℕ) (rows : List Row) (k : ℕ) (p : Piece) → Numbered p → length (piece_line d rows k p) ≤ row_most + length (name_of d (source_at rows p.row))
unfolding piece_from piece_line
piece_short d rows k p h =
    rw line_long (omega (arith, decimal_short _ h.start, decimal_short _ h.run, words_short d (source_at rows p.row) p p.source h))

-- a refusal's number is of 64 bits
abbrev pub Stops : Result Stop Fault → Type 0
Stops (Ok Done) = Unit {0}
Stops (Ok More) = Unit {0}
Stops (Err k) = refusal_number k ≤ largest

stop_text_short : (s : Result Stop Fault) → Stops s → length (stop_text s) ≤ 34
unfolding spaced field
stop_text_short (Ok Done) h = simp length-append (omega arith)
stop_text_short (Ok More) h = simp length-append (omega arith)
stop_text_short (Err k) h = simp length-append (omega (arith, decimal_short _ h))

pub stop_short : (w : Walked) → Stops w.stop → w.position ≤ largest → w.count ≤ largest → w.looked ≤ largest → length (stop_line w) ≤ 111
unfolding stop_line
stop_short w s h g k =
    simp (length-append, line_long) (omega (arith, stop_text_short w.stop s, decimal_short _ h, decimal_short _ g, decimal_short _ k))
