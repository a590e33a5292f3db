-- The report is added line by line: the head, and then row after row, each with its number.
-- Assumes nothing.
use Prim.Native.Nat.{ℕ, ◌+◌, ◌<◌}
use mathlib.Core.List.{List, ◌∷◌, ◌++◌}
use mathlib.Core.Path.{◌≡◌}
use lib.ListN.{length, get_or, take}
use Rattle.tables.specs.Build.{no_row}
use Rattle.tables.specs.declared.table.Source.{Source}
use Rattle.tables.specs.declared.table.Source.TheVariants.{NoAccess, Zero, Flat}
use Rattle.tables.specs.declared.table.Row.{Row}
use Rattle.phrases.specs.Line.{line, lines_from, spaced}
use Rattle.disk_lines.specs.Report.{source_words, row_line}
use Rattle.phrases.proofs.Lines.{line_more, lines_next}

-- a row's source has at least one word, so that a word before it is not the line's last
pub source_words_more : (w d : List ℕ) (x : Source) → line (w ∷ source_words d x) ≡ spaced w ++ line (source_words d x)
source_words_more w d NoAccess = line_more w _ _
source_words_more w d (Zero a) = line_more w _ _
source_words_more w d (Flat a b t) = line_more w _ _

-- a turn of `row_lines`
pub rows_next : (d : List ℕ) (xs : List Row) (i : ℕ) → i < length xs → lines_from (row_line d) 0 (take (i + 1) xs) ≡ lines_from (row_line d) 0 (take i xs) ++ row_line d i (get_or xs i no_row)
rows_next d xs i h = lines_next (row_line d) xs i no_row h
