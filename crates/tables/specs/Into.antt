-- Building into a table that the caller lends: what is left there, whatever it held before.
use Rattle.std.specs.Prelude.{ℕ, List, [], ◌∷◌, ◌++◌, leb}
use Rattle.text.specs.Ranges.{pick}
use Rattle.lines.specs.Record.{most, read_in, over}
use Rattle.lines.specs.declared.record.Record.{Record}
use Rattle.lines.specs.declared.record.ReadExtent.{ReadExtent}
use Rattle.tables.specs.Build.{Rows, rows, refused, rows_from, build_of}
use Rattle.tables.specs.declared.table.Row.{Row}
use Rattle.tables.specs.declared.table.Table.{Table}

-- go on where some rows end; a refusal has none
abbrev pub then_rows : Rows → (ℕ → List Row) → List Row
then_rows (rows rs end) go = rs ++ go end
then_rows (refused n k) go = []

-- the rows of the extents that start at a place of the disk, up to the first that is refused
unfoldable pub rows_up_to : ℕ → List ReadExtent → List Row
rows_up_to start [] = []
rows_up_to start (x ∷ xs) = then_rows (rows_from start (x ∷ [])) λ end. rows_up_to end xs

-- the rows that building stores: where 23 is given, none
unfoldable pub stored_rows : Record → List Row
stored_rows r = pick (leb r.count most) (rows_up_to 0 (read_in r)) []

-- the lent table after building. Where nothing is refused: the size, the count, in the first `count` places the rows, and every other place as it was.
-- A refusal leaves size 0 and count 0, in the first places the rows that were stored before it, and every other place as it was
unfoldable pub build_into : Record → Table → Table
build_into r t = record { size = (build_of r).table.size; count = (build_of r).table.count; rows = over (stored_rows r) t.rows }
