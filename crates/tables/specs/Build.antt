-- Building: rows follow each other from 0, one for each extent. Building checks for each extent in turn: size, sum, then for flat the file start times 512.
use Rattle.std.specs.Prelude.{ℕ, ◌+◌, List, [], ◌∷◌, length, leb, None, Ok, Option, Some}
use Rattle.text.specs.Ranges.{pick}
use Rattle.text.specs.Sector.{bytes_of, largest}
use Rattle.lines.specs.Record.{most, filled, read_in, refusal, Verdict}
use Rattle.lines.specs.declared.record.Record.{Record}
use Rattle.lines.specs.declared.record.ReadExtent.{ReadExtent}
use Rattle.lines.specs.declared.record.VmdkParsedStorage.{VmdkParsedStorage}
use Rattle.lines.specs.declared.record.VmdkParsedStorage.TheVariants.{NoAccess, Zero, Flat}
use Rattle.tables.specs.declared.table.Source.{Source}
use Rattle.tables.specs.declared.table.Source.TheVariants.{NoAccess as Locked, Zero as Zeros, Flat as File}
use Rattle.tables.specs.declared.table.Row.{Row}
use Rattle.tables.specs.declared.table.Table.{Table}
use Rattle.text.specs.declared.sector.Bytes.{Bytes}
use Rattle.lines.specs.declared.record.Fault.{Fault}
use Rattle.lines.specs.declared.record.Fault.TheVariants.{SizeTooLarge, SumTooLarge, FileStartTooLarge, CountTooLarge}

-- a table that was built, or an empty one with the refusal
pub record Built : Type 0 where
  pub verdict : Verdict
  pub table : Table

-- a row of a line, from its start up to its end
abbrev pub row_of : ℕ → ℕ → ℕ → Source → Row
row_of line start end source = record { start = record { 0 = start }; end = record { 0 = end }; source = source; line = line }

-- no access and zeros, of no line
abbrev pub no_row : Row
no_row = row_of 0 0 0 Locked

-- the table of some rows and a size
abbrev pub table_of : List Row → ℕ → Table
table_of rows size = record { size = record { 0 = size }; count = length rows; rows = filled no_row rows }

-- the empty table
abbrev pub no_table : Table
no_table = table_of [] 0

-- the rows and the size, or a refusal's fault and the extent's line
pub data Rows : Type 0 where
  rows : List Row → ℕ → Rows
  refused : Fault → ℕ → Rows

-- go on with a count of bytes, or refuse
abbrev pub in_bytes : Option Bytes → Rows → (ℕ → Rows) → Rows
in_bytes (Some b) else go = go b.0
in_bytes None else go = else

-- go on with the source in bytes, or refuse its file start
abbrev pub in_source : VmdkParsedStorage → Rows → (Source → Rows) → Rows
in_source NoAccess else go = go Locked
in_source (Zero a) else go = go (Zeros a)
in_source (Flat a name start) else go = in_bytes (bytes_of start) else λ b. go (File a (record { 0 = b }) name)

-- one row in front
abbrev pub before : Row → Rows → Rows
before r (rows rs size) = rows (r ∷ rs) size
before r (refused f k) = refused f k

-- the rows of some extents, which start at a place of the disk; each has its extent's line
unfoldable pub rows_from : ℕ → List ReadExtent → Rows
rows_from start [] = rows [] start
rows_from start (x ∷ xs) =
    in_bytes (bytes_of x.extent.sectors) (refused SizeTooLarge x.line) λ size.
    pick (leb (start + size) largest)
    (in_source x.extent.storage (refused FileStartTooLarge x.line) λ source.
    before (row_of x.line start (start + size) source) (rows_from (start + size) xs))
    (refused SumTooLarge x.line)

-- a refused build answers an empty table
abbrev pub built : Rows → Built
built (rows rs size) = record { verdict = (Ok tt); table = table_of rs size }
built (refused f k) = record { verdict = refusal f k; table = no_table }

-- building: 23 first, then extent by extent
unfoldable pub build_of : Record → Built
build_of r = pick (leb r.count most) (built (rows_from 0 (read_in r))) (built (refused CountTooLarge 0))
