-- How the code stores the rows: what it answers meanwhile, and what it leaves.
use Rattle.std.specs.Prelude.{List, Result, Ok, leb}
use Rattle.text.specs.Ranges.{pick}
use Rattle.text.specs.Sector.{bytes_upto}
use Rattle.text.specs.declared.sector.Bytes.{Bytes}
use Rattle.lines.specs.Record.{most, read_in, over, refused_with}
use Rattle.lines.specs.declared.record.Record.{Record}
use Rattle.lines.specs.declared.record.Refusal.{Refusal}
use Rattle.lines.specs.declared.record.Fault.TheVariants.{CountTooLarge}
use Rattle.tables.specs.Build.{Rows, rows, refused, rows_from}
use Rattle.tables.specs.declared.table.Row.{Row}
use Rattle.tables.specs.declared.table.Table.{Table}

-- the disk's size, or the refusal
abbrev pub size_in : Rows → Result Bytes Refusal
size_in (rows rs size) = Ok (bytes_upto size)
size_in (refused n k) = refused_with n k

-- 23 first, then extent by extent
unfoldable pub size_of : Record → Result Bytes Refusal
size_of r = pick (leb r.count most) (size_in (rows_from 0 (read_in r))) (refused_with CountTooLarge 0)

-- a table with some rows in its first places
abbrev pub with_rows : List Row → Table → Table
with_rows rs t = record { size = t.size; count = t.count; rows = over rs t.rows }
