-- Equality of rows and of tables: lines aside, which is what mapping and the walk depend on, and with them. Places past the count do not matter.
use Rattle.std.specs.Prelude.{ℕ, ◌<◌, ◌≡◌, get_or}
use Rattle.tables.specs.declared.table.Row.{Row}
use Rattle.tables.specs.declared.table.Table.{Table}
use Rattle.tables.specs.Build.{no_row}

-- Rows that are alike: all but the lines agree.
pub record AlikeRows (r q : Row) : Type 0 where
  pub start : r.start ≡ q.start
  pub end : r.end ≡ q.end
  pub source : r.source ≡ q.source

-- Tables that are alike: they agree in size and in count, and each row that they count is alike.
pub record AlikeTables (s t : Table) : Type 0 where
  pub size : s.size ≡ t.size
  pub count : s.count ≡ t.count
  pub rows : (i : ℕ) → i < s.count → AlikeRows (get_or s.rows i no_row) (get_or t.rows i no_row)

-- The same table: they are alike, and the lines of the rows that they count agree too.
pub record SameTable (s t : Table) : Type 0 where
  pub alike : AlikeTables s t
  pub lines : (i : ℕ) → i < s.count → (get_or s.rows i no_row).line ≡ (get_or t.rows i no_row).line
