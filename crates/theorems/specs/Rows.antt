-- The rows of a table that was built: one for each extent, each beginning where the one before it ends.
use Rattle.std.specs.Prelude.{ℕ, suc, ◌+◌, ◌*◌, ◌<◌, ◌≤◌, true, false, ◌≡◌, length, get_or, Ok}
use Rattle.text.specs.Sector.{sector_size}
use Rattle.lines.specs.Record.{most, read_in, counted, no_read, no_extent}
use Rattle.lines.specs.declared.record.Record.{Record}
use Rattle.lines.specs.declared.record.VmdkParsedExtent.{VmdkParsedExtent}
use Rattle.lines.specs.declared.record.VmdkParsedStorage.{VmdkParsedStorage}
use Rattle.lines.specs.declared.record.VmdkParsedStorage.TheVariants.{NoAccess, Zero, Flat}
use Rattle.tables.specs.declared.table.Source.{Source}
use Rattle.tables.specs.declared.table.Source.TheVariants.{NoAccess as Locked, Zero as Zeros, Flat as File}
use Rattle.tables.specs.declared.table.Row.{Row}
use Rattle.tables.specs.declared.table.Table.{Table}
use Rattle.tables.specs.Build.{no_row, build_of}
use Rattle.maps.specs.Map.{holds}
use Rattle.maps.specs.Place.{bytes_in, size_of}

-- the record builds, and this is its table
abbrev pub Builds : Record → Table → Type 0
Builds r t = build_of r ≡ record { verdict = (Ok tt); table = t }

-- an extent's source, its file start in bytes
abbrev pub source_of : VmdkParsedStorage → Source
source_of NoAccess = Locked
source_of (Zero a) = Zeros a
source_of (Flat a name start) = File a (record { 0 = start.0 * sector_size }) name

-- a table's row with a number
abbrev pub row_at : Table → ℕ → Row
row_at t i = get_or t.rows i no_row

-- the line of a record's extent with a number
abbrev pub line_at : Record → ℕ → ℕ
line_at r i = (get_or (read_in r) i no_read).line

-- a record's extent with a number
abbrev pub extent_at : Record → ℕ → VmdkParsedExtent
extent_at r i = get_or (counted r) i no_extent

-- the one row that holds an offset
pub record OneRow (t : Table) (o : ℕ) : Type 0 where
  pub row : ℕ
  pub below : row < t.count
  pub holding : holds (row_at t row) o ≡ true
  pub only : (j : ℕ) → j < t.count → holds (row_at t j) o ≡ true → j ≡ row

-- Rows follow each other from 0 to the size, one for each extent that the record counts.
pub record InRows (r : Record) (t : Table) : Type 0 where
  -- there are as many as the record counts, at most `most`
  pub count : t.count ≡ length (counted r)
  pub most_rows : t.count ≤ most
  -- the first starts at 0, each other where the one before it ends, and the last ends at the size
  pub first : 0 < t.count → (row_at t 0).start.0 ≡ 0
  pub next : (i : ℕ) → suc i < t.count → (row_at t (suc i)).start.0 ≡ (row_at t i).end.0
  pub last : (i : ℕ) → suc i ≡ t.count → (row_at t i).end.0 ≡ t.size.0
  -- the size is the sum of the extents' sizes
  pub size : t.size.0 ≡ size_of (counted r)
  -- each is as long as its extent, and has its source and its line
  pub long : (i : ℕ) → i < t.count → (row_at t i).end.0 ≡ (row_at t i).start.0 + bytes_in (extent_at r i)
  pub source : (i : ℕ) → i < t.count → (row_at t i).source ≡ source_of (extent_at r i).storage
  pub lines : (i : ℕ) → i < t.count → (row_at t i).line ≡ line_at r i
  -- rows past the count are no access and zeros, of no line
  pub past : (i : ℕ) → t.count ≤ i → row_at t i ≡ no_row
  -- for every offset below the size there is exactly one row that holds it, and for the others none
  pub one : (o : ℕ) → o < t.size.0 → OneRow t o
  pub none : (o : ℕ) → t.size.0 ≤ o → (i : ℕ) → i < t.count → holds (row_at t i) o ≡ false
  -- an empty extent's row holds no offset
  pub empty : (i : ℕ) → i < t.count → bytes_in (extent_at r i) ≡ 0 → (o : ℕ) → holds (row_at t i) o ≡ false
