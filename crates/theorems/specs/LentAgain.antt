-- Memory that is lent again: a descriptor read into a record, and built from it into a table, in whatever state the two were; and what is left there.
use Rattle.std.specs.Prelude.{ℕ, ◌<◌, ◌≤◌, List, [], ◌⊎◌, ◌≡◌, length, take, get_or, Err, Ok}
use Rattle.lines.specs.Record.{most, no_desc, read_in}
use Rattle.lines.specs.declared.record.Record.{Record}
use Rattle.lines.specs.declared.record.Refusal.{Refusal}
use Rattle.lines.specs.declared.record.Fault.{Fault}
use Rattle.descriptor.specs.Read.{read_of}
use Rattle.descriptor.specs.Into.{stored_of, read_into}
use Rattle.tables.specs.declared.table.Stop.TheVariants.{Done}
use Rattle.tables.specs.declared.table.Table.{Table}
use Rattle.maps.specs.Alike.{SameTable}
use Rattle.tables.specs.Build.{build_of}
use Rattle.tables.specs.Into.{stored_rows, build_into}
use Rattle.maps.specs.Map.{ended, map_of}
use Rattle.maps.specs.Place.{Reachable}
use Rattle.maps.specs.Walk.{ends, walk_of}
use Rattle.theorems.specs.Statements.{ByLine, sayings, sayings_of, extents_in, read_from, AllSound, FirstRefused}
use Rattle.theorems.specs.NamedPlaces.{FromLine, MapsNamed, TilesNamed}

-- the table that a caller has in hand: what building leaves in a lent table, from what reading a descriptor leaves in a lent record
abbrev pub in_hand : List ℕ → Record → Table → Table
in_hand d r t = build_into (read_into d r) t

-- the table of the descriptor alone
abbrev pub fresh : List ℕ → Table
fresh d = (build_of (read_of d).descriptor).table

-- A table of nothing: no row counts, the disk has no bytes, every offset is at the end, and every walk is done where it starts.
pub record NoDisk (t : Table) : Type 0 where
  pub count : t.count ≡ 0
  pub size : t.size.0 ≡ 0
  pub maps : (o asked : ℕ) → map_of t o asked ≡ ended 0
  pub walks : (places start long : ℕ) → walk_of t places start long ≡ ends (Ok Done) start 0

-- What a caller has in hand depends on the descriptor alone: nothing of an earlier reel can shine through. Nothing is asked of the record and the table
-- that are lent, not even that they have `most` places, as every value of these types has.
pub record LentAgain (d : List ℕ) (r : Record) (t : Table) : Type 0 where
  -- the record has the values of the descriptor alone, and counts its extents, with their lines
  pub values : (read_into d r).desc ≡ (read_of d).descriptor.desc
  pub extents : read_in (read_into d r) ≡ read_in (read_of d).descriptor
  -- building from it gives the verdict of the descriptor alone
  pub verdict : (build_of (read_into d r)).verdict ≡ (build_of (read_of d).descriptor).verdict
  -- the table in hand has the size, the count and the rows of the descriptor alone, with their lines
  pub table : SameTable (in_hand d r t) (fresh d)
  -- where the descriptor reads and builds, row i of it is the i-th line that says an extent
  pub lines : (read_of d).verdict ≡ (Ok tt) → (build_of (read_into d r)).verdict ≡ (Ok tt) → (i : ℕ) → i < (in_hand d r t).count → FromLine d (in_hand d r t) i
  -- every mapping and every walk is that of the descriptor alone
  pub maps : (o asked : ℕ) → map_of (in_hand d r t) o asked ≡ map_of (fresh d) o asked
  pub walks : (places start long : ℕ) → walk_of (in_hand d r t) places start long ≡ walk_of (fresh d) places start long
  -- where the descriptor reads and builds, mapping gives each byte the place that the descriptor's own lines give it
  pub bytes : (read_of d).verdict ≡ (Ok tt) → (build_of (read_into d r)).verdict ≡ (Ok tt) → (o asked : ℕ) → MapsNamed d (in_hand d r t) o asked
  -- and a walk over any range tiles it, each byte of each piece at the place that the descriptor's own lines give it
  pub pieces : (read_of d).verdict ≡ (Ok tt) → (build_of (read_into d r)).verdict ≡ (Ok tt) → Reachable (extents_in (sayings_of d)) → (places start long : ℕ) → most ≤ places → TilesNamed d (in_hand d r t) start long (walk_of (in_hand d r t) places start long)
  -- where it is refused, by reading or by building, the table in hand is one of nothing
  pub nothing : (x : Refusal) → ((read_of d).verdict ≡ Err x) ⊎ ((build_of (read_into d r)).verdict ≡ Err x) → NoDisk (in_hand d r t)

-- A table that a record, read or made by hand, is built into, in whatever state it was, is of the disk that the record alone builds: every mapping and every walk is that disk's.
pub record BuiltAgain (r : Record) (t : Table) : Type 0 where
  pub table : SameTable (build_into r t) (build_of r).table
  pub maps : (o asked : ℕ) → map_of (build_into r t) o asked ≡ map_of (build_of r).table o asked
  pub walks : (places start long : ℕ) → walk_of (build_into r t) places start long ≡ walk_of (build_of r).table places start long

-- Some places once a list is stored in the first of them: they are as many as they were, the first hold the list, and every place past it holds what it held.
pub record Stored {A : Type 0} (had list has : List A) : Type 0 where
  pub long : length has ≡ length had
  pub written : take (length list) has ≡ list
  pub kept : (i : ℕ) (none : A) → length list ≤ i → get_or has i none ≡ get_or had i none

-- What reading a descriptor leaves in a record.
pub record ReadLeaves (d : List ℕ) (r : Record) : Type 0 where
  -- extents are stored in the first places, each with its line
  pub places : length r.extents ≡ most → Stored r.extents (stored_of d) (read_into d r).extents
  -- where every line is sound, those of all lines
  pub whole : ByLine d → AllSound (sayings_of d) → stored_of d ≡ read_from 1 (sayings_of d)
  -- where a line is refused, those of the lines before it
  pub before : (l : List ℕ) (n : Fault) (k : ℕ) → ByLine d → (f : FirstRefused d l n k) → stored_of d ≡ read_from 1 (sayings 0 f.before)
  -- where no line is read, none
  pub none : (ByLine d → ⊥) → stored_of d ≡ []
  -- all of them are counted; of a refused descriptor none, and its values are the start values
  pub sound : (read_of d).verdict ≡ (Ok tt) → (read_into d r).count ≡ length (stored_of d)
  pub refused : (x : Refusal) → (read_of d).verdict ≡ Err x → ((read_into d r).count ≡ 0) × ((read_into d r).desc ≡ no_desc)

-- What building from a record leaves in a table.
pub record BuildLeaves (r : Record) (t : Table) : Type 0 where
  -- the rows of all extents, or of those before the refused one, are stored
  pub places : length t.rows ≡ most → Stored t.rows (stored_rows r) (build_into r t).rows
  -- all of them are counted; of a refused build none, and the size is 0
  pub sound : (build_of r).verdict ≡ (Ok tt) → (build_into r t).count ≡ length (stored_rows r)
  pub refused : (x : Refusal) → (build_of r).verdict ≡ Err x → ((build_into r t).count ≡ 0) × ((build_into r t).size.0 ≡ 0)
