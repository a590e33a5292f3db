-- Mapping a disk offset: the row is found by halving, and every row looked at is counted.
use Rattle.std.specs.Prelude.{ℕ, zero, suc, ◌+◌, ◌-◌, ◌/◌, min, List, Bool, true, false, get_or, leb, ltb, Err, Ok}
use Rattle.text.specs.Ranges.{pick}
use Rattle.text.specs.Sector.{largest}
use Rattle.lines.specs.Record.{most}
use Rattle.lines.specs.declared.record.VmdkAccessType.{VmdkAccessType}
use Rattle.lines.specs.declared.record.VmdkAccessType.TheVariants.{RW, RdOnly}
use Rattle.tables.specs.declared.table.Source.{Source}
use Rattle.tables.specs.declared.table.Source.TheVariants.{NoAccess as Locked, Zero as Zeros, Flat as File}
use Rattle.tables.specs.declared.table.Row.{Row}
use Rattle.tables.specs.declared.table.Table.{Table}
use Rattle.tables.specs.declared.table.ShallowMapping.TheVariants.{Eof, Zero, Raw}
use Rattle.tables.specs.declared.table.Mapping.{Mapping}
use Rattle.lines.specs.declared.record.Fault.TheVariants.{Inaccessible, OffsetTooLarge, CountTooLarge}
use Rattle.lines.specs.declared.record.Fault.{Fault}
use Rattle.tables.specs.Build.{no_row}

-- the row that was found, or none, and how many rows were looked at
pub data Search : Type 0 where
  found : ℕ → ℕ → Search
  nowhere : ℕ → Search

-- one look more
abbrev pub looked : Search → Search
looked (found i n) = found i (suc n)
looked (nowhere n) = nowhere (suc n)

-- a row's range holds the offset
abbrev pub holds : Row → ℕ → Bool
holds r o = pick (leb r.start.0 o) (ltb o r.end.0) false

-- the row to look at, of rows lo up to hi
abbrev pub middle : ℕ → ℕ → ℕ
middle lo hi = lo + (hi - lo) / 2

-- after a look at row i of lo up to hi: stop there, or go on with the rows after it, or with those before it
abbrev pub decide : Row → ℕ → ℕ → ℕ → ℕ → (ℕ → ℕ → Search) → Search
decide r lo i hi o go =
    pick (holds r o) (found i 1) (looked (pick (leb r.end.0 o) (go (suc i) hi) (go lo i)))

-- of rows lo up to hi (hi not included), by halving; w is at least how many they are
unfoldable pub halve : ℕ → List Row → ℕ → ℕ → ℕ → Search
halve zero rows lo hi o = nowhere 0
halve (suc w) rows lo hi o =
    pick (ltb lo hi) (decide (get_or rows (middle lo hi) no_row) lo (middle lo hi) hi o (λ lo hi. halve w rows lo hi o)) (nowhere 0)

-- writable exactly for RW
abbrev pub writable : VmdkAccessType → Bool
writable RW = true
writable RdOnly = false

-- the end: run 0
abbrev pub ended : ℕ → Mapping
ended n = record { mapping = (Ok Eof); run = 0; looked = n }

-- a refusal: run 0
abbrev pub refused : Fault → ℕ → Mapping
refused f n = record { mapping = Err f; run = 0; looked = n }

-- row i, whose source has a run of bytes at a place within the row
unfoldable pub sourced : Source → ℕ → ℕ → ℕ → ℕ → Mapping
sourced Locked i within run n = refused Inaccessible n
sourced (Zeros a) i within run n = record { mapping = Ok (Zero i); run = run; looked = n }
sourced (File a start name) i within run n =
    pick (leb (start.0 + within) largest) (record { mapping = Ok (Raw i (start.0 + within) (writable a)); run = run; looked = n }) (refused OffsetTooLarge n)

-- in the row that was found. The run is the least of length asked, size less offset, and row end less offset
unfoldable pub in_row : Table → ℕ → ℕ → Search → Mapping
in_row t o asked (nowhere n) = ended n
in_row t o asked (found i n) =
    let r : Row = get_or t.rows i no_row in
    sourced r.source i (o - r.start.0) (min asked (min (t.size.0 - o) (r.end.0 - o))) n

-- where the halving search of a table ends
unfoldable pub search_of : Table → ℕ → Search
search_of t o = halve t.count t.rows 0 t.count o

-- what lies at an offset, for at most the length asked
unfoldable pub map_of : Table → ℕ → ℕ → Mapping
map_of t o asked =
    pick (leb t.count most)
    (pick (leb t.size.0 o) (ended 0) (in_row t o asked (search_of t o)))
    (refused CountTooLarge 0)
