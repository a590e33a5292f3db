-- Sizes, sums and file starts above 2^64-1, the first extent that has one, and its line.
use Rattle.std.specs.Prelude.{ℕ, ◌+◌, ◌*◌, ◌≤◌, ◌<◌, List, [], ◌∷◌, true, ◌≡◌, ◌↔◌, length, take, get_or, Err, Ok}
use Rattle.text.specs.Ranges.{within}
use Rattle.text.specs.Sector.{sector_size, largest}
use Rattle.lines.specs.Record.{no_extent, counted}
use Rattle.lines.specs.Line.{line_of}
use Rattle.lines.specs.declared.line.Said.TheVariants.{Extent}
use Rattle.lines.specs.declared.record.Record.{Record}
use Rattle.lines.specs.declared.record.Refusal.{Refusal}
use Rattle.lines.specs.declared.record.VmdkParsedExtent.{VmdkParsedExtent}
use Rattle.lines.specs.declared.record.VmdkParsedStorage.{VmdkParsedStorage}
use Rattle.lines.specs.declared.record.VmdkParsedStorage.TheVariants.{NoAccess, Zero, Flat}
use Rattle.tables.specs.Build.{build_of}
use Rattle.maps.specs.Alike.{AlikeTables}
use Rattle.maps.specs.Place.{bytes_in, size_of}
use Rattle.theorems.specs.Statements.{ByLine, sayings, sayings_of, extents_in, LineAt, AllSound, last_version}
use Rattle.theorems.specs.Rows.{line_at}

-- read by line, every line is sound, and the last version is 1 to 3: only the sizes are left to be checked
abbrev pub SoundLines : List ℕ → Type 0
SoundLines d = ByLine d × AllSound (sayings_of d) × (within 1 3 (last_version (sayings_of d)) ≡ true)

-- 18: the extent's size, sectors times 512, is above 2^64-1
abbrev pub SizeOver : ℕ → VmdkParsedExtent → Type 0
SizeOver before x = largest < bytes_in x

-- 19: the size is not, but the running sum with it is; `before` is the sum of the sizes before it
abbrev pub SumOver : ℕ → VmdkParsedExtent → Type 0
SumOver before x = (bytes_in x ≤ largest) × (largest < before + bytes_in x)

-- a flat extent's file start times 512 is within 2^64-1; the other kinds have none
abbrev pub StartFits : VmdkParsedStorage → Type 0
StartFits NoAccess = Unit {0}
StartFits (Zero a) = Unit {0}
StartFits (Flat a name start) = start.0 * sector_size ≤ largest

-- a flat extent's file start times 512 is above 2^64-1
abbrev pub FlatOver : VmdkParsedStorage → Type 0
FlatOver NoAccess = ⊥
FlatOver (Zero a) = ⊥
FlatOver (Flat a name start) = largest < start.0 * sector_size

-- 20: neither size nor sum is above 2^64-1, but the file start in bytes is
abbrev pub StartOver : ℕ → VmdkParsedExtent → Type 0
StartOver before x = (before + bytes_in x ≤ largest) × FlatOver x.storage

-- Extent i, counted from 0, is over, and no size or sum before it is: sums only grow, so that the last of them tells of all.
pub record FirstOver (Over : ℕ → VmdkParsedExtent → Type 0) (xs : List VmdkParsedExtent) (i : ℕ) : Type 0 where
  pub below : i < length xs
  pub before : size_of (take i xs) ≤ largest
  pub over : Over (size_of (take i xs)) (get_or xs i no_extent)

-- Line k of a descriptor says an extent, and that extent is the first that is over.
pub record OverAt (Over : ℕ → VmdkParsedExtent → Type 0) (d : List ℕ) (k : ℕ) : Type 0 where
  pub before : List (List ℕ)
  pub line : List ℕ
  pub place : ℕ
  pub there : LineAt d before line place k
  pub extent : VmdkParsedExtent
  pub says : line_of place line ≡ Ok (Extent extent)
  pub first : FirstOver Over (extents_in (sayings_of d)) (length (extents_in (sayings 0 before)))

-- how many extents are said before that line
abbrev pub over_nth : {Over : ℕ → VmdkParsedExtent → Type 0} {k : ℕ} (d : List ℕ) → OverAt Over d k → ℕ
over_nth d o = length (extents_in (sayings 0 o.before))

-- each of some extents has its file start in bytes within 2^64-1
abbrev pub StartsFit : List VmdkParsedExtent → Type 0
StartsFit [] = Unit {0}
StartsFit (x ∷ xs) = StartFits x.storage × StartsFit xs

-- An extent of a record with the line k is the first that is over, and no file start before it is.
pub record OverIn (Over : ℕ → VmdkParsedExtent → Type 0) (r : Record) (k : ℕ) : Type 0 where
  pub nth : ℕ
  pub line : line_at r nth ≡ k
  pub starts : StartsFit (take nth (counted r))
  pub first : FirstOver Over (counted r) nth

-- Two records build alike: both or neither, refused with the same number, and tables that are alike.
pub record BuildAlike (r s : Record) : Type 0 where
  pub sound : ((build_of r).verdict ≡ (Ok tt)) ↔ ((build_of s).verdict ≡ (Ok tt))
  pub number : (x y : Refusal) → (build_of r).verdict ≡ Err x → (build_of s).verdict ≡ Err y → x.fault ≡ y.fault
  pub table : AlikeTables (build_of r).table (build_of s).table
