-- The place that the extents give to each byte of the disk: by the sums of their sizes alone, with no rows and no search.
use Rattle.std.specs.Prelude.{ℕ, suc, ◌+◌, ◌-◌, ◌*◌, ◌≤◌, ◌^◌, List, [], ◌∷◌, Bool, ltb}
use Rattle.text.specs.Ranges.{pick}
use Rattle.text.specs.Sector.{sector_size}
use Rattle.lines.specs.declared.record.VmdkParsedExtent.{VmdkParsedExtent}
use Rattle.lines.specs.declared.record.VmdkParsedStorage.{VmdkParsedStorage}
use Rattle.lines.specs.declared.record.VmdkParsedStorage.TheVariants.{NoAccess, Zero, Flat}
use Rattle.maps.specs.Map.{writable}

-- where a byte of the disk lies: in the extent with this number, locked, zero, or in its file at this offset and writable or not; or past the end
pub data Place : Type 0 where
  past : Place
  locked : ℕ → Place
  zeros : ℕ → Place
  file : ℕ → ℕ → Bool → Place

-- an extent's bytes
abbrev pub bytes_in : VmdkParsedExtent → ℕ
bytes_in x = x.sectors.0 * sector_size

-- the size of a disk of these extents
unfoldable pub size_of : List VmdkParsedExtent → ℕ
size_of [] = 0
size_of (x ∷ xs) = bytes_in x + size_of xs

-- byte o of extent i
abbrev pub within : ℕ → VmdkParsedStorage → ℕ → Place
within i NoAccess o = locked i
within i (Zero a) o = zeros i
within i (Flat a name start) o = file i (start.0 * sector_size + o) (writable a)

-- byte o of the extents from number i on
unfoldable pub place_from : ℕ → List VmdkParsedExtent → ℕ → Place
place_from i [] o = past
place_from i (x ∷ xs) o = pick (ltb o (bytes_in x)) (within i x.storage o) (place_from (suc i) xs (o - bytes_in x))

-- byte o of the disk
unfoldable pub place_of : List VmdkParsedExtent → ℕ → Place
place_of xs o = place_from 0 xs o

-- demand 3's premise: each flat extent's file start plus its length is at most 2^64
abbrev pub Reaches : VmdkParsedExtent → VmdkParsedStorage → Type 0
Reaches x NoAccess = Unit {0}
Reaches x (Zero a) = Unit {0}
Reaches x (Flat a name start) = sector_size * (start.0 + x.sectors.0) ≤ 2 ^ 64

abbrev pub Reachable : List VmdkParsedExtent → Type 0
Reachable [] = Unit {0}
Reachable (x ∷ xs) = Reaches x x.storage × Reachable xs
