-- Where mapping is refused, by the place that the extents give to the offset, and where a walk stops for it.
use Rattle.std.specs.Prelude.{ℕ, ◌+◌, ◌<◌, min, List, Bool, ◌≡◌, length}
use Rattle.text.specs.Sector.{largest}
use Rattle.lines.specs.Record.{most}
use Rattle.lines.specs.declared.record.VmdkParsedExtent.{VmdkParsedExtent}
use Rattle.maps.specs.Place.{locked, file, place_of}
use Rattle.maps.specs.Walk.{Walk}

-- 21: byte o of the disk lies in an extent of no access
abbrev pub NoAccessAt : List VmdkParsedExtent → ℕ → Type 0
NoAccessAt xs o = (i : ℕ) × (place_of xs o ≡ locked i)

-- 22: byte o of the disk lies in a file, at an offset above 2^64-1
abbrev pub FileOverAt : List VmdkParsedExtent → ℕ → Type 0
FileOverAt xs o = (i f : ℕ) × (w : Bool) × (place_of xs o ≡ file i f w) × (largest < f)

-- A walk over a length from a start, into a list of so many places, has reached a position which is so, and there length is left and the list has room.
pub record StopsWhere (So : ℕ → Type 0) (places start long : ℕ) (w : Walk) : Type 0 where
  pub left : w.position < start + long
  pub room : length w.pieces < min places most
  pub so : So w.position
