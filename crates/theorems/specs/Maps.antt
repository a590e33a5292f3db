-- What mapping answers, told by the place that the extents give to the offset and by the sums of their sizes alone.
use Rattle.std.specs.Prelude.{ℕ, ◌-◌, ◌≤◌, min, List, [], ◌∷◌, ◌≡◌, ◌↔◌, leb, ltb, Err, Ok, Result}
use Rattle.text.specs.Ranges.{pick}
use Rattle.text.specs.Sector.{largest}
use Rattle.lines.specs.declared.record.VmdkParsedExtent.{VmdkParsedExtent}
use Rattle.tables.specs.declared.table.Table.{Table}
use Rattle.tables.specs.declared.table.ShallowMapping.TheVariants.{Eof, Zero, Raw}
use Rattle.tables.specs.declared.table.ShallowMapping.{ShallowMapping}
use Rattle.lines.specs.declared.record.Fault.{Fault}
use Rattle.lines.specs.declared.record.Fault.TheVariants.{Inaccessible, OffsetTooLarge}
use Rattle.maps.specs.Map.{map_of}
use Rattle.maps.specs.Place.{Place, past, locked, zeros, file, bytes_in, size_of, place_of}

-- what is left of the extent that holds byte o, from that byte on; nothing past the end
unfoldable pub rest_of : List VmdkParsedExtent → ℕ → ℕ
rest_of [] o = 0
rest_of (x ∷ xs) o = pick (ltb o (bytes_in x)) (bytes_in x - o) (rest_of xs (o - bytes_in x))

-- what mapping says of a place: 21 for no access, and 22 where the file offset is above 2^64-1
abbrev pub shown : Place → Result ShallowMapping Fault
shown past = (Ok Eof)
shown (locked i) = Err Inaccessible
shown (zeros i) = Ok (Zero i)
shown (file i f w) = pick (leb f largest) (Ok (Raw i f w)) (Err OffsetTooLarge)

-- the run there, of so many bytes: 0 at the end and on a refusal
abbrev pub run_at : Place → ℕ → ℕ
run_at past run = 0
run_at (locked i) run = 0
run_at (zeros i) run = run
run_at (file i f w) run = pick (leb f largest) run 0

-- Mapping an offset of a table equals the place that the record's extents give to it.
pub record MapsBy (xs : List VmdkParsedExtent) (t : Table) (o asked : ℕ) : Type 0 where
  -- the place is past the end exactly at or past the size
  pub end : place_of xs o ≡ past ↔ size_of xs ≤ o
  -- kind, extent number, file offset and writable; 21 and 22 exactly where they are due
  pub mapping : (map_of t o asked).mapping ≡ shown (place_of xs o)
  -- the run is the least of the length asked and what is left of the extent
  pub run : (map_of t o asked).run ≡ run_at (place_of xs o) (min asked (rest_of xs o))
