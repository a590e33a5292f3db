-- What demand 3 says of a walk's pieces, in terms of the places that the extents give to the bytes of the disk.
use Rattle.std.specs.Prelude.{ℕ, zero, suc, ◌+◌, ◌-◌, ◌*◌, ◌<◌, ◌≤◌, min, max, Bool, true, false, ◌≡◌, ◌↔◌, ◌⊎◌, length, ltb, Err, Ok}
use mathlib.Core.List.{List, [], ◌∷◌, map, Memᴰ}
use Rattle.std.proofs.Math.Option.{Option, none, some}
use Rattle.text.specs.Ranges.{pick}
use Rattle.lines.specs.declared.record.VmdkParsedExtent.{VmdkParsedExtent}
use Rattle.lines.specs.declared.record.VmdkParsedStorage.{VmdkParsedStorage}
use Rattle.lines.specs.declared.record.VmdkParsedStorage.TheVariants.{NoAccess, Zero, Flat}
use Rattle.tables.specs.declared.table.Piece.{Piece}
use Rattle.tables.specs.declared.table.PieceSource.{PieceSource}
use Rattle.tables.specs.declared.table.PieceSource.TheVariants.{Zero as Zeros, Raw as File}
use Rattle.tables.specs.declared.table.Stop.TheVariants.{Done}
use Rattle.lines.specs.declared.record.Fault.TheVariants.{Inaccessible}
use Rattle.maps.specs.Place.{Place, past, locked, zeros, file, bytes_in, size_of, place_of}
use Rattle.maps.specs.Walk.{Walk}

-- each element of a list is so
abbrev pub All : {A : Type 0} → (A → Type 0) → List A → Type 0
All P [] = Unit {0}
All P (x ∷ xs) = P x × All P xs

-- pieces that follow each other without gap or overlap from one place to another, none of them empty
abbrev pub Follow : ℕ → List Piece → ℕ → Type 0
Follow from [] to = from ≡ to
Follow from (p ∷ ps) to = (p.start ≡ from) × (0 < p.run) × Follow (from + p.run) ps to

-- no access at a place
abbrev pub is_locked : Place → Bool
is_locked past = false
is_locked (locked i) = true
is_locked (zeros i) = false
is_locked (file i f w) = false

-- the first no-access byte of the n bytes from a place on, or the place after them
unfoldable pub first_locked : List VmdkParsedExtent → ℕ → ℕ → ℕ
first_locked xs zero at = at
first_locked xs (suc n) at = pick (is_locked (place_of xs at)) at (first_locked xs n (suc at))

-- the first no-access byte of the disk at or after a place; where there is none, the disk's end, or the place itself if that is past it
abbrev pub no_access_from : List VmdkParsedExtent → ℕ → ℕ
no_access_from xs start = first_locked xs (size_of xs - start) start

-- The first no-access byte at or after a place: no byte before it is locked, and it is, or the disk has ended.
pub record FirstNoAccess (xs : List VmdkParsedExtent) (start o : ℕ) : Type 0 where
  pub from : start ≤ o
  pub before : (a : ℕ) → start ≤ a → a < o → is_locked (place_of xs a) ≡ false
  pub there : (is_locked (place_of xs o) ≡ true) ⊎ (size_of xs ≤ o)

-- a no-access byte lies in the range from a place up to another or the disk's end
abbrev pub Meets : List VmdkParsedExtent → ℕ → ℕ → Type 0
Meets xs from to = (o : ℕ) × (from ≤ o) × (o < min to (size_of xs)) × (is_locked (place_of xs o) ≡ true)

-- where byte d of a piece lies
abbrev pub source_at : PieceSource → ℕ → ℕ → Bool → ℕ → Place
source_at Zeros i at w d = zeros i
source_at File i at w d = file i (at + d) w

abbrev pub byte_of : Piece → ℕ → Place
byte_of p d = source_at p.source p.row p.file_offset p.writable d

-- every byte of a piece has the place that the extents give it
abbrev pub Placed : List VmdkParsedExtent → Piece → Type 0
Placed xs p = (d : ℕ) → d < p.run → place_of xs (p.start + d) ≡ byte_of p d

-- a zero piece has file offset 0 and is not writable
abbrev pub ZeroPlain : Piece → Type 0
ZeroPlain p = p.source ≡ Zeros → (p.file_offset ≡ 0) × (p.writable ≡ false)

-- the rows of pieces
abbrev pub rows_of : List Piece → List ℕ
rows_of ps = map (λ (p : Piece). p.row) ps

-- an extent that can be read
abbrev pub readable : VmdkParsedStorage → Bool
readable NoAccess = false
readable (Zero a) = true
readable (Flat a name start) = true

-- the extent from one place up to another shares a byte with a range
abbrev pub shares : ℕ → ℕ → ℕ → ℕ → Bool
shares begin end from to = ltb (max begin from) (min end to)

-- the numbers, in order, of the readable extents that share a byte with a range, and so are not empty; the extents start at a place, and are numbered from i on
unfoldable pub met_from : ℕ → ℕ → List VmdkParsedExtent → ℕ → ℕ → List ℕ
met_from begin i [] from to = []
met_from begin i (x ∷ xs) from to =
    let rest : List ℕ = met_from (begin + bytes_in x) (suc i) xs from to in
    pick (readable x.storage) (pick (shares begin (begin + bytes_in x) from to) (i ∷ rest) rest) rest

unfoldable pub met_by : List VmdkParsedExtent → ℕ → ℕ → List ℕ
met_by xs from to = met_from 0 0 xs from to

-- a range of the disk, up to its end, which is not included
pub record Range : Type 0 where
  pub from : ℕ
  pub upto : ℕ

-- ranges, empty ones allowed, that follow each other from one place to another
abbrev pub Chain : ℕ → List Range → ℕ → Type 0
Chain from [] to = from ≡ to
Chain from (r ∷ rs) to = (r.from ≡ from) × (from ≤ r.upto) × Chain r.upto rs to

-- the number of the extent in which a byte lies
abbrev pub number_of : Place → Option ℕ
number_of past = none
number_of (locked i) = some i
number_of (zeros i) = some i
number_of (file i f w) = some i

-- a byte that can be read, of the extent with a number, lies in a range
abbrev pub ReadsIn : List VmdkParsedExtent → ℕ → ℕ → ℕ → Type 0
ReadsIn xs i from to =
    (o : ℕ) × (from ≤ o) × (o < to) × (number_of (place_of xs o) ≡ some i) × (is_locked (place_of xs o) ≡ false)

-- numbers that rise, from one on
abbrev pub Rise : ℕ → List ℕ → Type 0
Rise i [] = Unit {0}
Rise i (k ∷ ks) = (i ≤ k) × Rise (suc k) ks

-- The list of the extents met: those of which a byte that can be read lies in the range, each once, in their order.
pub record Met (xs : List VmdkParsedExtent) (from to : ℕ) (is : List ℕ) : Type 0 where
  pub those : (i : ℕ) → Memᴰ i is ↔ ReadsIn xs i from to
  pub order : Rise 0 is

-- all bytes of a range lie in one extent
abbrev pub InOne : List VmdkParsedExtent → Range → Type 0
InOne xs r =
    (a b : ℕ) → r.from ≤ a → a < r.upto → r.from ≤ b → b < r.upto → number_of (place_of xs a) ≡ number_of (place_of xs b)

-- Demand 3, of a walk over a disk of these extents, from a start and for a length
pub record Tiles (xs : List VmdkParsedExtent) (start long : ℕ) (w : Walk) : Type 0 where
  -- (a) the pieces follow each other without gap or overlap from the start, none of them empty; the last ends at the position reached
  pub follow : Follow start w.pieces w.position
  -- there are none exactly if that is the start
  pub no_pieces : w.pieces ≡ [] ↔ w.position ≡ start
  -- (b) the position reached is the first of the range's end, the disk's end and a no-access byte, or the start if that is past them
  pub position : w.position ≡ max start (min (start + long) (min (size_of xs) (no_access_from xs start)))
  -- (c) every byte in a piece has the place that the extents give it: kind, extent number, file offset, writable
  pub places : All (Placed xs) w.pieces
  pub zero_pieces : All ZeroPlain w.pieces
  -- (d) the k-th piece lies in the k-th non-empty readable extent that shares a byte with the tiled range, and the counts are equal
  pub one_each : rows_of w.pieces ≡ met_by xs start w.position
  -- (e) no tiling by ranges that each lie in one extent is shorter
  pub least : (rs : List Range) → Chain start rs w.position → All (InOne xs) rs → length w.pieces ≤ length rs
  -- (f) the stop is refusal 21 exactly if a no-access byte lies in the range, and otherwise Done: never More and never 22
  pub refused : w.stop ≡ Err Inaccessible ↔ Meets xs start (start + long)
  pub otherwise : (w.stop ≡ Err Inaccessible) ⊎ (w.stop ≡ (Ok Done))
  -- (g) rows looked at: at most 11 for each piece and 11 besides
  pub few : w.looked ≤ 11 * length w.pieces + 11
