-- The rows of a table, and the bytes of the disk, with the name of their file as it stands in the descriptor's own lines.
use Rattle.std.specs.Prelude.{ℕ, ◌+◌, ◌-◌, ◌*◌, ◌<◌, ◌≤◌, min, List, [], ◌∷◌, Bool, ◌≡◌, ◌↔◌, length, eqb, leb, ltb, Err, Ok, Result}
use Rattle.text.specs.Ranges.{pick}
use Rattle.text.specs.Text.{trimmed}
use Rattle.text.specs.Lines.{lines_of}
use Rattle.text.specs.Sector.{sector_size, largest}
use Rattle.text.specs.declared.sector.Bytes.{Bytes}
use Rattle.lines.specs.Line.{line_of}
use Rattle.lines.specs.declared.line.Said.TheVariants.{Nothing, Extent, Set}
use Rattle.lines.specs.declared.record.Record.{Record}
use Rattle.lines.specs.declared.record.Text.{Text}
use Rattle.lines.specs.declared.record.VmdkAccessType.{VmdkAccessType}
use Rattle.lines.specs.declared.record.VmdkParsedExtent.{VmdkParsedExtent}
use Rattle.lines.specs.declared.record.VmdkParsedStorage.{VmdkParsedStorage}
use Rattle.lines.specs.declared.record.VmdkParsedStorage.TheVariants.{NoAccess, Zero, Flat}
use Rattle.tables.specs.declared.table.Source.{Source}
use Rattle.tables.specs.declared.table.Source.TheVariants.{NoAccess as Locked, Zero as Zeros, Flat as File}
use Rattle.tables.specs.declared.table.Table.{Table}
use Rattle.tables.specs.declared.table.Piece.{Piece}
use Rattle.tables.specs.declared.table.PieceSource.{PieceSource}
use Rattle.tables.specs.declared.table.PieceSource.TheVariants.{Zero as ZeroPiece, Raw as RawPiece}
use Rattle.tables.specs.declared.table.ShallowMapping.TheVariants.{Eof, Zero as ZeroAt, Raw}
use Rattle.lines.specs.declared.line.Said.{Said}
use Rattle.tables.specs.declared.table.ShallowMapping.{ShallowMapping}
use Rattle.lines.specs.declared.record.Fault.{Fault}
use Rattle.lines.specs.declared.record.Fault.TheVariants.{Inaccessible, OffsetTooLarge}
use Rattle.maps.specs.Map.{writable, map_of}
use Rattle.maps.specs.Place.{bytes_in, size_of, place_of}
use Rattle.maps.specs.Walk.{Walk}
use Rattle.theorems.specs.Statements.{sayings, sayings_of, extents_in, LineAt, text_in, ExtentIn}
use Rattle.theorems.specs.Rows.{source_of, row_at, line_at, extent_at}
use Rattle.theorems.specs.Maps.{rest_of, shown}
use Rattle.theorems.specs.Tiling.{All, Tiles}

-- ---- the name in a line
-- a text up to its first byte b, all of it where there is none
unfoldable pub up_to : ℕ → List ℕ → List ℕ
up_to b [] = []
up_to b (x ∷ r) = pick (eqb x b) [] (x ∷ up_to b r)

-- a text from behind its first byte b on, nothing where there is none
unfoldable pub behind : ℕ → List ℕ → List ℕ
behind b [] = []
behind b (x ∷ r) = pick (eqb x b) r (behind b r)

-- the text between a line's first two `"`
unfoldable pub in_quotes : List ℕ → List ℕ
in_quotes l = up_to 0x22 (behind 0x22 l)

-- ---- the line of a read extent, and of a row
-- Extent i of a record is said by the i-th line, counted from 0, of those that say one, and has that line's number.
pub record ExtentFrom (d : List ℕ) (r : Record) (i : ℕ) : Type 0 where
  pub before : List (List ℕ)
  pub line : List ℕ
  pub place : ℕ
  pub number : ℕ
  pub there : LineAt d before line place number
  -- exactly i extents are said before it
  pub nth : i ≡ length (extents_in (sayings 0 before))
  pub says : line_of place line ≡ Ok (Extent (extent_at r i))
  pub lined : line_at r i ≡ number

-- Row i is the i-th line, counted from 0, of those that say an extent.
pub record FromLine (d : List ℕ) (t : Table) (i : ℕ) : Type 0 where
  -- the line with a number, counted from 1, which lies at a place
  pub before : List (List ℕ)
  pub line : List ℕ
  pub place : ℕ
  pub number : ℕ
  pub there : LineAt d before line place number
  -- exactly i extents are said before it
  pub nth : length (extents_in (sayings 0 before)) ≡ i
  -- it says an extent, each word with the extent's value
  pub extent : VmdkParsedExtent
  pub says : line_of place line ≡ Ok (Extent extent)
  pub words : ExtentIn d (trimmed line) extent
  -- the row has that line's number, is as long as that extent, and has its source
  pub lined : (row_at t i).line ≡ number
  pub long : (row_at t i).end.0 ≡ (row_at t i).start.0 + bytes_in extent
  pub source : (row_at t i).source ≡ source_of extent.storage
  -- where it is flat, its name is, in the descriptor, the trimmed text between the line's first two `"`
  pub named : (a : VmdkAccessType) (start : Bytes) (name : Text) → (row_at t i).source ≡ File a start name → text_in d name ≡ trimmed (in_quotes line)
  -- no other line says an extent after exactly i extents
  pub only : (before' : List (List ℕ)) (l : List ℕ) (p k : ℕ) (x : VmdkParsedExtent) → LineAt d before' l p k → line_of p l ≡ Ok (Extent x) → length (extents_in (sayings 0 before')) ≡ i → k ≡ number

-- ---- the place that the lines give to a byte
-- where a byte of the disk lies: past the end, without access, among zeros, or in the file with this name at this offset, writable or not
pub data NamedPlace : Type 0 where
  past : NamedPlace
  locked : NamedPlace
  zeros : NamedPlace
  file : List ℕ → ℕ → Bool → NamedPlace

-- byte o of the extent that a line says; the name is the line's
abbrev pub byte_by : List ℕ → VmdkParsedStorage → ℕ → NamedPlace
byte_by l NoAccess o = locked
byte_by l (Zero a) o = zeros
byte_by l (Flat a name start) o = file (trimmed (in_quotes l)) (start.0 * sector_size + o) (writable a)

-- byte o by a line that says so: in its extent, or, with the extent's bytes taken off, by the lines after it
abbrev pub byte_from : List ℕ → Result Said Fault → ℕ → (ℕ → NamedPlace) → NamedPlace
byte_from l (Ok (Extent x)) o after = pick (ltb o (bytes_in x)) (byte_by l x.storage o) (after (o - bytes_in x))
byte_from l (Ok Nothing) o after = after o
byte_from l (Ok (Set v)) o after = after o
byte_from l (Err n) o after = after o

-- byte o by some lines, the first of which lies at the place p of the descriptor
unfoldable pub place_by : ℕ → List (List ℕ) → ℕ → NamedPlace
place_by p [] o = past
place_by p (l ∷ ls) o = byte_from l (line_of p l) o (λ o. place_by (p + length l + 1) ls o)

-- the place that a descriptor's own lines give to byte o of the disk
unfoldable pub place_in : List ℕ → ℕ → NamedPlace
place_in d o = place_by 0 (lines_of d) o

-- ---- what a caller has in hand
-- the bytes that the name of a source has in the descriptor; none where it is not flat
abbrev pub name_of : List ℕ → Source → List ℕ
name_of d Locked = []
name_of d (Zeros a) = []
name_of d (File a start name) = text_in d name

-- the name of row i
abbrev pub name_at : List ℕ → Table → ℕ → List ℕ
name_at d t i = name_of d (row_at t i).source

-- what a mapping shows: a place, or a refusal
pub data Seen : Type 0 where
  at : NamedPlace → Seen
  refused : Fault → Seen

-- what a mapping shows a caller who reads the row's name
abbrev pub seen_by : List ℕ → Table → Result ShallowMapping Fault → Seen
seen_by d t (Ok Eof) = at past
seen_by d t (Ok (ZeroAt i)) = at zeros
seen_by d t (Ok (Raw i f w)) = at (file (name_at d t i) f w)
seen_by d t (Err f) = refused f

-- what is due at a place: 21 for no access, and 22 where the file offset is above 2^64-1
abbrev pub due_at : NamedPlace → Seen
due_at past = at past
due_at locked = refused Inaccessible
due_at zeros = at zeros
due_at (file name f w) = pick (leb f largest) (at (file name f w)) (refused OffsetTooLarge)

-- a byte in a file, at an offset above 2^64-1
abbrev pub TooFar : NamedPlace → Type 0
TooFar q = (name : List ℕ) × (f : ℕ) × (w : Bool) × (q ≡ file name f w) × (largest < f)

-- the run there, of so many bytes: 0 at the end and on a refusal
abbrev pub run_by : NamedPlace → ℕ → ℕ
run_by past run = 0
run_by locked run = 0
run_by zeros run = run
run_by (file name f w) run = pick (leb f largest) run 0

-- Mapping an offset of a table equals the place that the descriptor's own lines give to it.
pub record MapsNamed (d : List ℕ) (t : Table) (o asked : ℕ) : Type 0 where
  -- kind, name, file offset and writable; 21 and 22 where they are due
  pub shows : seen_by d t (map_of t o asked).mapping ≡ due_at (place_in d o)
  -- 21 exactly for no access, and 22 exactly for a file offset above 2^64-1
  pub no_access : (map_of t o asked).mapping ≡ Err Inaccessible ↔ place_in d o ≡ locked
  pub too_far : (map_of t o asked).mapping ≡ Err OffsetTooLarge ↔ TooFar (place_in d o)
  -- the place is past the end exactly at or past the sum of the extents' sizes
  pub end : place_in d o ≡ past ↔ size_of (extents_in (sayings_of d)) ≤ o
  -- the run is the least of the length asked and what is left of the extent
  pub run : (map_of t o asked).run ≡ run_by (place_in d o) (min asked (rest_of (extents_in (sayings_of d)) o))
  -- the row's number is the extent's
  pub row : (map_of t o asked).mapping ≡ shown (place_of (extents_in (sayings_of d)) o)

-- where byte k of a piece lies
abbrev pub piece_byte : List ℕ → Table → PieceSource → ℕ → ℕ → Bool → ℕ → NamedPlace
piece_byte d t ZeroPiece i f w k = zeros
piece_byte d t RawPiece i f w k = file (name_at d t i) (f + k) w

-- every byte of a piece has the place that the descriptor's own lines give it
abbrev pub PlacedBy : List ℕ → Table → Piece → Type 0
PlacedBy d t p =
    (k : ℕ) → k < p.run → place_in d (p.start + k) ≡ piece_byte d t p.source p.row p.file_offset p.writable k

-- Demand 3 with names, of a walk over a table of a descriptor, from a start and for a length
pub record TilesNamed (d : List ℕ) (t : Table) (start long : ℕ) (w : Walk) : Type 0 where
  -- the pieces tile the range
  pub tiles : Tiles (extents_in (sayings_of d)) start long w
  -- and for every byte of every piece, kind, name, file offset and writable are those that the descriptor's own lines give to that byte of the disk
  pub names : All (PlacedBy d t) w.pieces
