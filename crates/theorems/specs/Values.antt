-- What a record holds of a descriptor's values: for each key what the last line with it says, and the start value where there is none.
use Rattle.std.specs.Prelude.{ℕ, List, ◌⊎◌, ◌≡◌, length, Option, Some}
use Rattle.text.specs.Lines.{lines_of}
use Rattle.text.specs.Number.{number_of}
use Rattle.text.specs.Sector.{largest}
use Rattle.text.specs.Text.{trimmed}
use Rattle.keys.specs.declared.key.Geometry.TheVariants.{Sectors, Heads, Cylinders}
use Rattle.lines.specs.Record.{no_text}
use Rattle.lines.specs.Line.{version_limit}
use Rattle.lines.specs.declared.record.Text.{Text}
use Rattle.lines.specs.declared.record.VmdkDesc.{VmdkDesc}
use Rattle.theorems.specs.Statements.{LineAt, text_in}
use Rattle.theorems.specs.Tiling.{All}
use Rattle.theorems.specs.LineWords.{Item, version, cid, parent_cid, create_type, geometry, key_text, KeyLine, unquoted}

-- what is held of an item: a number, or a text by its place and length
pub data Held : Type 0 where
  number : ℕ → Held
  text : Text → Held

-- what a record's values are, one by one
abbrev pub held_in : VmdkDesc → Item → Held
held_in r version = number r.version
held_in r cid = text r.cid
held_in r parent_cid = text r.parent_cid
held_in r create_type = text r.create_type
held_in r (geometry Sectors) = number r.sectors
held_in r (geometry Heads) = number r.heads
held_in r (geometry Cylinders) = number r.cylinders

-- start values are 0 and empty
abbrev pub start_of : Item → Held
start_of version = number 0
start_of cid = text no_text
start_of parent_cid = text no_text
start_of create_type = text no_text
start_of (geometry g) = number 0

-- what a trimmed value says: a number, or a text
pub data Meaning : Type 0 where
  numeral : Option ℕ → Meaning
  letters : List ℕ → Meaning

-- `version`: a number, quotes not stripped; `CID`, `parentCID`: the text as it stands; `createType`: quotes stripped; the geometry: quotes stripped, then a number
abbrev pub meant : Item → List ℕ → Meaning
meant version v = numeral (number_of version_limit v)
meant cid v = letters v
meant parent_cid v = letters v
meant create_type v = letters (unquoted v)
meant (geometry g) v = numeral (number_of largest (unquoted v))

-- that number is held, or a text that has these bytes in the descriptor d; an empty text is place 0, length 0
abbrev pub Holds : List ℕ → Held → Meaning → Type 0
Holds d (number n) (numeral m) = m ≡ Some n
Holds d (text x) (letters v) = (text_in d x ≡ v) × (x.length ≡ length v) × (x.length ≡ 0 → x.place ≡ 0)
Holds d (number n) (letters v) = ⊥
Holds d (text x) (numeral m) = ⊥

-- none of some lines has a key
abbrev pub NoneHas : List ℕ → List (List ℕ) → Type 0
NoneHas key ls = All (λ (l : List ℕ). (value : List ℕ) → KeyLine (trimmed l) key value → ⊥) ls

-- the last line that has an item's key, of which h is held
pub record LastLine (d : List ℕ) (i : Item) (h : Held) : Type 0 where
  pub before : List (List ℕ)
  pub line : List ℕ
  pub place : ℕ
  pub k : ℕ
  pub at : LineAt d before line place k
  pub value : List ℕ
  pub has : KeyLine (trimmed line) (key_text i) value
  pub says : Holds d h (meant i value)
  pub last : NoneHas (key_text i) at.after

-- h is what the last line with the item's key says, or the start value where there is none
abbrev pub LastSaid : List ℕ → Item → Held → Type 0
LastSaid d i h = (NoneHas (key_text i) (lines_of d) × (h ≡ start_of i)) ⊎ LastLine d i h
