-- The words of a line: those of an extent line, in their order, and the key and the value of any other.
use Rattle.std.specs.Prelude.{ℕ, ◌+◌, ◌<◌, List, ◌∷◌, ◌++◌, ◌⊎◌, false, ◌≡◌, length, take, Some}
use Rattle.text.specs.Ascii.{ascii}
use Rattle.text.specs.Find.{begins, strip_of, part_of}
use Rattle.text.specs.Lines.{count}
use Rattle.text.specs.Text.{trimmed}
use Rattle.text.specs.Sector.{sectors_of}
use Rattle.text.specs.declared.sector.Sectors.{Sectors}
use Rattle.keys.specs.declared.key.Geometry.{Geometry}
use Rattle.keys.specs.declared.key.Geometry.TheVariants.{Sectors as Geometry-as-Sectors, Heads, Cylinders}
use Rattle.lines.specs.Kept.{kept_of}
use Rattle.lines.specs.Line.{first_blank, skipped}
use Rattle.lines.specs.declared.record.VmdkAccessType.{VmdkAccessType}
use Rattle.lines.specs.declared.record.VmdkParsedStorage.{VmdkParsedStorage}
use Rattle.lines.specs.declared.record.VmdkParsedStorage.TheVariants.{NoAccess, Zero as Zeros, Flat as File}
use Rattle.theorems.specs.Statements.{NextWord, Quotes, access_text}

-- ---- an extent line
-- RW, RDONLY or NOACCESS
abbrev pub IsAccess : List ℕ → Type 0
IsAccess w = ((a : VmdkAccessType) × (w ≡ access_text a)) ⊎ (w ≡ ascii "NOACCESS")

-- a trimmed line has a blank, the text before the first is `access`, and the second word is `second`, which ends at a place
pub record AccessLine (t access second : List ℕ) (end : ℕ) : Type 0 where
  pub blank : first_blank t < length t
  pub first : take (first_blank t) t ≡ access
  pub word : NextWord t (first_blank t) second end

-- a trimmed line starts with RW or RDONLY, and its second word, which ends at a place, is a count of sectors
pub record CountedLine (t : List ℕ) (a : VmdkAccessType) (s : Sectors) (end : ℕ) : Type 0 where
  pub second : List ℕ
  pub line : AccessLine t (access_text a) second end
  pub sectors : sectors_of second ≡ Some s

-- the same, and its third word is FLAT
pub record FlatLine (t : List ℕ) (a : VmdkAccessType) (s : Sectors) : Type 0 where
  pub end : ℕ
  pub line : CountedLine t a s end
  pub third_end : ℕ
  pub third : NextWord t end (ascii "FLAT") third_end

-- a file's name is kept where the middle, trimmed, lies: between the first two `"` of the line l, which lies at the place p
abbrev pub NameAt : ℕ → List ℕ → VmdkParsedStorage → Type 0
NameAt p l NoAccess = Unit {0}
NameAt p l (Zeros a) = Unit {0}
NameAt p l (File a name start) =
    (before middle after : List ℕ) × Quotes l before middle after × (name ≡ kept_of (p + (length before + 1)) middle)

-- ---- any other line
-- what a descriptor's lines set
pub data Item : Type 0 where
  version : Item
  cid : Item
  parent_cid : Item
  create_type : Item
  geometry : Geometry → Item

-- the keys that are known and read
abbrev pub key_text : Item → List ℕ
key_text version = ascii "version"
key_text cid = ascii "CID"
key_text parent_cid = ascii "parentCID"
key_text create_type = ascii "createType"
key_text (geometry Geometry-as-Sectors) = ascii "ddb.geometry.sectors"
key_text (geometry Heads) = ascii "ddb.geometry.heads"
key_text (geometry Cylinders) = ascii "ddb.geometry.cylinders"

-- the key that is known and refused
abbrev pub hint_key : List ℕ
hint_key = ascii "parentFileNameHint"

-- a key that is neither of them and does not start `ddb.`
abbrev pub UnknownKey : List ℕ → Type 0
UnknownKey key = ((i : Item) → key ≡ key_text i → ⊥) × (key ≡ hint_key → ⊥) × (begins key (ascii "ddb.") ≡ false)

-- a trimmed line is not empty, starts with no `#` and is no extent line; before its first `=` stands the key and after it the value, both trimmed
pub record KeyLine (t key value : List ℕ) : Type 0 where
  pub read : skipped t ≡ false
  pub no_extent : first_blank t < length t → IsAccess (take (first_blank t) t) → ⊥
  pub before : List ℕ
  pub after : List ℕ
  pub whole : t ≡ before ++ 0x3D ∷ after
  pub first : count 0x3D before ≡ 0
  pub named : trimmed before ≡ key
  pub says : trimmed after ≡ value

-- a text without its quotes
abbrev pub unquoted : List ℕ → List ℕ
unquoted v = part_of v (strip_of v)
