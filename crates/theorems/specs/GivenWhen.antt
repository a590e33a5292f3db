-- The table "given exactly when" for one line, 5 to 15: each number, and what the trimmed line's words are then.
use Rattle.std.specs.Prelude.{ℕ, List, true, false, ◌≡◌, length, None, Ok}
use Rattle.text.specs.Ascii.{ascii}
use Rattle.text.specs.Lines.{count}
use Rattle.text.specs.Number.{number_of}
use Rattle.text.specs.Sector.{sectors_of, largest}
use Rattle.text.specs.Text.{trimmed, word_of}
use Rattle.text.specs.declared.sector.Sectors.{Sectors}
use Rattle.keys.specs.declared.key.Geometry.{Geometry}
use Rattle.lines.specs.Extent.{three_words}
use Rattle.lines.specs.Line.{version_limit, line_of}
use Rattle.lines.specs.Record.{most}
use Rattle.lines.specs.declared.line.Said.TheVariants.{Extent}
use Rattle.lines.specs.declared.record.VmdkAccessType.{VmdkAccessType}
use Rattle.lines.specs.declared.record.VmdkParsedExtent.{VmdkParsedExtent}
use Rattle.lines.specs.declared.record.Fault.{Fault}
use Rattle.lines.specs.declared.record.Fault.TheVariants.{SectorCount, NoType, OtherType, NoQuote, OneQuote, NotThreeWords, FileStart, VersionNumber, ParentHint, GeometryNumber, OtherKey}
use Rattle.theorems.specs.Statements.{NextWord, Quotes, LineAt, sayings, extents_in, AllSound}
use Rattle.theorems.specs.LineWords.{IsAccess, AccessLine, CountedLine, FlatLine, KeyLine, version, geometry, key_text, hint_key, UnknownKey, unquoted}

-- what can be wrong with a line that is UTF-8, in the table's order
pub data LineFault : Type 0 where
  sector_count : LineFault
  third_missing : LineFault
  third_other : LineFault
  no_quote : LineFault
  one_quote : LineFault
  not_three_words : LineFault
  file_start : LineFault
  version_number : LineFault
  parent_hint : LineFault
  geometry_number : LineFault
  unknown_key : LineFault

-- the fault that it is refused with
abbrev pub line_fault : LineFault → Fault
line_fault sector_count = SectorCount
line_fault third_missing = NoType
line_fault third_other = OtherType
line_fault no_quote = NoQuote
line_fault one_quote = OneQuote
line_fault not_three_words = NotThreeWords
line_fault file_start = FileStart
line_fault version_number = VersionNumber
line_fault parent_hint = ParentHint
line_fault geometry_number = GeometryNumber
line_fault unknown_key = OtherKey

-- a trimmed line t has it
abbrev pub When : LineFault → List ℕ → Type 0
-- 5: the second word of an extent line is no number
When sector_count t =
    (access second : List ℕ) × (end : ℕ) × AccessLine t access second end × IsAccess access × (sectors_of second ≡ None)
-- 6: an RW or RDONLY line has no third word
When third_missing t =
    (a : VmdkAccessType) × (s : Sectors) × (end : ℕ) × CountedLine t a s end × (word_of t end ≡ None)
-- 7: its third word is neither ZERO nor FLAT
When third_other t =
    (a : VmdkAccessType) × (s : Sectors) × (end : ℕ) × CountedLine t a s end × (third : List ℕ) × (e : ℕ) × NextWord t end third e × (third ≡ ascii "ZERO" → ⊥) × (third ≡ ascii "FLAT" → ⊥)
-- 8: it is FLAT, and there is no `"`
When no_quote t = (a : VmdkAccessType) × (s : Sectors) × FlatLine t a s × (count 0x22 t ≡ 0)
-- 9: it is FLAT, and there is only one
When one_quote t = (a : VmdkAccessType) × (s : Sectors) × FlatLine t a s × (count 0x22 t ≡ 1)
-- 10: it is FLAT, and what stands before the first two is not three words
When not_three_words t =
    (a : VmdkAccessType) × (s : Sectors) × FlatLine t a s × (before middle after : List ℕ) × Quotes t before middle after × (three_words before ≡ false)
-- 11: it is, but the first word after them is no number
When file_start t =
    (a : VmdkAccessType) × (s : Sectors) × FlatLine t a s × (before middle after : List ℕ) × Quotes t before middle after × (three_words before ≡ true) × (word : List ℕ) × (e : ℕ) × NextWord after 0 word e × (sectors_of word ≡ None)
-- 12: the value of `version` is no number up to 2^32-1
When version_number t = (value : List ℕ) × KeyLine t (key_text version) value × (number_of version_limit value ≡ None)
-- 13: the key is `parentFileNameHint`
When parent_hint t = (value : List ℕ) × KeyLine t hint_key value
-- 14: the value of a key of the geometry, its quotes stripped, is no number
When geometry_number t =
    (g : Geometry) × (value : List ℕ) × KeyLine t (key_text (geometry g)) value × (number_of largest (unquoted value) ≡ None)
-- 15: the key is unknown
When unknown_key t = (key value : List ℕ) × KeyLine t key value × UnknownKey key

-- line k of a descriptor, after lines that are all sound, has a fault
pub record FirstFault (d : List ℕ) (f : LineFault) (k : ℕ) : Type 0 where
  pub before : List (List ℕ)
  pub line : List ℕ
  pub place : ℕ
  pub at : LineAt d before line place k
  pub sound : AllSound (sayings 0 before)
  pub fault : When f (trimmed line)

-- 16: line k of a descriptor, after lines that are all sound and say as many extents as a record has room for, says one more
pub record OneMore (d : List ℕ) (k : ℕ) : Type 0 where
  pub before : List (List ℕ)
  pub line : List ℕ
  pub place : ℕ
  pub at : LineAt d before line place k
  pub sound : AllSound (sayings 0 before)
  pub full : length (extents_in (sayings 0 before)) ≡ most
  pub extent : VmdkParsedExtent
  pub says : line_of place line ≡ Ok (Extent extent)
