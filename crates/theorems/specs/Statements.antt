-- The words of the theorems: what the lines of a descriptor say, which line is refused, and which versions are said.
use Rattle.std.specs.Prelude.{ℕ, suc, ◌+◌, ◌≤◌, ◌<◌, List, [], ◌∷◌, ◌++◌, Bool, true, false, ◌≡◌, length, take, drop, Err, Ok, Option, Result, Some}
use Rattle.text.specs.Find.{begins}
use Rattle.text.specs.Lines.{lines_of, count}
use Rattle.text.specs.Text.{trimmed, word_of}
use Rattle.text.specs.Sector.{sectors_of}
use Rattle.lines.specs.Record.{most, most_bytes, at_line}
use Rattle.text.specs.Ascii.{ascii}
use Rattle.lines.specs.Extent.{part, three_words, file_start_of}
use Rattle.lines.specs.Line.{first_blank, line_of}
use Rattle.descriptor.specs.Read.{least_bytes, sparse}
use Rattle.lines.specs.declared.line.Setting.TheVariants.{Version, Cid, ParentCid, CreateType, Sectors as Sectors-as-Setting, Heads, Cylinders}
use Rattle.lines.specs.declared.line.Said.TheVariants.{Nothing, Extent, Set}
use Rattle.lines.specs.declared.record.Text.{Text}
use Rattle.lines.specs.declared.record.VmdkAccessType.{VmdkAccessType}
use Rattle.lines.specs.declared.record.VmdkAccessType.TheVariants.{RdOnly as ReadOnly, RW as ReadWrite}
use Rattle.lines.specs.declared.record.VmdkParsedStorage.{VmdkParsedStorage}
use Rattle.lines.specs.declared.record.VmdkParsedStorage.TheVariants.{NoAccess, Zero as Zeros, Flat as File}
use Rattle.lines.specs.declared.record.ReadExtent.{ReadExtent}
use Rattle.lines.specs.declared.record.VmdkParsedExtent.{VmdkParsedExtent}
use Rattle.lines.specs.declared.line.Said.{Said}
use Rattle.text.specs.declared.sector.Sectors.{Sectors}
use Rattle.lines.specs.declared.record.Fault.{Fault}
use Rattle.lines.specs.declared.record.Fault.TheVariants.{TooManyExtents}

-- a descriptor to be read by line: its length is in range, and it is no sparse file
pub record ByLine (t : List ℕ) : Type 0 where
  pub least : least_bytes ≤ length t
  pub small : length t ≤ most_bytes
  pub plain : begins t sparse ≡ false

-- where the line after some lines lies, if the first of them lies at p
unfoldable pub place_after : ℕ → List (List ℕ) → ℕ
place_after p [] = p
place_after p (l ∷ ls) = place_after (p + length l + 1) ls

-- what the lines say one after the other, if the first of them lies at p
unfoldable pub sayings : ℕ → List (List ℕ) → List (Result Said Fault)
sayings p [] = []
sayings p (l ∷ ls) = line_of p l ∷ sayings (p + length l + 1) ls

-- what the lines of a descriptor say
abbrev pub sayings_of : List ℕ → List (Result Said Fault)
sayings_of t = sayings 0 (lines_of t)

-- the extents that are said, in order
unfoldable pub extents_in : List (Result Said Fault) → List VmdkParsedExtent
extents_in [] = []
extents_in (Ok (Extent x) ∷ ss) = x ∷ extents_in ss
extents_in ((Ok Nothing) ∷ ss) = extents_in ss
extents_in (Ok (Set v) ∷ ss) = extents_in ss
extents_in (Err n ∷ ss) = extents_in ss

-- the same, each with its line: the first of the lines has the number k
unfoldable pub read_from : ℕ → List (Result Said Fault) → List ReadExtent
read_from k [] = []
read_from k (Ok (Extent x) ∷ ss) = at_line k x ∷ read_from (suc k) ss
read_from k ((Ok Nothing) ∷ ss) = read_from (suc k) ss
read_from k (Ok (Set v) ∷ ss) = read_from (suc k) ss
read_from k (Err n ∷ ss) = read_from (suc k) ss

-- some line says a refusal
unfoldable pub refuses : List (Result Said Fault) → Bool
refuses [] = false
refuses (Err n ∷ ss) = true
refuses ((Ok Nothing) ∷ ss) = refuses ss
refuses (Ok (Set v) ∷ ss) = refuses ss
refuses (Ok (Extent x) ∷ ss) = refuses ss

-- every line is sound: none says a refusal, and at most `most` say an extent
abbrev pub AllSound : List (Result Said Fault) → Type 0
AllSound ss = (refuses ss ≡ false) × (length (extents_in ss) ≤ most)

-- a line that says so, after so many extents, is refused for the fault f: 16 is for one extent more than `most`
abbrev pub RefusedWith : Fault → ℕ → Result Said Fault → Type 0
RefusedWith f count (Ok Nothing) = ⊥
RefusedWith f count (Ok (Set v)) = ⊥
RefusedWith f count (Err g) = g ≡ f
RefusedWith f count (Ok (Extent x)) = (f ≡ TooManyExtents) × (count ≡ most)

-- line k, counted from 1, is l, which lies at the place p, after the lines `before`
pub record LineAt (t : List ℕ) (before : List (List ℕ)) (l : List ℕ) (p k : ℕ) : Type 0 where
  pub after : List (List ℕ)
  pub lines : lines_of t ≡ before ++ l ∷ after
  pub place : p ≡ place_after 0 before
  pub number : k ≡ suc (length before)

-- l is the first line that is refused: line k, for the fault f
pub record FirstRefused (t l : List ℕ) (f : Fault) (k : ℕ) : Type 0 where
  pub before : List (List ℕ)
  pub place : ℕ
  pub line : LineAt t before l place k
  pub sound : AllSound (sayings 0 before)
  pub refused : RefusedWith f (length (extents_in (sayings 0 before))) (line_of place l)

-- ---- an extent line
-- the next word of a text from a place on is w, which ends at e
abbrev pub NextWord : List ℕ → ℕ → List ℕ → ℕ → Type 0
NextWord t at w e = (a : ℕ) × (word_of t at ≡ Some (a, e)) × (part t a e ≡ w)

-- a text is cut at its first two `"`
pub record Quotes (t before middle after : List ℕ) : Type 0 where
  pub whole : t ≡ before ++ 0x22 ∷ (middle ++ 0x22 ∷ after)
  pub first : count 0x22 before ≡ 0
  pub second : count 0x22 middle ≡ 0

-- the bytes that a text has in the descriptor d
abbrev pub text_in : List ℕ → Text → List ℕ
text_in d x = take x.length (drop x.place d)

-- what stands before the first two `"` of a text is three words, the middle, trimmed, is the name, and the first word after is the start, 0 if there is none
pub record FileIn (d t : List ℕ) (name : Text) (start : Option Sectors) : Type 0 where
  pub before : List ℕ
  pub middle : List ℕ
  pub after : List ℕ
  pub quotes : Quotes t before middle after
  pub words : three_words before ≡ true
  pub named : text_in d name ≡ trimmed middle
  pub starts : file_start_of after 0 ≡ start

-- the word of an access
abbrev pub access_text : VmdkAccessType → List ℕ
access_text ReadOnly = ascii "RDONLY"
access_text ReadWrite = ascii "RW"

-- a trimmed line, whose first word is `access` and whose second word ends at a place, has this source
abbrev pub SourceIn : List ℕ → List ℕ → List ℕ → ℕ → VmdkParsedStorage → Type 0
SourceIn d t access end NoAccess = access ≡ ascii "NOACCESS"
SourceIn d t access end (Zeros a) = (access ≡ access_text a) × ((e : ℕ) × NextWord t end (ascii "ZERO") e)
SourceIn d t access end (File a name start) =
    (access ≡ access_text a) × ((e : ℕ) × NextWord t end (ascii "FLAT") e) × FileIn d t name (Some start)

-- a trimmed line of the descriptor d is the extent line of x: its words have the values of x
pub record ExtentIn (d t : List ℕ) (x : VmdkParsedExtent) : Type 0 where
  pub blank : first_blank t < length t
  pub second : List ℕ
  pub end : ℕ
  pub word : NextWord t (first_blank t) second end
  pub sectors : sectors_of second ≡ Some x.sectors
  pub source : SourceIn d t (take (first_blank t) t) end x.storage

-- ---- versions
-- the version that the first line with the key `version` says, 0 where there is none
unfoldable pub first_version : List (Result Said Fault) → ℕ
first_version [] = 0
first_version (Ok (Set (Version v)) ∷ ss) = v
first_version (Ok (Set (Cid x)) ∷ ss) = first_version ss
first_version (Ok (Set (ParentCid x)) ∷ ss) = first_version ss
first_version (Ok (Set (CreateType x)) ∷ ss) = first_version ss
first_version (Ok (Set (Sectors-as-Setting n)) ∷ ss) = first_version ss
first_version (Ok (Set (Heads n)) ∷ ss) = first_version ss
first_version (Ok (Set (Cylinders n)) ∷ ss) = first_version ss
first_version ((Ok Nothing) ∷ ss) = first_version ss
first_version (Ok (Extent x) ∷ ss) = first_version ss
first_version (Err n ∷ ss) = first_version ss

-- the version that the last one says, u where there is none
unfoldable pub version_after : ℕ → List (Result Said Fault) → ℕ
version_after u [] = u
version_after u (Ok (Set (Version v)) ∷ ss) = version_after v ss
version_after u (Ok (Set (Cid x)) ∷ ss) = version_after u ss
version_after u (Ok (Set (ParentCid x)) ∷ ss) = version_after u ss
version_after u (Ok (Set (CreateType x)) ∷ ss) = version_after u ss
version_after u (Ok (Set (Sectors-as-Setting n)) ∷ ss) = version_after u ss
version_after u (Ok (Set (Heads n)) ∷ ss) = version_after u ss
version_after u (Ok (Set (Cylinders n)) ∷ ss) = version_after u ss
version_after u ((Ok Nothing) ∷ ss) = version_after u ss
version_after u (Ok (Extent x) ∷ ss) = version_after u ss
version_after u (Err n ∷ ss) = version_after u ss

abbrev pub last_version : List (Result Said Fault) → ℕ
last_version ss = version_after 0 ss
