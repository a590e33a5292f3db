-- An extent line, in this order: access; second word a sector count; for NOACCESS stop; third word; ZERO, stop; otherwise it must be FLAT; then the file's name and start.
use Rattle.std.specs.Prelude.{ℕ, ◌+◌, ◌-◌, List, Bool, true, false, take, drop, Err, None, Ok, Option, Result, Some}
use Rattle.text.specs.Ranges.{pick}
use Rattle.text.specs.Text.{word_of}
use Rattle.text.specs.Find.{find_at, same}
use Rattle.text.specs.Sector.{sectors_of}
use Rattle.text.specs.declared.sector.Sectors.{Sectors}
use Rattle.text.specs.Ascii.{ascii}
use Rattle.lines.specs.Kept.{kept_of}
use Rattle.lines.specs.declared.extent.Third.{Third}
use Rattle.lines.specs.declared.extent.Third.TheVariants.{Zero, Flat}
use Rattle.lines.specs.declared.line.Said.TheVariants.{Extent}
use Rattle.lines.specs.declared.record.VmdkAccessType.{VmdkAccessType}
use Rattle.lines.specs.declared.record.VmdkParsedStorage.{VmdkParsedStorage}
use Rattle.lines.specs.declared.record.VmdkParsedStorage.TheVariants.{NoAccess, Zero as Zeros, Flat as File}
use Rattle.lines.specs.declared.line.Said.{Said}
use Rattle.lines.specs.declared.record.Text.{Text}
use Rattle.lines.specs.declared.record.Fault.{Fault}
use Rattle.lines.specs.declared.record.Fault.TheVariants.{SectorCount, NoType, OtherType, NoQuote, OneQuote, NotThreeWords, FileStart}

-- the part of a text from a up to e
abbrev pub part : List ℕ → ℕ → ℕ → List ℕ
part t a e = take (e - a) (drop a t)

-- a word as a sector count, with the word's end
abbrev pub counted_word : Option Sectors → ℕ → Option (Sectors × ℕ)
counted_word (Some s) e = Some (s, e)
counted_word None e = None

abbrev pub second_word : List ℕ → Option (ℕ × ℕ) → Option (Sectors × ℕ)
second_word t (Some (a, e)) = counted_word (sectors_of (part t a e)) e
second_word t None = None

-- the second word, after a first word that ends at a place: a sector count
unfoldable pub second_of : List ℕ → ℕ → Option (Sectors × ℕ)
second_of t end = second_word t (word_of t end)

abbrev pub third_word : List ℕ → Option (ℕ × ℕ) → Result Third Fault
third_word t (Some (a, e)) =
    pick (same (part t a e) (ascii "ZERO")) (Ok Zero) (pick (same (part t a e) (ascii "FLAT")) (Ok Flat) (Err OtherType))
third_word t None = Err NoType

-- the third word, after a second word that ends at a place: ZERO or FLAT; 6 where it is missing, 7 where it is neither
unfoldable pub third_of : List ℕ → ℕ → Result Third Fault
third_of t end = third_word t (word_of t end)

-- go on with a word's end, or answer no
abbrev pub word_then : Option (ℕ × ℕ) → (ℕ → Bool) → Bool
word_then (Some (a, e)) go = go e
word_then None go = false

abbrev pub no_word : Option (ℕ × ℕ) → Bool
no_word (Some (a, e)) = false
no_word None = true

-- a first word, a second, a third, and no fourth
unfoldable pub three_words : List ℕ → Bool
three_words t =
    word_then (word_of t 0) λ a. word_then (word_of t a) λ b. word_then (word_of t b) λ c. no_word (word_of t c)

-- the middle, trimmed, is the file name (it may be empty); what stands before must be three words
abbrev pub between_quotes : ℕ → List ℕ → ℕ → Option ℕ → Result (Text × ℕ) Fault
between_quotes p t i None = Err OneQuote
between_quotes p t i (Some j) =
    pick (three_words (take i t)) (Ok (kept_of (p + (i + 1)) (part t (i + 1) j), j + 1)) (Err NotThreeWords)

abbrev pub after_quote : ℕ → List ℕ → Option ℕ → Result (Text × ℕ) Fault
after_quote p t None = Err NoQuote
after_quote p t (Some i) = between_quotes p t i (find_at 0x22 t (i + 1))

-- the line, which lies at the place p of the descriptor, is cut at its first two `"`
unfoldable pub file_name_of : ℕ → List ℕ → Result (Text × ℕ) Fault
file_name_of p t = after_quote p t (find_at 0x22 t 0)

abbrev pub start_word : List ℕ → Option (ℕ × ℕ) → Option Sectors
start_word t (Some (a, e)) = sectors_of (part t a e)
start_word t None = Some (record { 0 = 0 })

-- the first word after the name is the file's start in sectors, 0 if there is none
unfoldable pub file_start_of : List ℕ → ℕ → Option Sectors
file_start_of t at = start_word t (word_of t at)

-- an extent of so many sectors
abbrev pub extent : Sectors → VmdkParsedStorage → Result Said Fault
extent s storage = Ok (Extent (record { sectors = s; storage = storage }))

abbrev pub flat_from : Option Sectors → VmdkAccessType → Sectors → (Sectors → VmdkParsedStorage) → Result Said Fault
flat_from (Some start) a s file = extent s (file start)
flat_from None a s file = Err FileStart

abbrev pub flat_by : Result (Text × ℕ) Fault → VmdkAccessType → Sectors → List ℕ → Result Said Fault
flat_by (Ok (name, after)) a s t = flat_from (file_start_of t after) a s (λ start. File a name start)
flat_by (Err n) a s t = Err n

-- a FLAT extent: the name, then the file's start
unfoldable pub flat_line : VmdkAccessType → Sectors → ℕ → List ℕ → Result Said Fault
flat_line a s p t = flat_by (file_name_of p t) a s t

abbrev pub no_access_by : Option (Sectors × ℕ) → Result Said Fault
no_access_by (Some (s, e)) = extent s NoAccess
no_access_by None = Err SectorCount

-- a line whose first word, NOACCESS, ends at a place: after the sector count the rest is ignored
unfoldable pub no_access_line : List ℕ → ℕ → Result Said Fault
no_access_line t end = no_access_by (second_of t end)

abbrev pub by_third : Result Third Fault → VmdkAccessType → Sectors → ℕ → List ℕ → Result Said Fault
by_third (Ok Zero) a s p t = extent s (Zeros a)
by_third (Ok Flat) a s p t = flat_line a s p t
by_third (Err n) a s p t = Err n

abbrev pub by_second : Option (Sectors × ℕ) → VmdkAccessType → ℕ → List ℕ → Result Said Fault
by_second (Some (s, e)) a p t = by_third (third_of t e) a s p t
by_second None a p t = Err SectorCount

-- a line whose first word, RW or RDONLY, ends at a place
unfoldable pub extent_line : VmdkAccessType → ℕ → List ℕ → ℕ → Result Said Fault
extent_line a p t end = by_second (second_of t end) a p t
