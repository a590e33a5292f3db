-- Lines of words, with a space between each two; every line ends with 0A.
use Rattle.std.specs.Prelude.{ℕ, suc, List, [], ◌∷◌, ◌++◌, Bool, true, false, take, drop, get_or}
use Rattle.text.specs.Ascii.{ascii}
use Rattle.lines.specs.declared.record.Text.{Text}
use Rattle.lines.specs.declared.record.Refusal.{Refusal}
use Rattle.lines.specs.declared.record.VmdkAccessType.{VmdkAccessType}
use Rattle.lines.specs.declared.record.VmdkAccessType.TheVariants.{RdOnly, RW}
use Rattle.tables.specs.Build.{no_row}
use Rattle.tables.specs.declared.table.Source.{Source}
use Rattle.tables.specs.declared.table.Source.TheVariants.{NoAccess, Zero, Flat}
use Rattle.tables.specs.declared.table.Row.{Row}
use Rattle.lines.specs.Fault.{refusal_number}
use Rattle.puts.specs.Decimal.{decimal_of}

-- a word with a space after it
unfoldable pub spaced : List ℕ → List ℕ
spaced w = w ++ (0x20 ∷ [])

-- a line's last word
unfoldable pub ended : List ℕ → List ℕ
ended w = w ++ (0x0A ∷ [])

-- a word and a number, each with a space after it
unfoldable pub field : List ℕ → ℕ → List ℕ
field w n = spaced w ++ spaced (decimal_of n)

-- a line of words
unfoldable pub line : List (List ℕ) → List ℕ
line [] = ended []
line (w ∷ []) = ended w
line (w ∷ v ∷ ws) = spaced w ++ line (v ∷ ws)

-- the lines of a list's elements, each by its number and itself, of which the first has the number k
unfoldable pub lines_from : {A : Type 0} → (ℕ → A → List ℕ) → ℕ → List A → List ℕ
lines_from f k [] = []
lines_from f k (x ∷ xs) = f k x ++ lines_from f (suc k) xs

-- the lines of the first n elements
unfoldable pub lines_to : {A : Type 0} → (ℕ → A → List ℕ) → List A → ℕ → List ℕ
lines_to f xs n = lines_from f 0 (take n xs)

-- the bytes of a text of the descriptor, as far as they are there
unfoldable pub name_in : List ℕ → Text → List ℕ
name_in d t = take t.length (drop t.place d)

-- how an extent may be accessed
abbrev pub access_word : VmdkAccessType → List ℕ
access_word RdOnly = ascii "RDONLY"
access_word RW = ascii "RW"

abbrev pub mode_word : Bool → List ℕ
mode_word true = access_word RW
mode_word false = access_word RdOnly

-- the name of a source's file; zeros and no access have none
abbrev pub name_of : List ℕ → Source → List ℕ
name_of d NoAccess = []
name_of d (Zero a) = []
name_of d (Flat a start t) = name_in d t

-- the source of a row; past the rows there is no access
abbrev pub source_at : List Row → ℕ → Source
source_at rows i = (get_or rows i no_row).source

-- a refusal: its number and its second number
unfoldable pub refused_line : Refusal → List ℕ
refused_line r = line (ascii "refused" ∷ decimal_of (refusal_number r.fault) ∷ decimal_of r.second ∷ [])
