-- The report: the probe's line; then the version, the size, the number of extents and a line for each row, or only the refusal.
use Rattle.std.specs.Prelude.{ℕ, List, [], ◌∷◌, ◌++◌, Bool, true, false}
use Rattle.text.specs.Ascii.{ascii}
use Rattle.probing.specs.Probe.{probe_of}
use Rattle.lines.specs.declared.record.Text.{Text}
use Rattle.lines.specs.declared.record.VmdkAccessType.{VmdkAccessType}
use Rattle.tables.specs.declared.table.Source.{Source}
use Rattle.tables.specs.declared.table.Source.TheVariants.{NoAccess, Zero, Flat}
use Rattle.tables.specs.declared.table.Row.{Row}
use Rattle.tables.specs.declared.table.Table.{Table}
use Rattle.puts.specs.Decimal.{decimal_of}
use Rattle.phrases.specs.Line.{line, lines_to, name_in, access_word}
use Rattle.phrases.specs.Opening.{Opened, open_of, unless}

-- the probe's line
abbrev pub yes_no : Bool → List ℕ
yes_no true = ascii "yes"
yes_no false = ascii "no"

unfoldable pub probe_line : Bool → List ℕ
probe_line b = line (ascii "probe" ∷ yes_no b ∷ [])

-- a row's source: a flat one has its access, its file start in bytes and its name
abbrev pub zero_words : VmdkAccessType → List (List ℕ)
zero_words a = ascii "ZERO" ∷ access_word a ∷ []

abbrev pub flat_words : List ℕ → VmdkAccessType → ℕ → Text → List (List ℕ)
flat_words d a start name = ascii "FLAT" ∷ access_word a ∷ decimal_of start ∷ name_in d name ∷ []

abbrev pub source_words : List ℕ → Source → List (List ℕ)
source_words d NoAccess = ascii "NOACCESS" ∷ []
source_words d (Zero a) = zero_words a
source_words d (Flat a start name) = flat_words d a start.0 name

-- row i: its number, its start, its end and its source
unfoldable pub row_line : List ℕ → ℕ → Row → List ℕ
row_line d i r = line (decimal_of i ∷ decimal_of r.start.0 ∷ decimal_of r.end.0 ∷ source_words d r.source)

-- version, size and number of extents
unfoldable pub head_lines : ℕ → ℕ → ℕ → List ℕ
head_lines version size count =
    line (ascii "version" ∷ decimal_of version ∷ [])
    ++ (line (ascii "size" ∷ decimal_of size ∷ [])
    ++ line (ascii "extents" ∷ decimal_of count ∷ []))

-- a table
unfoldable pub table_lines : List ℕ → ℕ → Table → List ℕ
table_lines d version t = head_lines version t.size.0 t.count ++ lines_to (row_line d) t.rows t.count

-- the report
unfoldable pub report_of : List ℕ → List ℕ
report_of d =
    let o : Opened = open_of d in
    probe_line (probe_of d) ++ unless o.verdict (table_lines d o.version o.table)
