-- Probing: the first line whose key is `version` decides, unless a line before it is no UTF-8.
use Rattle.std.specs.Prelude.{ℕ, ◌+◌, List, [], ◌∷◌, Bool, true, false, length, take, drop, ltb, None, Option, Some}
use Rattle.text.specs.Ranges.{pick, within}
use Rattle.text.specs.Text.{trim_of, trimmed}
use Rattle.text.specs.Find.{find_at, same, begins}
use Rattle.text.specs.Lines.{lines_of}
use Rattle.text.specs.Number.{number_of}
use Rattle.text.specs.Ascii.{ascii}
use Rattle.lines.specs.Line.{version_limit}
use Rattle.lines.specs.Record.{most_bytes}
use Rattle.descriptor.specs.Read.{least_bytes, sparse}

-- a number 1 to 3
abbrev pub verdict_of : Option ℕ → Bool
verdict_of (Some v) = within 1 3 v
verdict_of None = false

-- a line without `=` is passed over; one whose trimmed text before its first `=` is `version` answers
unfoldable pub probe_key : List ℕ → Option ℕ → Option Bool
probe_key l None = None
probe_key l (Some i) =
    pick (same (trimmed (take i l)) (ascii "version")) (Some (verdict_of (number_of version_limit (trimmed (drop (i + 1) l))))) None

-- not UTF-8, no
abbrev pub if_text : Option (ℕ × ℕ) → Option Bool → Option Bool
if_text (Some (a, e)) p = p
if_text None p = Some false

unfoldable pub probe_line : List ℕ → Option Bool
probe_line l = if_text (trim_of l) (probe_key l (find_at 0x3D l 0))

-- the first line that answers; no such line, no
abbrev pub first_answer : Option Bool → Bool → Bool
first_answer None later = later
first_answer (Some b) later = b

unfoldable pub probe_lines : List (List ℕ) → Bool
probe_lines [] = false
probe_lines (l ∷ ls) = first_answer (probe_line l) (probe_lines ls)

-- length outside 4 to 2,097,152, no; sparse bytes, yes; else by line
unfoldable pub probe_of : List ℕ → Bool
probe_of t =
    pick (ltb (length t) least_bytes) false
    (pick (ltb most_bytes (length t)) false (pick (begins t sparse) true (probe_lines (lines_of t))))
