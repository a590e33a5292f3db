-- What the program's arguments ask, and what it answers: no argument or `report`, `map OFFSET LENGTH`, `walk OFFSET LENGTH PLACES`.
use Rattle.std.specs.Prelude.{ℕ, List, [], length, leb, eqb, None, Option, Some}
use Rattle.text.specs.Ranges.{pick}
use Rattle.text.specs.Find.{same}
use Rattle.text.specs.Number.{number_of}
use Rattle.text.specs.Sector.{largest}
use Rattle.text.specs.Ascii.{ascii}
use Rattle.lines.specs.Record.{most}
use Rattle.lines.specs.Record.{refusal_at}
use Rattle.lines.specs.declared.record.Fault.TheVariants.{InputTooLong}
use Rattle.phrases.specs.Line.{refused_line}
use Rattle.disk_lines.specs.Report.{report_of}
use Rattle.map_lines.specs.Map.{map_line_of}
use Rattle.walk_lines.specs.Walk.{walk_lines_of}
use Rattle.report.specs.declared.command.Command.{Command}
use Rattle.report.specs.declared.command.Command.TheVariants.{Report, Map, Walk, Usage}

-- the most bytes that the program takes
abbrev pub most_input : ℕ
most_input = 65536

abbrev pub map_by : Option ℕ → Option ℕ → Command
map_by (Some o) (Some l) = Map o l
map_by (Some o) None = Usage
map_by None l = Usage

abbrev pub walk_by : Command → Option ℕ → Command
walk_by (Map o l) (Some p) = Walk o l p
walk_by (Map o l) None = Usage
walk_by Report p = Usage
walk_by (Walk o l q) p = Usage
walk_by Usage p = Usage

-- OFFSET LENGTH: numbers up to 2^64-1
unfoldable pub range_of : List ℕ → List ℕ → Command
range_of a b = map_by (number_of largest a) (number_of largest b)

-- PLACES: 0 to as many as a walk can write
unfoldable pub places_of : List ℕ → List ℕ → List ℕ → Command
places_of a b c = walk_by (range_of a b) (number_of most c)

-- what n arguments ask, the first of which is the mode
unfoldable pub command_of : ℕ → List ℕ → List ℕ → List ℕ → List ℕ → Command
command_of n mode a b c =
    pick (eqb n 0) Report
    (pick (eqb n 1) (pick (same mode (ascii "report")) Report Usage)
    (pick (eqb n 3) (pick (same mode (ascii "map")) (range_of a b) Usage)
    (pick (eqb n 4) (pick (same mode (ascii "walk")) (places_of a b c) Usage) Usage)))

-- what is written on standard output
abbrev pub said : List ℕ → Command → List ℕ
said d Report = report_of d
said d (Map o l) = map_line_of d o l
said d (Walk o l p) = walk_lines_of d o l p
said d Usage = []

-- an input above 65,536 bytes is refused in every mode
unfoldable pub answer_of : List ℕ → Command → List ℕ
answer_of d c = pick (leb (length d) most_input) (said d c) (refused_line (refusal_at InputTooLong 0))
