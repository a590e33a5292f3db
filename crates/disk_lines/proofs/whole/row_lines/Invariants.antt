-- `row_lines` meets its contract. The invariant: the lines of the rows before the one at hand are added. A turn adds one more. Assumes nothing.
use lib.ListN.{take}
use Rattle.phrases.specs.Line.{lines_from}
use Rattle.phrases.specs.Adding.{Adds}
use Rattle.disk_lines.specs.Report.{row_line}
use Rattle.disk_lines.proofs.whole.row_lines.Given as goal

abbrev pub invariant-loop-i : goal.invariant-loop-i
invariant-loop-i l = Adds l.initial.answer (lines_from (row_line l.d) 0 (take l.i l.rows)) l.answer
