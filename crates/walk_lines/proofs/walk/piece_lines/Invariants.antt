-- `piece_lines` meets its contract. The invariant: the lines of the pieces before the one at hand are added. A turn adds one more, by its row's source.
-- Assumes nothing.
use lib.ListN.{take}
use Rattle.phrases.specs.Line.{lines_from}
use Rattle.phrases.specs.Adding.{Adds}
use Rattle.walk_lines.specs.Walk.{piece_line}
use Rattle.walk_lines.proofs.walk.piece_lines.Given as goal

abbrev pub invariant-loop-p : goal.invariant-loop-p
invariant-loop-p l = Adds l.initial.answer (lines_from (piece_line l.d l.rows) 0 (take l.p-index l.pieces)) l.answer
