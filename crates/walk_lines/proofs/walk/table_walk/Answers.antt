-- `table_walk` meets its contract. The pieces are the first places of the list that was lent to the walk, as many as it counts. Their lines are added, and
-- then the last line. Assumes nothing.
use lib.ListN.{length-take}
use Rattle.std.proofs.Common.{arith}
use Rattle.walk_lines.proofs.Walks.{counted, table_walk}
use Rattle.walk_lines.proofs.walk.table_walk.Goals as goal

pub slice_bounds-pieces-end : goal.slice_bounds-pieces-end
slice_bounds-pieces-end c = counted _ _ _ _ c.no_pieces-pieces.ensures c.walk_in-walked.ensures.0 c.walk_in-walked.ensures.1

pub slice_bounds-piece_lines-end-2 : goal.slice_bounds-piece_lines-end-2
slice_bounds-piece_lines-end-2 c = let h = counted _ _ _ _ c.no_pieces-pieces.ensures c.walk_in-walked.ensures.0 c.walk_in-walked.ensures.1 in simp length-take (omega arith)

pub returns : goal.returns
returns c = table_walk _ _ _ _ c.no_pieces-pieces.ensures _ c.walk_in-walked.ensures.0 c.walk_in-walked.ensures.1 c.piece_lines.ensures c.stop_line.ensures
