-- The two goals at which the check alone gives up: how far a part may go, and the invariant.
use Rattle.probing.proofs.Probing.{probing}
use Rattle.probing.proofs.probe.probe_lines.Goals as goal

pub slice_bounds-probe_line-end : goal.slice_bounds-probe_line-end
slice_bounds-probe_line-end c = search probing

pub loop-answer-preserved : goal.loop-answer-preserved
loop-answer-preserved c = search probing
