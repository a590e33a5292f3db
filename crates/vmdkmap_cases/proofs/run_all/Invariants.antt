-- No more cases are counted than places were passed.
use Rattle.std.proofs.Common.{◌+◌, ◌≤◌, length}
use Rattle.vmdkmap_cases.proofs.run_all.Given as goal

abbrev pub invariant-loop-line : goal.invariant-loop-line
invariant-loop-line g l = l.count + length l.line-iterator.0.now ≤ length l.list
