-- No more vectors failed than were run, and no more were run than places were passed.
use Rattle.std.proofs.Common.{◌+◌, ◌≤◌, length}
use Rattle.text_vectors.proofs.run_all.Given as goal

abbrev pub invariant-loop-vector : goal.invariant-loop-vector
invariant-loop-vector g l = (l.failed ≤ l.count) × (l.count + length l.vector-iterator.0.now ≤ length l.d)
