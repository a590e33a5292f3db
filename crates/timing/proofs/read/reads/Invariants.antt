-- The invariant: the sum that is to come is that of the whole.
use Rattle.std.proofs.Common.{◌≡◌, ◌-◌}
use Rattle.timing.specs.Read.{size_of, reads_sum}
use Rattle.timing.proofs.read.reads.Given as goal

abbrev pub invariant-loop : goal.invariant-loop
invariant-loop l = reads_sum (l.count - l.counter) (size_of l.d) l.sum ≡ reads_sum l.count (size_of l.d) 0
