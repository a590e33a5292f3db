-- The invariant: the position is low, and the sum that is to come is that of the whole.
use Rattle.std.proofs.Common.{◌≡◌, ◌-◌}
use Rattle.timing.specs.Walk.{walk_sum}
use Rattle.timing.proofs.walk.tours.Given as goal

abbrev pub invariant-loop : goal.invariant-loop
invariant-loop l = walk_sum (l.count - l.counter) l.t l.window l.at l.sum ≡ walk_sum l.count l.t l.window 0 0
