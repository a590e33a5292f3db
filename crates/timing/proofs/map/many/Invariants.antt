-- The invariant: the offset is low, and the sum that is to come is that of the whole.
use Rattle.std.proofs.Common.{◌≡◌, ◌-◌, ◌<◌}
use Rattle.timing.specs.Map.{map_sum}
use Rattle.timing.proofs.map.many.Given as goal

abbrev pub invariant-loop : goal.invariant-loop
invariant-loop l = record { low : l.offset < 2147483648; ends : map_sum l.ascending (l.count - l.counter) l.t l.offset l.sum ≡ map_sum l.ascending l.count l.t 0 0 }
