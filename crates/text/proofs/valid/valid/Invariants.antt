-- `valid::valid` meets its contract. The invariant: whole characters are passed from 0 to `at`; the bytes left fall.
use Prim.Native.Nat.{◌-◌}
use lib.ListN.{length}
use Rattle.text.specs.inside.Blocks.{Passed}
use Rattle.text.proofs.valid.valid.Given as goal

abbrev pub invariant-loop-at : goal.invariant-loop-at
invariant-loop-at l = Passed l.t 0 l.at

abbrev pub decreases-loop-at : goal.decreases-loop-at
decreases-loop-at l = length l.t - l.at
