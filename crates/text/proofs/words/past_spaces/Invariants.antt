-- `words::past_spaces` meets its contract. The invariant: the run from `from` ends where the run from `at` does; the bytes left fall.
use Prim.Native.Nat.{◌-◌}
use mathlib.Core.Path.{◌≡◌}
use lib.ListN.{length}
use Rattle.text.specs.Text.{run_of}
use Rattle.text.proofs.words.past_spaces.Given as goal

abbrev pub invariant-loop-at : goal.invariant-loop-at
invariant-loop-at l = run_of l.wanted l.t l.from ≡ run_of l.wanted l.t l.at

abbrev pub decreases-loop-at : goal.decreases-loop-at
decreases-loop-at l = length l.t - l.at
