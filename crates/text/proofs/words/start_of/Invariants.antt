-- `words::start_of` meets its contract. The invariant: from `end - 1` back the place is the same as from `at` back; `at` falls.
use Prim.Native.Nat.{◌-◌, ◌<◌}
use lib.ListN.{length}
use mathlib.Core.Path.{◌≡◌}
use Rattle.text.specs.inside.Blocks.{back_to}
use Rattle.text.proofs.words.start_of.Given as goal

abbrev pub invariant-loop-at : goal.invariant-loop-at
invariant-loop-at l = (l.at < length l.t) × (back_to l.t (l.end - 1) ≡ back_to l.t l.at)

abbrev pub decreases-loop-at : goal.decreases-loop-at
decreases-loop-at l = l.at
