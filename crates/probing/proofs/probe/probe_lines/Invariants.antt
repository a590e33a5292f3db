-- `probe_lines` meets its contract. The invariant: probing the whole is probing from `at`, which lies within it.
-- Assumes nothing.
use Prim.Native.Nat.{◌-◌, ◌≤◌}
use mathlib.Core.Path.{◌≡◌}
use lib.ListN.{length}
use Rattle.probing.specs.inside.Places.{probe_at}
use Rattle.probing.proofs.probe.probe_lines.Given as goal

abbrev pub invariant-loop-answer : goal.invariant-loop-answer
invariant-loop-answer l = (l.at ≤ length l.d) × (probe_at l.d 0 ≡ probe_at l.d l.at)

abbrev pub decreases-loop-answer : goal.decreases-loop-answer
decreases-loop-answer l = length l.d - l.at
