-- `blocks::past_blocks` meets its contract. The invariant: each byte of the blocks so far passes.
use Prim.Native.Nat.{◌*◌, ◌≤◌}
use lib.ListN.{length}
use Rattle.text.specs.inside.Blocks.{Passing}
use Rattle.text.proofs.blocks.past_blocks.Given as goal

abbrev pub invariant-loop-i : goal.invariant-loop-i
invariant-loop-i g l = (l.i * 16 ≤ length l.t) × Passing (goal.F-post g l.passes) (l.i * 16) l.t
