-- `blocks::passing` meets its contract. The invariant: each byte up to the index passes.
use Rattle.text.specs.inside.Blocks.{Passing}
use Rattle.text.proofs.blocks.passing.Given as goal

abbrev pub invariant-loop-i : goal.invariant-loop-i
invariant-loop-i g l = Passing (goal.F-post g l.passes) l.i l.t
