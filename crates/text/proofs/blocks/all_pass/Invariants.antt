-- `blocks::all_pass` meets its contract. The invariant: where all were found to pass, each byte up to the index does.
use mathlib.Core.Bool.{true}
use mathlib.Core.Path.{◌≡◌}
use Rattle.text.specs.inside.Blocks.{Passing}
use Rattle.text.proofs.blocks.all_pass.Given as goal

abbrev pub invariant-loop-b : goal.invariant-loop-b
invariant-loop-b g l = l.all ≡ true → Passing (goal.F-post g l.passes) l.b-index l.block
