use mathlib.Core.Bool.{true}
use Rattle.text.proofs.Tests.{none_yet, one_more}
use Rattle.text.proofs.blocks.passing.Goals as goal

pub loop-i-init : goal.loop-i-init
loop-i-init g c = none_yet _ _

pub loop-i-preserved : goal.loop-i-preserved
loop-i-preserved g c = one_more _ _ _ true _ (λ e. c.loop-i.invariant) c.passes.ensures c.if-not-passes.false
