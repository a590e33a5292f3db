use Rattle.text.proofs.Tests.{none_yet, one_more}
use Rattle.text.proofs.blocks.all_pass.Goals as goal

pub loop-b-init : goal.loop-b-init
loop-b-init g c e = none_yet _ _

pub loop-b-preserved : goal.loop-b-preserved
loop-b-preserved g c e = one_more _ _ _ _ _ c.loop-b.invariant c.passes-all.ensures e
