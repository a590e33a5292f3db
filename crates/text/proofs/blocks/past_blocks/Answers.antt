use native.Mathlib.Omega.{arith}
use mathlib.Core.Path.{◌≡◌, refl}
use lib.ListN.{length}
use Rattle.text.proofs.Tests.{none_yet, block_more, block_last}
use Rattle.text.proofs.blocks.past_blocks.Goals as goal

pub loop-i-init : goal.loop-i-init
loop-i-init g c = (omega arith, none_yet _ _)

pub returns-then-not-all_pass-clause-passed : goal.returns-then-not-all_pass-clause-passed
returns-then-not-all_pass-clause-passed g c = c.loop-i.invariant.1

pub loop-i-preserved : goal.loop-i-preserved
loop-i-preserved g c = block_more _ _ _ _ c.as_chunks.ensures.front (omega (arith, c.loop-i-test.true, c.as_chunks.ensures.front_len)) c.loop-i.invariant (c.all_pass.ensures c.if-not-all_pass.false)

pub returns-in-Some-clause-passed : goal.returns-in-Some-clause-passed
returns-in-Some-clause-passed g c = block_last _ _ c.loop-i.i (omega (arith, c.loop-i-test.false, c.loop-i.auto.i-end, c.as_chunks.ensures.front_len)) c.loop-i.invariant c.in-Some.ensures.cases.1.same (c.if-all_pass.ensures refl)

pub returns-clause-passed : goal.returns-clause-passed
returns-clause-passed g c =
    let e : c.loop-i.i ≡ length c.as_chunks.result.0.now = omega (arith, c.loop-i-test.false, c.loop-i.auto.i-end) in rw (← e) c.loop-i.invariant.1
