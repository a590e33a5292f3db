use Prim.Native.Nat.{◌<◌}
use borrow.Author.Rules.{rules}
use borrow.Author.Tests.{tests}
use Rattle.text.proofs.Tests.{passed}
use Rattle.text.proofs.Passes.{valid_low}
use Rattle.text.proofs.valid.valid.Goals as goal

pub loop-at-preserved-then-t-at-lt128 : goal.loop-at-preserved-then-t-at-lt128
loop-at-preserved-then-t-at-lt128 c =
    valid_low _ _ _ c.loop-at-test.true c.past_run.ensures.inside c.loop-at.invariant c.if-t-at-lt128.true (passed _ (λ x. x < 0x80) _ _ c.past_run.ensures.passed (λ x k. search (rules, tests)))
