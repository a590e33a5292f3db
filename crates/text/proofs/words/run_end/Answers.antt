-- The two goals at which the check alone gives up: the end of a run at a character of one byte, and of more.
use mathlib.Core.Path.{ap, ◌∙◌}
use Rattle.text.specs.Blank.{blank}
use Rattle.text.proofs.Runs.{offs, low_off}
use Rattle.text.proofs.words.run_end.Goals as goal

pub returns-then-b-lt128 : goal.returns-then-b-lt128
returns-then-b-lt128 c =
    low_off c.args.wanted c.args.t.now c.loop-at.at c.loop-at.invariant c.loop-at-test.true c.if-b-lt128.true (c.is_blank.ensures ∙ ap blank c.from.ensures) c.if-is_blank-wanted.false

pub returns-in-Scalar : goal.returns-in-Scalar
returns-in-Scalar c = search offs
