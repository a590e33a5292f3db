use Rattle.text.proofs.Chars.{cap_shift, cap_next, tail_more}
use Rattle.text.proofs.utf8.tail.Goals as goal

pub overflow_mul-code : goal.overflow_mul-code
overflow_mul-code c = cap_shift _ _ c.loop-x.invariant.0

pub loop-x-preserved : goal.loop-x-preserved
loop-x-preserved c =
    let b = cap_next _ _ _ _ _ _ _ c.loop-x.invariant.1 c.loop-x-test.true c.if-t-n.false c.loop-x.invariant.0 in
    let e = tail_more _ _ _ _ _ _ _ c.loop-x.invariant.1 c.loop-x-test.true c.if-t-n.false c.if-x-lo.false c.if-hi-x.false in
    rw c.from.ensures (b, e)
