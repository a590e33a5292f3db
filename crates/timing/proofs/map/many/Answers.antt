use Rattle.std.proofs.Common.{◌∙◌, sym}
use Rattle.timing.proofs.Sums.{low_next, map_next, map_done}
use Rattle.timing.proofs.map.many.Goals as goal

pub loop-preserved : goal.loop-preserved
loop-preserved c =
    let l = c.loop in
    record {
      low = rw c.next-offset.ensures (low_next c.args.ascending l.offset);
      ends = rw (c.next-offset.ensures, c.with_mapping-sum.ensures, c.get_mapping.ensures) (map_next c.args.ascending c.args.t.now l.offset l.sum c.args.count l.counter c.loop-test.true ∙ l.invariant.ends);
    }

pub returns : goal.returns
returns c = sym (map_done c.args.ascending c.args.t.now c.loop.offset c.loop.sum c.args.count c.loop.counter c.loop-test.false) ∙ c.loop.invariant.ends
