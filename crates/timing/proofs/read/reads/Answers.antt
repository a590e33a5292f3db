use Rattle.std.proofs.Common.{◌∙◌, sym}
use Rattle.timing.specs.Read.{size_of}
use Rattle.timing.proofs.Sums.{reads_next, reads_done}
use Rattle.timing.proofs.read.reads.Goals as goal

pub loop-preserved : goal.loop-preserved
loop-preserved c =
    rw (c.fold-sum.ensures, c.fill.ensures.size) (reads_next (size_of c.args.d.now) c.loop.sum c.args.count c.loop.counter c.loop-test.true ∙ c.loop.invariant)

pub returns : goal.returns
returns c = sym (reads_done (size_of c.args.d.now) c.loop.sum c.args.count c.loop.counter c.loop-test.false) ∙ c.loop.invariant
