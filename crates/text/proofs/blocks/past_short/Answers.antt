use native.Mathlib.Omega.{arith}
use Rattle.text.proofs.Flat.{both}
use Rattle.text.proofs.Tests.{two_blocks}
use Rattle.text.proofs.blocks.past_short.Goals as goal

pub returns-then-all_pass-clause-passed : goal.returns-then-all_pass-clause-passed
returns-then-all_pass-clause-passed g c =
    let q = both _ _ c.if-all_pass.true in
    two_blocks _ _ c.requires.short c.in-Some.ensures.cases.same c.in-Some-last_chunk.ensures.cases.1.same (omega (arith, c.in-Some.ensures.cases.enough)) (c.all_pass.ensures q.0) (c.all_pass-2.ensures q.1)
