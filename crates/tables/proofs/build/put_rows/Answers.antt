-- `tables::build::put_rows` meets its contract: 23 first; each turn is one extent of the definition.
-- Assumes nothing.
use native.Mathlib.Omega.{arith}
use lib.ListN.{length-take}
use Rattle.std.proofs.lemmas.Result.{err_from_is_err_and}
use Rattle.lines.specs.Record.{read_in}
use Rattle.tables.proofs.Endings.{many_answer, many_left, begin_stands, turn_row, stop_row, end_rows}
use Rattle.tables.proofs.build.put_rows.Goals as goal

pub returns-then-count-gt-MOST-clause-size : goal.returns-then-count-gt-MOST-clause-size
returns-then-count-gt-MOST-clause-size c = rw c.at.ensures (many_answer c.args.record.now (omega arith))

pub returns-then-count-gt-MOST-clause-rows : goal.returns-then-count-gt-MOST-clause-rows
returns-then-count-gt-MOST-clause-rows c = many_left c.args.record.now c.args.into.now (omega arith)

pub loop-i-init : goal.loop-i-init
loop-i-init c = begin_stands c.args.record.now c.args.into.now (omega arith) c.upto-size.ensures

pub returns-in_err-row-clause-size : goal.returns-in_err-row-clause-size
returns-in_err-row-clause-size c =
    let p = err_from_is_err_and c.from_residual.result c.from_residual.ensures.1 in
    rw (p.1, p.2) (stop_row c.loop-i.invariant c.loop-i-test.true c.offset.ensures c.in_err-row.ensures).0

pub returns-in_err-row-clause-rows : goal.returns-in_err-row-clause-rows
returns-in_err-row-clause-rows c = (stop_row c.loop-i.invariant c.loop-i-test.true c.offset.ensures c.in_err-row.ensures).1

pub loop-i-preserved : goal.loop-i-preserved
loop-i-preserved c = turn_row c.loop-i.invariant c.loop-i-test.true c.offset.ensures c.in_ok-row.ensures (omega arith)

pub returns-clause-size : goal.returns-clause-size
returns-clause-size c = (end_rows c.loop-i.invariant c.loop-i-test.false).0

pub returns-clause-rows : goal.returns-clause-rows
returns-clause-rows c = (end_rows c.loop-i.invariant c.loop-i-test.false).1

pub returns-clause-counted : goal.returns-clause-counted
unfolding read_in
returns-clause-counted c = omega (arith, length-take c.args.record.now.count c.args.record.now.extents)
