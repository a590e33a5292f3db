-- Assumes nothing.
use native.Mathlib.Omega.{arith}
use Rattle.std.proofs.lemmas.Result.{err_from_is_err_and}
use Rattle.descriptor.proofs.Turns.{told_as, begin_stands, first_answer, first_left, turn_nothing, turn_set, turn_extent, stop_full, stop_refused, end_refused, end_sound}
use Rattle.descriptor.proofs.read.put_lines.Goals as goal

pub returns-in_err-check_bytes-clause-head : goal.returns-in_err-check_bytes-clause-head
returns-in_err-check_bytes-clause-head c =
    let p = err_from_is_err_and c.from_residual.result c.from_residual.ensures.1 in
    rw (p.1, p.2) (first_answer c.args.d.now c.in_err-check_bytes.ensures)

pub returns-in_err-check_bytes-clause-extents : goal.returns-in_err-check_bytes-clause-extents
returns-in_err-check_bytes-clause-extents c = first_left c.args.d.now c.in_err-check_bytes.ensures c.args.into.now

pub loop-more-init : goal.loop-more-init
loop-more-init c = begin_stands c.args.d.now c.args.into.now c.in_ok-check_bytes.ensures c.no_desc-desc.ensures

pub loop-more-preserved-in-Nothing : goal.loop-more-preserved-in-Nothing
loop-more-preserved-in-Nothing c = turn_nothing c.loop-more.invariant c.loop-more-test.true c.line_end-e.ensures (told_as _ c.parse_descriptor_line-said.ensures c.told.ensures c.in_ok-told.was c.in-Nothing.is)

pub loop-more-preserved-in-Set : goal.loop-more-preserved-in-Set
loop-more-preserved-in-Set c = turn_set c.loop-more.invariant c.loop-more-test.true c.line_end-e.ensures (told_as _ c.parse_descriptor_line-said.ensures c.told.ensures c.in_ok-told.was c.in-Set.is) c.set.ensures

pub returns-then-count-ge-MOST-clause-head : goal.returns-then-count-ge-MOST-clause-head
returns-then-count-ge-MOST-clause-head c = rw c.at.ensures (stop_full c.loop-more.invariant c.loop-more-test.true c.line_end-e.ensures (told_as _ c.parse_descriptor_line-said.ensures c.told.ensures c.in_ok-told.was c.in-Extent.is) (omega arith)).0

pub returns-then-count-ge-MOST-clause-extents : goal.returns-then-count-ge-MOST-clause-extents
returns-then-count-ge-MOST-clause-extents c = (stop_full c.loop-more.invariant c.loop-more-test.true c.line_end-e.ensures (told_as _ c.parse_descriptor_line-said.ensures c.told.ensures c.in_ok-told.was c.in-Extent.is) (omega arith)).1

pub loop-more-preserved : goal.loop-more-preserved
loop-more-preserved c = turn_extent c.loop-more.invariant c.loop-more-test.true c.line_end-e.ensures (told_as _ c.parse_descriptor_line-said.ensures c.told.ensures c.in_ok-told.was c.in-Extent.is) (omega arith) (omega arith) c.with_size-sizes.ensures

pub returns-in_err-told-clause-head : goal.returns-in_err-told-clause-head
returns-in_err-told-clause-head c =
    let p = err_from_is_err_and c.from_residual-in_err-told.result c.from_residual-in_err-told.ensures.1 in
    rw (p.1, p.2) (stop_refused c.loop-more.invariant c.loop-more-test.true c.line_end-e.ensures c.parse_descriptor_line-said.ensures c.told.ensures c.in_err-told.was).0

pub returns-in_err-told-clause-extents : goal.returns-in_err-told-clause-extents
returns-in_err-told-clause-extents c = (stop_refused c.loop-more.invariant c.loop-more-test.true c.line_end-e.ensures c.parse_descriptor_line-said.ensures c.told.ensures c.in_err-told.was).1

pub returns-in_err-check_values-clause-head : goal.returns-in_err-check_values-clause-head
returns-in_err-check_values-clause-head c =
    let p = err_from_is_err_and c.from_residual-in_err-check_values.result c.from_residual-in_err-check_values.ensures.1 in
    rw (p.1, p.2) (end_refused c.loop-more.invariant c.loop-more-test.false c.in_err-check_values.ensures).0

pub returns-in_err-check_values-clause-extents : goal.returns-in_err-check_values-clause-extents
returns-in_err-check_values-clause-extents c = (end_refused c.loop-more.invariant c.loop-more-test.false c.in_err-check_values.ensures).1

pub returns-clause-head : goal.returns-clause-head
returns-clause-head c = (end_sound c.loop-more.invariant c.loop-more-test.false c.in_ok-check_values.ensures).0

pub returns-clause-extents : goal.returns-clause-extents
returns-clause-extents c = (end_sound c.loop-more.invariant c.loop-more-test.false c.in_ok-check_values.ensures).1
