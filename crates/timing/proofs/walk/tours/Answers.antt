use Rattle.std.proofs.Common.{◌≡◌, ◌∙◌, sym, length}
use Rattle.lines.specs.Record.{most}
use Rattle.maps.specs.Walk.{walk_of}
use Rattle.timing.specs.Walk.{pieces_in}
use Rattle.timing.proofs.Sums.{written_fits, written_long, window_end, tour_adds, walk_next, walk_done}
use Rattle.timing.proofs.walk.tours.Goals as goal

pub slice_bounds-list-end : goal.slice_bounds-list-end
slice_bounds-list-end c =
    rw (c.walk-w.ensures.0, c.walk-w.ensures.1) (written_fits (walk_of c.args.t.now (length c.loop.list) c.loop.at c.args.window) c.loop.list)

pub slice_bounds-with_pieces-end : goal.slice_bounds-with_pieces-end
slice_bounds-with_pieces-end c =
    rw (c.walk-w.ensures.0, c.walk-w.ensures.1) (written_long (walk_of c.args.t.now (length c.loop.list) c.loop.at c.args.window) c.loop.list)

pub loop-preserved : goal.loop-preserved
loop-preserved c =
    let t = c.args.t.now in
    let l = c.loop in
    let w = c.args.window in
    let sum : c.with_pieces-sum.result ≡ pieces_in l.sum (walk_of t most l.at w).pieces =
    c.with_pieces-sum.ensures ∙ rw (c.walk-w.ensures.0, c.walk-w.ensures.1) (tour_adds t w l.at l.sum l.list c.loop-test.array_long) in
    rw (sum, window_end l.at w) (walk_next t w l.at l.sum c.args.count l.counter c.loop-test.true ∙ l.invariant)

pub returns : goal.returns
returns c = sym (walk_done c.args.t.now c.args.window c.loop.at c.loop.sum c.args.count c.loop.counter c.loop-test.false) ∙ c.loop.invariant
