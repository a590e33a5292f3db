-- The room is the definition's; a table that says too many rows is refused first, and nothing is written.
use Rattle.std.proofs.Common.{arith, ◌∙◌, ap, length}
use Rattle.std.specs.Prelude.{min}
use Rattle.maps.specs.Walk.{Walk, walked, listed}
use Rattle.maps.proofs.Marks.{counted_is, refused_is, refused_keeps}
use Rattle.maps.proofs.stepping.walk_in.Goals as goal

pub returns-then-t-gt-MOST : goal.returns-then-t-gt-MOST
returns-then-t-gt-MOST c =
    let n = min c.args.places (length c.args.list.now) in
    (c.ended.ensures ∙ refused_is c.args.t.now n c.args.at c.args.length (omega arith), refused_keeps c.args.t.now n c.args.at c.args.length c.args.list.now (omega arith))

pub returns : goal.returns
returns c =
    let e = counted_is c.args.t.now (min c.args.places (length c.args.list.now)) c.args.at c.args.length (rw (c.min-room.ensures, c.min.ensures)) (omega arith) in
    (c.walk_from.ensures.0 ∙ ap walked e, c.walk_from.ensures.1 ∙ ap (λ (w : Walk). listed w c.args.list.now) e)
