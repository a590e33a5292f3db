-- The room is the list's length, or most where it is longer, and so is that of `walk_in` with most places.
use Rattle.std.proofs.Common.{ℕ, ◌≡◌, ◌∙◌, ap, length, arith}
use Rattle.std.specs.Prelude.{min}
use Rattle.lines.specs.Record.{most}
use Rattle.maps.specs.Walk.{Walk, walked, listed}
use Rattle.maps.proofs.Marks.{walk_room}
use Rattle.maps.proofs.walk.walk.Goals as goal

rooms : (n : ℕ) → min (min most n) most ≡ min n most
rooms n = omega arith

pub returns : goal.returns
returns c =
    let n = length c.args.list.now in
    let e = walk_room c.args.t.now (min most n) n c.args.at c.args.length (rooms n) in
    (c.walk_in.ensures.0 ∙ ap walked e, c.walk_in.ensures.1 ∙ ap (λ (z : Walk). listed z c.args.list.now) e)
