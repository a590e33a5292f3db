-- `maps::stepping::walk_from` meets its contract. The invariant: what is answered and left by the walk from here on, its pieces stored after those so far, is what the whole walk answers and leaves. The room left falls.
use Rattle.std.proofs.Common.{◌≡◌, ◌-◌, ◌*◌, ◌≤◌}
use Rattle.lines.specs.Record.{most}
use Rattle.maps.specs.Walk.{walk_from, walked, listed}
use Rattle.maps.proofs.Marks.{ending}
use Rattle.maps.proofs.stepping.walk_from.Given as goal

abbrev pub invariant-loop-left : goal.invariant-loop-left
invariant-loop-left l = record {
  within : l.count ≤ l.room;
  few : l.looked ≤ most * l.count;
  ends : ending l.count l.looked l.list (walk_from (l.room - l.count) l.t l.pos l.left) ≡ (walked (walk_from l.room l.t l.fn.pos l.fn.left), listed (walk_from l.room l.t l.fn.pos l.fn.left) l.fn.list);
}

abbrev pub decreases-loop-left : goal.decreases-loop-left
decreases-loop-left l = l.room - l.count
