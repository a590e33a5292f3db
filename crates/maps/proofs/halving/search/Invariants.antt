-- `maps::halving::search`: what the search of the window that is left comes to, after the looks so far, is what the whole search does. The window gets narrower.
use Rattle.std.proofs.Common.{◌≡◌, ◌+◌, ◌-◌, ◌≤◌}
use Rattle.lines.specs.Record.{most}
use Rattle.maps.specs.Map.{halve, search_of}
use Rattle.maps.specs.inside.Halving.{upon}
use Rattle.maps.proofs.halving.search.Given as goal

abbrev pub invariant-loop-lo : goal.invariant-loop-lo
invariant-loop-lo l = record {
  within : l.hi ≤ most;
  few : l.looked + (l.hi - l.lo) ≤ most;
  same : upon l.looked (halve (l.hi - l.lo) l.t.rows l.lo l.hi l.offset) ≡ search_of l.t l.offset;
}

abbrev pub decreases-loop-lo : goal.decreases-loop-lo
decreases-loop-lo l = l.hi - l.lo
