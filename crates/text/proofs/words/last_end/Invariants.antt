-- `words::last_end` meets its contract. The invariant: only blanks are left from `end` on; `end` falls.
use Rattle.text.proofs.Ends.{Ended}
use Rattle.text.proofs.words.last_end.Given as goal

abbrev pub invariant-loop-end : goal.invariant-loop-end
invariant-loop-end l = Ended l.t l.end

abbrev pub decreases-loop-end : goal.decreases-loop-end
decreases-loop-end l = l.end
