-- `put_lines` meets its contract. The invariant: what is answered and left from the next line on is what the definition makes of the whole descriptor.
use Prim.Native.Nat.{suc, ◌-◌}
use lib.ListN.{length}
use Rattle.text.specs.Ranges.{pick}
use Rattle.descriptor.proofs.Turns.{Stands}
use Rattle.descriptor.proofs.read.put_lines.Given as goal

abbrev pub invariant-loop-more : goal.invariant-loop-more
invariant-loop-more l = Stands l.d l.initial.into l.into l.more l.at l.line l.desc l.count l.sizes

abbrev pub decreases-loop-more : goal.decreases-loop-more
decreases-loop-more l = pick l.more (suc (length l.d - l.at)) 0
