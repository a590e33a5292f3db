-- `tables::build::put_rows` meets its contract. The invariant: what is answered and left from the extents to come on is what the definition makes of the whole record.
use Rattle.tables.proofs.Endings.{Stands}
use Rattle.tables.proofs.build.put_rows.Given as goal

abbrev pub invariant-loop-i : goal.invariant-loop-i
invariant-loop-i l = Stands l.record l.initial.into l.into l.i l.size
