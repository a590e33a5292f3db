-- The table that is built is that of the descriptor.
use Rattle.timing.proofs.Sums.{table_is}
use Rattle.timing.proofs.walk.walk_in.Goals as goal

pub returns : goal.returns
returns c = rw (c.tours.ensures, c.fill.ensures.table, c.no_table-table.ensures, table_is)
