-- The table that is built is that of the descriptor.
use Rattle.timing.proofs.Sums.{table_is}
use Rattle.timing.proofs.map.map_in.Goals as goal

pub returns : goal.returns
returns c = rw (c.many.ensures, c.fill.ensures.table, c.no_table-table.ensures, table_is)
