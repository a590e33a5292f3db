-- What is read and built depends on the descriptor alone.
use Rattle.std.proofs.Common.{◌∙◌}
use Rattle.timing.proofs.Sums.{lent_size, lent_table}
use Rattle.timing.proofs.read.fill.Goals as goal

pub returns-clause-size : goal.returns-clause-size
returns-clause-size c = c.value_of.ensures ∙ rw (c.parse_descriptor_file-read.ensures.0, c.build-built.ensures.0, c.build-built.ensures.1, c.parse_descriptor_file-read.ensures.1) (lent_size c.args.d.now c.args.«record».now c.args.table.now)

pub returns-clause-table : goal.returns-clause-table
returns-clause-table c = rw (c.build-built.ensures.1, c.parse_descriptor_file-read.ensures.1) (lent_table c.args.d.now c.args.«record».now c.args.table.now)
