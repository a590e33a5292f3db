-- `tables::build::no_rows` meets its contract. So many times the same row is the definition's empty list, filled up.
-- Assumes nothing.
use borrow.Author.Rules.{rules}
use Rattle.lines.proofs.Overs.{all_blank}
use Rattle.tables.proofs.build.no_rows.Goals as goal

pub returns : goal.returns
returns c = search (rules, all_blank)
