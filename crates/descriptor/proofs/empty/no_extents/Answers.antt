-- `no_extents` meets its contract. So many times the same place is the definition's empty list, filled up.
-- Assumes nothing.
use borrow.Author.Rules.{rules}
use Rattle.lines.proofs.Overs.{all_blank}
use Rattle.descriptor.proofs.empty.no_extents.Goals as goal

pub returns : goal.returns
returns c = search (rules, all_blank)
