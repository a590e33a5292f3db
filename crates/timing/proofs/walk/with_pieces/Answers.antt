-- The sum is the fold over the pieces.
use Rattle.std.proofs.Common.{rules}
use Rattle.timing.proofs.Sums.{folded}
use Rattle.timing.proofs.walk.with_pieces.Goals as goal

pub returns : goal.returns
returns c = rw (folded c.args.sum c.args.pieces.now) (search rules)
