-- The one goal at which the check alone gives up: the place that is answered.
use Rattle.text.proofs.Ends.{lasts}
use Rattle.text.proofs.words.last_end.Goals as goal

pub returns-then-not-blank_at : goal.returns-then-not-blank_at
returns-then-not-blank_at c = search lasts
