-- The one goal at which the check alone gives up: a digit more.
use Rattle.text.proofs.Numbers.{digits}
use Rattle.text.proofs.number.digits.Goals as goal

pub loop-b-preserved : goal.loop-b-preserved
loop-b-preserved c = search digits
