-- `number::digits` meets its contract. The invariant: what the digits say is what those left say after the value so far.
use mathlib.Core.Path.{◌≡◌}
use Rattle.text.specs.Number.{digits_of}
use Rattle.text.proofs.Numbers.{num_at}
use Rattle.text.proofs.number.digits.Given as goal

abbrev pub invariant-loop-b : goal.invariant-loop-b
invariant-loop-b l = digits_of l.limit l.t ≡ num_at l.limit l.t l.b-index l.v
