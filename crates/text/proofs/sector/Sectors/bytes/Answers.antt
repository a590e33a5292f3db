-- `Sectors::bytes` meets its contract: the product with a sector's bytes, where it is within 2^64-1.
use native.Mathlib.Omega.{arith}
use mathlib.Core.Path.{◌∙◌}
use Rattle.text.proofs.Sectors.{bytes_over}
use Rattle.text.proofs.sector.Sectors.bytes.Goals as goal

pub returns-in_err-checked_mul : goal.returns-in_err-checked_mul
returns-in_err-checked_mul c = c.from_residual.ensures ∙ bytes_over c.args.self (λ h. c.in_err-checked_mul.ensures (omega (arith, h)))
