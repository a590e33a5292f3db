-- Two numbers are in one of three orders, each with what it says.
-- Assumes nothing.
use Prim.Native.Nat.{ℕ, ◌<◌}
use native.Mathlib.Omega.{arith}
use mathlib.Core.Path.{◌≡◌}
use lib.Dec.{ltb}
use borrow.Author.Tests.{ltb-true, ltb-false}
use Rattle.text.proofs.Flat.{by_test}

pub three_ways : {C : Type 0} (a b : ℕ) → (a < b → C) → (a ≡ b → C) → (b < a → C) → C
three_ways a b f g h =
    by_test (ltb a b) (λ e. f (ltb-true a b e))
    (λ e. by_test (ltb b a) (λ q. h (ltb-true b a q)) (λ q. let e₂ = ltb-false a b e in let q₂ = ltb-false b a q in g (omega arith)))
