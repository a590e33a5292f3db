-- `utf8::first_byte` meets its contract: at each arm the byte is a key, or lies in a range within which `leads` has one value.
-- For a key the table is computed at it; for a range it is computed from the two ends.
use Rattle.std.specs.Prelude.{None}
use Prim.Native.Nat.{ℕ, ◌≤◌}
use native.Mathlib.Omega.{arith}
use mathlib.Core.Path.{◌≡◌, sym, ap}
use lib.Dec.{T}
use Rattle.text.specs.Utf8.{lead_of, leads}
use Rattle.text.proofs.Flat.{flat, look_in}
use Rattle.text.proofs.Chars.{lead_in}
use Rattle.text.proofs.utf8.first_byte.Goals as goal

at : (lo hi b : ℕ) → T (flat lo hi leads) → lo ≤ b → b ≤ hi → look_in None leads lo hi ≡ lead_of b
at lo hi b t p q = sym (lead_in lo hi b t p q)

pub returns-in-224 : goal.returns-in-224
unfolding lead_of
returns-in-224 c = sym (ap lead_of c.in-224.is)

pub returns-in-237 : goal.returns-in-237
unfolding lead_of
returns-in-237 c = sym (ap lead_of c.in-237.is)

pub returns-in-240 : goal.returns-in-240
unfolding lead_of
returns-in-240 c = sym (ap lead_of c.in-240.is)

pub returns-in-244 : goal.returns-in-244
unfolding lead_of
returns-in-244 c = sym (ap lead_of c.in-244.is)

pub returns-in-0-to-127 : goal.returns-in-0-to-127
returns-in-0-to-127 c = at 0x00 0x7F _ tt (omega arith) (omega arith)

pub returns-in-194-to-223 : goal.returns-in-194-to-223
returns-in-194-to-223 c = at 0xC2 0xDF _ tt (omega arith) (omega arith)

pub returns-in-225-to-236 : goal.returns-in-225-to-236
returns-in-225-to-236 c = at 0xE1 0xEC _ tt (omega arith) (omega arith)

pub returns-in-238-to-239 : goal.returns-in-238-to-239
returns-in-238-to-239 c = at 0xEE 0xEF _ tt (omega arith) (omega arith)

pub returns-in-241-to-243 : goal.returns-in-241-to-243
returns-in-241-to-243 c = at 0xF1 0xF3 _ tt (omega arith) (omega arith)

pub returns-in_default : goal.returns-in_default
returns-in_default c = at 0x80 0xC1 _ tt (omega arith) (omega arith)

pub returns-in_default-2 : goal.returns-in_default-2
returns-in_default-2 c = at 0xF5 0xFF _ tt (omega arith) (omega arith)
