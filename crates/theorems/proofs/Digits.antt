-- A number below ten has one digit, and any other has one more than its tens.
-- So a number below 10 ^ k has at most k digits, and one of 64 bits at most 20.
-- Assumes nothing.
use Prim.Native.Nat.{ℕ, zero, suc, ◌/◌, ◌^◌, ◌≤◌, ◌<◌}
use native.Mathlib.Omega.{arith}
use lib.ListN.{length, length-append}
use lib.Dec.{ltb}
use borrow.Author.Tests.{ltb-true, ltb-false}
use Rattle.text.specs.Sector.{largest}
use Rattle.puts.specs.Decimal.{decimal_of}
use Rattle.text.proofs.Flat.{by_test}
use Rattle.puts.proofs.Decimals.{decimal_low, decimal_tens}

-- the most digits of a number of 64 bits
abbrev pub digits_most : ℕ
digits_most = 20

pub decimal_most : (k n : ℕ) → n < 10 ^ suc k → length (decimal_of n) ≤ suc k
decimal_most zero n h = let g : n < 10 = omega arith in rw (decimal_low n g) (omega arith)
decimal_most (suc k) n h =
    by_test (ltb n 10)
    (λ e. let g = ltb-true n 10 e in rw (decimal_low n g) (omega arith))
    (λ e. let g = ltb-false n 10 e in
    rw (decimal_tens n g) (simp length-append (omega (arith, decimal_most k (n / 10) (omega arith)))))

pub decimal_short : (n : ℕ) → n ≤ largest → length (decimal_of n) ≤ digits_most
decimal_short n h = decimal_most 19 n (omega arith)
