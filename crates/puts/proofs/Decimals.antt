-- A number's digits are those of its tens and then its last one.
-- Assumes nothing.
use Prim.Native.Nat.{ℕ, zero, suc, ◌/◌, ◌%◌, ◌≤◌, ◌<◌}
use native.Mathlib.Omega.{arith}
use mathlib.Core.List.{[], ◌∷◌, ◌++◌}
use mathlib.Core.Path.{◌≡◌, refl}
use borrow.Author.Tests.{lt-ltb, le-ltb, ltb-false}
use lib.Dec.{ltb}
use Rattle.text.proofs.Flat.{by_test}
use Rattle.puts.specs.Decimal.{digit, digits_in, decimal_of}

-- more room for tens changes nothing
room_free : (k m n : ℕ) → n ≤ k → n ≤ m → digits_in k n ≡ digits_in m n
unfolding digits_in
room_free zero zero n h g = refl
room_free zero (suc m) n h g = rw (lt-ltb n 10 (omega arith))
room_free (suc k) zero n h g = rw (lt-ltb n 10 (omega arith))
room_free (suc k) (suc m) n h g =
    by_test (ltb n 10)
    (λ e. rw e)
    (λ e. let l = ltb-false n 10 e in rw (e, room_free k m (n / 10) (omega arith) (omega arith)))

-- a number below ten is one digit
pub decimal_low : (n : ℕ) → n < 10 → decimal_of n ≡ digit (n % 10) ∷ []
unfolding decimal_of digits_in
decimal_low zero h = refl
decimal_low (suc n) h = rw (lt-ltb (suc n) 10 h)

-- another is its tens and then its last digit
pub decimal_tens : (n : ℕ) → 10 ≤ n → decimal_of n ≡ decimal_of (n / 10) ++ (digit (n % 10) ∷ [])
unfolding decimal_of digits_in
decimal_tens zero h = absurd (omega arith)
decimal_tens (suc n) h = rw (le-ltb (suc n) 10 h, room_free n (suc n / 10) (suc n / 10) (omega arith) (omega arith))

pub ruleset decimals = (decimal_low, decimal_tens)
