-- A number in decimal digits, without leading zeros.
use Rattle.std.specs.Prelude.{ℕ, zero, suc, ◌+◌, ◌/◌, ◌%◌, List, [], ◌∷◌, ◌++◌, ltb}
use Rattle.text.specs.Ranges.{pick}

-- a digit's byte
abbrev pub digit : ℕ → ℕ
digit d = 0x30 + d

-- the digits of n: those of its tens, if it has any, and then its last; k is at least how many tens it can be divided into
unfoldable pub digits_in : ℕ → ℕ → List ℕ
digits_in zero n = digit (n % 10) ∷ []
digits_in (suc k) n = pick (ltb n 10) (digit (n % 10) ∷ []) (digits_in k (n / 10) ++ (digit (n % 10) ∷ []))

-- a number's digits
unfoldable pub decimal_of : ℕ → List ℕ
decimal_of n = digits_in n n
