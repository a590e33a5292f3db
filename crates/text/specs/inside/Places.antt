-- Definitions of a text from a place on, as the code's loops go.
use Rattle.std.specs.Prelude.{ℕ, zero, suc, ◌/◌, List, drop}
use Rattle.text.specs.Lines.{lines_of}
use Rattle.text.specs.declared.utf8.Char.{Char}
use Rattle.text.specs.Utf8.{tail_of}

-- the lines of t from the place at
unfoldable pub lines_at : List ℕ → ℕ → List (List ℕ)
lines_at t at = lines_of (drop at t)

-- what the bits so far are below where n bytes are to follow: 2 ^ 21, six bits less for each
unfoldable pub cap : ℕ → ℕ
cap zero = 2097152
cap (suc n) = cap n / 64

-- n bytes follow (`tail_of`), of the bytes of t from the place at
unfoldable pub tail_at : List ℕ → ℕ → ℕ → ℕ → ℕ → ℕ → ℕ → Char
tail_at t at n lo hi c w = tail_of n lo hi c w (drop at t)
