-- Writing into a lent buffer: a text is cut where the buffer ends, and the place after it is counted all the same.
use Rattle.std.specs.Prelude.{ℕ, zero, suc, ◌+◌, ◌≤◌, min, List, [], ◌∷◌, ◌≡◌, length}
use Rattle.text.specs.Sector.{largest}

-- a buffer with a text at a place, as far as there is room; the bytes before and after it stay
unfoldable pub pasted : List ℕ → ℕ → List ℕ → List ℕ
pasted [] at x = []
pasted (b ∷ r) (suc at) x = b ∷ pasted r at x
pasted (b ∷ r) zero [] = b ∷ r
pasted (b ∷ r) zero (c ∷ x) = c ∷ pasted r zero x

-- the place after a text, within 2^64-1
abbrev pub after : ℕ → List ℕ → ℕ
after at x = min (at + length x) largest

-- a text was put at a place of a buffer: the place after it, and the buffer that it left
pub record Put (out : List ℕ) (at : ℕ) (x : List ℕ) (next : ℕ) (left : List ℕ) : Type 0 where
  pub place : next ≡ after at x
  pub bytes : left ≡ pasted out at x
  pub room : length out ≤ largest
