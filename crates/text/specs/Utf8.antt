-- UTF-8 by Table 3-7 of the Unicode Standard.
use Rattle.std.specs.Prelude.{ℕ, zero, suc, ◌+◌, ◌*◌, ◌%◌, List, [], ◌∷◌, drop, None, Option, Some}
use Rattle.text.specs.Ranges.{Row, row, look, pick, within}
use Rattle.text.specs.declared.utf8.Char.{Char}
use Rattle.text.specs.declared.utf8.Char.TheVariants.{Scalar, Bad, End}

-- Table 3-7 and Table 3-6: the first byte's range; how many bytes follow, the second byte's range, and what the first byte's own bits are below
abbrev pub leads : List (Row (Option (ℕ × ℕ × ℕ × ℕ)))
leads =
    row 0x00 0x7F (Some (0, 0x80, 0xBF, 0x80))
    ∷ row 0xC2 0xDF (Some (1, 0x80, 0xBF, 0x20))
    ∷ row 0xE0 0xE0 (Some (2, 0xA0, 0xBF, 0x10))
    ∷ row 0xE1 0xEC (Some (2, 0x80, 0xBF, 0x10))
    ∷ row 0xED 0xED (Some (2, 0x80, 0x9F, 0x10))
    ∷ row 0xEE 0xEF (Some (2, 0x80, 0xBF, 0x10))
    ∷ row 0xF0 0xF0 (Some (3, 0x90, 0xBF, 0x08))
    ∷ row 0xF1 0xF3 (Some (3, 0x80, 0xBF, 0x08))
    ∷ row 0xF4 0xF4 (Some (3, 0x80, 0x8F, 0x08))
    ∷ []

unfoldable pub lead_of : ℕ → Option (ℕ × ℕ × ℕ × ℕ)
lead_of b = look None leads b

-- n bytes follow, the first in lo to hi and the others in 80 to BF; each has six bits more of the code point c, of a character w bytes wide
unfoldable pub tail_of : ℕ → ℕ → ℕ → ℕ → ℕ → List ℕ → Char
tail_of zero lo hi c w l = Scalar c w
tail_of (suc n) lo hi c w [] = Bad
tail_of (suc n) lo hi c w (x ∷ r) = pick (within lo hi x) (tail_of n 0x80 0xBF (c * 64 + x % 64) w r) Bad

-- the character of a first byte b and the bytes r after it
abbrev pub char_by : Option (ℕ × ℕ × ℕ × ℕ) → ℕ → List ℕ → Char
char_by (Some (n, lo, hi, span)) b r = tail_of n lo hi (b % span) (n + 1) r
char_by None b r = Bad

-- the character that a list of bytes starts with, and its width
unfoldable pub char_of : List ℕ → Char
char_of [] = End
char_of (b ∷ r) = char_by (lead_of b) b r

-- the character of t at the place at
unfoldable pub char_at : List ℕ → ℕ → Char
char_at t at = char_of (drop at t)
