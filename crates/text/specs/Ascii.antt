-- The bytes of a text that stands in a definition.
use Rattle.std.specs.Prelude.{ℕ, zero, suc, List, [], ◌∷◌}
use Prim.Native.String.{String, len, char_at}
use Prim.Native.Char.{code}

-- n characters of a text, by their codes
abbrev codes : ℕ → String → ℕ → List ℕ
codes zero s at = []
codes (suc n) s at = code (char_at s at) ∷ codes n s (suc at)

-- the bytes of a text in ASCII
abbrev pub ascii : String → List ℕ
ascii s = codes (len s) s 0
