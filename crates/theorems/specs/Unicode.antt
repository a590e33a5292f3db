-- The Unicode scalar values (D76), and UTF-8 as the encoding form of them (D92 with Table 3-6).
use Rattle.std.specs.Prelude.{ℕ, ◌+◌, ◌/◌, ◌%◌, List, [], ◌∷◌, ◌++◌, Bool, true, false, ◌≡◌, leb}
use Rattle.text.specs.Ranges.{pick, within}
use Rattle.text.specs.Find.{begins}

-- 0 to D7FF and E000 to 10FFFF
abbrev pub scalar : ℕ → Bool
scalar c = pick (leb c 0xD7FF) true (within 0xE000 0x10FFFF c)

-- a byte after the first: 10xxxxxx, with the lowest six bits of x
abbrev pub trailing : ℕ → ℕ
trailing x = 0x80 + x % 64

-- Table 3-6: 0xxxxxxx; 110yyyyy 10xxxxxx; 1110zzzz 10yyyyyy 10xxxxxx; 11110uuu 10zzzzzz 10yyyyyy 10xxxxxx
unfoldable pub encode : ℕ → List ℕ
encode c =
    pick (leb c 0x7F) (c ∷ [])
    (pick (leb c 0x7FF) ((0xC0 + c / 64) ∷ trailing c ∷ [])
    (pick (leb c 0xFFFF) ((0xE0 + c / 4096) ∷ trailing (c / 64) ∷ trailing c ∷ [])
    ((0xF0 + c / 262144) ∷ trailing (c / 4096) ∷ trailing (c / 64) ∷ trailing c ∷ [])))

-- c is a scalar value, and the bytes begin with its encoding
abbrev pub Stands : ℕ → List ℕ → Type 0
Stands c l = (scalar c ≡ true) × (begins l (encode c) ≡ true)

-- each of a list is a scalar value
unfoldable pub scalars : List ℕ → Bool
scalars [] = true
scalars (c ∷ cs) = pick (scalar c) (scalars cs) false

-- the encodings of a list, one after the other
unfoldable pub encode_all : List ℕ → List ℕ
encode_all [] = []
encode_all (c ∷ cs) = encode c ++ encode_all cs
