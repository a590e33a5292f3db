-- The code points of a text's characters, which the laws between bytes and code points go by.
use Rattle.std.specs.Prelude.{ℕ, List, [], ◌∷◌}
use Rattle.text.specs.Text.{Text, done, bad, char}

-- the code points of the characters
unfoldable pub codes : Text → List ℕ
codes done = []
codes bad = []
codes (char a e c r) = c ∷ codes r
