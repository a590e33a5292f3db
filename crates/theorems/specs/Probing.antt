-- Probing, by the lines of a descriptor.
use Rattle.std.specs.Prelude.{ℕ, ◌≤◌, List, ◌∷◌, ◌++◌, true, ◌≡◌, Some}
use Rattle.text.specs.Ascii.{ascii}
use Rattle.text.specs.Lines.{count}
use Rattle.text.specs.Number.{number_of}
use Rattle.text.specs.Text.{text_at, sound, trimmed}
use Rattle.lines.specs.Line.{version_limit}
use Rattle.theorems.specs.Tiling.{All}

-- a line's trimmed text before its first `=` is `version`, and this is the rest
pub record VersionLine (l rest : List ℕ) : Type 0 where
  pub before : List ℕ
  pub whole : l ≡ before ++ 0x3D ∷ rest
  pub first : count 0x3D before ≡ 0
  pub key : trimmed before ≡ ascii "version"

-- a line that is passed over: it is UTF-8, and has no `=` or another text before it
abbrev pub PassedOver : List ℕ → Type 0
PassedOver l = (sound (text_at l 0) ≡ true) × ((rest : List ℕ) → VersionLine l rest → ⊥)

-- the trimmed rest is a number 1 to 3
abbrev pub OneToThree : List ℕ → Type 0
OneToThree rest = (n : ℕ) × (number_of version_limit (trimmed rest) ≡ Some n) × (1 ≤ n) × (n ≤ 3)

-- Of some lines the first that has the key `version` says 1 to 3; it and those before it are UTF-8.
pub record FirstSays (ls : List (List ℕ)) : Type 0 where
  pub before : List (List ℕ)
  pub line : List ℕ
  pub after : List (List ℕ)
  pub lines : ls ≡ before ++ line ∷ after
  pub passed : All PassedOver before
  pub text : sound (text_at line 0) ≡ true
  pub rest : List ℕ
  pub version : VersionLine line rest
  pub says : OneToThree rest
