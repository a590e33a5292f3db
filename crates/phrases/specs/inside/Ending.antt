-- The byte that says what ends with a word.
use Rattle.std.specs.Prelude.{ℕ}
use Rattle.phrases.specs.declared.line.End.{End}
use Rattle.phrases.specs.declared.line.End.TheVariants.{Word, Line}

-- a space, or 0A
abbrev pub end_byte : End → ℕ
end_byte Word = 0x20
end_byte Line = 0x0A
