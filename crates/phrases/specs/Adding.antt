-- What is added to an answer that is being written.
use Rattle.std.specs.Prelude.{ℕ, List, [], ◌∷◌, ◌≡◌}
use Rattle.puts.specs.Put.{Put}
use Rattle.puts.specs.Decimal.{decimal_of}
use Rattle.phrases.specs.Line.{spaced, ended, field, line}
use Rattle.phrases.specs.declared.line.Answer.{Answer}
use Rattle.phrases.specs.declared.line.End.{End}
use Rattle.phrases.specs.declared.line.End.TheVariants.{Word, Line}

-- a word with a space after it, or a line's last word
abbrev pub closed : End → List ℕ → List ℕ
closed Word w = spaced w
closed Line w = ended w

-- a word and a number, each with a space after it, or the two at a line's end
abbrev pub closed_field : End → List ℕ → ℕ → List ℕ
closed_field Word w n = field w n
closed_field Line w n = line (w ∷ decimal_of n ∷ [])

-- an answer to which a text was added: the same buffer, with the text put at the place where the answer stood, and the place after it
pub record Adds (before : Answer) (x : List ℕ) (after : Answer) : Type 0 where
  pub same : after.out.ghost_name ≡ before.out.ghost_name
  pub put : Put before.out.now before.at x after.at after.out.now
