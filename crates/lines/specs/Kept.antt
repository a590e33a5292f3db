-- Texts are kept as place and length in the descriptor; an empty text is place 0, length 0.
use Rattle.std.specs.Prelude.{ℕ, ◌+◌, ◌-◌, List, eqb, take, drop, None, Option, Some}
use Rattle.text.specs.Ranges.{pick}
use Rattle.text.specs.Text.{trim_of}
use Rattle.text.specs.Find.{strip_of}
use Rattle.lines.specs.Record.{no_text}
use Rattle.lines.specs.declared.record.Text.{Text}

-- the part from a up to e of a text that lies at the place p
unfoldable pub kept_at : ℕ → ℕ → ℕ → Text
kept_at p a e = pick (eqb a e) no_text (record { place = p + a; length = e - a })

abbrev pub kept_by : ℕ → Option (ℕ × ℕ) → Text
kept_by p (Some (a, e)) = kept_at p a e
kept_by p None = no_text

-- what trimming leaves of a text that lies at the place p
unfoldable pub kept_of : ℕ → List ℕ → Text
kept_of p t = kept_by p (trim_of t)

abbrev pub unquoted_in : ℕ → ℕ × ℕ → Text
unquoted_in p s = kept_at p s.0 s.1

abbrev pub unquoted_by : ℕ → List ℕ → Option (ℕ × ℕ) → Text
unquoted_by p t (Some (a, e)) = unquoted_in (p + a) (strip_of (take (e - a) (drop a t)))
unquoted_by p t None = no_text

-- the same, with its quotes stripped
unfoldable pub unquoted_of : ℕ → List ℕ → Text
unquoted_of p t = unquoted_by p t (trim_of t)
