-- A text's characters, and what trimming and cutting into words leave of them.
use Rattle.std.specs.Prelude.{ℕ, zero, suc, ◌+◌, ◌-◌, List, [], ◌∷◌, Bool, true, false, take, drop, eqb, None, Option, Some}
use Rattle.text.specs.Ranges.{pick}
use Rattle.text.specs.Utf8.{char_of}
use Rattle.text.specs.Blank.{blank}
use Rattle.text.specs.declared.utf8.Char.{Char}
use Rattle.text.specs.declared.utf8.Char.TheVariants.{Scalar, Bad, End}

-- two truth values are the same
abbrev pub alike : Bool → Bool → Bool
alike true w = w
alike false true = false
alike false false = true

-- the characters of a text in order, each with where it starts, where it ends, and its code point; `bad` where the bytes are no UTF-8
pub data Text : Type 0 where
  done : Text
  bad : Text
  char : ℕ → ℕ → ℕ → Text → Text

-- a character read at p; `rest k` is what follows, with k more bytes passed over
abbrev pub put : ℕ → Char → (ℕ → Text) → Text
put p (Scalar c w) rest = char p (p + w) c (rest (w - 1))
put p Bad rest = bad
put p End rest = done

-- the characters of bytes that start at p, once k bytes are passed over
unfoldable pub text_from : ℕ → ℕ → List ℕ → Text
text_from p k [] = done
text_from p (suc k) (b ∷ r) = text_from (suc p) k r
text_from p zero (b ∷ r) = put p (char_of (b ∷ r)) (λ k. text_from (suc p) k r)

-- the characters of t from the place at
unfoldable pub text_at : List ℕ → ℕ → Text
text_at t at = text_from at 0 (drop at t)

-- ---- trimming
-- all of it is UTF-8
unfoldable pub sound : Text → Bool
sound done = true
sound bad = false
sound (char a e c r) = sound r

-- without the blanks at the front
unfoldable pub drop_blanks : Text → Text
drop_blanks done = done
drop_blanks bad = bad
drop_blanks (char a e c r) = pick (blank c) (drop_blanks r) (char a e c r)

-- the end of the last character that is not blank, or l where there is none
unfoldable pub last_end : ℕ → Text → ℕ
last_end l done = l
last_end l bad = l
last_end l (char a e c r) = last_end (pick (blank c) l e) r

-- the range of the characters, up to the last that is not blank
abbrev pub range_of : Text → Option (ℕ × ℕ)
range_of done = Some (0, 0)
range_of bad = None
range_of (char a e c r) = Some (a, last_end e r)

unfoldable pub trim_text : Text → Option (ℕ × ℕ)
trim_text x = pick (sound x) (range_of (drop_blanks x)) None

-- the range that trimming leaves of a text, or that the text is no UTF-8
unfoldable pub trim_of : List ℕ → Option (ℕ × ℕ)
trim_of t = trim_text (text_at t 0)

-- the part of a text that a range is
abbrev pub cut : List ℕ → Option (ℕ × ℕ) → List ℕ
cut t (Some (a, e)) = take (e - a) (drop a t)
cut t None = []

-- a text without the blanks at both ends, empty where the text is no UTF-8
unfoldable pub trimmed : List ℕ → List ℕ
trimmed t = cut t (trim_of t)

-- ---- words
-- where the characters end that are blank, if blanks are wanted, or not blank, if they are not; from l on
unfoldable pub run_text : Bool → ℕ → Text → ℕ
run_text w l done = l
run_text w l bad = l
run_text w l (char a e c r) = pick (alike (blank c) w) (run_text w e r) l

unfoldable pub run_of : Bool → List ℕ → ℕ → ℕ
run_of w t at = run_text w at (text_at t at)

abbrev pub word_in : ℕ → ℕ → Option (ℕ × ℕ)
word_in a e = pick (eqb a e) None (Some (a, e))

-- the next word of t from the place at: past the blanks, up to a blank
unfoldable pub word_of : List ℕ → ℕ → Option (ℕ × ℕ)
word_of t at = word_in (run_of true t at) (run_of false t (run_of true t at))

-- ---- the same on code points alone
-- those in front that are blank, if blanks are wanted, or not blank, if they are not
unfoldable pub run_codes : Bool → List ℕ → List ℕ
run_codes w [] = []
run_codes w (c ∷ cs) = pick (alike (blank c) w) (c ∷ run_codes w cs) []

-- those after them
unfoldable pub past_codes : Bool → List ℕ → List ℕ
past_codes w [] = []
past_codes w (c ∷ cs) = pick (alike (blank c) w) (past_codes w cs) (c ∷ cs)

-- each is a blank
unfoldable pub all_blank : List ℕ → Bool
all_blank [] = true
all_blank (c ∷ cs) = pick (blank c) (all_blank cs) false

-- without the blanks at the end
unfoldable pub end_codes : List ℕ → List ℕ
end_codes [] = []
end_codes (c ∷ cs) = pick (all_blank (c ∷ cs)) [] (c ∷ end_codes cs)

-- without the blanks at both ends
abbrev pub trim_codes : List ℕ → List ℕ
trim_codes cs = end_codes (past_codes true cs)

-- the next word: past the blanks, up to a blank
abbrev pub word_codes : List ℕ → List ℕ
word_codes cs = run_codes false (past_codes true cs)
