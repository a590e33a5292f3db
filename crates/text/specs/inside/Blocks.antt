-- What the code asks of several bytes at once, or of a place, so as not to read one character after the other.
-- Only functions that are not exported promise these; what they come to is said by the definitions of Text.
use Rattle.std.specs.Prelude.{ℕ, Option, Some, None, zero, suc, ◌≤◌, ◌<◌, List, Bool, true, false, ◌≡◌, length, get_or}
use Rattle.text.specs.Ranges.{pick, within}
use Rattle.text.specs.Blank.{blank}
use Rattle.text.specs.Text.{sound, text_at}
use Rattle.text.specs.declared.utf8.Char.{Char}
use Rattle.text.specs.declared.utf8.Char.TheVariants.{Scalar, Bad, End}

-- each of the first n bytes passes a test
unfoldable pub Passing : (ℕ → Bool → Type 0) → ℕ → List ℕ → Type 0
Passing p n l = (i : ℕ) → i < n → p (get_or l i 0) true

-- from a up to e there are whole characters: the text is UTF-8 from a on exactly if it is from e on
unfoldable pub Passed : List ℕ → ℕ → ℕ → Type 0
Passed t a e = (a ≤ e) × (e ≤ length t) × (sound (text_at t a) ≡ sound (text_at t e))

-- the last place up to p whose byte is none of 80 to BF, or 0
unfoldable pub back_to : List ℕ → ℕ → ℕ
back_to t zero = zero
back_to t (suc p) = pick (within 0x80 0xBF (get_or t (suc p) 0)) (back_to t p) (suc p)

-- a character that is a blank
abbrev pub blank_in : Char → Bool
blank_in (Scalar c w) = blank c
blank_in Bad = false
blank_in End = false

-- how many bytes a character has, or 0 where there is none
abbrev pub width_in : Char → Option ℕ
width_in (Scalar c w) = Some w
width_in Bad = None
width_in End = None
