-- What the texts mean, in the words of the rules. Each statement is proved by the law that it cites.
-- Assumes nothing.
use Rattle.std.specs.Prelude.{Some}
use Prim.Native.Nat.{ℕ, ◌+◌, ◌≤◌, ◌<◌}
use mathlib.Core.List.{List, ◌++◌}
use mathlib.Core.Path.{◌≡◌}
use lib.ListN.{length, get_or, take, drop}
use Rattle.text.specs.Number.{number_of}
use Rattle.text.specs.Sector.{largest}
use Rattle.puts.specs.Put.{pasted, after}
use Rattle.puts.specs.Decimal.{decimal_of}
use Rattle.puts.proofs.Puts.{pasted_length, pasted_join, pasted_whole, pasted_start, after_whole}
use Rattle.puts.proofs.Digits.{reads_back, no_leading_zero}

-- A buffer keeps its length, whatever is written into it.
pub a_buffer_keeps_its_length : (out : List ℕ) (at : ℕ) (x : List ℕ) → length (pasted out at x) ≡ length out
a_buffer_keeps_its_length = pasted_length

-- A text that fits stands at its place, and the bytes before and after it stay.
pub a_text_stands_at_its_place : (out : List ℕ) (at : ℕ) (x : List ℕ) → at + length x ≤ length out → pasted out at x ≡ take at out ++ (x ++ drop (at + length x) out)
a_text_stands_at_its_place = pasted_whole

-- Two texts written one after the other are the two joined, written at once, also where the buffer ends between or within them.
pub texts_join : (out : List ℕ) (at : ℕ) (x y : List ℕ) → pasted (pasted out at x) (at + length x) y ≡ pasted out at (x ++ y)
texts_join = pasted_join

-- An answer that fits stands whole at the buffer's start.
pub an_answer_that_fits_is_whole : (out x : List ℕ) → length x ≤ length out → take (length x) (pasted out 0 x) ≡ x
an_answer_that_fits_is_whole = pasted_start

-- A length that comes back, if it is below 2^64-1, is that of the whole answer, also where the buffer was too short.
pub a_length_is_the_whole_answers : (x : List ℕ) (r : ℕ) → r ≡ after 0 x → r < largest → r ≡ length x
a_length_is_the_whole_answers = after_whole

-- The digits of a number, read by the number rule, are the number.
pub digits_read_back : (n : ℕ) → n ≤ largest → number_of largest (decimal_of n) ≡ Some n
digits_read_back = reads_back

-- No number but 0 begins with the digit 0.
pub no_zero_leads : (n : ℕ) → get_or (decimal_of n) 0 0 ≡ 0x30 → n ≡ 0
no_zero_leads = no_leading_zero
