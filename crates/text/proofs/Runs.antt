-- A run of blanks, or of characters that are none, goes on or ends by the character that stands at its place.
-- A byte below 80 is that character by itself; any other place is read as the first of the part from there on.
use Prim.Native.Nat.{ℕ, ◌+◌, ◌-◌, ◌≤◌, ◌<◌}
use mathlib.Core.List.{List}
use mathlib.Core.Bool.{Bool, true, false, beq}
use mathlib.Core.Path.{◌≡◌, refl, sym, ◌∙◌}
use lib.ListN.{length, get_or, take, drop}
use native.Mathlib.Omega.{arith}
use borrow.Author.Rules.{rules}
use Rattle.text.specs.Ranges.{pick}
use Rattle.text.specs.Utf8.{char_at}
use Rattle.text.specs.Blank.{blank}
use Rattle.text.specs.Text.{alike, run_text, run_of}
use Rattle.text.specs.declared.utf8.Char.{Char}
use Rattle.text.specs.declared.utf8.Char.TheVariants.{Scalar, Bad, End}
use Rattle.text.proofs.Chars.{char_end}
use Rattle.text.proofs.Texts.{text_step, text_bad, text_end}
use Rattle.text.proofs.Passes.{char_low, char_part, parts}

module _ {x : ℕ} (w : Bool) (t : List ℕ) (at : ℕ) {r : Char} (i : x ≡ run_of w t at) (e : r ≡ char_at t at) where
  run_char : {c n : ℕ} {b k : Bool} → r ≡ Scalar c n → b ≡ blank c → k ≡ alike b w → x ≡ pick k (run_of w t (at + n)) at
  unfolding run_of run_text
  run_char q p m = rw (i, text_step t at e q, m, p)

  run_stop : r ≡ End → at ≡ x
  unfolding run_of run_text
  run_stop q = rw (i, text_end t at e q)

  run_wrong : r ≡ Bad → at ≡ x
  unfolding run_of run_text
  run_wrong q = rw (i, text_bad t at e q)

-- two truth values are the same exactly where the code's `==` says so
alike_eq : (b w : Bool) → alike b w ≡ beq b w
alike_eq true true = refl
alike_eq true false = refl
alike_eq false true = refl
alike_eq false false = refl

-- Rules of `run_end`
module _ {x : ℕ} (w : Bool) (t : List ℕ) (at : ℕ) (i : x ≡ run_of w t at) where
  pub run_out : length t ≤ at → at ≡ x
  run_out h = run_stop w t at i (char_end t at h) refl

  module _ {b : Bool} (h : at < length t) (l : get_or t at 0 < 0x80) (p : b ≡ blank (get_or t at 0)) where
    pub low_on : beq b w ≡ true → x ≡ run_of w t (at + 1)
    low_on q = rw (alike_eq b w, q) at (run_char w t at i refl (char_low t at h l) p refl)

    pub low_off : beq b w ≡ false → at ≡ x
    low_off q = sym (rw (alike_eq b w, q) at (run_char w t at i refl (char_low t at h l) p refl))

  -- a space
  pub space_on : at < length t → get_or t at 0 ≡ 0x20 → w ≡ true → x ≡ run_of w t (at + 1)
  unfolding blank
  space_on h e v =
      let p : true ≡ blank (get_or t at 0) = rw e refl in
      low_on h (omega (arith, e)) p (rw v refl)

  module _ {r : Char} (e : r ≡ char_at (take (length t - at) (drop at t)) 0) where
    module _ {c n : ℕ} {b : Bool} (q : r ≡ Scalar c n) (p : b ≡ blank c) where
      pub run_on : beq b w ≡ true → x ≡ run_of w t (at + n)
      run_on h = rw (alike_eq b w, h) at (run_char w t at i (e ∙ char_part t at) q p refl)

      pub run_off : beq b w ≡ false → at ≡ x
      run_off h = sym (rw (alike_eq b w, h) at (run_char w t at i (e ∙ char_part t at) q p refl))

    pub run_bad : r ≡ Bad → at ≡ x
    run_bad q = run_wrong w t at i (e ∙ char_part t at) q

    pub run_end : r ≡ End → at ≡ x
    run_end q = run_stop w t at i (e ∙ char_part t at) q

pub ruleset runs = (run_out, space_on, low_on, low_off, run_on, run_off, run_bad, run_end, parts)

pub ruleset offs = (run_off, rules)
