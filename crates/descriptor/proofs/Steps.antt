-- Reading line by line: the line at a place ends within the text, and one more line starts behind it or none does.
-- Assumes nothing.
use Prim.Native.Nat.{ℕ, suc, ◌+◌, ◌-◌, ◌≤◌, ◌<◌}
use native.Mathlib.Omega.{arith}
use mathlib.Core.List.{List, [], ◌∷◌}
use mathlib.Core.Bool.{Bool, true, false}
use mathlib.Core.Path.{◌≡◌}
use lib.ListN.{length, take, drop, length-take, length-drop}
use lib.Dec.{ltb}
use borrow.Author.Rules.{rules}
use borrow.Author.Tests.{ltb-true}
use Rattle.text.specs.Ranges.{pick}
use Rattle.text.proofs.Flat.{by_test}
use Rattle.text.specs.inside.Places.{lines_at}
use Rattle.text.specs.Find.{line_end}
use Rattle.text.proofs.Lines.{line_within, line_step}
use Rattle.lines.specs.Record.{most_bytes}

-- the lines of a text from a place on, if any are left
unfoldable pub left_lines : List ℕ → Bool → ℕ → List (List ℕ)
left_lines t left at = pick left (lines_at t at) []

-- one more line starts within the text
pub more_within : (t : List ℕ) (e : ℕ) → ltb e (length t) ≡ true → e + 1 ≤ length t
more_within t e h = omega (arith, ltb-true e (length t) h)

-- none is left
pub none_left : (t : List ℕ) {left : Bool} (at : ℕ) → left ≡ false → left_lines t left at ≡ []
unfolding left_lines
none_left t at m = rw m

-- one is left, at a place within the text
module _ (t : List ℕ) {more : Bool} (at : ℕ) (m : more ≡ true) (b : more ≡ true → at ≤ length t) {e : ℕ} (q : e ≡ line_end t at) where
  line_is : (at ≤ e) × (e ≤ length t)
  line_is = rw q (line_within t at (b m))

  line_long : length (take (e - at) (drop at t)) ≡ e - at
  line_long = let h = line_is in simp (length-take, length-drop) (omega arith)

  pub lines_are : left_lines t more at ≡ take (e - at) (drop at t) ∷ left_lines t (ltb e (length t)) (e + 1)
  unfolding left_lines
  lines_are = rw (m, line_step t at (b m), ← q)

  pub after_line : at + length (take (e - at) (drop at t)) + 1 ≡ e + 1
  after_line = omega (arith, line_long, line_is)

  pub line_order : at ≤ e
  line_order = line_is.0

  pub line_end_lem : e ≤ length t
  line_end_lem = line_is.1

  pub line_room : length t ≤ most_bytes → at + length (take (e - at) (drop at t)) ≤ most_bytes
  line_room h = omega (arith, line_is, line_long)

  pub line_count : (line : ℕ) → line ≤ at → line + 1 ≤ e + 1
  line_count line l = omega (arith, line_is)

  -- the measure falls: what is left of the text, if there is one more line
  pub line_less : pick (ltb e (length t)) (suc (length t - (e + 1))) 0 < pick more (suc (length t - at)) 0
  line_less =
      rw m (by_test (ltb e (length t))
      (λ h. rw h (omega (arith, line_is, ltb-true e (length t) h)))
      (λ h. rw h (omega arith)))

pub ruleset lines = (line_order, line_end_lem, line_less, rules)
