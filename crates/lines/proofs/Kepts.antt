-- Texts that are kept: what trimming and the quotes leave lies within the text, so that its place and length are small numbers.
-- Assumes nothing.
use Rattle.std.specs.Prelude.{Option, Some}
use Prim.Native.Nat.{ℕ, ◌-◌, ◌≤◌}
use native.Mathlib.Omega.{arith}
use mathlib.Core.List.{List}
use mathlib.Core.Path.{◌≡◌, sym, ◌∙◌}
use lib.ListN.{length, take, drop, length-take, length-drop}
use lib.Dec.{leb}
use borrow.Author.Rules.{rules}
use borrow.Author.Tests.{leb-true}
use Rattle.text.specs.Text.{trim_of}
use Rattle.text.specs.Find.{quoted, strip_of}
use Rattle.text.proofs.Flat.{by_test}
use Rattle.text.proofs.Bounds.{trim_within}

-- what is left within the quotes lies within the text
pub strip_within : (t : List ℕ) → ((strip_of t).0 ≤ (strip_of t).1) × ((strip_of t).1 ≤ length t)
unfolding strip_of
strip_within t =
    by_test (leb 2 (length t))
    (λ h. by_test (quoted t) (λ q. rw q (omega (arith, leb-true 2 (length t) h))) (λ q. rw q (omega arith)))
    (λ h. rw h (omega arith))

-- the part of a text between two places is no longer than what lies between them
pub part_short : (t : List ℕ) (a e : ℕ) → e ≤ length t → length (take (e - a) (drop a t)) ≤ e - a
part_short t a e h = simp (length-take, length-drop) (omega arith)

-- Facts of what stripping the quotes leaves
module _ (t : List ℕ) {s : ℕ × ℕ} (e : s ≡ strip_of t) where
  pub strip_order : s.0 ≤ s.1
  strip_order = rw e (strip_within t).0

  pub strip_end : s.1 ≤ length t
  strip_end = rw e (strip_within t).1

pub ruleset stripped = (strip_order, strip_end, rules)

-- Facts of what trimming leaves
module _ (t : List ℕ) {r : Option (ℕ × ℕ)} (e : r ≡ trim_of t) where
  module _ {a b : ℕ} (q : r ≡ Some (a, b)) where
    pub range_order : a ≤ b
    range_order = (trim_within t (sym e ∙ q)).0

    pub range_end : b ≤ length t
    range_end = (trim_within t (sym e ∙ q)).1

pub ruleset ranges = (range_order, range_end, rules)
