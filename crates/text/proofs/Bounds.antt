-- Characters follow each other and each ends within the text, so every place that trimming, a run or a word answers lies within it.
-- By recursion on the characters, with the place from which they start and the end of the text.
use Rattle.std.specs.Prelude.{None, Option, Some}
use Prim.Native.Nat.{ℕ, zero, suc, ◌+◌, ◌-◌, ◌≤◌, ◌<◌, max}
use native.Mathlib.Omega.{arith}
use mathlib.Core.List.{List, [], ◌∷◌}
use mathlib.Core.Bool.{Bool, true, false}
use mathlib.Core.Path.{◌≡◌, sym, ◌∙◌}
use lib.ListN.{length, take, drop, length-drop}
use lib.Dec.{eqb}
use borrow.Author.Rules.{rules}
use borrow.Author.Tests.{eqb-false}
use Rattle.text.specs.Utf8.{char_of}
use Rattle.text.specs.Blank.{blank}
use Rattle.text.specs.Text.{Text, done, bad, char, put, text_from, text_at, alike, sound, drop_blanks, last_end, range_of, trim_text, trim_of, trimmed, run_text, run_of, word_of}
use Rattle.text.specs.declared.utf8.Char.{Char}
use Rattle.text.specs.declared.utf8.Char.TheVariants.{Scalar, Bad, End}
use Rattle.text.proofs.Flat.{pair_parts, by_test}
use Rattle.text.proofs.Texts.{Fit, fit}

-- the characters follow each other from lo on, and end at or below hi
abbrev Between : ℕ → ℕ → Text → Type 0
Between lo hi done = Unit {0}
Between lo hi bad = Unit {0}
Between lo hi (char a e c r) = (lo ≤ a) × (a < e) × (e ≤ hi) × Between e hi r

lower : (lo lo' hi : ℕ) (x : Text) → lo ≤ lo' → Between lo' hi x → Between lo hi x
lower lo lo' hi done h b = tt
lower lo lo' hi bad h b = tt
lower lo lo' hi (char a e c r) h b = (omega arith, b.1, b.2, b.3)

between_put : (p n hi : ℕ) (ch : Char) (rest : ℕ → Text) → p + suc n ≤ hi → Fit (suc n) ch → ((k : ℕ) → k ≤ n → Between (suc p + k) hi (rest k)) → Between p hi (put p ch rest)
between_put p n hi (Scalar c w) rest h f g =
    (omega arith, omega arith, omega arith, lower (p + w) (suc p + (w - 1)) hi (rest (w - 1)) (omega arith) (g (w - 1) (omega arith)))
between_put p n hi Bad rest h f g = tt
between_put p n hi End rest h f g = tt

between : (p k hi : ℕ) (l : List ℕ) → p + length l ≤ hi → k ≤ length l → Between (p + k) hi (text_from p k l)
unfolding text_from
between p k hi [] q h = tt
between p (suc k) hi (b ∷ r) q h =
    lower (p + suc k) (suc p + k) hi (text_from (suc p) k r) (omega arith) (between (suc p) k hi r (omega arith) (omega arith))
between p zero hi (b ∷ r) q h =
    lower (p + 0) p hi (put p (char_of (b ∷ r)) (λ k. text_from (suc p) k r)) (omega arith)
    (between_put p (length r) hi (char_of (b ∷ r)) (λ k. text_from (suc p) k r) q (fit (b ∷ r)) (λ k m. between (suc p) k hi r (omega arith) m))

text_between : (t : List ℕ) (at : ℕ) → Between at (max at (length t)) (text_at t at)
unfolding text_at
text_between t at =
    lower at (at + 0) (max at (length t)) (text_from at 0 (drop at t)) (omega arith)
    (between at 0 (max at (length t)) (drop at t) (simp length-drop (omega arith)) (omega arith))

last_within : (l hi : ℕ) (x : Text) → l ≤ hi → Between l hi x → (l ≤ last_end l x) × (last_end l x ≤ hi)
unfolding last_end
last_within l hi done h b = omega arith
last_within l hi bad h b = omega arith
last_within l hi (char a e c r) h b =
    by_test (blank c)
    (λ q. rw q (last_within l hi r h (lower l e hi r (omega arith) b.3)))
    (λ q. rw q (let g = last_within e hi r b.2 b.3 in omega arith))

-- the range that a text leaves lies within it
range_within : (lo hi : ℕ) (x : Text) {a e : ℕ} → Between lo hi x → range_of (drop_blanks x) ≡ Some (a, e) → (a ≤ e) × (e ≤ hi)
unfolding drop_blanks
range_within lo hi done {a} {e} b h = let k : (0 ≡ a) × (0 ≡ e) = pair_parts h in omega arith
range_within lo hi bad b h = let z : ◌≡◌ {A = ℕ} 0 1 = cc in absurd (omega arith)
range_within lo hi (char x y c r) {a} {e} b h =
    by_test (blank c)
    (λ q. range_within y hi r b.3 (rw q at h))
    (λ q. let g : Some (x, last_end y r) ≡ Some (a, e) = rw q at h in
    let k = pair_parts g in
    let m = last_within y hi r b.2 b.3 in
    omega arith)

pub trim_within : (t : List ℕ) {a e : ℕ} → trim_of t ≡ Some (a, e) → (a ≤ e) × (e ≤ length t)
unfolding trim_of trim_text
trim_within t {a} {e} h =
    by_test (sound (text_at t 0))
    (λ q. let g = range_within 0 (max 0 (length t)) (text_at t 0) (text_between t 0) (rw q at h) in omega arith)
    (λ q. let g : None ≡ Some (a, e) = rw q at h in let z : ◌≡◌ {A = ℕ} 0 1 = cc in absurd (omega arith))

run_text_lem : (w : Bool) (l hi : ℕ) (x : Text) → l ≤ hi → Between l hi x → (l ≤ run_text w l x) × (run_text w l x ≤ hi)
unfolding run_text
run_text_lem w l hi done h b = omega arith
run_text_lem w l hi bad h b = omega arith
run_text_lem w l hi (char a e c r) h b =
    by_test (alike (blank c) w)
    (λ q. rw q (let g = run_text_lem w e hi r b.2 b.3 in omega arith))
    (λ q. rw q (omega arith))

pub run_within : (w : Bool) (t : List ℕ) (at : ℕ) → (at ≤ run_of w t at) × (run_of w t at ≤ max at (length t))
unfolding run_of
run_within w t at = run_text_lem w at (max at (length t)) (text_at t at) (omega arith) (text_between t at)

pub word_within : (t : List ℕ) (at : ℕ) {a e : ℕ} → word_of t at ≡ Some (a, e) → (at ≤ a) × (a < e) × (e ≤ length t)
unfolding word_of
word_within t at {a} {e} h =
    let x = run_of true t at in
    let y = run_of false t x in
    by_test (eqb x y)
    (λ q. let g : None ≡ Some (a, e) = rw q at h in let z : ◌≡◌ {A = ℕ} 0 1 = cc in absurd (omega arith))
    (λ q. let g : Some (x, y) ≡ Some (a, e) = rw q at h in
    let k = pair_parts g in
    omega (arith, eqb-false x y q, run_within true t at, run_within false t x))

-- Rules for a caller that cuts a word out
module _ (t : List ℕ) (at : ℕ) {r : Option (ℕ × ℕ)} (e : r ≡ word_of t at) {a b : ℕ} (q : r ≡ Some (a, b)) where
  pub word_after : at ≤ a
  word_after = (word_within t at (sym e ∙ q)).0

  pub word_order : a ≤ b
  word_order = let h = word_within t at (sym e ∙ q) in omega arith

  pub word_inside : b ≤ length t
  word_inside = (word_within t at (sym e ∙ q)).2

pub ruleset cuts = (word_after, word_order, word_inside, rules)

-- Rules of `inner`: the range that trimming leaves can be cut out
module _ (t : List ℕ) {r : Option (ℕ × ℕ)} (e : r ≡ trim_of t) where
  module _ {a b : ℕ} (q : r ≡ Some (a, b)) where
    pub trim_order : a ≤ b
    trim_order = (trim_within t (sym e ∙ q)).0

    pub trim_inside : b ≤ length t
    trim_inside = (trim_within t (sym e ∙ q)).1

    pub inner_is : take (b - a) (drop a t) ≡ trimmed t
    unfolding trimmed
    inner_is = rw (← e, q)

  pub inner_none : r ≡ None → [] ≡ trimmed t
  unfolding trimmed
  inner_none q = rw (← e, q)

pub ruleset inners = (trim_order, trim_inside, inner_is, inner_none, rules)
