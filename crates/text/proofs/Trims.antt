-- Trimming as the code does it, the front from the first byte on and the end from the last byte back, is `trim_text`.
-- Past the blanks in front the text is what `drop_blanks` leaves, and those blanks do not move the end of the last character that is none.
use Rattle.std.specs.Prelude.{None, Some}
use Prim.Native.Nat.{ℕ, ◌+◌, ◌≤◌, ◌<◌}
use native.Mathlib.Omega.{arith}
use mathlib.Core.List.{List}
use mathlib.Core.Bool.{Bool, true, false}
use mathlib.Core.Logic.{◌↔◌}
use mathlib.Core.Path.{◌≡◌, refl, sym, ap, ◌∙◌}
use lib.ListN.{length}
use borrow.Author.Rules.{rules}
use Rattle.text.specs.Ranges.{pick}
use Rattle.text.specs.Utf8.{char_at}
use Rattle.text.specs.Blank.{blank}
use Rattle.text.specs.declared.utf8.Char.TheVariants.{Scalar, Bad}
use Rattle.text.specs.Text.{Text, done, bad, char, sound, drop_blanks, last_end, range_of, trim_text, trim_of, text_at, run_text, run_of}
use Rattle.text.proofs.Flat.{by_test}
use Rattle.text.proofs.Chars.{char_end}
use Rattle.text.proofs.Texts.{text_step, text_bad, text_end}
use Rattle.text.proofs.Ends.{reading, sound_char}

-- ---- past the blanks in front
abbrev Past : List ℕ → ℕ → Type 0
Past t at = drop_blanks (text_at t at) ≡ text_at t (run_of true t at)

past_done : (t : List ℕ) (at : ℕ) → length t ≤ at → Past t at
unfolding drop_blanks run_of run_text
past_done t at h = let d = text_end t at (char_end t at h) refl in rw d (sym d)

past_bad : (t : List ℕ) (at : ℕ) → char_at t at ≡ Bad → Past t at
unfolding drop_blanks run_of run_text
past_bad t at e = let d = text_bad t at refl e in rw d (sym d)

past_step : (t : List ℕ) (at c w : ℕ) → char_at t at ≡ Scalar c w → Past t (at + w) → Past t at
unfolding drop_blanks run_of run_text
past_step t at c w e i =
    let d = text_step t at refl e in
    by_test (blank c) (λ f. rw (d, f) i) (λ f. rw (d, f) (sym d))

past : (t : List ℕ) → Past t 0
past t = reading t (Past t) (past_done t) (past_bad t) (past_step t) 0

sound_drop : (x : Text) → sound (drop_blanks x) ≡ sound x
unfolding drop_blanks sound
sound_drop done = refl
sound_drop bad = refl
sound_drop (char a e c r) = by_test (blank c) (λ f. rw f (sound_drop r)) (λ f. rw f)

last_drop : (l : ℕ) (x : Text) → last_end l (drop_blanks x) ≡ last_end l x
unfolding drop_blanks last_end
last_drop l done = refl
last_drop l bad = refl
last_drop l (char a e c r) =
    by_test (blank c)
    (λ f. rw f (last_drop l r))
    (λ f. let g : drop_blanks (char a e c r) ≡ char a e c r = rw f in ap (last_end l) g)

drop_first : (x : Text) {a e c : ℕ} {r : Text} → drop_blanks x ≡ char a e c r → blank c ≡ false
unfolding drop_blanks
drop_first done h = let z : ◌≡◌ {A = ℕ} 0 1 = cc in absurd (omega arith)
drop_first bad h = let z : ◌≡◌ {A = ℕ} 0 1 = cc in absurd (omega arith)
drop_first (char p q d y) {a} {e} {c} {r} h =
    by_test (blank d)
    (λ f. drop_first y {a = a} {e = e} {c = c} {r = r} (rw f at h))
    (λ f. let g : char p q d y ≡ char a e c r = rw f at h in let n : d ≡ c = cc in rw (← n) f)

range_drop : (x : Text) (a e c : ℕ) (r : Text) → drop_blanks x ≡ char a e c r → range_of (drop_blanks x) ≡ Some (a, last_end 0 x)
unfolding last_end
range_drop x a e c r d =
    let n : last_end 0 x ≡ last_end e r = sym (last_drop 0 x) ∙ ap (last_end 0) d ∙ ap (λ (b : Bool). last_end (pick b 0 e) r) (drop_first x d) in
    ap range_of d ∙ ap (λ z. Some (a, z)) (sym n)

-- Rules of `trim`
module _ (t : List ℕ) {v : Bool} (p : v ≡ sound (text_at t 0)) where
  pub trim_bad : v ≡ false → None ≡ trim_of t
  unfolding trim_of trim_text
  trim_bad q = rw (← p, q)

  module _ (q : v ≡ true) where
    pub trim_sound : sound (text_at t 0) ≡ true
    trim_sound = sym p ∙ q

    module _ {a : ℕ} (r : a ≡ run_of true t 0) where
      drops : drop_blanks (text_at t 0) ≡ text_at t a
      drops = past t ∙ ap (text_at t) (sym r)

      pub trim_none : length t ≤ a → Some (0, 0) ≡ trim_of t
      unfolding trim_of trim_text
      trim_none h = rw (trim_sound, drops, text_end t a (char_end t a h) refl)

      pub trim_some : {e : ℕ} → a < length t → e ≡ last_end 0 (text_at t 0) → Some (a, e) ≡ trim_of t
      unfolding trim_of trim_text
      trim_some {e} h l =
          let s : sound (text_at t a) ≡ true = ap sound (sym drops) ∙ sound_drop (text_at t 0) ∙ trim_sound in
          let k = sound_char t a h s (char_at t a) refl in
          let d : drop_blanks (text_at t 0) ≡ char a (a + k.1) k.0 (text_at t (a + k.1)) = drops ∙ text_step t a refl k.2 in
          rw (trim_sound, l) (sym (range_drop (text_at t 0) a (a + k.1) k.0 (text_at t (a + k.1)) d))

pub ruleset trims = (trim_bad, trim_sound, trim_none, trim_some, rules)

-- ---- trimming refuses exactly what is not sound
sound_range : (x : Text) → sound x ≡ true → range_of (drop_blanks x) ≡ None → ⊥
unfolding sound drop_blanks
sound_range done s h = let z : ◌≡◌ {A = ℕ} 0 1 = cc in absurd (omega arith)
sound_range bad s h = let z : ◌≡◌ {A = ℕ} 0 1 = cc in absurd (omega arith)
sound_range (char a e c r) s h =
    by_test (blank c)
    (λ q. sound_range r s (rw q at h))
    (λ q. let g : Some (a, last_end e r) ≡ None = rw q at h in let z : ◌≡◌ {A = ℕ} 0 1 = cc in absurd (omega arith))

pub trim_wrong : (t : List ℕ) → (trim_of t ≡ None) ↔ (sound (text_at t 0) ≡ false)
unfolding trim_of trim_text
trim_wrong t =
    (λ h. by_test (sound (text_at t 0)) (λ e. absurd (sound_range (text_at t 0) e (rw e at h))) (λ e. e), λ e. rw e)
