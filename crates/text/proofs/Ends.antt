-- The end of a text, read from behind: in UTF-8 a byte starts a character exactly if it is none of 80 to BF.
-- So the last such byte is where the last character starts, and blanks at the end can be passed over one after the other from there.
use Rattle.std.specs.Prelude.{None, Option, Some}
use Prim.Native.Nat.{ℕ, zero, suc, ◌+◌, ◌-◌, ◌*◌, ◌%◌, ◌≤◌, ◌<◌}
use native.Mathlib.Omega.{arith}
use mathlib.Core.List.{List, [], ◌∷◌}
use mathlib.Core.Bool.{Bool, true, false}
use mathlib.Core.Path.{◌≡◌, refl, sym, ◌∙◌}
use lib.ListN.{length, get_or, take, drop}
use lib.Seq.{get_or-drop}
use lib.Dec.{ltb, eqb}
use borrow.Author.Rules.{rules}
use borrow.Author.Tests.{ltb-true, ltb-false, eqb-true, eqb-false}
use Rattle.text.specs.Ranges.{pick, within}
use Rattle.text.specs.Blank.{blank}
use Rattle.text.specs.inside.Blocks.{back_to, blank_in}
use Rattle.text.specs.Utf8.{leads, lead_of, tail_of, char_by, char_of, char_at}
use Rattle.text.specs.Text.{text_at, sound, last_end}
use Rattle.text.specs.declared.utf8.Char.{Char}
use Rattle.text.specs.declared.utf8.Char.TheVariants.{Scalar, Bad, End}
use Rattle.text.proofs.Flat.{within_out, by_test, within_in, Every, look_all}
use Rattle.text.proofs.Chars.{lead_in, char_at_lem, char_end}
use Rattle.text.proofs.Texts.{wide_at, text_step, text_bad, text_end}
use Rattle.text.proofs.Passes.{char_low, char_part, end_at}

-- a byte that starts no character
abbrev trail : ℕ → Bool
trail b = within 0x80 0xBF b

-- ---- the bytes of a character
-- its rows ask for bytes 80 to BF
abbrev Narrow : Option (ℕ × ℕ × ℕ × ℕ) → Type 0
Narrow (Some (n, lo, hi, span)) = (0x80 ≤ lo) × (hi ≤ 0xBF)
Narrow None = Unit {0}

narrow_all : Every Narrow leads
narrow_all = omega arith

narrow : (b : ℕ) → Narrow (lead_of b)
unfolding lead_of
narrow b = look_all Narrow None leads b tt narrow_all

trail_in : (lo hi x : ℕ) → 0x80 ≤ lo → hi ≤ 0xBF → within lo hi x ≡ true → trail x ≡ true
trail_in lo hi x p q e = let g = within_out lo hi x e in within_in 0x80 0xBF x (omega arith) (omega arith)

tail_trails : (n lo hi c w : ℕ) (l : List ℕ) {d v : ℕ} → tail_of n lo hi c w l ≡ Scalar d v → 0x80 ≤ lo → hi ≤ 0xBF → (v ≡ w) × ((i : ℕ) → i < n → trail (get_or l i 0) ≡ true)
unfolding tail_of
tail_trails zero lo hi c w l {d} {v} e p q = let g : v ≡ w = cc in (g, λ i h. absurd (omega arith))
tail_trails (suc n) lo hi c w [] e p q = let z : ◌≡◌ {A = ℕ} 0 1 = cc in absurd (omega arith)
tail_trails (suc n) lo hi c w (x ∷ r) {d} {v} e p q =
    by_test (within lo hi x)
    (λ f. let g = tail_trails n 0x80 0xBF (c * 64 + x % 64) w r {d = d} {v = v} (rw f at e) (omega arith) (omega arith) in
    (g.0, λ i h. more i h (trail_in lo hi x p q f) g.1))
    (λ f. let g : Bad ≡ Scalar d v = rw f at e in let z : ◌≡◌ {A = ℕ} 0 1 = cc in absurd (omega arith))
  where
    more : (i : ℕ) → i < suc n → trail x ≡ true → ((i : ℕ) → i < n → trail (get_or r i 0) ≡ true) → trail (get_or (x ∷ r) i 0) ≡ true
    more zero h f g = f
    more (suc i) h f g = g i (omega arith)

by_trails : (k : Option (ℕ × ℕ × ℕ × ℕ)) (b : ℕ) (r : List ℕ) {c w : ℕ} → Narrow k → char_by k b r ≡ Scalar c w → (i : ℕ) → 0 < i → i < w → trail (get_or (b ∷ r) i 0) ≡ true
by_trails (Some (n, lo, hi, span)) b r {c} {w} s e zero h k = absurd (omega arith)
by_trails (Some (n, lo, hi, span)) b r {c} {w} s e (suc i) h k =
    let g = tail_trails n lo hi (b % span) (n + 1) r {d = c} {v = w} e s.0 s.1 in g.1 i (omega (arith, g.0))
by_trails None b r s e i h k = let z : ◌≡◌ {A = ℕ} 0 1 = cc in absurd (omega arith)

of_trails : (l : List ℕ) {c w : ℕ} → char_of l ≡ Scalar c w → (i : ℕ) → 0 < i → i < w → trail (get_or l i 0) ≡ true
unfolding char_of
of_trails [] e i h k = let z : ◌≡◌ {A = ℕ} 0 1 = cc in absurd (omega arith)
of_trails (b ∷ r) e i h k = by_trails (lead_of b) b r (narrow b) e i h k

-- each byte of a character but the first is 80 to BF ..
char_trails : (t : List ℕ) (at : ℕ) {c w : ℕ} → char_at t at ≡ Scalar c w → (p : ℕ) → at < p → p < at + w → trail (get_or t p 0) ≡ true
unfolding char_at
char_trails t at {c} {w} e p h k =
    let o : at + (p - at) ≡ p = omega arith in
    rw (get_or-drop at t (p - at) 0, o) at (of_trails (drop at t) {c = c} {w = w} e (p - at) (omega arith) (omega arith))

-- .. and the first is not
char_first : (t : List ℕ) (at : ℕ) {c w : ℕ} → at < length t → char_at t at ≡ Scalar c w → trail (get_or t at 0) ≡ false
char_first t at {c} {w} h e =
    by_test (trail (get_or t at 0))
    (λ f. let b = get_or t at 0 in
    let u = within_out 0x80 0xBF b f in
    let g : Bad ≡ Scalar c w = sym (char_at_lem t at h (sym (lead_in 0x80 0xC1 b tt u.0 (omega arith)))) ∙ e in
    let z : ◌≡◌ {A = ℕ} 0 1 = cc in absurd (omega arith))
    (λ f. f)

-- ---- from one character to the next
-- what holds where a text ends, where it is no UTF-8, and at a character if it holds behind it, holds at every place
module _ (t : List ℕ) (P : ℕ → Type 0) (done : (at : ℕ) → length t ≤ at → P at) (bad : (at : ℕ) → char_at t at ≡ Bad → P at) (step : (at c w : ℕ) → char_at t at ≡ Scalar c w → P (at + w) → P at) where
  by_char : (at : ℕ) (ch : Char) → char_at t at ≡ ch → ((w : ℕ) → 0 < w → P (at + w)) → P at
  by_char at (Scalar c w) e f = step at c w e (f w (wide_at t at refl e).0)
  by_char at Bad e f = bad at e
  by_char at End e f = done at (end_at t at e)

  counted : (n at : ℕ) → length t ≤ at + n → P at
  counted zero at h = done at (omega arith)
  counted (suc n) at h = by_char at (char_at t at) refl (λ w k. counted n (at + w) (omega arith))

  pub reading : (at : ℕ) → P at
  reading at = counted (length t) at (omega arith)

-- a place of a sound text whose byte is none of 80 to BF is the start of a character: the text before it is characters, and so is the text after it
abbrev Reaches : List ℕ → ℕ → ℕ → Type 0
Reaches t at p = (sound (text_at t p) ≡ true) × ((l : ℕ) → (m : ℕ) × (last_end l (text_at t at) ≡ last_end m (text_at t p)))

module _ (t : List ℕ) (p : ℕ) (h : p < length t) (f : trail (get_or t p 0) ≡ false) where
  abbrev Way : ℕ → Type 0
  Way at = at ≤ p → sound (text_at t at) ≡ true → Reaches t at p

  reach_bad : (at : ℕ) → char_at t at ≡ Bad → Way at
  unfolding sound
  reach_bad at e k s = let g : false ≡ true = rw (text_bad t at refl e) at s in let z : ◌≡◌ {A = ℕ} 0 1 = cc in absurd (omega arith)

  reach_step : (at c w : ℕ) → char_at t at ≡ Scalar c w → Way (at + w) → Way at
  unfolding sound last_end
  reach_step at c w e i k s =
      by_test (eqb at p)
      (λ q. let g : at ≡ p = eqb-true at p q in rw (← g) (s, λ l. (l, refl)))
      (λ q. by_test (ltb p (at + w))
      (λ r. let g : true ≡ false = sym (char_trails t at e p (omega (arith, eqb-false at p q)) (ltb-true p (at + w) r)) ∙ f in
      let z : ◌≡◌ {A = ℕ} 0 1 = cc in absurd (omega arith))
      (λ r. let g = i (ltb-false p (at + w) r) (rw (text_step t at refl e) at s) in
      (g.0, λ l. rw (text_step t at refl e) (g.1 (pick (blank c) l (at + w))))))

  reach : (at : ℕ) → Way at
  reach at = reading t Way (λ n q k. absurd (omega arith)) reach_bad reach_step at

-- ---- the start of the last character
back_le : (t : List ℕ) (p : ℕ) → back_to t p ≤ p
unfolding back_to
back_le t zero = omega arith
back_le t (suc p) =
    by_test (trail (get_or t (suc p) 0))
    (λ e. rw e (let g = back_le t p in omega arith))
    (λ e. rw e (omega arith))

back_trails : (t : List ℕ) (p i : ℕ) → back_to t p < i → i ≤ p → trail (get_or t i 0) ≡ true
unfolding back_to
back_trails t zero i h k = absurd (omega arith)
back_trails t (suc p) i h k =
    by_test (trail (get_or t (suc p) 0))
    (λ e. by_test (eqb i (suc p))
    (λ q. let g : i ≡ suc p = eqb-true i (suc p) q in rw g e)
    (λ q. back_trails t p i (rw e at h) (omega (arith, eqb-false i (suc p) q))))
    (λ e. let g : suc p < i = rw e at h in absurd (omega arith))

back_edge : (t : List ℕ) (p : ℕ) → 0 < back_to t p → trail (get_or t (back_to t p) 0) ≡ false
unfolding back_to
back_edge t zero h = absurd (omega arith)
back_edge t (suc p) h =
    by_test (trail (get_or t (suc p) 0))
    (λ e. rw e (back_edge t p (rw e at h)))
    (λ e. rw e e)

back_read : (t : List ℕ) (at : ℕ) → 0 < at → back_to t at ≡ pick (trail (get_or t at 0)) (back_to t (at - 1)) at
unfolding back_to
back_read t zero h = absurd (omega arith)
back_read t (suc n) h = let g : suc n - 1 ≡ n = omega arith in rw g

-- Rules of `start_of`
module _ (t : List ℕ) (from at : ℕ) (i : back_to t from ≡ back_to t at) where
  pub back_zero : at ≤ 0 → at ≡ back_to t from
  unfolding back_to
  back_zero h = let g : at ≡ 0 = omega arith in rw (i, g)

  module _ {k : Bool} (h : 0 < at) (p : k ≡ trail (get_or t at 0)) where
    pub back_here : k ≡ false → at ≡ back_to t from
    back_here q = sym (i ∙ back_read t at h ∙ rw (← p, q))

    pub back_more : k ≡ true → back_to t from ≡ back_to t (at - 1)
    back_more q = i ∙ back_read t at h ∙ rw (← p, q)

pub ruleset backs = (back_zero, back_here, back_more, rules)

-- Rules of `blank_at`
pub blank_low : (t : List ℕ) (at : ℕ) {k : Bool} → at < length t → get_or t at 0 < 0x80 → k ≡ blank (get_or t at 0) → k ≡ blank_in (char_at t at)
blank_low t at h l e = rw (char_low t at h l) e

module _ (t : List ℕ) (at : ℕ) {r : Char} (p : r ≡ char_at (take (length t - at) (drop at t)) 0) where
  pub blank_char : {c n : ℕ} {k : Bool} → r ≡ Scalar c n → k ≡ blank c → k ≡ blank_in (char_at t at)
  blank_char q e = rw (← char_part t at, ← p, q) e

  pub blank_bad : r ≡ Bad → false ≡ blank_in (char_at t at)
  blank_bad q = rw (← char_part t at, ← p, q)

  pub blank_end : r ≡ End → false ≡ blank_in (char_at t at)
  blank_end q = rw (← char_part t at, ← p, q)

pub ruleset blanks = (blank_low, blank_char, blank_bad, blank_end, rules)

-- ---- the end of the last character that is not blank
-- from e on there are only blanks, and no character goes on at e
unfoldable pub Ended : List ℕ → ℕ → Type 0
Ended t e = (e ≤ length t) × (e < length t → trail (get_or t e 0) ≡ false) × ((l : ℕ) → last_end l (text_at t e) ≡ l)

-- a sound text has a character at every place where a byte is left
pub sound_char : (t : List ℕ) (at : ℕ) → at < length t → sound (text_at t at) ≡ true → (ch : Char) → char_at t at ≡ ch → (c w : ℕ) × (char_at t at ≡ Scalar c w)
unfolding sound
sound_char t at h s (Scalar c w) e = (c, w, e)
sound_char t at h s Bad e = let g : false ≡ true = rw (text_bad t at refl e) at s in let z : ◌≡◌ {A = ℕ} 0 1 = cc in absurd (omega arith)
sound_char t at h s End e = absurd (omega (arith, end_at t at e))

module _ (t : List ℕ) (s : sound (text_at t 0) ≡ true) (e p : ℕ) (i : Ended t e) (h : 0 < e) (b : p ≡ back_to t (e - 1)) where
  before : p < e
  before = omega (arith, back_le t (e - 1))

  short : e ≤ length t
  unfolding Ended
  short = i.0

  edge : trail (get_or t p 0) ≡ false
  edge =
      by_test (eqb p 0)
      (λ q. let g : p ≡ 0 = eqb-true p 0 q in
      let r = sound_char t 0 (omega (arith, short)) s (char_at t 0) refl in
      rw g (char_first t 0 (omega (arith, short)) r.2))
      (λ q. rw b (back_edge t (e - 1) (omega (arith, eqb-false p 0 q))))

  way : Reaches t 0 p
  way = reach t p (omega (arith, before, short)) edge 0 (omega arith) s

  -- a character starts at p ..
  stands : (c w : ℕ) × (char_at t p ≡ Scalar c w)
  stands = sound_char t p (omega (arith, before, short)) way.0 (char_at t p) refl

  -- .. and ends at e
  meets : p + stands.1 ≡ e
  unfolding Ended sound
  meets =
      let w = stands.1 in
      let q = stands.2 in
      let g = wide_at t p refl q in
      by_test (ltb (p + w) e)
      (λ f. let n : p + w < e = ltb-true (p + w) e f in
      let r = sound_char t (p + w) (omega (arith, short)) (rw (text_step t p refl q) at way.0) (char_at t (p + w)) refl in
      let o : true ≡ false = sym (back_trails t (e - 1) (p + w) (omega arith) (omega arith)) ∙ char_first t (p + w) (omega (arith, short)) r.2 in
      let z : ◌≡◌ {A = ℕ} 0 1 = cc in absurd (omega arith))
      (λ f. by_test (ltb e (p + w))
      (λ k. let n : e < p + w = ltb-true e (p + w) k in
      let o : true ≡ false = sym (char_trails t p q e before n) ∙ i.1 (omega arith) in
      let z : ◌≡◌ {A = ℕ} 0 1 = cc in absurd (omega arith))
      (λ k. omega (arith, ltb-false (p + w) e f, ltb-false e (p + w) k)))

  -- what is left from p on
  left : (l : ℕ) → last_end l (text_at t p) ≡ pick (blank stands.0) l e
  unfolding Ended last_end
  left l = rw (text_step t p refl stands.2, meets) (i.2 (pick (blank stands.0) l e))

  told : {k : Bool} → k ≡ blank_in (char_at t p) → k ≡ blank stands.0
  told u = rw stands.2 at u

  -- Rules of `last_end`
  pub last_less : p < e
  last_less = before

  pub last_place : p < length t
  last_place = omega (arith, before, short)

  pub last_more : {k : Bool} → k ≡ blank_in (char_at t p) → k ≡ true → Ended t p
  unfolding Ended
  last_more u v =
      let o : blank stands.0 ≡ true = sym (told u) ∙ v in
      (omega (arith, before, short), λ n. edge, λ l. rw o at (left l))

  pub last_stop : {k : Bool} → k ≡ blank_in (char_at t p) → k ≡ false → e ≡ last_end 0 (text_at t 0)
  last_stop u v =
      let o : blank stands.0 ≡ false = sym (told u) ∙ v in
      let r = way.1 0 in
      sym (r.1 ∙ rw o at (left r.0))

pub last_start : (t : List ℕ) → Ended t (length t)
unfolding Ended last_end
last_start t = (omega arith, λ h. absurd (omega arith), λ l. rw (text_end t (length t) (char_end t (length t) (omega arith)) refl))

pub last_in : (t : List ℕ) (e : ℕ) → Ended t e → e ≤ length t
unfolding Ended
last_in t e i = i.0

pub last_none : (t : List ℕ) (e : ℕ) → Ended t e → e ≤ 0 → e ≡ last_end 0 (text_at t 0)
unfolding Ended
last_none t e i h = let g : e ≡ 0 = omega arith in g ∙ sym (rw g at (i.2 0))

pub ruleset lasts = (last_less, last_place, last_more, last_stop, last_start, last_in, last_none, rules)
