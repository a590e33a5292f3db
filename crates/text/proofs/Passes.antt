-- Whole characters can be passed over: a text is UTF-8 from a place on exactly if it is from behind them on.
-- A byte below 80 is one character, and so is a first byte of Table 3-7 with the bytes that its row asks for.
use Rattle.std.specs.Prelude.{Option, None, Some}
use Prim.Native.Nat.{ℕ, zero, suc, ◌+◌, ◌-◌, ◌*◌, ◌%◌, ◌^◌, ◌≤◌, ◌<◌}
use native.Mathlib.Omega.{arith}
use native.Mathlib.Nat.{add-zero}
use mathlib.Core.List.{List}
use mathlib.Core.Bool.{Bool, true, false, ◌||◌, not}
use mathlib.Core.Path.{◌≡◌, refl, sym, ap, subst, ◌∙◌}
use lib.ListN.{length, get_or, take, drop, length-take, length-drop}
use lib.Seq.{get_or-drop}
use lib.Dec.{eqb, leb}
use mir.Syntax.{w64}
use mir.Val.{Fits}
use borrow.Author.Rules.{rules}
use borrow.Author.Tests.{leb-true, leb-false, eqb-true, eqb-false}
use Rattle.text.specs.inside.Blocks.{Passed, width_in}
use Rattle.text.specs.Utf8.{lead_of, char_of, char_at}
use Rattle.text.specs.inside.Places.{tail_at}
use Rattle.text.specs.Text.{sound, text_at}
use Rattle.text.specs.declared.utf8.Char.{Char}
use Rattle.text.specs.declared.utf8.Char.TheVariants.{Scalar, Bad, End}
use Rattle.text.specs.Ranges.{within}
use Rattle.text.proofs.Flat.{within_out, by_test, unless, within_in}
use Rattle.text.proofs.Parts.{part_rest}
use Rattle.text.proofs.Chars.{lead_in, char_at_lem, char_end, tail_read, tail_none}
use Rattle.text.proofs.Texts.{Fit, fit, wide_at, next_fits, next_less, text_step, text_bad, text_end}

-- ---- one character
-- a byte below 80
pub char_low : (t : List ℕ) (at : ℕ) → at < length t → get_or t at 0 < 0x80 → char_at t at ≡ Scalar (get_or t at 0) 1
unfolding tail_at
char_low t at h l =
    let b = get_or t at 0 in
    let m : b % 0x80 ≡ b = omega arith in
    char_at_lem t at h (sym (lead_in 0x00 0x7F b tt (omega arith) (omega arith))) ∙ tail_none t (at + 1) 0 0x80 0xBF (b % 0x80) 1 (omega arith) ∙ ap (λ (n : ℕ). Scalar n 1) m

-- the byte of a place as the first of the part from there on
pub char_part : (t : List ℕ) (at : ℕ) → char_at (take (length t - at) (drop at t)) 0 ≡ char_at t at
unfolding char_at
char_part t at = ap char_of (part_rest at t)

-- what a reader of that part learns of the place after the character
module _ (t : List ℕ) (at : ℕ) {r : Char} (p : r ≡ char_at (take (length t - at) (drop at t)) 0) {c n : ℕ} (q : r ≡ Scalar c n) where
  pub part_fits : length t < 2 ^ 64 → Fits w64 (at + n)
  part_fits h = next_fits t at (p ∙ char_part t at) q h

  pub part_less : length t - (at + n) < length t - at
  part_less = next_less t at (p ∙ char_part t at) q

pub ruleset parts = (part_fits, part_less, rules)

-- where no byte is left there is no character
pub end_at : (t : List ℕ) (at : ℕ) → char_at t at ≡ End → length t ≤ at
unfolding char_at
end_at t at e = let f : length (drop at t) ≤ 0 = subst (Fit (length (drop at t))) e (fit (drop at t)) in omega (arith, rw length-drop at f)

-- two bytes, of which the first is C2 to DF
pair_char : (t : List ℕ) (at : ℕ) → at + 2 ≤ length t → 0xC2 ≤ get_or t at 0 → get_or t at 0 ≤ 0xDF → 0x80 ≤ get_or t (at + 1) 0 → get_or t (at + 1) 0 ≤ 0xBF → (c : ℕ) × (char_at t at ≡ Scalar c 2)
unfolding tail_at
pair_char t at h p q l u =
    let b = get_or t at 0 in
    let x = get_or t (at + 1) 0 in (
      b % 0x20 * 64 + x % 64,
      char_at_lem t at (omega arith) (sym (lead_in 0xC2 0xDF b tt p q))
          ∙ tail_read t (at + 1) 1 0x80 0xBF (b % 0x20) 2 (omega arith) (omega arith)
          ∙ rw (within_in 0x80 0xBF x l u) (tail_none t (at + 1 + 1) (1 - 1) 0x80 0xBF (b % 0x20 * 64 + x % 64) 2 (omega arith)),
    )

-- three bytes, of which the first asks for a second in lo to hi
module _ (t : List ℕ) (at : ℕ) (h : at + 3 ≤ length t) where
  triple_char : {lo hi : ℕ} → lead_of (get_or t at 0) ≡ Some (2, lo, hi, 0x10) → lo ≤ get_or t (at + 1) 0 → get_or t (at + 1) 0 ≤ hi → 0x80 ≤ get_or t (at + 2) 0 → get_or t (at + 2) 0 ≤ 0xBF → width_in (char_at t at) ≡ Some 3
  unfolding tail_at
  triple_char {lo} {hi} r l u m v =
      let b = get_or t at 0 in
      let x = get_or t (at + 1) 0 in
      let y = get_or t (at + 2) 0 in
      let p : at + 1 + 1 ≡ at + 2 = omega arith in
      let s₁ : char_at t at ≡ tail_at t (at + 1) 2 lo hi (b % 0x10) 3 = char_at_lem t at (omega arith) (sym r) in
      let s₂ = tail_read t (at + 1) 2 lo hi (b % 0x10) 3 (omega arith) (omega arith) in
      let s₃ = tail_read t (at + 2) 1 0x80 0xBF (b % 0x10 * 64 + x % 64) 3 (omega arith) (omega arith) in
      let s₄ = tail_none t (at + 2 + 1) (1 - 1) 0x80 0xBF ((b % 0x10 * 64 + x % 64) * 64 + y % 64) 3 (omega arith) in
      rw (s₁, s₂, within_in lo hi x l u, p, s₃, within_in 0x80 0xBF y m v, s₄)

  -- the rows of E0 to EF
  triple_rows : 0xE0 ≤ get_or t at 0 → get_or t at 0 ≤ 0xEF → 0x80 ≤ get_or t (at + 1) 0 → get_or t (at + 1) 0 ≤ 0xBF → 0x80 ≤ get_or t (at + 2) 0 → get_or t (at + 2) 0 ≤ 0xBF → (get_or t at 0 ≡ 0xE0 → 0xA0 ≤ get_or t (at + 1) 0) → (get_or t at 0 ≡ 0xED → get_or t (at + 1) 0 ≤ 0x9F) → width_in (char_at t at) ≡ Some 3
  triple_rows p q l u m v f g =
      let b = get_or t at 0 in
      by_test (eqb b 0xE0)
      (λ e. let n = eqb-true b 0xE0 e in triple_char (lead_in 0xE0 0xE0 b tt (omega arith) (omega arith)) (f n) u m v)
      (λ e. let o = eqb-false b 0xE0 e in
      by_test (leb b 0xEC)
      (λ d. let k = leb-true b 0xEC d in triple_char (lead_in 0xE1 0xEC b tt (omega arith) k) l u m v)
      (λ d. let k = leb-false b 0xEC d in
      by_test (eqb b 0xED)
      (λ c. let n = eqb-true b 0xED c in triple_char (lead_in 0xED 0xED b tt (omega arith) (omega arith)) l (g n) m v)
      (λ c. let n = eqb-false b 0xED c in triple_char (lead_in 0xEE 0xEF b tt (omega arith) q) l u m v)))

-- ---- what is passed over
pub pass_none : (t : List ℕ) (at : ℕ) → at ≤ length t → Passed t at at
unfolding Passed
pass_none t at h = (omega arith, h, refl)

pass : (t : List ℕ) (at c n : ℕ) → char_at t at ≡ Scalar c n → Passed t at (at + n)
unfolding Passed sound
pass t at c n e =
    let w = wide_at t at refl e in
    (omega arith, w.1, rw (text_step t at refl e))

join : (t : List ℕ) (a e f : ℕ) → Passed t a e → Passed t e f → Passed t a f
unfolding Passed
join t a e f i j = (omega (arith, i.0, j.0), j.1, i.2 ∙ j.2)

lies : (t : List ℕ) (a e : ℕ) → Passed t a e → (a ≤ e) × (e ≤ length t)
unfolding Passed
lies t a e i = (i.0, i.1)

-- n bytes below 80
low_run : (n : ℕ) (t : List ℕ) (at : ℕ) → at + n ≤ length t → ((i : ℕ) → i < n → get_or t (at + i) 0 < 0x80) → Passed t at (at + n)
low_run zero t at h l = rw (add-zero at) (pass_none t at (omega arith))
low_run (suc n) t at h l =
    let m : at + n + 1 ≡ at + suc n = omega arith in
    rw (← m)
    (join t at (at + n) (at + n + 1) (low_run n t at (omega arith) (λ i k. l i (omega arith)))
    (pass t (at + n) (get_or t (at + n) 0) 1 (char_low t (at + n) (omega arith) (l n (omega arith)))))

-- Rules of `pair_at` and `triple_at`
pub pass_not : (t : List ℕ) (at : ℕ) (n : Option ℕ) → false ≡ true → width_in (char_at t at) ≡ n
pass_not t at n h = let z : ◌≡◌ {A = ℕ} 0 1 = cc in absurd (omega arith)

module _ (t : List ℕ) (at : ℕ) where
  pub pass_pair : 2 ≤ length t - at → 0xC2 ≤ get_or t at 0 → get_or t at 0 ≤ 0xDF → within 0x80 0xBF (get_or t (at + 1) 0) ≡ true → width_in (char_at t at) ≡ Some 2
  pass_pair h p q e =
      let u = within_out 0x80 0xBF (get_or t (at + 1) 0) e in
      let r = pair_char t at (omega arith) p q u.0 u.1 in
      rw r.1

  pub pass_triple : 3 ≤ length t - at → 0xE0 ≤ get_or t at 0 → get_or t at 0 ≤ 0xEF → within 0x80 0xBF (get_or t (at + 1) 0) ≡ true → within 0x80 0xBF (get_or t (at + 2) 0) ≡ true → not (eqb (get_or t at 0) 0xE0) || leb 0xA0 (get_or t (at + 1) 0) ≡ true → not (eqb (get_or t at 0) 0xED) || leb (get_or t (at + 1) 0) 0x9F ≡ true → width_in (char_at t at) ≡ Some 3
  pass_triple h p q e f k l =
      let b = get_or t at 0 in
      let x = get_or t (at + 1) 0 in
      let u = within_out 0x80 0xBF x e in
      let v = within_out 0x80 0xBF (get_or t (at + 2) 0) f in
      triple_rows t at (omega arith) p q u.0 u.1 v.0 v.1 (λ n. leb-true 0xA0 x (unless b 0xE0 (leb 0xA0 x) k n)) (λ n. leb-true x 0x9F (unless b 0xED (leb x 0x9F) l n))

pub ruleset multis = (pass_not, pass_pair, pass_triple, rules)

-- Rules of `width_at`
pub width_is : (t : List ℕ) (at n : ℕ) {k : Bool} → (k ≡ true → width_in (char_at t at) ≡ Some n) → k ≡ true → Some n ≡ width_in (char_at t at)
width_is t at n f q = sym (f q)

module _ (t : List ℕ) (at : ℕ) {r : Char} (p : r ≡ char_at (take (length t - at) (drop at t)) 0) where
  pub width_char : {c n : ℕ} → r ≡ Scalar c n → Some n ≡ width_in (char_at t at)
  width_char q = rw (← char_part t at, ← p, q)

  pub width_bad : r ≡ Bad → None ≡ width_in (char_at t at)
  width_bad q = rw (← char_part t at, ← p, q)

  pub width_end : r ≡ End → None ≡ width_in (char_at t at)
  width_end q = rw (← char_part t at, ← p, q)

pub ruleset widths = (width_is, width_char, width_bad, width_end, rules)

-- Rules of `valid`
pub valid_start : (t : List ℕ) → Passed t 0 0
valid_start t = pass_none t 0 (omega arith)

-- a byte below 80, and n more
module _ (t : List ℕ) (at n : ℕ) (h : at < length t) (j : n ≤ length (take (length t - (at + 1)) (drop (at + 1) t))) where
  low_end : at + 1 + n ≤ length t
  low_end = let e : length (take (length t - (at + 1)) (drop (at + 1) t)) ≡ length t - (at + 1) = simp (length-take, length-drop) (omega arith) in omega (arith, e)

  pub low_fits : length t < 2 ^ 64 → Fits w64 (at + (1 + n))
  low_fits m = omega (arith, low_end)

  pub low_less : length t - (at + (1 + n)) < length t - at
  low_less = omega (arith, low_end)

  pub valid_low : Passed t 0 at → get_or t at 0 < 0x80 → ((i : ℕ) → i < n → get_or (take (length t - (at + 1)) (drop (at + 1) t)) i 0 < 0x80) → Passed t 0 (at + (1 + n))
  valid_low i l r =
      let o : at + 1 + n ≡ at + (1 + n) = omega arith in
      rw (← o)
      (join t 0 (at + 1) (at + 1 + n) (join t 0 at (at + 1) i (pass t at (get_or t at 0) 1 (char_low t at h l)))
      (low_run n t (at + 1) low_end (λ k m. rw (part_rest (at + 1) t, get_or-drop (at + 1) t k 0) at (r k m))))

module _ (t : List ℕ) (at n : ℕ) {r : Option ℕ} (p : r ≡ width_in (char_at t at)) (q : r ≡ Some n) where
  stands : (ch : Char) → char_at t at ≡ ch → (c : ℕ) × (char_at t at ≡ Scalar c n)
  stands (Scalar c w) e = let f : r ≡ Some w = rw e at p in let g : n ≡ w = cc in (c, e ∙ ap (Scalar c) (sym g))
  stands Bad e = let f : r ≡ None = rw e at p in absurd cc
  stands End e = let f : r ≡ None = rw e at p in absurd cc

  passes : Passed t at (at + n)
  passes = let r = stands (char_at t at) refl in pass t at r.0 n r.1

  pub wide_fits : length t < 2 ^ 64 → Fits w64 (at + n)
  wide_fits h = let g = lies t at (at + n) passes in omega arith

  pub wide_less : length t - (at + n) < length t - at
  wide_less = let r = stands (char_at t at) refl in next_less t at refl r.1

  pub valid_wide : Passed t 0 at → Passed t 0 (at + n)
  valid_wide i = join t 0 at (at + n) i passes

module _ (t : List ℕ) (at : ℕ) (h : at < length t) (i : Passed t 0 at) where
  no_width : (ch : Char) → char_at t at ≡ ch → width_in (char_at t at) ≡ None → sound (text_at t at) ≡ false
  unfolding sound
  no_width (Scalar c w) e q = let g : Some w ≡ None = rw e at q in absurd cc
  no_width Bad e q = rw (text_bad t at refl e)
  no_width End e q = absurd (omega (arith, end_at t at e))

  pub valid_bad : {n : Option ℕ} → n ≡ width_in (char_at t at) → n ≡ None → false ≡ sound (text_at t 0)
  unfolding Passed
  valid_bad p q = sym (i.2 ∙ no_width (char_at t at) refl (sym p ∙ q))

pub valid_all : (t : List ℕ) (at : ℕ) → Passed t 0 at → length t ≤ at → true ≡ sound (text_at t 0)
unfolding Passed sound
valid_all t at i h = sym (i.2 ∙ rw (text_end t at refl (sym (char_end t at h))))

pub ruleset valids = (valid_start, low_fits, low_less, wide_fits, wide_less, valid_wide, valid_bad, valid_all, rules)
