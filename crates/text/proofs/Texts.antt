-- A character is at least one byte wide and its bytes are there, so after it the text goes on at a later place within the text.
-- Passing its bytes over one by one comes to what `drop` leaves, which is where the next character is read.
use Rattle.std.specs.Prelude.{None, Option, Some}
use Prim.Native.Nat.{ℕ, zero, suc, ◌+◌, ◌-◌, ◌*◌, ◌%◌, ◌^◌, ◌≤◌, ◌<◌}
use native.Mathlib.Omega.{arith}
use native.Mathlib.Nat.{add-zero}
use mathlib.Core.List.{List, [], ◌∷◌}
use mathlib.Core.Bool.{Bool, true, false}
use mathlib.Core.Path.{◌≡◌, refl, sym, ap, subst, ◌∙◌}
use lib.ListN.{length, drop, length-drop}
use lib.Seq.{drop-drop}
use mir.Syntax.{w64}
use mir.Val.{Fits}
use Rattle.text.specs.Ranges.{pick, within}
use Rattle.text.specs.Utf8.{lead_of, tail_of, char_by, char_of, char_at}
use Rattle.text.specs.Text.{done, bad, char, text_from, text_at}
use Rattle.text.specs.declared.utf8.Char.{Char}
use Rattle.text.specs.declared.utf8.Char.TheVariants.{Scalar, Bad, End}

-- ---- a character has a width, and its bytes are there; only where there are no bytes is there an end
abbrev pub Fit : ℕ → Char → Type 0
Fit n (Scalar c w) = (0 < w) × (w ≤ n)
Fit n Bad = Unit {0}
Fit n End = n ≤ 0

fit_pick : (m : ℕ) (b : Bool) (ch : Char) → Fit m ch → Fit m (pick b ch Bad)
fit_pick m true ch h = h
fit_pick m false ch h = tt

tail_fit : (n lo hi c w m : ℕ) (l : List ℕ) → 0 < w → w + length l ≤ m + n → Fit m (tail_of n lo hi c w l)
unfolding tail_of
tail_fit zero lo hi c w m l h k = omega arith
tail_fit (suc n) lo hi c w m [] h k = tt
tail_fit (suc n) lo hi c w m (x ∷ r) h k =
    fit_pick m (within lo hi x) (tail_of n 0x80 0xBF (c * 64 + x % 64) w r) (tail_fit n 0x80 0xBF (c * 64 + x % 64) w m r h (omega arith))

by_fit : (k : Option (ℕ × ℕ × ℕ × ℕ)) (b : ℕ) (r : List ℕ) → Fit (suc (length r)) (char_by k b r)
by_fit (Some (n, lo, hi, span)) b r = tail_fit n lo hi (b % span) (n + 1) (suc (length r)) r (omega arith) (omega arith)
by_fit None b r = tt

pub fit : (l : List ℕ) → Fit (length l) (char_of l)
unfolding char_of
fit [] = omega arith
fit (b ∷ r) = by_fit (lead_of b) b r

-- ---- the text after a character
skipped : (p k : ℕ) (l : List ℕ) → text_from p k l ≡ text_from (p + k) 0 (drop k l)
unfolding text_from
skipped p zero [] = refl
skipped p zero (b ∷ r) = ap (λ (n : ℕ). text_from n 0 (b ∷ r)) (sym (add-zero p))
skipped p (suc k) [] = refl
skipped p (suc k) (b ∷ r) =
    let e : suc p + k ≡ p + suc k = omega arith in
    skipped (suc p) k r ∙ ap (λ (n : ℕ). text_from n 0 (drop k r)) e

pub after : (p : ℕ) (l : List ℕ) (c w : ℕ) → Scalar c w ≡ char_of l → (0 < w) × (w ≤ length l) → text_from p 0 l ≡ char p (p + w) c (text_from (p + w) 0 (drop w l))
unfolding text_from
after p [] c w e h = absurd (omega arith)
after p (b ∷ r) c zero e h = absurd (omega arith)
after p (b ∷ r) c (suc w) e h =
    let e₁ : suc w - 1 ≡ w = omega arith in
    let e₂ : suc p + w ≡ p + suc w = omega arith in
    rw (← e, e₁, skipped (suc p) w r, e₂)

no_bad : (p : ℕ) (l : List ℕ) → Bad ≡ char_of l → text_from p 0 l ≡ bad
unfolding text_from char_of
no_bad p [] e = let z : ◌≡◌ {A = ℕ} 0 1 = cc in absurd (omega arith)
no_bad p (b ∷ r) e = rw (← e)

no_end : (p : ℕ) (l : List ℕ) → End ≡ char_of l → text_from p 0 l ≡ done
unfolding text_from
no_end p [] e = refl
no_end p (b ∷ r) e = rw (← e)

-- ---- what a reader at a place of a text learns from the character r that it has read there
module _ (t : List ℕ) (at : ℕ) {r : Char} (e : r ≡ char_at t at) where
  module _ {c n : ℕ} (q : r ≡ Scalar c n) where
    fits_at : (0 < n) × (n ≤ length (drop at t))
    unfolding char_at
    fits_at = subst (Fit (length (drop at t))) (sym e ∙ q) (fit (drop at t))

    -- it is at least one byte wide, and ends within the text
    pub wide_at : (0 < n) × (at + n ≤ length t)
    wide_at = let h = rw length-drop at fits_at in omega arith

    pub next_fits : length t < 2 ^ 64 → Fits w64 (at + n)
    next_fits h = let g = wide_at in omega arith

    pub next_less : length t - (at + n) < length t - at
    next_less = let g = wide_at in omega arith

    -- the text is that character, and then the text after it
    pub text_step : text_at t at ≡ char at (at + n) c (text_at t (at + n))
    unfolding char_at text_at
    text_step =
        after at (drop at t) c n (sym q ∙ e) fits_at
        ∙ ap (λ (l : List ℕ). char at (at + n) c (text_from (at + n) 0 l)) (drop-drop n at t)

  pub text_bad : r ≡ Bad → text_at t at ≡ bad
  unfolding char_at text_at
  text_bad q = no_bad at (drop at t) (sym q ∙ e)

  pub text_end : r ≡ End → text_at t at ≡ done
  unfolding char_at text_at
  text_end q = no_end at (drop at t) (sym q ∙ e)
