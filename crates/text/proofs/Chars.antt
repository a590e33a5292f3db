-- A character at a place is decided by its first byte's row of Table 3-7 and then byte by byte, each with six bits more.
-- So each way through `tail` and `next_char` is one unfolding of `tail_of` or `char_of`; what is left of the bits is bounded by `cap`.
use Rattle.std.specs.Prelude.{None, Option, Some}
use Prim.Native.Nat.{ℕ, zero, suc, ◌+◌, ◌-◌, ◌*◌, ◌%◌, ◌≤◌, ◌<◌}
use native.Mathlib.Omega.{arith}
use native.Mathlib.Numerals.{add-one}
use native.Mathlib.Nat.{mod-lt}
use mathlib.Core.List.{List, [], ◌∷◌}
use mathlib.Core.Path.{◌≡◌, refl, sym, subst, ◌∙◌}
use lib.ListN.{length, get_or, take, drop, drop_of_length-le, length-take}
use lib.Dec.{T}
use lib.Seq.{drop-cons, get_or-take}
use mir.Syntax.{w32}
use mir.Val.{Fits}
use borrow.Author.Rules.{rules}
use Rattle.text.specs.Ranges.{pick, within}
use Rattle.text.specs.Utf8.{leads, lead_of, tail_of, char_of, char_at, char_by}
use Rattle.text.specs.inside.Places.{cap, tail_at}
use Rattle.text.specs.declared.utf8.Char.{Char}
use Rattle.text.specs.declared.utf8.Char.TheVariants.{Scalar, Bad, End}
use Rattle.text.proofs.Parts.{part_rest}
use Rattle.text.proofs.Flat.{pick_same, within_in, within_below, within_above, flat, look_in, look_flat, Every, look_all}

-- ---- the code point fits
cap_fits : (n : ℕ) → cap n ≤ 2097152
unfolding cap
cap_fits zero = omega arith
cap_fits (suc n) = let h = cap_fits n in omega arith

cap_more : (n c x : ℕ) → c < cap n → 0 < n → c * 64 + x % 64 < cap (n - 1)
unfolding cap
cap_more zero c x h k = absurd (omega arith)
cap_more (suc n) c x h k = let e : suc n - 1 ≡ n = omega arith in rw e (omega arith)

pub cap_shift : (n c : ℕ) → c < cap n → Fits w32 (c * 64)
cap_shift n c h = omega (arith, cap_fits n)

pub cap_add : (n c x : ℕ) → c < cap n → Fits w32 (c * 64 + x % 64)
cap_add n c x h = omega (arith, cap_fits n)

-- what every row of Table 3-7 keeps to
abbrev Sized : Option (ℕ × ℕ × ℕ × ℕ) → Type 0
Sized (Some (n, lo, hi, span)) = (0 < span) × (span ≤ cap n) × (n ≤ 3)
Sized None = Unit {0}

sized_all : Every Sized leads
unfolding cap
sized_all = omega arith

sized_lead : (b : ℕ) → Sized (lead_of b)
unfolding lead_of
sized_lead b = look_all Sized None leads b tt sized_all

-- the row of a first byte that lies in lo to hi, where each row holds all of it or nothing
pub lead_in : (lo hi b : ℕ) → T (flat lo hi leads) → lo ≤ b → b ≤ hi → lead_of b ≡ look_in None leads lo hi
unfolding lead_of
lead_in lo hi b t p q = look_flat None leads lo hi b t p q

-- Rules of `next_char`
module _ (b : ℕ) {n lo hi span : ℕ} {f : Option (ℕ × ℕ × ℕ × ℕ)} (e : f ≡ lead_of b) (q : f ≡ Some (n, lo, hi, span)) where
  small : (0 < span) × (b % span < cap n) × (n ≤ 3)
  small =
      let h = subst Sized (sym e ∙ q) (sized_lead b) in
      let m : b % span < span = mod-lt b h.0 in
      omega arith

  pub lead_span : 0 < span
  lead_span = small.0

  pub lead_bits : b % span < cap n
  lead_bits = small.1

  pub lead_count : n ≤ 3
  lead_count = small.2

  pub lead_fits : Fits w32 (b % span)
  lead_fits = let h = small in omega (arith, cap_fits n)

pub char_end : (t : List ℕ) (at : ℕ) → length t ≤ at → End ≡ char_at t at
unfolding char_at char_of
char_end t at h = rw (drop_of_length-le t h)

module _ (t : List ℕ) (at : ℕ) (h : at < length t) {f : Option (ℕ × ℕ × ℕ × ℕ)} (e : f ≡ lead_of (get_or t at 0)) where
  pub char_at_lem : char_at t at ≡ char_by f (get_or t at 0) (drop (at + 1) t)
  unfolding char_at char_of
  char_at_lem = rw (drop-cons t at 0 h, add-one, e)

  pub char_never : f ≡ None → Bad ≡ char_at t at
  char_never q = rw (char_at_lem, q)

pub char_tail : (t : List ℕ) (at : ℕ) {b : ℕ} → at < length t → b ≡ get_or t at 0 → {n lo hi span : ℕ} {f : Option (ℕ × ℕ × ℕ × ℕ)} {r : Char} → f ≡ lead_of b → f ≡ Some (n, lo, hi, span) → r ≡ tail_of n lo hi (b % span) (n + 1) (take (length t - (at + 1)) (drop (at + 1) t)) → r ≡ char_at t at
char_tail t at h p e q g =
    let k = part_rest (at + 1) t in
    rw (char_at_lem t at h (rw p at e), q, ← k, ← p) g

pub ruleset chars = (lead_span, lead_bits, lead_count, lead_fits, char_end, char_never, rules)

-- Rules of `tail`, from what its loop keeps
pub tail_read : (t : List ℕ) (at n lo hi c w : ℕ) → at < length t → 0 < n → tail_at t at n lo hi c w ≡ pick (within lo hi (get_or t at 0)) (tail_at t (at + 1) (n - 1) 0x80 0xBF (c * 64 + get_or t at 0 % 64) w) Bad
unfolding tail_at tail_of
tail_read t at zero lo hi c w h k = absurd (omega arith)
tail_read t at (suc n) lo hi c w h k = let e : suc n - 1 ≡ n = omega arith in rw (drop-cons t at 0 h, add-one, e)

pub tail_none : (t : List ℕ) (at n lo hi c w : ℕ) → n ≤ 0 → tail_at t at n lo hi c w ≡ Scalar c w
unfolding tail_at tail_of
tail_none t at zero lo hi c w h = refl
tail_none t at (suc n) lo hi c w h = absurd (omega arith)

-- where a byte is missing, or one lies outside its range, there is no character
tail_cut : (n lo hi c w : ℕ) (l : List ℕ) → length l < n → tail_of n lo hi c w l ≡ Bad
unfolding tail_of
tail_cut zero lo hi c w l h = absurd (omega arith)
tail_cut (suc n) lo hi c w [] h = refl
tail_cut (suc n) lo hi c w (x ∷ l) h = rw (tail_cut n 0x80 0xBF (c * 64 + x % 64) w l (omega arith)) (pick_same (within lo hi x) Bad)

pub tail_short : (n lo hi c w : ℕ) (t : List ℕ) → length t < n → Bad ≡ tail_of n lo hi c w t
tail_short n lo hi c w t h = sym (tail_cut n lo hi c w t h)

pub tail_start : (n lo hi c w : ℕ) (t : List ℕ) → tail_of n lo hi c w t ≡ tail_at t 0 (n - 0) lo hi c w
unfolding tail_at
tail_start n lo hi c w t = let e : n - 0 ≡ n = omega arith in rw e

pub cap_start : (n c : ℕ) → c < cap n → c < cap (n - 0)
cap_start n c h = let e : n - 0 ≡ n = omega arith in rw e h

module _ {x : Char} (t : List ℕ) (n i lo hi c w : ℕ) (v : x ≡ tail_at t i (n - i) lo hi c w) where
  pub tail_done : length (take n t) ≤ i → n ≤ length t → Scalar c w ≡ x
  tail_done h k = let e : length (take n t) ≡ n = simp length-take (omega arith) in sym (v ∙ tail_none t i (n - i) lo hi c w (omega (arith, e)))

  module _ (h : i < length (take n t)) (k : n ≤ length t) where
    left : i < n
    left = let e : length (take n t) ≡ n = simp length-take (omega arith) in omega (arith, e)

    own : get_or (take n t) i 0 ≡ get_or t i 0
    own = get_or-take n t i 0 left

    reads : x ≡ pick (within lo hi (get_or (take n t) i 0)) (tail_at t (i + 1) (n - (i + 1)) 0x80 0xBF (c * 64 + get_or (take n t) i 0 % 64) w) Bad
    reads =
        let o : n - i - 1 ≡ n - (i + 1) = omega arith in
        let q : i < length t = omega (arith, left) in
        let r : 0 < n - i = omega (arith, left) in
        v ∙ rw (own, ← o) (tail_read t i (n - i) lo hi c w q r)

    pub tail_low : get_or (take n t) i 0 < lo → Bad ≡ x
    tail_low l = sym (reads ∙ rw (within_below _ _ _ l))

    pub tail_high : hi < get_or (take n t) i 0 → Bad ≡ x
    tail_high u = sym (reads ∙ rw (within_above _ _ _ u))

    pub tail_more : lo ≤ get_or (take n t) i 0 → get_or (take n t) i 0 ≤ hi → x ≡ tail_at t (i + 1) (n - (i + 1)) 0x80 0xBF (c * 64 + get_or (take n t) i 0 % 64) w
    tail_more l u = reads ∙ rw (within_in _ _ _ l u)

    pub cap_next : c < cap (n - i) → c * 64 + get_or (take n t) i 0 % 64 < cap (n - (i + 1))
    cap_next q = let o : n - i - 1 ≡ n - (i + 1) = omega arith in rw o at (cap_more (n - i) c (get_or (take n t) i 0) q (omega (arith, left)))

pub ruleset tails = (cap_start, cap_shift, cap_add, cap_next, tail_short, tail_start, tail_done, tail_low, tail_high, tail_more, rules)
