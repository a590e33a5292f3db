-- A text put after another is the two joined, put at once: a place past the buffer's end is one where nothing is written, however far.
-- Assumes nothing.
use Prim.Native.Nat.{ℕ, zero, suc, ◌+◌, ◌≤◌, ◌<◌, ◌^◌, min}
use native.Mathlib.Omega.{arith}
use mathlib.Core.List.{List, [], ◌∷◌, ◌++◌}
use mathlib.Core.Path.{◌≡◌, refl, sym, ap, ◌∙◌}
use lib.ListN.{length, take, drop, set, length-append}
use lib.Seq.{take-append_seam}
use lib.Dec.{leb}
use borrow.Author.Tests.{leb-true, leb-false}
use Rattle.text.specs.Sector.{largest}
use Rattle.text.proofs.Flat.{by_test}
use Rattle.puts.specs.Put.{pasted, after, Put}

-- ---- a buffer with a text at a place
pub pasted_none : (o : List ℕ) (at : ℕ) → pasted o at [] ≡ o
unfolding pasted
pasted_none [] at = refl
pasted_none (b ∷ r) zero = refl
pasted_none (b ∷ r) (suc at) = rw (pasted_none r at)

pub pasted_past : (o : List ℕ) (at : ℕ) (x : List ℕ) → length o ≤ at → pasted o at x ≡ o
unfolding pasted
pasted_past [] at x h = refl
pasted_past (b ∷ r) zero x h = absurd (omega arith)
pasted_past (b ∷ r) (suc at) x h = rw (pasted_past r at x (omega arith))

pub pasted_length : (o : List ℕ) (at : ℕ) (x : List ℕ) → length (pasted o at x) ≡ length o
unfolding pasted
pasted_length [] at x = refl
pasted_length (b ∷ r) (suc at) x = rw (pasted_length r at x)
pasted_length (b ∷ r) zero [] = refl
pasted_length (b ∷ r) zero (c ∷ x) = rw (pasted_length r zero x)

pub pasted_byte : (o : List ℕ) (at b : ℕ) → at < length o → pasted o at (b ∷ []) ≡ set o at b
unfolding pasted
pasted_byte [] at b h = absurd (omega arith)
pasted_byte (c ∷ r) zero b h = rw (pasted_none r zero)
pasted_byte (c ∷ r) (suc at) b h = rw (pasted_byte r at b (omega arith))

-- one text after another is the two joined
pub pasted_join : (o : List ℕ) (at : ℕ) (x y : List ℕ) → pasted (pasted o at x) (at + length x) y ≡ pasted o at (x ++ y)
unfolding pasted
pasted_join [] at x y = refl
pasted_join (b ∷ r) (suc at) x y = let e : suc at + length x ≡ suc (at + length x) = omega arith in rw e (ap (◌∷◌ b) (pasted_join r at x y))
pasted_join (b ∷ r) zero [] y = refl
pasted_join (b ∷ r) zero (c ∷ x) y =
    let e : zero + suc (length x) ≡ suc (zero + length x) = omega arith in
    rw e (ap (◌∷◌ c) (pasted_join r zero x y))

-- where there is room, the text stands between the bytes before and after it
pub pasted_whole : (o : List ℕ) (at : ℕ) (x : List ℕ) → at + length x ≤ length o → pasted o at x ≡ take at o ++ (x ++ drop (at + length x) o)
unfolding pasted
pasted_whole [] zero [] h = refl
pasted_whole [] zero (c ∷ x) h = absurd (omega arith)
pasted_whole [] (suc at) x h = absurd (omega arith)
pasted_whole (b ∷ r) (suc at) x h =
    let e : suc at + length x ≡ suc (at + length x) = omega arith in
    rw (e, pasted_whole r at x (omega arith))
pasted_whole (b ∷ r) zero [] h = refl
pasted_whole (b ∷ r) zero (c ∷ x) h =
    let e : zero + suc (length x) ≡ suc (zero + length x) = omega arith in
    rw (e, pasted_whole r zero x (omega arith))

-- a text that fits stands at the buffer's start
pub pasted_start : (o x : List ℕ) → length x ≤ length o → take (length x) (pasted o 0 x) ≡ x
pasted_start o x h = rw (pasted_whole o 0 x (omega arith)) (take-append_seam x (drop (0 + length x) o))

-- a place below 2^64-1 is the one after the whole text
pub after_whole : (x : List ℕ) (r : ℕ) → r ≡ after 0 x → r < largest → r ≡ length x
after_whole x r e h = omega arith

-- no buffer is longer than 2^64-1, so a place past that is as good as one there
pasted_clip : (o : List ℕ) (n : ℕ) (y : List ℕ) → length o ≤ largest → pasted o (min n largest) y ≡ pasted o n y
pasted_clip o n y h =
    by_test (leb n largest)
    (λ e. let g : min n largest ≡ n = omega (arith, leb-true n largest e) in rw g)
    (λ e. let l = leb-false n largest e in
    rw (pasted_past o (min n largest) y (omega arith), pasted_past o n y (omega arith)))

-- ---- texts that were put
-- nothing
pub put_none : (o : List ℕ) (at : ℕ) → length o < 2 ^ 64 → at < 2 ^ 64 → Put o at [] at o
put_none o at h f = record { place = omega arith; bytes = sym (pasted_none o at); room = omega arith }

-- one text and then another
pub put_then : {o q s x y : List ℕ} {at p r : ℕ} → Put o at x p q → Put q p y r s → Put o at (x ++ y) r s
put_then {o} {q} {s} {x} {y} {at} {p} {r} h k =
    record {
      place = rw length-append (omega (arith, h.place, k.place));
      bytes =
          let e : pasted q p y ≡ pasted q (at + length x) y = rw h.place (pasted_clip q (at + length x) y (rw (h.bytes, pasted_length o at x) h.room)) in
          k.bytes ∙ e ∙ rw h.bytes (pasted_join o at x y);
      room = h.room;
    }

-- the same, of what is left and of the place after it
pub pasted_twice : (o x y : List ℕ) (at : ℕ) → length o ≤ largest → pasted o at (x ++ y) ≡ pasted (pasted o at x) (after at x) y
pasted_twice o x y at l = rw (pasted_clip (pasted o at x) (at + length x) y (rw (pasted_length o at x) l)) (sym (pasted_join o at x y))

pub after_twice : (at : ℕ) (x y : List ℕ) → after at (x ++ y) ≡ after (after at x) y
after_twice at x y = rw length-append (omega arith)

-- Rules of `put_byte`
pub ruleset bytes_put = (pasted_byte, pasted_past)

-- Rules of `put` and `put_decimal`
pub ruleset joins = (pasted_none, pasted_twice, after_twice)
