-- Each row of Table 3-7 reads the encodings of one range of scalar values, and no other bytes: the bits that a row takes together
-- are laid out again by Table 3-6 as the bytes that were read, and those of a scalar value fall in the row of its range.
use Rattle.std.specs.Prelude.{None, Option, Some}
use Prim.Native.Nat.{ℕ, suc, ◌+◌, ◌*◌, ◌/◌, ◌%◌, ◌≤◌, ◌<◌}
use native.Mathlib.Omega.{arith}
use mathlib.Core.List.{List, [], ◌∷◌, ◌++◌}
use mathlib.Core.Bool.{true, false}
use mathlib.Core.Path.{◌≡◌, refl, sym, ap, subst, ◌∙◌}
use lib.Dec.{leb, eqb}
use lib.ListN.{length, drop}
use borrow.Author.Tests.{le-leb, lt-leb, leb-true, leb-false, eq-eqb, eqb-true}
use Rattle.text.specs.Ranges.{look, within}
use Rattle.text.specs.Find.{begins}
use Rattle.text.specs.Utf8.{leads, lead_of, tail_of, char_by, char_of}
use Rattle.theorems.specs.Unicode.{scalar, trailing, encode, Stands}
use Rattle.text.specs.declared.utf8.Char.{Char}
use Rattle.text.specs.declared.utf8.Char.TheVariants.{Scalar, Bad, End}
use Rattle.text.proofs.Flat.{by_test, within_in, within_below, within_above, look_each}
use Rattle.text.proofs.Chars.{lead_in}
use Rattle.text.proofs.Texts.{Fit, fit}

-- ---- scalar values and their encodings, by range
pub scalar_low : (c : ℕ) → c ≤ 0xD7FF → scalar c ≡ true
scalar_low c h = rw (le-leb c 0xD7FF h)

pub scalar_high : (c : ℕ) → 0xE000 ≤ c → c ≤ 0x10FFFF → scalar c ≡ true
scalar_high c l h = let o : 0xD7FF < c = omega arith in rw (lt-leb c 0xD7FF o, within_in 0xE000 0x10FFFF c l h)

encode_1 : (c : ℕ) → c ≤ 0x7F → encode c ≡ c ∷ []
unfolding encode
encode_1 c h = rw (le-leb c 0x7F h)

encode_2 : (c : ℕ) → 0x7F < c → c ≤ 0x7FF → encode c ≡ (0xC0 + c / 64) ∷ trailing c ∷ []
unfolding encode
encode_2 c l h = rw (lt-leb c 0x7F l, le-leb c 0x7FF h)

encode_3 : (c : ℕ) → 0x7FF < c → c ≤ 0xFFFF → encode c ≡ (0xE0 + c / 4096) ∷ trailing (c / 64) ∷ trailing c ∷ []
unfolding encode
encode_3 c l h = let o : 0x7F < c = omega arith in rw (lt-leb c 0x7F o, lt-leb c 0x7FF l, le-leb c 0xFFFF h)

encode_4 : (c : ℕ) → 0xFFFF < c → encode c ≡ (0xF0 + c / 262144) ∷ trailing (c / 4096) ∷ trailing (c / 64) ∷ trailing c ∷ []
unfolding encode
encode_4 c l =
    let o : 0x7F < c = omega arith in
    let p : 0x7FF < c = omega arith in
    rw (lt-leb c 0x7F o, lt-leb c 0x7FF p, lt-leb c 0xFFFF l)

-- ---- what was read is an encoding
-- the bytes l begin with the encoding of the scalar value c, which is w bytes wide
abbrev pub Reads : ℕ → ℕ → List ℕ → Type 0
Reads c w l = (w ≡ length (encode c)) × Stands c l

-- one byte more of a character: it is there, in its range, and the rest gives the character
tail_out : {C : Type 0} (n lo hi c w : ℕ) (l : List ℕ) {d v : ℕ} → tail_of (suc n) lo hi c w l ≡ Scalar d v
    → ((x : ℕ) (r : List ℕ) → l ≡ x ∷ r → lo ≤ x → x ≤ hi → tail_of n 0x80 0xBF (c * 64 + x % 64) w r ≡ Scalar d v → C) → C
unfolding tail_of
tail_out n lo hi c w [] e k = let z : ◌≡◌ {A = ℕ} 0 1 = cc in absurd (omega arith)
tail_out n lo hi c w (x ∷ r) {d} {v} e k =
    by_test (leb lo x)
    (λ p. by_test (leb x hi)
    (λ q. k x r refl (leb-true lo x p) (leb-true x hi q) (rw (p, q) at e))
    (λ q. let g : Bad ≡ Scalar d v = rw (p, q) at e in let z : ◌≡◌ {A = ℕ} 0 1 = cc in absurd (omega arith)))
    (λ p. let g : Bad ≡ Scalar d v = rw p at e in let z : ◌≡◌ {A = ℕ} 0 1 = cc in absurd (omega arith))

tail_last : (lo hi c w : ℕ) (l : List ℕ) {d v : ℕ} → tail_of 0 lo hi c w l ≡ Scalar d v → (c ≡ d) × (w ≡ v)
unfolding tail_of
tail_last lo hi c w l {d} {v} e = let p : c ≡ d = cc in let q : w ≡ v = cc in (p, q)

-- Table 3-6 lays the bits out again as the bytes that they were taken from
module _ (b x : ℕ) (l : 0x80 ≤ x) (h : x ≤ 0xBF) where
  laid_2 : (c : ℕ) → 0xC2 ≤ b → b ≤ 0xDF → b % 32 * 64 + x % 64 ≡ c → encode c ≡ b ∷ x ∷ []
  laid_2 c p q e =
      let f₁ : 0xC0 + c / 64 ≡ b = omega arith in
      let f₂ : trailing c ≡ x = omega arith in
      rw (encode_2 c (omega arith) (omega arith), f₁, f₂)

  module _ (y : ℕ) (l₂ : 0x80 ≤ y) (h₂ : y ≤ 0xBF) where
    laid_3 : (c : ℕ) → 0xE0 ≤ b → b ≤ 0xEF → (b % 16 * 64 + x % 64) * 64 + y % 64 ≡ c → 0x7FF < c → encode c ≡ b ∷ x ∷ y ∷ []
    laid_3 c p q e o =
        let f₁ : 0xE0 + c / 4096 ≡ b = omega arith in
        let f₂ : trailing (c / 64) ≡ x = omega arith in
        let f₃ : trailing c ≡ y = omega arith in
        rw (encode_3 c o (omega arith), f₁, f₂, f₃)

    module _ (z : ℕ) (l₃ : 0x80 ≤ z) (h₃ : z ≤ 0xBF) where
      laid_4 : (c : ℕ) → 0xF0 ≤ b → b ≤ 0xF4 → ((b % 8 * 64 + x % 64) * 64 + y % 64) * 64 + z % 64 ≡ c → 0xFFFF < c → encode c ≡ b ∷ x ∷ y ∷ z ∷ []
      laid_4 c p q e o =
          let f₁ : 0xF0 + c / 262144 ≡ b = omega arith in
          let f₂ : trailing (c / 4096) ≡ x = omega arith in
          let f₃ : trailing (c / 64) ≡ y = omega arith in
          let f₄ : trailing c ≡ z = omega arith in
          rw (encode_4 c o, f₁, f₂, f₃, f₄)

-- a list begins with its own bytes
begins_self : (k r : List ℕ) → begins (k ++ r) k ≡ true
unfolding begins
begins_self [] r = refl
begins_self (x ∷ k) r = rw (eq-eqb x x refl) (begins_self k r)

-- what is read by a row of one, two, three or four bytes
made : (c w : ℕ) (k r l : List ℕ) → scalar c ≡ true → encode c ≡ k → w ≡ length k → k ++ r ≡ l → Reads c w l
made c w k r l s e n q = (rw e n, (s, rw (e, ← q) (begins_self k r)))

row_1 : (b : ℕ) (r : List ℕ) {c w : ℕ} → b ≤ 0x7F → tail_of 0 0x80 0xBF (b % 128) 1 r ≡ Scalar c w → Reads c w (b ∷ r)
row_1 b r {c} {w} h e =
    let p = tail_last 0x80 0xBF (b % 128) 1 r e in
    let q : c ≡ b = omega arith in
    made c w (b ∷ []) r (b ∷ r) (scalar_low c (omega arith)) (rw (encode_1 c (omega arith), q)) (sym p.1) refl

row_2 : (b : ℕ) (r : List ℕ) {c w : ℕ} → 0xC2 ≤ b → b ≤ 0xDF → tail_of 1 0x80 0xBF (b % 32) 2 r ≡ Scalar c w → Reads c w (b ∷ r)
row_2 b r {c} {w} l h e =
    tail_out 0 0x80 0xBF (b % 32) 2 r e (λ x r₁ q₁ l₁ h₁ e₁.
    let p = tail_last 0x80 0xBF (b % 32 * 64 + x % 64) 2 r₁ e₁ in
    made c w (b ∷ x ∷ []) r₁ (b ∷ r) (scalar_low c (omega arith)) (laid_2 b x l₁ h₁ c l h p.0) (sym p.1) (rw q₁))

-- for a row of three or four bytes: the code points that it reads are scalar values, and too large for fewer bytes
module _ (b lo hi : ℕ) (r : List ℕ) {c w : ℕ} (l : 0x80 ≤ lo) (h : hi ≤ 0xBF) where
  row_3 : 0xE0 ≤ b → b ≤ 0xEF → ((x y : ℕ) → lo ≤ x → x ≤ hi → 0x80 ≤ y → y ≤ 0xBF → (b % 16 * 64 + x % 64) * 64 + y % 64 ≡ c → (0x7FF < c) × (scalar c ≡ true)) → tail_of 2 lo hi (b % 16) 3 r ≡ Scalar c w → Reads c w (b ∷ r)
  row_3 l₀ h₀ g e =
      tail_out 1 lo hi (b % 16) 3 r e (λ x r₁ q₁ l₁ h₁ e₁.
      tail_out 0 0x80 0xBF (b % 16 * 64 + x % 64) 3 r₁ e₁ (λ y r₂ q₂ l₂ h₂ e₂.
      let p = tail_last 0x80 0xBF ((b % 16 * 64 + x % 64) * 64 + y % 64) 3 r₂ e₂ in
      let f = g x y l₁ h₁ l₂ h₂ p.0 in
      made c w (b ∷ x ∷ y ∷ []) r₂ (b ∷ r) f.1
      (laid_3 b x (omega arith) (omega arith) y l₂ h₂ c l₀ h₀ p.0 f.0) (sym p.1) (rw (q₁, q₂))))

  row_4 : 0xF0 ≤ b → b ≤ 0xF4 → ((x y z : ℕ) → lo ≤ x → x ≤ hi → 0x80 ≤ y → y ≤ 0xBF → 0x80 ≤ z → z ≤ 0xBF → ((b % 8 * 64 + x % 64) * 64 + y % 64) * 64 + z % 64 ≡ c → (0xFFFF < c) × (c ≤ 0x10FFFF)) → tail_of 3 lo hi (b % 8) 4 r ≡ Scalar c w → Reads c w (b ∷ r)
  row_4 l₀ h₀ g e =
      tail_out 2 lo hi (b % 8) 4 r e (λ x r₁ q₁ l₁ h₁ e₁.
      tail_out 1 0x80 0xBF (b % 8 * 64 + x % 64) 4 r₁ e₁ (λ y r₂ q₂ l₂ h₂ e₂.
      tail_out 0 0x80 0xBF ((b % 8 * 64 + x % 64) * 64 + y % 64) 4 r₂ e₂ (λ z r₃ q₃ l₃ h₃ e₃.
      let p = tail_last 0x80 0xBF (((b % 8 * 64 + x % 64) * 64 + y % 64) * 64 + z % 64) 4 r₃ e₃ in
      let f = g x y z l₁ h₁ l₂ h₂ l₃ h₃ p.0 in
      made c w (b ∷ x ∷ y ∷ z ∷ []) r₃ (b ∷ r) (scalar_high c (omega arith) f.1)
      (laid_4 b x (omega arith) (omega arith) y l₂ h₂ z l₃ h₃ c l₀ h₀ p.0 f.0) (sym p.1) (rw (q₁, q₂, q₃)))))

-- row by row of Table 3-7
module _ (b : ℕ) (r : List ℕ) (c w : ℕ) where
  abbrev By : Option (ℕ × ℕ × ℕ × ℕ) → Type 0
  By f = char_by f b r ≡ Scalar c w → Reads c w (b ∷ r)

  by_row : By (look None leads b)
  by_row =
      look_each By None leads b
      (λ e. let z : ◌≡◌ {A = ℕ} 0 1 = cc in absurd (omega arith)) (
        λ l h. row_1 b r h,
        (
          λ l h. row_2 b r l h,
          (
            λ l h. row_3 b 0xA0 0xBF r (omega arith) (omega arith) (omega arith) (omega arith) (λ x y p q p₂ q₂ e. (omega arith, scalar_low c (omega arith))),
            (
              λ l h. row_3 b 0x80 0xBF r (omega arith) (omega arith) (omega arith) (omega arith) (λ x y p q p₂ q₂ e. (omega arith, scalar_low c (omega arith))),
              (
                λ l h. row_3 b 0x80 0x9F r (omega arith) (omega arith) (omega arith) (omega arith) (λ x y p q p₂ q₂ e. (omega arith, scalar_low c (omega arith))),
                (
                  λ l h. row_3 b 0x80 0xBF r (omega arith) (omega arith) (omega arith) (omega arith) (λ x y p q p₂ q₂ e. (omega arith, scalar_high c (omega arith) (omega arith))),
                  (
                    λ l h. row_4 b 0x90 0xBF r (omega arith) (omega arith) (omega arith) (omega arith) (λ x y z p q p₂ q₂ p₃ q₃ e. omega arith),
                    (
                      λ l h. row_4 b 0x80 0xBF r (omega arith) (omega arith) (omega arith) (omega arith) (λ x y z p q p₂ q₂ p₃ q₃ e. omega arith),
                      (
                        λ l h. row_4 b 0x80 0x8F r (omega arith) (omega arith) (omega arith) (omega arith) (λ x y z p q p₂ q₂ p₃ q₃ e. omega arith),
                        tt,
                      ),
                    ),
                  ),
                ),
              ),
            ),
          ),
        ),
      )

-- a character that is read is the encoding of a scalar value
pub read_encoding : (l : List ℕ) {c w : ℕ} → char_of l ≡ Scalar c w → Reads c w l
unfolding char_of lead_of
read_encoding [] e = let z : ◌≡◌ {A = ℕ} 0 1 = cc in absurd (omega arith)
read_encoding (b ∷ r) {c} {w} e = by_row b r c w e

-- ---- an encoding is read
tail_on : (n lo hi c w x : ℕ) (r : List ℕ) → lo ≤ x → x ≤ hi → tail_of (suc n) lo hi c w (x ∷ r) ≡ tail_of n 0x80 0xBF (c * 64 + x % 64) w r
unfolding tail_of
tail_on n lo hi c w x r l h = rw (within_in lo hi x l h)

module _ (c : ℕ) (r : List ℕ) where
  -- c is at most m, or above it
  upto : {C : Type 0} (m : ℕ) → (c ≤ m → C) → (m < c → C) → C
  upto m f g = by_test (leb c m) (λ e. f (leb-true c m e)) (λ e. g (leb-false c m e))

  abbrev Whole : Type 0
  Whole = char_of (encode c ++ r) ≡ Scalar c (length (encode c))

  whole_1 : c ≤ 0x7F → Whole
  unfolding char_of tail_of
  whole_1 h = let e : c % 128 ≡ c = omega arith in rw (encode_1 c h, lead_in 0x00 0x7F c tt (omega arith) h, e)

  whole_2 : 0x7F < c → c ≤ 0x7FF → Whole
  unfolding char_of tail_of
  whole_2 l h =
      let e : (0xC0 + c / 64) % 32 * 64 + trailing c % 64 ≡ c = omega arith in
      rw (
        encode_2 c l h,
        lead_in 0xC2 0xDF (0xC0 + c / 64) tt (omega arith) (omega arith),
        tail_on 0 0x80 0xBF ((0xC0 + c / 64) % 32) 2 (trailing c) r (omega arith) (omega arith),
        e,
      )

  whole_3 : (lo hi : ℕ) → 0x7FF < c → c ≤ 0xFFFF → lead_of (0xE0 + c / 4096) ≡ Some (2, lo, hi, 0x10) → lo ≤ trailing (c / 64) → trailing (c / 64) ≤ hi → Whole
  unfolding char_of tail_of
  whole_3 lo hi l h e p q =
      let b : ℕ = 0xE0 + c / 4096 in
      let x : ℕ = trailing (c / 64) in
      let f₁ : b % 16 * 64 + x % 64 ≡ c / 64 = omega arith in
      let f₂ : c / 64 * 64 + trailing c % 64 ≡ c = omega arith in
      rw (
        encode_3 c l h,
        e,
        tail_on 1 lo hi (b % 16) 3 x (trailing c ∷ r) p q,
        f₁,
        tail_on 0 0x80 0xBF (c / 64) 3 (trailing c) r (omega arith) (omega arith),
        f₂,
      )

  whole_4 : (lo hi : ℕ) → 0xFFFF < c → c ≤ 0x10FFFF → lead_of (0xF0 + c / 262144) ≡ Some (3, lo, hi, 0x08) → lo ≤ trailing (c / 4096) → trailing (c / 4096) ≤ hi → Whole
  unfolding char_of tail_of
  whole_4 lo hi l h e p q =
      let b : ℕ = 0xF0 + c / 262144 in
      let x : ℕ = trailing (c / 4096) in
      let y : ℕ = trailing (c / 64) in
      let f₁ : b % 8 * 64 + x % 64 ≡ c / 4096 = omega arith in
      let f₂ : c / 4096 * 64 + y % 64 ≡ c / 64 = omega arith in
      let f₃ : c / 64 * 64 + trailing c % 64 ≡ c = omega arith in
      rw (
        encode_4 c l,
        e,
        tail_on 2 lo hi (b % 8) 4 x (y ∷ trailing c ∷ r) p q,
        f₁,
        tail_on 1 0x80 0xBF (c / 4096) 4 y (trailing c ∷ r) (omega arith) (omega arith),
        f₂,
        tail_on 0 0x80 0xBF (c / 64) 4 (trailing c) r (omega arith) (omega arith),
        f₃,
      )

  -- a scalar value above D7FF is at least E000, and at most 10FFFF
  scalar_above : scalar c ≡ true → 0xD7FF < c → (0xE000 ≤ c) × (c ≤ 0x10FFFF)
  scalar_above s o =
      let e : within 0xE000 0x10FFFF c ≡ true = rw (lt-leb c 0xD7FF o) at s in
      upto 0xDFFF (λ h. let g : false ≡ true = sym (within_below 0xE000 0x10FFFF c (omega arith)) ∙ e in let z : ◌≡◌ {A = ℕ} 0 1 = cc in absurd (omega arith))
      (λ l. upto 0x10FFFF (λ h. (omega arith, h))
      (λ h. let g : false ≡ true = sym (within_above 0xE000 0x10FFFF c h) ∙ e in let z : ◌≡◌ {A = ℕ} 0 1 = cc in absurd (omega arith)))

  -- the encoding of a scalar value is read as that value, whatever follows it
  pub encoding_read : scalar c ≡ true → Whole
  encoding_read s =
      upto 0x7F whole_1
      (λ l₁. upto 0x7FF (whole_2 l₁)
      (λ l₂. upto 0xFFF (λ h. whole_3 0xA0 0xBF l₂ (omega arith) (lead_in 0xE0 0xE0 (0xE0 + c / 4096) tt (omega arith) (omega arith)) (omega arith) (omega arith))
      (λ l₃. upto 0xCFFF (λ h. whole_3 0x80 0xBF l₂ (omega arith) (lead_in 0xE1 0xEC (0xE0 + c / 4096) tt (omega arith) (omega arith)) (omega arith) (omega arith))
      (λ l₄. upto 0xD7FF (λ h. whole_3 0x80 0x9F l₂ (omega arith) (lead_in 0xED 0xED (0xE0 + c / 4096) tt (omega arith) (omega arith)) (omega arith) (omega arith))
      (λ l₅. let a = scalar_above s l₅ in
      upto 0xFFFF (λ h. whole_3 0x80 0xBF l₂ h (lead_in 0xEE 0xEF (0xE0 + c / 4096) tt (omega arith) (omega arith)) (omega arith) (omega arith))
      (λ l₆. upto 0x3FFFF (λ h. whole_4 0x90 0xBF l₆ a.1 (lead_in 0xF0 0xF0 (0xF0 + c / 262144) tt (omega arith) (omega arith)) (omega arith) (omega arith))
      (λ l₇. upto 0xFFFFF (λ h. whole_4 0x80 0xBF l₆ a.1 (lead_in 0xF1 0xF3 (0xF0 + c / 262144) tt (omega arith) (omega arith)) (omega arith) (omega arith))
      (λ l₈. whole_4 0x80 0x8F l₆ a.1 (lead_in 0xF4 0xF4 (0xF0 + c / 262144) tt (omega arith) (omega arith)) (omega arith) (omega arith)))))))))

-- ---- what stands at the front of a list decides the step
-- a list that begins with k is k and the rest
pub begins_split : (l k : List ℕ) → begins l k ≡ true → l ≡ k ++ drop (length k) l
unfolding begins
begins_split l [] h = refl
begins_split [] (y ∷ s) h = let z : ◌≡◌ {A = ℕ} 0 1 = cc in absurd (omega arith)
begins_split (x ∷ r) (y ∷ s) h =
    by_test (eqb x y)
    (λ e. let q : x ≡ y = eqb-true x y e in rw (q, ← begins_split r s (rw e at h)))
    (λ e. let g : false ≡ true = rw e at h in let z : ◌≡◌ {A = ℕ} 0 1 = cc in absurd (omega arith))

pub stands_read : (c : ℕ) (l : List ℕ) → Stands c l → char_of l ≡ Scalar c (length (encode c))
stands_read c l s = ap char_of (begins_split l (encode c) s.1) ∙ encoding_read c (drop (length (encode c)) l) s.0

-- where bytes are left, a step is a character or is refused
by_char : (l : List ℕ) (x : Char) → char_of l ≡ x → 0 < length l → ((c : ℕ) → Stands c l → ⊥) → char_of l ≡ Bad
by_char l (Scalar c w) e h n = absurd (n c (read_encoding l e).1)
by_char l Bad e h n = e
by_char l End e h n = let f : length l ≤ 0 = subst (Fit (length l)) e (fit l) in absurd (omega arith)

pub none_stands : (l : List ℕ) → 0 < length l → ((c : ℕ) → Stands c l → ⊥) → char_of l ≡ Bad
none_stands l h n = by_char l (char_of l) refl h n
