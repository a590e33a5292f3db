-- Which bytes at the start of a text pass a test: a byte more, a block more, and a block at the end.
use Prim.Native.Nat.{ℕ, zero, suc, ◌+◌, ◌-◌, ◌*◌, ◌/◌, ◌≤◌, ◌<◌}
use native.Mathlib.Omega.{arith}
use mathlib.Core.Bool.{Bool, true, ◌&&◌}
use mathlib.Core.List.{List, []}
use mathlib.Core.Path.{◌≡◌, refl, subst}
use borrow.Author.Tests.{ltb-true, ltb-false}
use lib.ListN.{length, get_or, take, drop}
use lib.Seq.{get_or-take, get_or-drop, drop-drop}
use lib.Dec.{ltb}
use Rattle.std.specs.Simd.{first_chunks}
use Rattle.text.specs.inside.Blocks.{Passing}
use Rattle.text.proofs.Flat.{by_test, both}

-- the block of 16 with the number k
chunk_at : (m k : ℕ) (l d : List ℕ) → k < m → get_or (first_chunks 16 m l) k d ≡ take 16 (drop (k * 16) l)
chunk_at zero k l d h = absurd (omega arith)
chunk_at (suc m) zero l d h = refl
chunk_at (suc m) (suc k) l d h =
    let o : 16 + k * 16 ≡ suc k * 16 = omega arith in
    rw (chunk_at m k (drop 16 l) d (omega arith), drop-drop (k * 16) 16 l, o) refl

module _ (p : ℕ → Bool → Type 0) (l : List ℕ) where
  pub none_yet : Passing p 0 l
  unfolding Passing
  none_yet i h = absurd (omega arith)

  -- a byte more, where the answers so far and its own are true
  pub one_more : (n : ℕ) (w r : Bool) → (w ≡ true → Passing p n l) → p (get_or l n 0) r → w && r ≡ true → Passing p (n + 1) l
  unfolding Passing
  one_more n w r a h e i k =
      let q = both w r e in
      by_test (ltb i n) (λ f. a q.0 i (ltb-true i n f))
      (λ f. let o : i ≡ n = omega (arith, ltb-false i n f) in rw o (subst (p (get_or l n 0)) q.1 h))

  -- a block of 16 more, which is the one with the number k
  pub block_more : (k : ℕ) (bs : List (List ℕ)) → bs ≡ first_chunks 16 (length l / 16) l → k < length l / 16 → (k * 16 ≤ length l) × Passing p (k * 16) l → Passing p 16 (get_or bs k []) → ((k + 1) * 16 ≤ length l) × Passing p ((k + 1) * 16) l
  unfolding Passing
  block_more k bs b m a h = (
    omega (arith, m),
    λ i j. by_test (ltb i (k * 16)) (λ f. a.1 i (ltb-true i (k * 16) f))
        (λ f. let g = ltb-false i (k * 16) f in
        let o : k * 16 + (i - k * 16) ≡ i = omega arith in
        let r : i - k * 16 < 16 = omega arith in
        let v = h (i - k * 16) r in
        rw (b, chunk_at (length l / 16) k l [] m, get_or-take 16 (drop (k * 16) l) (i - k * 16) 0 r, get_or-drop (k * 16) l (i - k * 16) 0, o) at v),
  )

  -- the last block, which starts where the bytes are known to pass, or before
  pub block_last : (k : ℕ) {b : List ℕ} → k ≡ length l / 16 → (k * 16 ≤ length l) × Passing p (k * 16) l → b ≡ drop (length l - 16) l → Passing p 16 b → Passing p (length l) l
  unfolding Passing
  block_last k s a e h i m =
      by_test (ltb i (k * 16)) (λ f. a.1 i (ltb-true i (k * 16) f))
      (λ f. let g = ltb-false i (k * 16) f in
      let o : length l - 16 + (i - (length l - 16)) ≡ i = omega arith in
      let v = h (i - (length l - 16)) (omega arith) in
      rw (e, get_or-drop (length l - 16) l (i - (length l - 16)) 0, o) at v)

  -- two blocks of 8, at the start and at the end, of at most 16 bytes
  pub two_blocks : {a b : List ℕ} → length l ≤ 16 → a ≡ take 8 l → b ≡ drop (length l - 8) l → 8 ≤ length l → Passing p 8 a → Passing p 8 b → Passing p (length l) l
  unfolding Passing
  two_blocks z s e h c d i m =
      by_test (ltb i 8) (λ f. let v = c i (ltb-true i 8 f) in rw (s, get_or-take 8 l i 0 (ltb-true i 8 f)) at v)
      (λ f. let g = ltb-false i 8 f in
      let o : length l - 8 + (i - (length l - 8)) ≡ i = omega arith in
      let v = d (i - (length l - 8)) (omega arith) in
      rw (e, get_or-drop (length l - 8) l (i - (length l - 8)) 0, o) at v)

-- what the bytes that pass are, where a byte that passes is
pub passed : (p : ℕ → Bool → Type 0) (Q : ℕ → Type 0) (n : ℕ) (l : List ℕ) → Passing p n l → ((x : ℕ) → p x true → Q x) → (i : ℕ) → i < n → Q (get_or l i 0)
unfolding Passing
passed p Q n l a f i h = f (get_or l i 0) (a i h)
