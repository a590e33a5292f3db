-- Reading a sector count is reading a number, so its rules go over what `number` answers.
use Rattle.std.specs.Prelude.{None, Option, Some}
use Prim.Native.Nat.{ℕ, ◌+◌, ◌*◌, ◌≤◌, ◌<◌}
use native.Mathlib.Omega.{arith}
use mathlib.Core.List.{List}
use mathlib.Core.Logic.{◌↔◌}
use mathlib.Core.Path.{◌≡◌, ap}
use lib.Dec.{leb}
use borrow.Author.Rules.{rules}
use borrow.Author.Tests.{le-leb, lt-leb, leb-true, leb-false}
use Rattle.text.specs.Number.{number_of}
use Rattle.text.specs.Sector.{sector_size, largest, sectors_of, bytes_of}
use Rattle.text.specs.declared.sector.Sectors.{Sectors}
use Rattle.text.specs.declared.sector.Bytes.{Bytes}
use Rattle.text.proofs.Flat.{by_test}

-- Rules of `Sectors::of`
module _ (t : List ℕ) {n : Option ℕ} (e : n ≡ number_of largest t) where
  pub sectors_count : {v : ℕ} → n ≡ Some v → Some (record { 0 = v }) ≡ sectors_of t
  unfolding sectors_of
  sectors_count q = rw (← e, q)

  pub sectors_bad : n ≡ None → None ≡ sectors_of t
  unfolding sectors_of
  sectors_bad q = rw (← e, q)

-- Rules of `Sectors::bytes`
module _ (s : Sectors) where
  pub bytes_over : (s.0 * sector_size < largest + 1 → ⊥) → None ≡ bytes_of s
  unfolding bytes_of
  bytes_over h = let o : largest < s.0 * sector_size = omega arith in rw (lt-leb _ _ o)

  pub bytes_count : s.0 * sector_size < largest + 1 → Some (record { 0 = s.0 * sector_size }) ≡ bytes_of s
  unfolding bytes_of
  bytes_count h = let o : s.0 * sector_size ≤ largest = omega arith in rw (le-leb _ _ o)

pub ruleset sectors = (sectors_count, sectors_bad, bytes_count, rules)

-- the bytes are 512 to a sector, and within 2^64-1, or they are too many
pub bytes_rule : (s : Sectors) (b : ℕ) → (bytes_of s ≡ Some (record { 0 = b })) ↔ ((s.0 * sector_size ≡ b) × (b ≤ largest))
unfolding bytes_of
bytes_rule s b = (
  λ h. by_test (leb (s.0 * sector_size) largest)
      (λ e. let g : Some (record { 0 = s.0 * sector_size }) ≡ Some (record { 0 = b }) = rw e at h in
      let q : s.0 * sector_size ≡ b = ap number g in
      (q, rw (← q) (leb-true (s.0 * sector_size) largest e)))
      (λ e. let g : None ≡ Some (record { 0 = b }) = rw e at h in let z : ◌≡◌ {A = ℕ} 0 1 = cc in absurd (omega arith)),
  λ w. rw (w.0, le-leb b largest w.1),
)
  where
    number : Option Bytes → ℕ
    number (Some c) = c.0
    number None = 0

pub bytes_large : (s : Sectors) → (bytes_of s ≡ None) ↔ (largest < s.0 * sector_size)
unfolding bytes_of
bytes_large s = (
  λ h. by_test (leb (s.0 * sector_size) largest)
      (λ e. let g : Some (record { 0 = s.0 * sector_size }) ≡ None = rw e at h in let z : ◌≡◌ {A = ℕ} 0 1 = cc in absurd (omega arith))
      (λ e. leb-false (s.0 * sector_size) largest e),
  λ o. rw (lt-leb _ _ o),
)
