-- An offset below the size lies between two sums of sizes, those before and after one extent, and its place is a place in that extent.
-- Going past an extent takes its size off the offset, which is how places and what is left of an extent are defined.
-- Assumes nothing.
use Prim.Native.Nat.{ℕ, suc, ◌+◌, ◌-◌, ◌<◌, ◌≤◌}
use native.Mathlib.Omega.{arith}
use mathlib.Core.List.{List, [], ◌∷◌}
use mathlib.Core.Path.{◌≡◌, refl, ◌∙◌}
use lib.ListN.{length, get_or, take}
use lib.Dec.{ltb}
use borrow.Author.Tests.{ltb-true, ltb-false, le-ltb, lt-ltb}
use Rattle.lines.specs.Record.{no_extent}
use Rattle.lines.specs.declared.record.VmdkParsedExtent.{VmdkParsedExtent}
use Rattle.maps.specs.Place.{past, within, bytes_in, size_of, place_from}
use Rattle.theorems.specs.Maps.{rest_of}
use Rattle.text.proofs.Flat.{by_test}

-- byte o of extents numbered from i on lies in this one of them
pub record Held (i : ℕ) (xs : List VmdkParsedExtent) (o : ℕ) : Type 0 where
  pub nth : ℕ
  pub below : nth < length xs
  pub from : size_of (take nth xs) ≤ o
  pub upto : o < size_of (take nth xs) + bytes_in (get_or xs nth no_extent)
  pub place : place_from i xs o ≡ within (i + nth) (get_or xs nth no_extent).storage (o - size_of (take nth xs))
  pub rest : rest_of xs o ≡ size_of (take nth xs) + bytes_in (get_or xs nth no_extent) - o

module _ (i : ℕ) (x : VmdkParsedExtent) (xs : List VmdkParsedExtent) (o : ℕ) where
  held_here : o < bytes_in x → Held i (x ∷ xs) o
  unfolding size_of place_from rest_of
  held_here h =
      let e = lt-ltb o (bytes_in x) h in
      let e₁ : i + 0 ≡ i = omega arith in
      let e₂ : o - 0 ≡ o = omega arith in
      record { nth = 0; below = omega arith; from = omega arith; upto = omega arith; place = rw (e, e₁, e₂); rest = rw e (omega arith) }

  held_next : bytes_in x ≤ o → Held (suc i) xs (o - bytes_in x) → Held i (x ∷ xs) o
  unfolding size_of place_from rest_of
  held_next h k =
      let e = le-ltb o (bytes_in x) h in
      let e₁ : suc i + k.nth ≡ i + suc k.nth = omega arith in
      let e₂ : o - bytes_in x - size_of (take k.nth xs) ≡ o - (bytes_in x + size_of (take k.nth xs)) = omega arith in
      let e₃ : size_of (take k.nth xs) + bytes_in (get_or xs k.nth no_extent) - (o - bytes_in x) ≡ bytes_in x + size_of (take k.nth xs) + bytes_in (get_or xs k.nth no_extent) - o = omega arith in
      record { nth = suc k.nth; below = omega arith; from = omega arith; upto = omega arith; place = rw e (k.place ∙ rw (e₁, e₂)); rest = rw e (k.rest ∙ e₃) }

pub held : (i : ℕ) (xs : List VmdkParsedExtent) (o : ℕ) → o < size_of xs → Held i xs o
unfolding size_of
held i [] o h = absurd (omega arith)
held i (x ∷ xs) o h =
    by_test (ltb o (bytes_in x))
    (λ e. held_here i x xs o (ltb-true o (bytes_in x) e))
    (λ e. let g = ltb-false o (bytes_in x) e in held_next i x xs o g (held (suc i) xs (o - bytes_in x) (omega arith)))

-- at or past the size
pub beyond : (i : ℕ) (xs : List VmdkParsedExtent) (o : ℕ) → size_of xs ≤ o → place_from i xs o ≡ past
unfolding size_of place_from
beyond i [] o h = refl
beyond i (x ∷ xs) o h =
    let g : bytes_in x ≤ o = omega arith in
    rw (le-ltb o (bytes_in x) g) (beyond (suc i) xs (o - bytes_in x) (omega arith))
