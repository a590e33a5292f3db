-- Places in the first of which a list is stored: what they hold then, whatever they held before. Each law is by induction over the list, or follows from where it ends.
-- Assumes nothing.
use Prim.Native.Nat.{ℕ, zero, suc, ◌+◌, ◌-◌, ◌≤◌, ◌<◌}
use native.Mathlib.Omega.{arith}
use native.Mathlib.Numerals.{add-one}
use mathlib.Core.Path.{◌≡◌, refl, sym, ◌∙◌, ap}
use mathlib.Core.List.{List, [], ◌∷◌, ◌++◌, append-nil, append_assoc}
use lib.ListN.{length, take, drop, set, get_or, replicate, length-append, length-take, length-drop, take-append-drop}
use lib.Seq.{drop-set-lt, take-suc-set}
use Rattle.lines.specs.Record.{most, filled, over}

module _ {A : Type 0} where
  take_front : (xs ys : List A) → take (length xs) (xs ++ ys) ≡ xs
  take_front [] ys = refl
  take_front (x ∷ xs) ys = ap (λ (zs : List A). x ∷ zs) (take_front xs ys)

  drop_none : (k : ℕ) → drop {A = A} k [] ≡ []
  drop_none zero = refl
  drop_none (suc k) = refl

  past_front : (xs ys : List A) (i : ℕ) (d : A) → length xs ≤ i → get_or (xs ++ drop (length xs) ys) i d ≡ get_or ys i d
  past_front [] ys i d h = refl
  past_front (x ∷ xs) [] zero d h = absurd (omega (arith, h))
  past_front (x ∷ xs) [] (suc i) d h = ap (λ (zs : List A). get_or (xs ++ zs) i d) (sym (drop_none (length xs))) ∙ past_front xs [] i d (omega (arith, h))
  past_front (x ∷ xs) (y ∷ ys) zero d h = absurd (omega (arith, h))
  past_front (x ∷ xs) (y ∷ ys) (suc i) d h = past_front xs ys i d (omega (arith, h))

  drop_blank : (x : A) (n k : ℕ) → drop k (replicate n x) ≡ replicate (n - k) x
  drop_blank x n zero = let e : n ≡ n - 0 = omega arith in ap (λ (j : ℕ). replicate j x) e
  drop_blank x zero (suc k) = let e : 0 ≡ 0 - suc k = omega arith in ap (λ (j : ℕ). replicate j x) e
  drop_blank x (suc n) (suc k) = let e : n - k ≡ suc n - suc k = omega arith in drop_blank x n k ∙ ap (λ (j : ℕ). replicate j x) e

  -- the first places hold the list
  pub over_first : (xs ys : List A) → take (length xs) (over xs ys) ≡ xs
  unfolding over
  over_first xs ys = take_front xs (drop (length xs) ys)

  -- the others hold what they held
  pub over_past : (xs ys : List A) (i : ℕ) (d : A) → length xs ≤ i → get_or (over xs ys) i d ≡ get_or ys i d
  unfolding over
  over_past xs ys i d h = past_front xs ys i d h

  pub over_length : (xs ys : List A) → length xs ≤ length ys → length (over xs ys) ≡ length ys
  unfolding over
  over_length xs ys h = length-append xs (drop (length xs) ys) ∙ omega (arith, length-drop (length xs) ys)

  -- an array of blank places holds nothing
  pub all_blank : {x none : A} → x ≡ none → replicate most x ≡ filled none []
  unfolding filled
  all_blank q = ap (replicate most) q

  -- blank places are filled
  pub over_blank : (none : A) (xs : List A) → over xs (filled none []) ≡ filled none xs
  unfolding over filled
  over_blank none xs = ap (λ (ys : List A). xs ++ ys) (drop_blank none most (length xs))

  -- nothing changes where the list stands there already
  pub over_held : (xs zs : List A) (n : ℕ) → take n zs ≡ xs → length xs ≡ n → over xs zs ≡ zs
  unfolding over
  over_held xs zs n h l = rw (l, ← h) (take-append-drop n zs)

  -- nor by what stood in one of its places
  pub over_set : (ys zs : List A) (i : ℕ) (x : A) → i < length ys → over ys (set zs i x) ≡ over ys zs
  unfolding over
  over_set ys zs i x h = rw (drop-set-lt (length ys) zs i x h)

  -- the places so far, where nothing more is stored
  pub over_so_far : (zs : List A) (n : ℕ) → n ≤ length zs → over (take n zs ++ []) zs ≡ zs
  over_so_far zs n h = ap (λ (xs : List A). over xs zs) (append-nil (take n zs)) ∙ over_held (take n zs) zs n refl (length-take n zs ∙ omega arith)

  -- one more is stored behind those so far
  pub over_next : (zs ys : List A) (i : ℕ) (x : A) → i < length zs → over (take (i + 1) (set zs i x) ++ ys) (set zs i x) ≡ over (take i zs ++ (x ∷ ys)) zs
  over_next zs ys i x h =
      let xs = take i zs ++ (x ∷ ys) in
      let front : take (i + 1) (set zs i x) ≡ take i zs ++ (x ∷ []) = ap (λ (j : ℕ). take j (set zs i x)) (add-one i) ∙ take-suc-set zs i x h in
      let same : take (i + 1) (set zs i x) ++ ys ≡ xs = ap (λ (ks : List A). ks ++ ys) front ∙ append_assoc (take i zs) (x ∷ []) ys in
      let far : i < length xs = omega (arith, length-append (take i zs) (x ∷ ys), length-take i zs) in
      ap (λ (ks : List A). over ks (set zs i x)) same ∙ over_set xs zs i x far
