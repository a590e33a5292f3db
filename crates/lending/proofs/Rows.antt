-- An element of an array of records that is a field of a record, over any types: what is known of each element, of the i-th, and its machine value. It says nothing of the crate.
use mathlib.Core.Path.{◌≡◌, ◌∙◌, ap, subst}
use Prim.Native.Nat.{ℕ, zero, suc, ◌<◌}
use native.Mathlib.Nat.{not-suc-le-zero, le_of_suc-le-suc}
use mathlib.Core.List.{List, [], ◌∷◌, map}
use lib.ListN.{length, get_or, length-map, get_or-map}
use mir.Val.{Val}
use denote.RattleType.{RattleType}
use denote.Laws.{Is, Tells}
use denote.Shadow.{shadow}
use denote.Array.{each}

module _ (R : RattleType) (val : R.Denot → Val) (tl : Tells R (Is R) (λ y. val y ∷ [])) {D : Type 0} (to : D → R.Denot) where
  -- element i of what is known of each
  pub each_at : (xs : List D) (us : List Val) → shadow (each R.Denot R.own_val (map to xs) us) → (i : ℕ) (d : D) → i < length xs → Is R (to (get_or xs i d)) (val (to (get_or xs i d)) ∷ [])
  each_at [] us s i d l = absurd (not-suc-le-zero l)
  each_at (x ∷ xs) [] s i d l = absurd s
  each_at (x ∷ xs) (u ∷ us) s zero d l = subst (Is R (to x)) (tl (to x) (u ∷ []) s.0) s.0
  each_at (x ∷ xs) (u ∷ us) s (suc i) d l = each_at xs us s.1 i d (le_of_suc-le-suc l)

  pub val_at : (xs : List D) (i : ℕ) (d : D) → get_or (map val (map to xs)) i (val (to d)) ≡ val (to (get_or xs i d))
  val_at xs i d = get_or-map val (map to xs) i (to d) ∙ ap val (get_or-map to xs i d)

  pub long_at : (xs : List D) (n : ℕ) → length (map to xs) ≡ n → length (map val (map to xs)) ≡ n
  long_at xs n e = length-map (map to xs) val ∙ e
