-- An element of an array that is a part of a cell, as `types.Part`'s `sub` is a field: so `look_raw_in ! k (item ! i … (sub ! 2 refl (whole !)))` reads `x.2[i]`. It says nothing of the crate.
--     item             element i of the array's cell that p finds
--     look_raw_in      `types.Part`'s `look_in` for a cell that stands at the raw form of the place's type, as what lies behind a reference does
-- Assumes `Logic` (of it `at_elems`, `elems_at`, `raw_at`, `at_raw`).
use mathlib.Core.Path.{◌≡◌, refl, sym, ◌∙◌, ap, subst}
use Prim.Native.Nat.{ℕ, zero, suc, ◌+◌, ◌<◌}
use native.Mathlib.Nat.{not-suc-le-zero, le_of_suc-le-suc}
use mathlib.Core.List.{List, [], ◌∷◌}
use lib.ListN.{length, get_or, set, length-set}
use seplogic.Ra.Ura.{Ura}
use mir.Syntax.{Ty, ty_array}
use mir.Val.{Val, vstruct, of_list}
use mir.Raw.{raw as raw_ty}
use base.Logic.{SProp, ent, sep, wand, ex, all, via, mono_l, mono_r, wand_i, apply∗, ex_i, all_e}
use base.Fml.{Share, fat}
use prog.Memory.{size}
use prog.Model.{elems}
use types.Logic.{Logic}
use types.Kit.{Item, ‵, raw, ◌⊛◌, mean, ⋆, nth, del, unpull, ◌$◌, ◌∵◌, !, qed, move, use1, use2, split, assume, frame, each, done}
use types.Run.{Reads}
use types.Part.{Part, taken, given_back, Rest}
use denote.Index.{place}

-- the cell with any value u gives back the entry, as `back u`: `types.Part`'s `Way`, which is private there
abbrev Way : {M : Type 1} {𝓤 : Ura M} (𝓛 : Logic 𝓤) → Share → Ty → ℕ → ℕ → (Val → Item 𝓤) → SProp 𝓤
Way {𝓤 = 𝓤} 𝓛 q τ b o back = all 𝓤 (λ (u : Val). wand 𝓤 (𝓛.H.at q τ b o u) (mean 𝓛 (back u)))

set_same : {X : Type 0} (us : List X) (i : ℕ) (d : X) → set us i (get_or us i d) ≡ us
set_same [] i d = refl
set_same (u ∷ us) zero d = refl
set_same (u ∷ us) (suc i) d = ap (λ (ws : List _). u ∷ ws) (set_same us i d)

module _ {M : Type 1} {𝓤 : Ura M} (𝓛 : Logic 𝓤) (q : Share) (τ : Ty) (b : ℕ) where
  open 𝓛 use {H}

  abbrev Cell : ℕ → Val → SProp 𝓤
  Cell o u = H.at q τ b o u

  abbrev Back : ℕ → List Val → ℕ → Val → SProp 𝓤
  Back o us i u = wand 𝓤 (Cell (place (size τ) o i) u) (elems 𝓤 H q τ b o (set us i u))

  -- one element out of many, and any other back into its place
  pub elem : (us : List Val) (i : ℕ) (d : Val) (o : ℕ) → i < length us → ent 𝓤 (elems 𝓤 H q τ b o us) (sep 𝓤 (Cell (place (size τ) o i) (get_or us i d)) (all 𝓤 (Back o us i)))
  elem [] i d o l = absurd (not-suc-le-zero l)
  elem (u ∷ us) zero d o l =
      qed 𝓛 ((‵ (fat q τ b o u) ⊛ raw (elems 𝓤 H q τ b (o + size τ) us)) ∷ []) ∵ split ! $ frame ! $ each ! (Back o (u ∷ us) zero) (λ w. assume ! (‵ (fat q τ b o w)) $ frame ! $ done !)
  elem (u ∷ us) (suc i) d o l =
      qed 𝓛 ((‵ (fat q τ b o u) ⊛ raw (elems 𝓤 H q τ b (o + size τ) us)) ∷ []) ∵ split ! $ move ! (1 ∷ []) $
      use1 𝓛 (‵ (fat q τ b (place (size τ) (o + size τ) i) (get_or us i d)) ⊛ raw (all 𝓤 (Back (o + size τ) us i))) (elem us i d (o + size τ) (le_of_suc-le-suc l)) $ split ! $ frame ! $
      each ! (Back o (u ∷ us) (suc i)) (λ w. assume ! (‵ (fat q τ b (place (size τ) (o + size τ) i) w)) $
      -- [the element; the way back among the others; the first]
      move ! (1 ∷ []) $ use1 𝓛 (raw (Back (o + size τ) us i w)) (all_e 𝓤 (Back (o + size τ) us i) w) $ move ! (1 ∷ 0 ∷ []) $
      use2 𝓛 (raw (elems 𝓤 H q τ b (o + size τ) (set us i w))) (apply∗ 𝓤 (Cell (place (size τ) (o + size τ) i) w) (elems 𝓤 H q τ b (o + size τ) (set us i w))) $ move ! (1 ∷ []) $ frame ! $ done !)

module _ {M : Type 1} {𝓤 : Ura M} {𝓛 : Logic 𝓤} {K : Type 0} where
  open 𝓛 use {H}

  pub item : K → {e : Item 𝓤} {q : Share} {τ : Ty} {n b o : ℕ} (us : List Val) {back : Val → Item 𝓤} (i : ℕ) (d : Val) → i < length us → length us ≡ n
      → Part K 𝓛 e q (ty_array τ n) b o (vstruct (of_list us)) back → Part K 𝓛 e q τ b (place (size τ) o i) (get_or us i d) (λ u. back (vstruct (of_list (set us i u))))
  item t {e} {q} {τ} {n} {b} {o} us {back} i d l k p = record {
    out = qed 𝓛 (e ∷ []) ∵ use1 𝓛 (‵ (fat q (ty_array τ n) b o (vstruct (of_list us))) ⊛ raw (Way 𝓛 q (ty_array τ n) b o back)) p.out $ split ! $
        use1 𝓛 (raw (elems 𝓤 H q τ b o us)) (𝓛.laws.at_elems q τ n b o us) $
        use1 𝓛 (‵ (fat q τ b (place (size τ) o i) (get_or us i d)) ⊛ raw (all 𝓤 (Back 𝓛 q τ b o us i))) (elem 𝓛 q τ b us i d o l) $ split ! $ frame ! $
        each ! (λ (u : Val). wand 𝓤 (H.at q τ b (place (size τ) o i) u) (mean 𝓛 (back (vstruct (of_list (set us i u)))))) (λ u. assume {P = mean 𝓛 (back (vstruct (of_list (set us i u))))} ! (‵ (fat q τ b (place (size τ) o i) u)) $
        -- [the element with u; the way back to the elements; the way back to the entry]
        move ! (1 ∷ []) $ use1 𝓛 (raw (Back 𝓛 q τ b o us i u)) (all_e 𝓤 (Back 𝓛 q τ b o us i) u) $ move ! (1 ∷ 0 ∷ []) $
        use2 𝓛 (raw (elems 𝓤 H q τ b o (set us i u))) (apply∗ 𝓤 (H.at q τ b (place (size τ) o i) u) (elems 𝓤 H q τ b o (set us i u))) $
        use1 𝓛 (‵ (fat q (ty_array τ n) b o (vstruct (of_list (set us i u))))) (subst (λ (m : ℕ). ent 𝓤 (elems 𝓤 H q τ b o (set us i u)) (H.at q (ty_array τ m) b o (vstruct (of_list (set us i u))))) (length-set us i u ∙ k) (𝓛.laws.elems_at q τ b o (set us i u))) $
        move ! (1 ∷ []) $ use1 𝓛 (raw (Entry (vstruct (of_list (set us i u))))) (all_e 𝓤 Entry (vstruct (of_list (set us i u)))) $ move ! (1 ∷ 0 ∷ []) $
        use2 𝓛 (back (vstruct (of_list (set us i u)))) (apply∗ 𝓤 (H.at q (ty_array τ n) b o (vstruct (of_list (set us i u)))) (mean 𝓛 (back (vstruct (of_list (set us i u)))))) $ done !);
    same = ap (λ (ws : List Val). back (vstruct (of_list ws))) (set_same us i d) ∙ p.same;
  }
    where
      Entry : Val → SProp 𝓤
      Entry w = wand 𝓤 (H.at q (ty_array τ n) b o w) (mean 𝓛 (back w))

  module _ {Γ : List (Item 𝓤)} where
    pub look_raw_in : K → (n : ℕ) {q : Share} {τ : Ty} {b o : ℕ} {v : Val} {back : Val → Item 𝓤} → Part K 𝓛 (nth 𝓛 n Γ) q (raw_ty τ) b o v back → Reads K 𝓛 Γ τ b o v
    look_raw_in t n {q} {τ} {b} {o} {v} {back} p = record {
      go = λ Kt h.
          via 𝓤 (sep 𝓤 (H.at q τ b o v) (wand 𝓤 (H.at q τ b o v) (Kt v)))
          (via 𝓤 (sep 𝓤 (H.at q (raw_ty τ) b o v) (Rest 𝓛 Γ n q (raw_ty τ) b o back)) (taken 𝓛 Γ n q (raw_ty τ) b o back K v p)
          (via 𝓤 (sep 𝓤 (H.at q τ b o v) (Rest 𝓛 Γ n q (raw_ty τ) b o back)) (mono_l 𝓤 (Rest 𝓛 Γ n q (raw_ty τ) b o back) (𝓛.laws.raw_at q τ b o v))
          (mono_r 𝓤 (H.at q τ b o v) (wand_i 𝓤 (Rest 𝓛 Γ n q (raw_ty τ) b o back) (H.at q τ b o v) (Kt v)
          (via 𝓤 (sep 𝓤 (Rest 𝓛 Γ n q (raw_ty τ) b o back) (H.at q (raw_ty τ) b o v)) (mono_r 𝓤 (Rest 𝓛 Γ n q (raw_ty τ) b o back) (𝓛.laws.at_raw q τ b o v))
          (via 𝓤 (sep 𝓤 (mean 𝓛 (back v)) (⋆ 𝓛 (del 𝓛 n Γ))) (given_back 𝓛 Γ n q (raw_ty τ) b o back v)
          (via 𝓤 (⋆ 𝓛 Γ) (subst (λ (j : Item 𝓤). ent 𝓤 (sep 𝓤 (mean 𝓛 j) (⋆ 𝓛 (del 𝓛 n Γ))) (⋆ 𝓛 Γ)) (sym p.same) (unpull 𝓛 n Γ)) h)))))))
          (via 𝓤 (ex 𝓤 (λ (u : Val). sep 𝓤 (H.at q τ b o u) (wand 𝓤 (H.at q τ b o u) (Kt u))))
          (ex_i 𝓤 (λ (u : Val). sep 𝓤 (H.at q τ b o u) (wand 𝓤 (H.at q τ b o u) (Kt u))) v)
          (ex_i 𝓤 (λ (s : Share). ex 𝓤 (λ (u : Val). sep 𝓤 (H.at s τ b o u) (wand 𝓤 (H.at s τ b o u) (Kt u)))) q));
    }
