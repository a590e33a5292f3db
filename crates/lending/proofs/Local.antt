-- A local array that is lent as a `&mut [T]`, and comes back: `Denote/ArrayMemory.antt` and `Denote/Lend.antt`, from a local's cell to a local's cell. It says nothing of the crate.
--     lends_array      the cell of a local array of xs  ⊢ ⇛ ∃ γ. own (the `&κ mut [T]` ((b, 0), γ, xs)) ∗ the lender's part
--     array_back       [†κ] ∗ the lender's part ∗ finally γ zs  ⊢ ⇛ ∃ v. the local's cell again, at a machine value v of zs
-- Assumes `Logic`.
use mathlib.Core.Path.{◌≡◌, refl, sym, subst}
use Prim.Native.Nat.{ℕ}
use mathlib.Core.List.{List, [], ◌∷◌}
use lib.ListN.{length}
use seplogic.Ra.Ura.{Ura}
use base.Fraction.{full_share}
use mir.Syntax.{Lifetime, ty_array}
use mir.Val.{Val}
use base.Logic.{ent, sep, ex, guard}
use base.Fml.{Lft, GName, Fml, fsep, fat, fdead, flent}
use types.Logic.{Logic, sem}
use types.Kit.{‵, ◌⊛◌, some, later, ◌$◌, ◌∵◌, !, qed, move, use1, use3, drop, split, pick, rewrite, fsplit, fjoin, fpick, fpack, check, await, updating, now as at_once, show, done}
use types.SemTy.{cells, Arr}
use types.Share.{arr_parts}
use denote.RattleType.{RattleType}
use denote.Laws.{Is, Makes, shows}
use denote.Memory.{cell_at, part_at, part_of, lone, mem, shares}
use denote.Array.{Array, array_val}
use denote.ArrayMemory.{Single, Array-apart, Array-whole}
use denote.Ref.{MutBor}
use denote.Slice.{slice_val, MutSlice, Room, finally}
use denote.Lend.{Held, lends_slice, slice_back}
use denote.Index.{row, whole_out, whole_in}
use denote.Steps.{owned, facts}

module _ {M : Type 1} {𝓤 : Ura M} (𝓛 : Logic 𝓤) (R : RattleType) (single : Single R.mir) (n : ℕ) (κ : Lft) (b : ℕ) where
  open 𝓛 use {H, A}

  abbrev at_list : GName → List R.Denot → MutBor (List R.Denot)
  at_list γ ys = record { ref_ptr = (b, 0); ghost_name = γ; now = ys }

  abbrev Cell : Val → Fml
  Cell v = fat full_share (ty_array (lone R.mir) n) b 0 v

  pub lends_array : (ℓ : Lifetime) → Makes 𝓛 (Array R n) (Is (Array R n)) → (xs : List R.Denot) (v : Val) → Is (Array R n) xs (v ∷ []) → Room R n → length xs ≡ n
      → ent 𝓤 (sem 𝓛 (Cell v)) (H.⇛ (ex 𝓤 (λ (γ : GName). sep 𝓤 (sem 𝓛 ((MutSlice ℓ κ R).own_val (at_list γ xs) (slice_val (b, 0) n ∷ []))) (sem 𝓛 (flent κ (Held R n b 0 γ))))))
  unfolding part_of
  lends_array ℓ mk xs v is room long =
      qed 𝓛 (‵ (Cell v) ∷ []) ∵ updating ! $ use1 𝓛 (‵ (cell_at full_share (Array R n).mir (v ∷ []) b 0)) (𝓛.laws.at_raw full_share (ty_array (lone R.mir) n) b 0 v) $
      owned ! (Array R n) (Is (Array R n)) mk xs (v ∷ []) is $ move ! (1 ∷ 0 ∷ []) $ fjoin ! $ fpack ! (List Val) (λ us. fsep (cell_at full_share (Array R n).mir us b 0) ((Array R n).own_val xs us)) (v ∷ []) $
      use1 𝓛 (‵ ((arr_parts (shares R) n).part full_share xs b 0)) (Array-apart 𝓛 R full_share single n xs b 0) $ fsplit ! $ drop ! $
      use1 𝓛 (‵ (cells (mem R) xs b 0)) (whole_in 𝓛 R xs b 0) $
      use1 𝓛 (later (some (λ (γ : GName). ‵ ((MutSlice ℓ κ R).own_val (at_list γ xs) (slice_val (b, 0) (length xs) ∷ [])) ⊛ ‵ (flent κ (Held R (length xs) b 0 γ))))) (lends_slice 𝓛 R ℓ κ xs b 0 (subst (Room R) (sym long) room)) $ await ! tt $ pick ! (λ γ. split ! $
      rewrite ! 0 (λ (m : ℕ). ‵ ((MutSlice ℓ κ R).own_val (at_list γ xs) (slice_val (b, 0) m ∷ []))) long refl $ rewrite ! 1 (λ (m : ℕ). ‵ (flent κ (Held R m b 0 γ))) long refl $
      at_once ! $ show ! (λ (γ' : GName). sep 𝓤 (sem 𝓛 ((MutSlice ℓ κ R).own_val (at_list γ' xs) (slice_val (b, 0) n ∷ []))) (sem 𝓛 (flent κ (Held R n b 0 γ')))) γ $ done !)

  pub array_back : (γ : GName) (zs : List R.Denot)
      → ent 𝓤 (sep 𝓤 (A.dead κ) (sep 𝓤 (sem 𝓛 (flent κ (Held R n b 0 γ))) (sem 𝓛 (finally R γ zs)))) (H.⇛ (ex 𝓤 (λ (v : Val). guard 𝓤 (Is (Array R n) zs (v ∷ [])) (sem 𝓛 (Cell v)))))
  unfolding part_of
  array_back γ zs =
      qed 𝓛 (‵ (fdead κ) ∷ ‵ (flent κ (Held R n b 0 γ)) ∷ ‵ (finally R γ zs) ∷ []) ∵ updating ! $
      use3 𝓛 (later (‵ ((Arr (mem R) n).own_at zs b 0))) (slice_back 𝓛 R κ γ zs n b 0) $ await ! tt $ fsplit ! $ move ! (1 ∷ []) $ use1 𝓛 (‵ (row R full_share zs b 0)) (whole_out 𝓛 R zs b 0) $ move ! (1 ∷ 0 ∷ []) $ fjoin ! $
      use1 𝓛 (‵ (part_at (Array R n) full_share zs b 0)) (Array-whole 𝓛 R full_share n zs b 0) $ fpick ! (λ vs. fsplit ! $ move ! (1 ∷ []) $
      facts ! (Array R n) (Is (Array R n)) (shows 𝓛 (Array R n)) zs vs (λ is. rewrite ! 0 (λ (us : List Val). ‵ (cell_at full_share (Array R n).mir us b 0)) is.1.0.0 refl $
      use1 𝓛 (‵ (Cell (array_val is.0))) (𝓛.laws.raw_at full_share (ty_array (lone R.mir) n) b 0 (array_val is.0)) $
      at_once ! $ show ! (λ (v : Val). guard 𝓤 (Is (Array R n) zs (v ∷ [])) (sem 𝓛 (Cell v))) (array_val is.0) $ check ! (subst (λ (us : List Val). Is (Array R n) zs us) is.1.0.0 is) $ done !))
