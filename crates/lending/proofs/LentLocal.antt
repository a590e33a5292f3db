-- A local struct that is lent as a `&mut` for a lifetime, and comes back once that is over, at the last value that it had. It says nothing of the crate.
--     lends_local      the cell of a local at d  ⊢ ⇛ ∃ γ. own (the `&κ mut` ((b, 0), γ, d)) ∗ what the lender keeps
--     local_back       [†κ] ∗ what the lender keeps ∗ the last value z  ⊢ ⇛ the local's cell again, at z's machine value
-- Assumes `Logic`.
use mathlib.Core.Path.{refl, subst}
use Prim.Native.Nat.{ℕ}
use mathlib.Core.List.{List, [], ◌∷◌}
use seplogic.Ra.Ura.{Ura}
use base.Fraction.{full_share}
use mir.Syntax.{Ty, Lifetime}
use mir.Val.{Val, vptr}
use base.Logic.{ent, sep, ex, guard}
use base.Fml.{Lft, GName, Fml, fsep, fat, fdead, flent, fres}
use types.Logic.{Logic, sem}
use types.Kit.{‵, ◌⊛◌, some, later, ◌$◌, ◌∵◌, !, qed, move, use1, use3, pick, rewrite, fsplit, fjoin, fpick, fpack, check, await, updating, now as at_once, show, done}
use types.SemTy.{Body}
use denote.RattleType.{RattleType}
use denote.Laws.{Is, shows}
use denote.Memory.{mem, lone, cell_at, part_of}
use denote.Ref.{MutRef}
use denote.Lend.{lends_ref, ref_back}
use denote.Steps.{owned, facts}
use denote.Struct.Declared.{Declared, row, fields}
use denote.Struct.Struct.{Plains}
use denote.Struct.Laws as LL

module _ {M : Type 1} {𝓤 : Ura M} (𝓛 : Logic 𝓤) (T : Declared) (L : LL.Laws T) (pl : Plains (fields T)) (κ : Lft) (b : ℕ) where
  open 𝓛 use {H, A}

  abbrev R : RattleType
  R = row T

  -- its machine type
  abbrev τ : Ty
  τ = lone R.mir

  -- the reference, under the name γ
  abbrev pub Lends : Lifetime → GName → T.D → Fml
  Lends ℓ γ d = (MutRef ℓ κ R).own_val (record { ref_ptr = (b, 0); ghost_name = γ; now = d }) (vptr b 0 ∷ [])

  -- what the lender keeps
  abbrev pub Kept : GName → Fml
  Kept γ = flent κ (Body (mem R) b 0 γ)

  -- the local's cell
  abbrev pub Cell : Val → Fml
  Cell v = fat full_share τ b 0 v

  pub lends_local : (ℓ : Lifetime) (d : T.D) (v : Val) → Is R d (v ∷ []) → ent 𝓤 (sem 𝓛 (Cell v)) (H.⇛ (ex 𝓤 (λ (γ : GName). sep 𝓤 (sem 𝓛 (Lends ℓ γ d)) (sem 𝓛 (Kept γ)))))
  unfolding part_of
  lends_local ℓ d v is =
      qed 𝓛 (‵ (Cell v) ∷ []) ∵ updating ! $ use1 𝓛 (‵ (cell_at full_share R.mir (v ∷ []) b 0)) (𝓛.laws.at_raw full_share τ b 0 v) $
      owned ! R (Is R) (LL.makes T pl 𝓛) d (v ∷ []) is $ move ! (1 ∷ 0 ∷ []) $ fjoin ! $ fpack ! (List Val) (λ us. fsep (cell_at full_share R.mir us b 0) (R.own_val d us)) (v ∷ []) $
      use1 𝓛 (later (some (λ (γ : GName). ‵ (Lends ℓ γ d) ⊛ ‵ (Kept γ)))) (lends_ref 𝓛 R ℓ κ d b 0) $ await ! tt $ pick ! (λ γ. at_once ! $
      show ! (λ (γ' : GName). sep 𝓤 (sem 𝓛 (Lends ℓ γ' d)) (sem 𝓛 (Kept γ'))) γ $ done !)

  pub local_back : (γ : GName) (z : T.D) → ent 𝓤 (sep 𝓤 (A.dead κ) (sep 𝓤 (sem 𝓛 (Kept γ)) (A.res γ (R.coded.code z)))) (H.⇛ (guard 𝓤 (Is R z (LL.val T L z ∷ [])) (sem 𝓛 (Cell (LL.val T L z)))))
  unfolding part_of
  local_back γ z =
      qed 𝓛 (‵ (fdead κ) ∷ ‵ (Kept γ) ∷ ‵ (fres γ (R.coded.code z)) ∷ []) ∵ updating ! $
      use3 𝓛 (later (‵ ((mem R).own_at z b 0))) (ref_back 𝓛 R κ γ z b 0) $ await ! tt $ fpick ! (λ vs. fsplit ! $ move ! (1 ∷ []) $
      facts ! R (Is R) (shows 𝓛 R) z vs (λ is. rewrite ! 0 (λ (us : List Val). ‵ (cell_at full_share R.mir us b 0)) (LL.tells T L z vs is) refl $
      use1 𝓛 (‵ (Cell (LL.val T L z))) (𝓛.laws.raw_at full_share τ b 0 (LL.val T L z)) $ at_once ! $ check ! (subst (Is R z) (LL.tells T L z vs is) is) $ done !))
