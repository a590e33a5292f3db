-- A local struct that is lent as a `&` for a lifetime, and comes back once that is over, as it was. A local's cell is a cell of the machine's raw form with what the struct owns, which `Denote/Lend.antt` lends whole. It says nothing of the crate.
--     lends_shared     the cell of a local at d  ⊢ ⇛ own (the `&κ` ((b, 0), d)) ∗ what the lender keeps, of a type that is lent with no token
--     shared_back      [†κ] ∗ what the lender keeps  ⊢ ⇛ the local's cell again
-- Assumes `Logic`.
use mathlib.Core.Path.{refl}
use Prim.Native.Nat.{ℕ}
use mathlib.Core.List.{List, [], ◌∷◌}
use seplogic.Ra.Ura.{Ura}
use base.Fraction.{full_share}
use mir.Syntax.{Ty, Lifetime}
use mir.Val.{Val, vptr}
use base.Logic.{ent, sep}
use base.Fml.{Lft, Fml, fsep, fat, fdead, flent}
use types.Logic.{Logic, sem}
use types.Kit.{‵, ◌⊛◌, later, ◌$◌, ◌∵◌, !, qed, move, use1, rewrite, fsplit, fjoin, fpick, fpack, await, updating, now as at_once, done}
use types.Tokens.{lent_back}
use denote.RattleType.{RattleType}
use denote.Laws.{Is, shows}
use denote.Memory.{lone, cell_at, part_at, part_of}
use denote.Ref.{ShrRef}
use denote.Copied.{Copied}
use denote.Lend.{lends_free}
use denote.Steps.{owned, facts}
use denote.Struct.Declared.{Declared, row, fields}
use denote.Struct.Struct.{Plains}
use denote.Struct.Laws as LL

module _ {M : Type 1} {𝓤 : Ura M} (𝓛 : Logic 𝓤) (T : Declared) (L : LL.Laws T) (pl : Plains (fields T)) (κ : Lft) (b : ℕ) (d : T.D) where
  open 𝓛 use {H, A}

  abbrev R : RattleType
  R = row T

  -- its machine type
  abbrev τ : Ty
  τ = lone R.mir

  -- the reference
  abbrev pub Lends : Lifetime → Fml
  Lends ℓ = (ShrRef ℓ κ R).own_val (record { ref_ptr = (b, 0); now = d }) (vptr b 0 ∷ [])

  -- what the lender keeps
  abbrev pub Kept : Fml
  Kept = flent κ (part_at R full_share d b 0)

  -- the local's cell
  abbrev pub Cell : Val → Fml
  Cell v = fat full_share τ b 0 v

  -- the type's law says that it is lent with no token, as a type is that can be copied
  pub lends_shared : Copied 𝓛 R → (ℓ : Lifetime) (v : Val) → Is R d (v ∷ []) → ent 𝓤 (sem 𝓛 (Cell v)) (H.⇛ (sep 𝓤 (sem 𝓛 (Lends ℓ)) (sem 𝓛 Kept)))
  unfolding part_of
  lends_shared copied ℓ v is =
      qed 𝓛 (‵ (Cell v) ∷ []) ∵ updating ! $ use1 𝓛 (‵ (cell_at full_share R.mir (v ∷ []) b 0)) (𝓛.laws.at_raw full_share τ b 0 v) $
      owned ! R (Is R) (LL.makes T pl 𝓛) d (v ∷ []) is $ move ! (1 ∷ 0 ∷ []) $ fjoin ! $ fpack ! (List Val) (λ us. fsep (cell_at full_share R.mir us b 0) (R.own_val d us)) (v ∷ []) $
      use1 𝓛 (later (‵ (Lends ℓ) ⊛ ‵ Kept)) (lends_free 𝓛 R ℓ κ full_share d b 0 (copied.lends full_share d b 0)) $ await ! tt $ at_once ! $ done !

  pub shared_back : ent 𝓤 (sep 𝓤 (A.dead κ) (sem 𝓛 Kept)) (H.⇛ (sem 𝓛 (Cell (LL.val T L d))))
  unfolding part_of
  shared_back =
      qed 𝓛 (‵ (fdead κ) ∷ ‵ Kept ∷ []) ∵ updating ! $ lent_back ! tt $ fpick ! (λ vs. fsplit ! $ move ! (1 ∷ []) $
      facts ! R (Is R) (shows 𝓛 R) d vs (λ is. rewrite ! 0 (λ (us : List Val). ‵ (cell_at full_share R.mir us b 0)) (LL.tells T L d vs is) refl $
      use1 𝓛 (‵ (Cell (LL.val T L d))) (𝓛.laws.raw_at full_share τ b 0 (LL.val T L d)) $ at_once ! $ done !))
