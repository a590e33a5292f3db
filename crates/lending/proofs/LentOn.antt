-- A `&κ mut` of a struct that a walk holds, lent again to a call of a function that returns nothing: it comes back at the value that the function's `ensures` tells of its last. It says nothing of the crate.
--     After            what the holder has once the call has returned r: the `&κ mut` at z, and the token
--     lends_on         own (the `&κ mut` at h) ∗ [κ]_q  ⊢ ⇛ the call, and then After
-- Assumes `Logic`.
use mathlib.Core.Path.{◌≡◌}
use Prim.Native.Nat.{ℕ}
use mathlib.Core.List.{List, [], ◌∷◌}
use seplogic.Ra.Ura.{Ura}
use base.Fraction.{full_share}
use mir.Syntax.{Callee, Lifetime, named}
use mir.Val.{Val, vunit, vptr}
use base.Logic.{ent, sep, guard, guard_i, via, mono_l}
use base.Fml.{Lft, Share, GName, flft, fres}
use prog.Wp.{Calls}
use types.Logic.{Logic, sem}
use sound.WpLaws.{FmC}
use types.Kit.{Item, ‵, raw, given, ◌⊛◌, some, later, ◌$◌, ◌∵◌, !, qed, by, move, use1, use2, use3, split, pick, learn, check, await, updating, now as at_once, done}
use types.Tokens.{lft_new, lft_end}
use denote.RattleType.{RattleType}
use denote.Laws.{Is}
use denote.Ref.{MutBor, MutRef}
use denote.Lend.{LentAgain, lends_again, comes_back}
use denote.Signature.{type_at}
use denote.Triple.Entry.{Res, alive}
use denote.Triple.Spec.{triple_of}
use denote.Triple.Statement.{Contract}
use denote.Triple.Clauses.{Ended, Clauses, Lasts, at_exit, lasts, closing}
use Rattle.lending.proofs.Held.{leaves_held}

module _ {M : Type 1} {𝓤 : Ura M} (𝓛 : Logic 𝓤) (R : RattleType) (ℓ : Lifetime) (κ : Lft) (q : Share) (γ : GName) (b o : ℕ) where
  open 𝓛 use {H, A}

  abbrev at_ref : GName → R.Denot → MutBor R.Denot
  at_ref δ d = record { ref_ptr = (b, o); ghost_name = δ; now = d }

  -- the reference as the holder has it
  abbrev pub Has : R.Denot → Item 𝓤
  Has d = ‵ ((MutRef ℓ κ R).own_val (at_ref γ d) (vptr b o ∷ []))

  abbrev pub After : R.Denot → Val → Item 𝓤
  After z r = later (given (r ≡ vunit) (Has z ⊛ ‵ (flft κ q)))

  module _ (T : Ended) (c : Clauses 𝓤 T) where
    abbrev Stated : Contract 𝓤
    Stated = triple_of 𝓛 T.signature (closing 𝓛 T c)

    -- what the triple binds outside, where the reference is lent for a lifetime ν of the call, under the name δ
    module _ (y : ℕ → GName → Stated.Ghost) (h z : R.Denot)
        (token : (ν : ℕ) (δ : GName) → ent 𝓤 (alive 𝓛 T.signature (y ν δ).0.0 (y ν δ).0.1) (A.lft (ν ∷ []) full_share))
        (none : (ν : ℕ) (δ : GName) (u : Res T.signature (y ν δ).0.0) (r : Val) → Is (type_at T.signature.result (y ν δ).0.0) u (r ∷ []) → r ≡ vunit)
        (ends : (ν : ℕ) (δ : GName) (u : Res T.signature (y ν δ).0.0) (ws : Lasts T (y ν δ).0.0 (y ν δ).0.3)
        → ent 𝓤 (sep 𝓤 (sem 𝓛 (lasts T (y ν δ).0.0 (y ν δ).0.3 ws)) ((c (y ν δ).0.0 (y ν δ).0.3).ensures (y ν δ).1 u (at_exit T (y ν δ).0.0 (y ν δ).0.3 ws))) (A.res δ (R.coded.code z))) where
      back : (ν : ℕ) (δ : GName) (r : Val) → ent 𝓤 (sep 𝓤 (Stated.post (y ν δ) r) (sem 𝓛 (LentAgain R κ (ν ∷ []) q γ b o δ h))) (H.⇛ (guard 𝓤 (r ≡ vunit) (sep 𝓤 (sem 𝓛 ((MutRef ℓ κ R).own_val (at_ref γ z) (vptr b o ∷ []))) (A.lft κ q))))
      back ν δ r =
          qed 𝓛 (raw (Stated.post (y ν δ) r) ∷ ‵ (LentAgain R κ (ν ∷ []) q γ b o δ h) ∷ []) ∵ updating ! $
          use1 𝓛 (later (given (r ≡ vunit) (‵ (fres δ (R.coded.code z)) ⊛ ‵ (flft (ν ∷ []) full_share))))
          (leaves_held 𝓛 T c (y ν δ) (A.lft (ν ∷ []) full_share) (token ν δ) (A.res δ (R.coded.code z)) (λ u. Unit {0}) (λ w. w ≡ vunit) (λ u ws. via 𝓤 _ (ends ν δ u ws) (guard_i 𝓤 (Unit {0}) _ tt)) (λ u w _ is. none ν δ u w is) r) $ await ! tt $ learn ! (λ e. split ! $
          -- [the last value; ν's token; what was kept]
          move ! (1 ∷ []) $ lft_end ! tt $ move ! (0 ∷ 2 ∷ 1 ∷ []) $
          use3 𝓛 (later (‵ ((MutRef ℓ κ R).own_val (at_ref γ z) (vptr b o ∷ [])) ⊛ ‵ (flft κ q))) (comes_back 𝓛 R ℓ κ (ν ∷ []) q γ b o δ h z) $ await ! tt $ at_once ! $ check ! e $ done !)

      pub lends_on : (C : Calls 𝓤 H) (fm : FmC 𝓤 H 𝓛.laws C) (f : Callee) (vals : List Val) → ((ν : ℕ) (δ : GName) → ent 𝓤 (Stated.pre (y ν δ)) (C f vals (Stated.post (y ν δ))))
          → ((ν : ℕ) (δ : GName) → ent 𝓤 (sep 𝓤 (A.lft (ν ∷ []) full_share) (sem 𝓛 ((MutRef (named 0) (ν ∷ []) R).own_val (at_ref δ h) (vptr b o ∷ [])))) (Stated.pre (y ν δ)))
          → ent 𝓤 (sep 𝓤 (sem 𝓛 ((MutRef ℓ κ R).own_val (at_ref γ h) (vptr b o ∷ []))) (A.lft κ q)) (H.⇛ (C f vals (λ r. H.⇛ (guard 𝓤 (r ≡ vunit) (sep 𝓤 (sem 𝓛 ((MutRef ℓ κ R).own_val (at_ref γ z) (vptr b o ∷ []))) (A.lft κ q))))))
      lends_on C fm f vals known goes =
          qed 𝓛 (Has h ∷ ‵ (flft κ q) ∷ []) ∵ updating ! $ lft_new ! tt (λ ν. move ! (1 ∷ 2 ∷ []) $
          use2 𝓛 (later (some (λ (δ : GName). ‵ ((MutRef (named 0) (ν ∷ []) R).own_val (at_ref δ h) (vptr b o ∷ [])) ⊛ ‵ (LentAgain R κ (ν ∷ []) q γ b o δ h)))) (lends_again 𝓛 R ℓ κ (ν ∷ []) q γ b o (named 0) h) $ await ! tt $ pick ! (λ δ. split ! $
          move ! (2 ∷ 0 ∷ []) $ use2 𝓛 (raw (Stated.pre (y ν δ))) (goes ν δ) $ at_once ! $
          by ! (via 𝓤 _ (mono_l 𝓤 (sem 𝓛 (LentAgain R κ (ν ∷ []) q γ b o δ h)) (known ν δ))
          (fm f vals (Stated.post (y ν δ)) _ (sem 𝓛 (LentAgain R κ (ν ∷ []) q γ b o δ h)) (back ν δ)))))
