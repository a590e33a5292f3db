-- A call of a function whose parameters and result are plain data, as a step of a walk: nothing is handed over, and what comes back is a fact on the machine value that it returned. It says nothing of the crate.
--     asks             what is asked, for nothing
--     answers          what comes back, where the `ensures` says that the result is f
-- Assumes `Logic`.
use mathlib.Core.Path.{◌≡◌, subst}
use mathlib.Core.List.{[], ◌∷◌}
use seplogic.Ra.Ura.{Ura}
use mir.Val.{Val}
use base.Logic.{ent, emp, id⊢, via, ex_e, snd∗}
use types.Logic.{Logic, sem}
use types.Kit.{‵, raw, ◌⊛◌, some, later, ◌$◌, ◌∵◌, !, qed, move, use0, use1, join, split, pick, drop, frame, check, await, updating, now as at_once, done}
use contract.Monad.{fact}
use denote.RattleType.{owns}
use denote.Laws.{Is, Ises, Are, Makess, shows, owns_make}
use denote.Signature.{type_at, types_at}
use denote.Steps.{heard, facts}
use denote.Triple.Entry.{Res, alive}
use denote.Triple.Spec.{triple_of}
use denote.Triple.Statement.{Contract}
use denote.Triple.Clauses.{Ended, Clauses, Lasts, at_exit, lasts, ensured, closing}

module _ {M : Type 1} {𝓤 : Ura M} (𝓛 : Logic 𝓤) (T : Ended) (c : Clauses 𝓤 T) where
  open 𝓛 use {H}

  abbrev pub Stated : Contract 𝓤
  Stated = triple_of 𝓛 T.signature (closing 𝓛 T c)

  module _ (y : Stated.Ghost) where
    -- what the function is asked is had for nothing
    pub asks : ent 𝓤 (emp 𝓤) (alive 𝓛 T.signature y.0.0 y.0.1) → Makess 𝓛 (types_at T.signature.params y.0.0) (Ises (types_at T.signature.params y.0.0))
        → Are (types_at T.signature.params y.0.0) (Ises (types_at T.signature.params y.0.0)) y.0.3 y.0.4 → ent 𝓤 (emp 𝓤) ((c y.0.0 y.0.3).requires y.1) → ent 𝓤 (emp 𝓤) (Stated.pre y)
    asks al mk are req =
        qed 𝓛 [] ∵ use0 𝓛 (raw ((c y.0.0 y.0.3).requires y.1)) req $ use0 𝓛 (‵ (owns (types_at T.signature.params y.0.0) y.0.3 y.0.4)) (owns_make 𝓛 (types_at T.signature.params y.0.0) (Ises (types_at T.signature.params y.0.0)) mk y.0.3 y.0.4 are) $
        use0 𝓛 (raw (alive 𝓛 T.signature y.0.0 y.0.1)) al $ join ! $ frame ! $ done !

    -- what it returns is a machine value of f
    pub answers : (f : Res T.signature y.0.0)
        → ((r : Res T.signature y.0.0) (ws : Lasts T y.0.0 y.0.3) → ent 𝓤 ((c y.0.0 y.0.3).ensures y.1 r (at_exit T y.0.0 y.0.3 ws)) (fact 𝓤 (r ≡ f)))
        → (w : Val) → ent 𝓤 (Stated.post y w) (H.⇛ (fact 𝓤 (Is (type_at T.signature.result y.0.0) f (w ∷ []))))
    answers f says w =
        qed 𝓛 (raw (Stated.post y w) ∷ []) ∵ updating ! $
        use1 𝓛 (later (some (λ (r : Res T.signature y.0.0). (raw (alive 𝓛 T.signature y.0.0 y.0.1) ⊛ ‵ ((type_at T.signature.result y.0.0).own_val r (w ∷ []))) ⊛ raw (ensured 𝓛 T c y.0.0 y.0.3 y.1 r)))) (id⊢ 𝓤 _) $ await ! tt $ pick ! (λ r.
        split ! $ move ! (1 ∷ []) $ use1 𝓛 (raw (fact 𝓤 (r ≡ f))) (ex_e 𝓤 _ (λ ws. via 𝓤 _ (snd∗ 𝓤 (sem 𝓛 (lasts T y.0.0 y.0.3 ws)) _) (says r ws))) $ heard ! (r ≡ f) (λ e. split ! $ drop ! $
        facts ! (type_at T.signature.result y.0.0) (Is (type_at T.signature.result y.0.0)) (shows 𝓛 (type_at T.signature.result y.0.0)) r (w ∷ []) (λ is. at_once ! $
        check ! (subst (λ (z : Res T.signature y.0.0). Is (type_at T.signature.result y.0.0) z (w ∷ [])) e is) $ done !)))
