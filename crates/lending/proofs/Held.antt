-- A call of a function that takes a `&` and plain data, and returns plain data, as a step of a walk whose function holds that `&`: what the `&` owns and the tokens of the lifetimes are handed over, the tokens come back, and so does a fact on the machine value returned. It says nothing of the crate.
--     asks_held        what is asked, from the tokens P and what the parameters own, Q
--     own_first        what the parameters own, where all but the first are plain
--     leaves_held      what comes back: what is left of the parameters, Q, the tokens P, and what is told of the machine value returned
--     answers_held     the same where nothing is left, and it is one of f
--     alive_one, one_alive, two_alive     the tokens of one lifetime, and of two
-- Assumes `Logic`.
use mathlib.Core.Path.{◌≡◌, subst}
use mathlib.Core.List.{List, [], ◌∷◌}
use seplogic.Ra.Ura.{Ura}
use mir.Val.{Val}
use base.Logic.{SProp, ent, sep, emp, guard, id⊢, via, mono_r, comm∗, ex_e, fst∗, snd∗, emp∗}
use types.Logic.{Logic, sem}
use types.Kit.{‵, raw, given, ◌⊛◌, some, later, ◌$◌, ◌∵◌, !, qed, move, keep, use0, use1, join, split, pick, learn, frame, check, await, updating, now as at_once, fjoin, done}
use contract.Monad.{fact}
use denote.RattleType.{RattleType, Denots, Valss, owns}
use denote.Laws.{Is, Ises, Are, Makess, shows, owns_make}
use denote.Signature.{type_at, types_at}
use denote.Steps.{facts}
use denote.Triple.Entry.{Res, alive}
use denote.Triple.Spec.{triple_of}
use denote.Triple.Statement.{Contract}
use denote.Triple.Clauses.{Ended, Clauses, Lasts, at_exit, lasts, ensured, closing}

module _ {M : Type 1} {𝓤 : Ura M} (𝓛 : Logic 𝓤) where
  open 𝓛 use {H}

  pub alive_one : (P : SProp 𝓤) → ent 𝓤 P (sep 𝓤 P (emp 𝓤))
  alive_one P = via 𝓤 (sep 𝓤 (emp 𝓤) P) (emp∗ 𝓤 P) (comm∗ 𝓤 (emp 𝓤) P)

  pub one_alive : (P : SProp 𝓤) → ent 𝓤 (sep 𝓤 P (emp 𝓤)) P
  one_alive P = fst∗ 𝓤 P (emp 𝓤)

  pub two_alive : (P Q : SProp 𝓤) → ent 𝓤 (sep 𝓤 P (sep 𝓤 Q (emp 𝓤))) (sep 𝓤 P Q)
  two_alive P Q = mono_r 𝓤 P (one_alive Q)

  pub own_first : (R : RattleType) (Rs : List RattleType) (x : R.Denot) (rs : Denots Rs) (vs : List Val) (vss : Valss Rs) → Makess 𝓛 Rs (Ises Rs) → Are Rs (Ises Rs) rs vss → ent 𝓤 (sem 𝓛 (R.own_val x vs)) (sem 𝓛 (owns (R ∷ Rs) (x, rs) (vs, vss)))
  own_first R Rs x rs vs vss mk are =
      qed 𝓛 (‵ (R.own_val x vs) ∷ []) ∵ use0 𝓛 (‵ (owns Rs rs vss)) (owns_make 𝓛 Rs (Ises Rs) mk rs vss are) $ move ! (1 ∷ 0 ∷ []) $ fjoin ! $ done !

  module _ (T : Ended) (c : Clauses 𝓤 T) where
    abbrev Stated : Contract 𝓤
    Stated = triple_of 𝓛 T.signature (closing 𝓛 T c)

    module _ (y : Stated.Ghost) (P : SProp 𝓤) where
      pub asks_held : (Q : SProp 𝓤) → ent 𝓤 P (alive 𝓛 T.signature y.0.0 y.0.1) → ent 𝓤 Q (sem 𝓛 (owns (types_at T.signature.params y.0.0) y.0.3 y.0.4)) → ent 𝓤 (emp 𝓤) ((c y.0.0 y.0.3).requires y.1) → ent 𝓤 (sep 𝓤 P Q) (Stated.pre y)
      asks_held Q al ow req =
          qed 𝓛 (raw P ∷ raw Q ∷ []) ∵ use1 𝓛 (raw (alive 𝓛 T.signature y.0.0 y.0.1)) al $ move ! (1 ∷ []) $ use1 𝓛 (‵ (owns (types_at T.signature.params y.0.0) y.0.3 y.0.4)) ow $
          move ! (1 ∷ 0 ∷ []) $ join ! $ use0 𝓛 (raw ((c y.0.0 y.0.3).requires y.1)) req $ move ! (1 ∷ 0 ∷ []) $ frame ! $ done !

      -- the tokens, what is told of the machine value returned, and what is left of the parameters
      pub leaves_held : ent 𝓤 (alive 𝓛 T.signature y.0.0 y.0.1) P → (Q : SProp 𝓤) (F : Res T.signature y.0.0 → Type 0) (G : Val → Type 0)
          → ((r : Res T.signature y.0.0) (ws : Lasts T y.0.0 y.0.3) → ent 𝓤 (sep 𝓤 (sem 𝓛 (lasts T y.0.0 y.0.3 ws)) ((c y.0.0 y.0.3).ensures y.1 r (at_exit T y.0.0 y.0.3 ws))) (guard 𝓤 (F r) Q))
          → ((r : Res T.signature y.0.0) (w : Val) → F r → Is (type_at T.signature.result y.0.0) r (w ∷ []) → G w) → (w : Val) → ent 𝓤 (Stated.post y w) (H.⇛ (guard 𝓤 (G w) (sep 𝓤 Q P)))
      leaves_held al Q F G says tells w =
          qed 𝓛 (raw (Stated.post y w) ∷ []) ∵ updating ! $
          use1 𝓛 (later (some (λ (r : Res T.signature y.0.0). (raw (alive 𝓛 T.signature y.0.0 y.0.1) ⊛ ‵ ((type_at T.signature.result y.0.0).own_val r (w ∷ []))) ⊛ raw (ensured 𝓛 T c y.0.0 y.0.3 y.1 r)))) (id⊢ 𝓤 _) $ await ! tt $ pick ! (λ r.
          split ! $ move ! (1 ∷ []) $ use1 𝓛 (given (F r) (raw Q)) (ex_e 𝓤 _ (says r)) $ learn ! (λ f. move ! (1 ∷ []) $ split ! $ move ! (1 ∷ []) $
          facts ! (type_at T.signature.result y.0.0) (Is (type_at T.signature.result y.0.0)) (shows 𝓛 (type_at T.signature.result y.0.0)) r (w ∷ []) (λ is. use1 𝓛 (raw P) al $ at_once ! $
          check ! (tells r w f is) $ move ! (1 ∷ 0 ∷ []) $ done !)))

      -- that the machine value returned is one of f
      abbrev Returned : Res T.signature y.0.0 → Val → Type 0
      Returned f w = Is (type_at T.signature.result y.0.0) f (w ∷ [])

      pub returned : (f r : Res T.signature y.0.0) (w : Val) → r ≡ f → Returned r w → Returned f w
      returned f r w e is = subst (λ (z : Res T.signature y.0.0). Returned z w) e is

      pub answers_held : ent 𝓤 (alive 𝓛 T.signature y.0.0 y.0.1) P → (f : Res T.signature y.0.0)
          → ((r : Res T.signature y.0.0) (ws : Lasts T y.0.0 y.0.3) → ent 𝓤 ((c y.0.0 y.0.3).ensures y.1 r (at_exit T y.0.0 y.0.3 ws)) (fact 𝓤 (r ≡ f)))
          → (w : Val) → ent 𝓤 (Stated.post y w) (H.⇛ (guard 𝓤 (Is (type_at T.signature.result y.0.0) f (w ∷ [])) P))
      answers_held al f says w =
          qed 𝓛 (raw (Stated.post y w) ∷ []) ∵ updating ! $
          use1 𝓛 (later (given (Returned f w) (raw (emp 𝓤) ⊛ raw P)))
          (leaves_held al (emp 𝓤) (λ r. r ≡ f) (Returned f) (λ r ws. via 𝓤 _ (snd∗ 𝓤 (sem 𝓛 (lasts T y.0.0 y.0.3 ws)) _) (says r ws)) (returned f) w) $ await ! tt $ learn ! (λ is. split ! $ at_once ! $ check ! is $ keep ! (1 ∷ []) $ done !)
