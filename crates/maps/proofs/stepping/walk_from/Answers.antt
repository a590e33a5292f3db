-- The ways through a turn are the definition's, in its order; a turn that writes a piece takes it off the front of the walk.
use Rattle.std.proofs.Common.{ℕ, ◌≡◌, ◌+◌, ◌-◌, ◌<◌, ◌∙◌, sym, ap, suc, arith}
use Rattle.std.specs.Prelude.{Ok}
use Rattle.maps.specs.Walk.{walk_from}
use Rattle.maps.proofs.Marks.{Ending, ending, over_nothing, over_past, over_full, turn_stops, turn_zero, turn_raw, starts_is}
use Rattle.maps.proofs.Runs.{keeps_modest}
use Rattle.maps.proofs.stepping.walk_from.Goals as goal
use Rattle.maps.proofs.stepping.walk_from.Goals.{in-Zero, in-Raw, then-left-eq0, then-left-eq0-via-then-left-eq0, then-left-eq0-via-else-left-eq0+then-size-pos, else-left-eq0+else-size-pos+then-room-count, else-left-eq0+else-size-pos+else-room-count+in-Ok+in-Eof, else-left-eq0+else-size-pos+else-room-count+in-Err}

-- what is answered, and what is left in the list
apart : {a b : Ending} → a ≡ b → (a.0 ≡ b.0) × (a.1 ≡ b.1)
apart e = (ap (λ (z : Ending). z.0) e, ap (λ (z : Ending). z.1) e)

one_left : (room at : ℕ) → at < room → room - at ≡ suc (room - (at + 1))
one_left room at l = omega arith

pub loop-left-init : goal.loop-left-init
loop-left-init c = record {
  within = omega arith;
  few = omega arith;
  ends = starts_is c.args.t.now c.args.list.now c.args.room c.args.pos c.args.left c.requires.1.1;
}

pub overflow_add-looked : goal.overflow_add-looked
overflow_add-looked c =
    let s = c.loop-left in
    let f = keeps_modest c.args.t.now s.pos s.left c.find-m.ensures in
    record { fits = omega (arith, f.1.1, s.invariant.few, c.if-room-count.false, c.requires.1.0) }

pub overflow_add-pos : goal.overflow_add-pos
overflow_add-pos c =
    let s = c.loop-left in
    let f = keeps_modest c.args.t.now s.pos s.left c.find-m.ensures in
    record { fits = omega (arith, f.1.0, c.if-size-pos.false, c.offset-size.ensures, c.offset-size.type_inv) }

pub overflow_sub-left : goal.overflow_sub-left
overflow_sub-left c =
    let s = c.loop-left in
    let f = keeps_modest c.args.t.now s.pos s.left c.find-m.ensures in
    f.0

pub loop-left-preserved : goal.loop-left-preserved
loop-left-preserved c =
    let s = c.loop-left in
    let t = c.args.t.now in
    let f = keeps_modest t s.pos s.left c.find-m.ensures in
    let room : c.args.room - s.count ≡ suc (c.args.room - (s.count + 1)) = one_left c.args.room s.count c.if-room-count.false in
    record {
      within = omega arith;
      few = omega (arith, f.1.1, s.invariant.few);
      ends = elim c.match-found.branch [
        | in-Zero w ↦ turn_zero t s.list s.count s.pos s.left s.looked (c.args.room - s.count) c.if-left-eq0.false (omega arith) c.find-m.ensures room (c.in-Ok.is ∙ ap Ok w.in-Zero.is) w.zero_piece.ensures w.list-is ∙ s.invariant.ends
        | in-Raw w ↦ turn_raw t s.list s.count s.pos s.left s.looked (c.args.room - s.count) c.if-left-eq0.false (omega arith) c.find-m.ensures room (c.in-Ok.is ∙ ap Ok w.in-Raw.is) w.raw_piece.ensures w.list-is ∙ s.invariant.ends
      ];
    }

pub returns : goal.returns
returns c =
    let t = c.args.t.now in
    let s = c.loop-left in
    let x = c.if-left-eq0 in
    let r = c.args.room - s.count in
    let at : Ending = (record { count = s.count; stop = x.stop; position = s.pos; looked = x.looked }, s.list) in
    let e : ending s.count s.looked s.list (walk_from r t s.pos s.left) ≡ at = elim x.branch [
      | then-left-eq0 w ↦ rw (w.stop-is, w.looked-is) (elim w.then-left-eq0.branch [
        | then-left-eq0-via-then-left-eq0 v ↦ over_nothing t s.list s.count s.pos s.left s.looked r v.if-left-eq0.true
        | then-left-eq0-via-else-left-eq0+then-size-pos v ↦ over_past t s.list s.count s.pos s.left s.looked r v.if-left-eq0.false (omega arith)
      ])
      | else-left-eq0+else-size-pos+then-room-count w ↦ rw (w.stop-is, w.looked-is) (over_full t s.list s.count s.pos s.left s.looked r w.if-left-eq0.false (omega arith) (omega arith))
      | else-left-eq0+else-size-pos+else-room-count+in-Ok+in-Eof w ↦ rw (w.stop-is, w.looked-is) (turn_stops t s.list s.count s.pos s.left s.looked r w.if-left-eq0.false (omega arith) w.find-m.ensures (one_left c.args.room s.count w.if-room-count.false) (λ v. rw (w.in-Ok.is ∙ ap Ok w.in-Eof.is)))
      | else-left-eq0+else-size-pos+else-room-count+in-Err w ↦ rw (w.stop-is, w.looked-is) (turn_stops t s.list s.count s.pos s.left s.looked r w.if-left-eq0.false (omega arith) w.find-m.ensures (one_left c.args.room s.count w.if-room-count.false) (λ v. rw w.in-Err.is))
    ] in
    let f = apart (sym e ∙ s.invariant.ends) in
    (c.ended.ensures ∙ f.0, f.1)
