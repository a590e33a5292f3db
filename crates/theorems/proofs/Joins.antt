-- A walk into a list of a + b places is the walk into a places and, if that stopped with More, the walk into b places from where it stopped.
-- By induction on a: both take the same steps until the first list is full.
-- Assumes nothing.
use Rattle.std.specs.Prelude.{Err, Ok, Result}
use Prim.Native.Nat.{ℕ, zero, suc, ◌+◌, ◌-◌, ◌<◌, ◌≤◌, min}
use native.Mathlib.Omega.{arith}
use native.Mathlib.Nat.{add_assoc, suc-add}
use mathlib.Core.List.{List, [], ◌∷◌}
use mathlib.Core.Path.{◌≡◌, refl, sym, ap, ◌∙◌}
use lib.Dec.{leb}
use borrow.Author.Tests.{le-leb, lt-leb, leb-true, leb-false}
use Rattle.lines.specs.Record.{most}
use Rattle.tables.specs.declared.table.Table.{Table}
use Rattle.tables.specs.declared.table.Piece.{Piece}
use Rattle.tables.specs.declared.table.ShallowMapping.TheVariants.{Eof, Zero, Raw}
use Rattle.tables.specs.declared.table.Stop.TheVariants.{Done, More}
use Rattle.tables.specs.declared.table.ShallowMapping.{ShallowMapping}
use Rattle.tables.specs.declared.table.Stop.{Stop}
use Rattle.lines.specs.declared.record.Fault.{Fault}
use Rattle.lines.specs.declared.record.Fault.TheVariants.{CountTooLarge}
use Rattle.maps.specs.Map.{map_of}
use Rattle.maps.specs.Walk.{Walk, ends, then, step, walk_from, walk_of}
use Rattle.theorems.specs.Continuing.{go_on, parts_of, places_in, long_walk}
use Rattle.text.proofs.Flat.{by_test}
use Rattle.theorems.proofs.Routes.{over_or_on, walk_full, walk_step}

-- the position never falls
up_step : (pos : ℕ) (m : Result ShallowMapping Fault) (run n : ℕ) (after : Walk) → pos + run ≤ after.position → pos ≤ (step pos m run n after).position
up_step pos (Ok Eof) run n after h = omega arith
up_step pos (Err number) run n after h = omega arith
up_step pos (Ok (Zero i)) run n after h = omega arith
up_step pos (Ok (Raw i at w)) run n after h = omega arith

pub walk_up : (room : ℕ) (t : Table) (pos left : ℕ) → pos ≤ (walk_from room t pos left).position
walk_up zero t pos left =
    over_or_on t pos left (λ e. rw (e 0) (omega arith)) (λ c l. rw (walk_full t pos left c l) (omega arith))
walk_up (suc room) t pos left =
    over_or_on t pos left (λ e. rw (e (suc room)) (omega arith))
    (λ c l. let m = map_of t pos left in
    rw (walk_step t pos left c l room)
    (up_step pos m.mapping m.run m.looked (walk_from room t (pos + m.run) (left - m.run)) (walk_up room t (pos + m.run) (left - m.run))))

-- a step before a part is a step before the parts joined
then_on : (p : Piece) (n : ℕ) (w : Walk) (s : Result Stop Fault) (next : Walk) → then p n (go_on w s next) ≡ go_on (then p n w) s next
then_on p n w (Ok Done) next = refl
then_on p n w (Ok More) next = rw add_assoc
then_on p n w (Err number) next = refl

-- what follows a part: the walk from where it stopped, with what is left
abbrev on_from : ℕ → Table → ℕ → ℕ → Walk → Walk
on_from b t pos left w = go_on w w.stop (walk_from b t w.position (left - (w.position - pos)))

join_then : (p : Piece) (pos left run n b : ℕ) (t : Table) (w : Walk) → pos + run ≤ w.position → then p n (on_from b t (pos + run) (left - run) w) ≡ on_from b t pos left (then p n w)
join_then p pos left run n b t w h =
    let e : left - run - (w.position - (pos + run)) ≡ left - (w.position - pos) = omega arith in
    rw e (then_on p n w w.stop (walk_from b t w.position (left - (w.position - pos))))

join_step : (pos left run n b : ℕ) (t : Table) (m : Result ShallowMapping Fault) (w : Walk) → pos + run ≤ w.position → step pos m run n (on_from b t (pos + run) (left - run) w) ≡ on_from b t pos left (step pos m run n w)
join_step pos left run n b t (Ok Eof) w h = refl
join_step pos left run n b t (Err number) w h = refl
join_step pos left run n b t (Ok (Zero i)) w h = join_then _ pos left run n b t w h
join_step pos left run n b t (Ok (Raw i at wr)) w h = join_then _ pos left run n b t w h

pub join : (a b : ℕ) (t : Table) (pos left : ℕ) → walk_from (a + b) t pos left ≡ on_from b t pos left (walk_from a t pos left)
join zero b t pos left =
    over_or_on t pos left (λ e. rw (e (0 + b), e 0))
    (λ c l. let e₁ : 0 + b ≡ b = omega arith in
    let e₂ : left - (pos - pos) ≡ left = omega arith in
    let e₃ : 0 + (walk_from b t pos left).looked ≡ (walk_from b t pos left).looked = omega arith in
    rw (walk_full t pos left c l, e₁, e₂, e₃))
join (suc a) b t pos left =
    over_or_on t pos left (λ e. rw (e (suc a + b), e (suc a)))
    (λ c l. let m = map_of t pos left in
    let w = walk_from a t (pos + m.run) (left - m.run) in
    rw (suc-add a b, walk_step t pos left c l (a + b), walk_step t pos left c l a, join a b t (pos + m.run) (left - m.run))
    (join_step pos left m.run m.looked b t m.mapping w (walk_up a t (pos + m.run) (left - m.run))))

on_ended : (w : Walk) (s : Result Stop Fault) (next : Walk) → (s ≡ (Ok More) → ⊥) → go_on w s next ≡ w
on_ended w (Ok Done) next h = refl
on_ended w (Ok More) next h = absurd (h refl)
on_ended w (Err number) next h = refl

-- a walk that did not stop with More is the same with more places
pub more_places : (a b : ℕ) (t : Table) (pos left : ℕ) → ((walk_from a t pos left).stop ≡ (Ok More) → ⊥) → a ≤ b → walk_from b t pos left ≡ walk_from a t pos left
more_places a b t pos left h l =
    let w = walk_from a t pos left in
    let e : b ≡ a + (b - a) = omega arith in
    ap (λ (n : ℕ). walk_from n t pos left) e ∙ join a (b - a) t pos left ∙ on_ended w w.stop (walk_from (b - a) t w.position (left - (w.position - pos))) h

pub walk_of_lem : (t : Table) (n pos left : ℕ) → t.count ≤ most → walk_of t n pos left ≡ walk_from (min n most) t pos left
unfolding walk_of
walk_of_lem t n pos left h = rw (le-leb _ _ h)

-- the parts joined
pub parts_from : (n : ℕ) (ns : List ℕ) (t : Table) (pos left : ℕ) → t.count ≤ most → parts_of n ns t pos left ≡ walk_from (places_in n ns) t pos left
unfolding parts_of places_in
parts_from n [] t pos left h = walk_of_lem t n pos left h
parts_from n (m ∷ ns) t pos left h =
    let w = walk_from (min n most) t pos left in
    rw (walk_of_lem t n pos left h, parts_from m ns t w.position (left - (w.position - pos)) h)
    (sym (join (min n most) (places_in m ns) t pos left))

pub parts_refused : (n : ℕ) (ns : List ℕ) (t : Table) (pos left : ℕ) → most < t.count → parts_of n ns t pos left ≡ ends (Err CountTooLarge) pos 0
unfolding parts_of walk_of
parts_refused n [] t pos left h = rw (lt-leb _ _ h)
parts_refused n (m ∷ ns) t pos left h = rw (lt-leb _ _ h)

pub parts_long : (n : ℕ) (ns : List ℕ) (t : Table) (pos left : ℕ) → parts_of n ns t pos left ≡ long_walk t (places_in n ns) pos left
parts_long n ns t pos left =
    by_test (leb t.count most)
    (λ e. rw e (parts_from n ns t pos left (leb-true _ _ e)))
    (λ e. rw e (parts_refused n ns t pos left (leb-false _ _ e)))

pub long_call : (t : Table) (n pos left : ℕ) → n ≤ most → long_walk t n pos left ≡ walk_of t n pos left
unfolding walk_of
long_call t n pos left h = let e : min n most ≡ n = omega arith in rw e
