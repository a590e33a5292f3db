-- The walk's loop and its definition: what is answered and left from a turn on is what the rest of the walk answers and leaves, since each turn takes one piece off its front. Storing the pieces one after another from the first place on puts them before what the list had beyond them.
-- Assumes nothing.
use Rattle.std.specs.Prelude.{Err, Ok, Result}
use Prim.Native.Nat.{ℕ, zero, suc, ◌+◌, ◌-◌, ◌<◌, ◌≤◌, min}
use native.Mathlib.Omega.{arith}
use mathlib.Core.Path.{◌≡◌, refl, sym, ◌∙◌, ap}
use mathlib.Core.Bool.{Bool}
use mathlib.Core.List.{List, [], ◌∷◌, ◌++◌}
use lib.Dec.{leb, eqb}
use lib.ListN.{length, set, drop}
use borrow.Author.Tests.{eq-eqb, ne_eqb, le-leb, lt-leb}
use Rattle.text.specs.Ranges.{pick}
use Rattle.lines.specs.Record.{most, over as laid}
use Rattle.tables.specs.declared.table.Table.{Table}
use Rattle.tables.specs.declared.table.ShallowMapping.TheVariants.{Eof, Zero, Raw}
use Rattle.tables.specs.declared.table.Mapping.{Mapping}
use Rattle.tables.specs.declared.table.Piece.{Piece}
use Rattle.tables.specs.declared.table.Stop.TheVariants.{Done, More}
use Rattle.tables.specs.declared.table.Walked.{Walked}
use Rattle.tables.specs.declared.table.ShallowMapping.{ShallowMapping}
use Rattle.tables.specs.declared.table.Stop.{Stop}
use Rattle.lines.specs.declared.record.Fault.{Fault}
use Rattle.lines.specs.declared.record.Fault.TheVariants.{CountTooLarge}
use Rattle.maps.specs.Map.{map_of}
use Rattle.maps.specs.Walk.{Walk, ends, then, zero_piece, raw_piece, step, unless_over, walk_from, walk_of, walked, listed}
use Rattle.maps.proofs.Halves.{pick_elim}

-- pieces stored one after another, from a place on
unfoldable pub store_all : List Piece → ℕ → List Piece → List Piece
store_all zs at [] = zs
store_all zs at (p ∷ ps) = store_all (set zs at p) (suc at) ps

-- what is answered and left by a walk whose pieces are stored from a place on, after k rows were looked at
abbrev pub Ending : Type 0
Ending = Walked × List Piece

abbrev both : Walked → List Piece → Ending
both a zs = (a, zs)

abbrev pub ending : ℕ → ℕ → List Piece → Walk → Ending
ending at k zs w = (record { count = at + length w.pieces; stop = w.stop; position = w.position; looked = k + w.looked }, store_all zs at w.pieces)

-- a walk that ends where it stands, after a mapping that looked at n rows
stands_is : (stop : Result Stop Fault) (at pos k n : ℕ) (zs : List Piece) → ending at k zs (ends stop pos n) ≡ (record { count = at; stop = stop; position = pos; looked = k + n }, zs)
unfolding store_all
stands_is stop at pos k n zs = ap (λ (j : ℕ). both (record { count = j; stop = stop; position = pos; looked = k + n }) zs) (omega arith)

-- one that ends before a mapping
halts_is : (stop : Result Stop Fault) (at pos k : ℕ) (zs : List Piece) → ending at k zs (ends stop pos 0) ≡ (record { count = at; stop = stop; position = pos; looked = k }, zs)
halts_is stop at pos k zs = stands_is stop at pos k 0 zs ∙ ap (λ (j : ℕ). both (record { count = at; stop = stop; position = pos; looked = j }) zs) (omega arith)

-- a turn takes one piece off
taken : (p : Piece) (n : ℕ) (w : Walk) (at k : ℕ) (zs : List Piece) → ending at k zs (then p n w) ≡ ending (at + 1) (k + n) (set zs at p) w
unfolding store_all
taken p n w at k zs =
    let a : suc at ≡ at + 1 = omega arith in
    let b : at + suc (length w.pieces) ≡ at + 1 + length w.pieces = omega arith in
    let d : k + (n + w.looked) ≡ k + n + w.looked = omega arith in
    ap (λ (j : ℕ). both (record { count = at + suc (length w.pieces); stop = w.stop; position = w.position; looked = k + (n + w.looked) }) (store_all (set zs at p) j w.pieces)) a
    ∙ ap (λ (j : ℕ). both (record { count = j; stop = w.stop; position = w.position; looked = k + (n + w.looked) }) (store_all (set zs at p) (at + 1) w.pieces)) b
    ∙ ap (λ (j : ℕ). both (record { count = at + 1 + length w.pieces; stop = w.stop; position = w.position; looked = j }) (store_all (set zs at p) (at + 1) w.pieces)) d

-- the ways through a turn, from a place with room for r pieces
module _ (t : Table) (zs : List Piece) (at pos left k : ℕ) where
  pub over_nothing : (r : ℕ) → left ≡ 0 → ending at k zs (walk_from r t pos left) ≡ (record { count = at; stop = (Ok Done); position = pos; looked = k }, zs)
  unfolding walk_from
  over_nothing zero e = rw (eq-eqb _ _ e) (halts_is (Ok Done) at pos k zs)
  over_nothing (suc r) e = rw (eq-eqb _ _ e) (halts_is (Ok Done) at pos k zs)

  pub over_past : (r : ℕ) → (left ≡ 0 → ⊥) → t.size.0 ≤ pos → ending at k zs (walk_from r t pos left) ≡ (record { count = at; stop = (Ok Done); position = pos; looked = k }, zs)
  unfolding walk_from
  over_past zero e h = rw (ne_eqb _ _ e, le-leb _ _ h) (halts_is (Ok Done) at pos k zs)
  over_past (suc r) e h = rw (ne_eqb _ _ e, le-leb _ _ h) (halts_is (Ok Done) at pos k zs)

  module _ (r : ℕ) (e : left ≡ 0 → ⊥) (h : pos < t.size.0) where
    pub over_full : r ≡ 0 → ending at k zs (walk_from r t pos left) ≡ (record { count = at; stop = (Ok More); position = pos; looked = k }, zs)
    unfolding walk_from
    over_full z = rw (z, ne_eqb _ _ e, lt-leb _ _ h) (halts_is (Ok More) at pos k zs)

    module _ {m : Mapping} (q : m ≡ map_of t pos left) {s : ℕ} (z : r ≡ suc s) where
      stepped : walk_from r t pos left ≡ step pos m.mapping m.run m.looked (walk_from s t (pos + m.run) (left - m.run))
      unfolding walk_from
      stepped = simp (z, ne_eqb _ _ e, lt-leb _ _ h, q)

      -- an end, or a refusal
      pub turn_stops : {stop : Result Stop Fault} → ((w : Walk) → step pos m.mapping m.run m.looked w ≡ ends stop pos m.looked) → ending at k zs (walk_from r t pos left) ≡ (record { count = at; stop = stop; position = pos; looked = k + m.looked }, zs)
      turn_stops {stop} f = ap (ending at k zs) (stepped ∙ f (walk_from s t (pos + m.run) (left - m.run))) ∙ stands_is stop at pos k m.looked zs

      -- a piece that is stored, and the walk after it
      goes : {p : Piece} {ys : List Piece} → step pos m.mapping m.run m.looked (walk_from s t (pos + m.run) (left - m.run)) ≡ then p m.looked (walk_from s t (pos + m.run) (left - m.run)) → ys ≡ set zs at p
          → ending (at + 1) (k + m.looked) ys (walk_from s t (pos + m.run) (left - m.run)) ≡ ending at k zs (walk_from r t pos left)
      goes {p} f d = rw d (sym (ap (ending at k zs) (stepped ∙ f) ∙ taken p m.looked (walk_from s t (pos + m.run) (left - m.run)) at k zs))

      pub turn_zero : {i : ℕ} {p : Piece} {ys : List Piece} → m.mapping ≡ Ok (Zero i) → p ≡ zero_piece pos m.run i → ys ≡ set zs at p
          → ending (at + 1) (k + m.looked) ys (walk_from s t (pos + m.run) (left - m.run)) ≡ ending at k zs (walk_from r t pos left)
      turn_zero f g d = goes (rw (f, g)) d

      pub turn_raw : {i start : ℕ} {w : Bool} {p : Piece} {ys : List Piece} → m.mapping ≡ Ok (Raw i start w) → p ≡ raw_piece pos m.run i start w → ys ≡ set zs at p
          → ending (at + 1) (k + m.looked) ys (walk_from s t (pos + m.run) (left - m.run)) ≡ ending at k zs (walk_from r t pos left)
      turn_raw f g d = goes (rw (f, g)) d

-- the pieces are no more than there is room for
step_most : (pos : ℕ) (m : Result ShallowMapping Fault) (run n r : ℕ) (w : Walk) → length w.pieces ≤ r → length (step pos m run n w).pieces ≤ suc r
step_most pos (Ok Eof) run n r w h = omega arith
step_most pos (Ok (Zero i)) run n r w h = omega arith
step_most pos (Ok (Raw i at b)) run n r w h = omega arith
step_most pos (Err number) run n r w h = omega arith

over_most : (t : Table) (pos left r : ℕ) (w : Walk) → length w.pieces ≤ r → length (unless_over t pos left w).pieces ≤ r
over_most t pos left r w h =
    pick_elim (λ (v : Walk). length v.pieces ≤ r) (eqb left 0) (ends (Ok Done) pos 0) (pick (leb t.size.0 pos) (ends (Ok Done) pos 0) w) (λ _. omega arith)
    (λ _. pick_elim (λ (v : Walk). length v.pieces ≤ r) (leb t.size.0 pos) (ends (Ok Done) pos 0) w (λ _. omega arith) (λ _. h))

from_most : (n : ℕ) (t : Table) (pos left : ℕ) → length (walk_from n t pos left).pieces ≤ n
unfolding walk_from
from_most zero t pos left = over_most t pos left 0 (ends (Ok More) pos 0) (omega arith)
from_most (suc n) t pos left =
    let m : Mapping = map_of t pos left in
    let w : Walk = walk_from n t (pos + m.run) (left - m.run) in
    over_most t pos left (suc n) (step pos m.mapping m.run m.looked w) (step_most pos m.mapping m.run m.looked n w (from_most n t (pos + m.run) (left - m.run)))

pub walk_most : (t : Table) (places pos left : ℕ) → length (walk_of t places pos left).pieces ≤ places
unfolding walk_of
walk_most t places pos left =
    pick_elim (λ (v : Walk). length v.pieces ≤ places) (leb t.count most) (walk_from (min places most) t pos left) (ends (Err CountTooLarge) pos 0)
    (λ _. less (length (walk_from (min places most) t pos left).pieces) (from_most (min places most) t pos left)) (λ _. omega arith)
  where
    less : (k : ℕ) → k ≤ min places most → k ≤ places
    less k h = omega arith

-- no more than `most` places count
pub walk_room : (t : Table) (p r pos left : ℕ) → min p most ≡ min r most → walk_of t p pos left ≡ walk_of t r pos left
unfolding walk_of
walk_room t p r pos left e = ap (λ (n : ℕ). pick (leb t.count most) (walk_from n t pos left) (ends (Err CountTooLarge) pos 0)) e

-- storing the pieces from the first place on
store_next : (y : Piece) (zs : List Piece) (at : ℕ) (ps : List Piece) → store_all (y ∷ zs) (suc at) ps ≡ y ∷ store_all zs at ps
unfolding store_all
store_next y zs at [] = refl
store_next y zs at (p ∷ ps) = store_next y (set zs at p) (suc at) ps

store_first : (ys ps : List Piece) → length ps ≤ length ys → store_all ys 0 ps ≡ ps ++ drop (length ps) ys
unfolding store_all
store_first ys [] h = refl
store_first [] (p ∷ ps) h = absurd (omega arith)
store_first (y ∷ ys) (p ∷ ps) h = store_next p ys 0 ps ∙ ap (λ (l : List Piece). p ∷ l) (store_first ys ps (omega arith))

-- what the whole walk answers and leaves
pub whole_is : (w : Walk) (ys : List Piece) → length w.pieces ≤ length ys → ending 0 0 ys w ≡ (walked w, listed w ys)
unfolding laid
whole_is w ys h =
    ap (λ (j : ℕ). both (record { count = j; stop = w.stop; position = w.position; looked = 0 + w.looked }) (store_all ys 0 w.pieces)) (plain (length w.pieces))
    ∙ ap (λ (j : ℕ). both (record { count = length w.pieces; stop = w.stop; position = w.position; looked = j }) (store_all ys 0 w.pieces)) (plain w.looked)
    ∙ ap (λ (l : List Piece). both (walked w) l) (store_first ys w.pieces h)
  where
    plain : (j : ℕ) → 0 + j ≡ j
    plain j = omega arith

-- the walk from its first turn on
pub starts_is : (t : Table) (ys : List Piece) (room pos left : ℕ) → room ≤ length ys → ending 0 0 ys (walk_from (room - 0) t pos left) ≡ (walked (walk_from room t pos left), listed (walk_from room t pos left) ys)
starts_is t ys room pos left h =
    let n : room - 0 ≡ room = omega arith in
    rw n (whole_is (walk_from room t pos left) ys (omega (arith, from_most room t pos left)))

-- the whole walk; a table that says too many rows is refused before, and nothing is written
module _ (t : Table) (places pos left : ℕ) where
  pub counted_is : {room : ℕ} → room ≡ min places most → t.count ≤ most → walk_from room t pos left ≡ walk_of t places pos left
  unfolding walk_of
  counted_is e h = rw (e, le-leb _ _ h)

  pub refused_is : most < t.count → record { count = 0; stop = Err CountTooLarge; position = pos; looked = 0 } ≡ walked (walk_of t places pos left)
  unfolding walk_of
  refused_is h = rw (lt-leb _ _ h)

  pub refused_keeps : (ys : List Piece) → most < t.count → ys ≡ listed (walk_of t places pos left) ys
  unfolding walk_of laid
  refused_keeps ys h = rw (lt-leb _ _ h)
