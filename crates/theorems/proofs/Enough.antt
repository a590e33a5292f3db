-- A piece goes to the end of its row, of the disk or of the range, so after it the walk is over or one row less ends above the position.
-- So no walk writes more pieces than there are rows, on a hand-made table too, and after so many a built table is at its end.
-- Assumes nothing.
use Rattle.std.specs.Prelude.{Err, Ok, Result}
use Prim.Native.Nat.{ℕ, zero, suc, ◌+◌, ◌-◌, ◌<◌, ◌≤◌, min}
use native.Mathlib.Omega.{arith}
use mathlib.Core.List.{[], append-nil}
use mathlib.Core.Path.{◌≡◌, refl, ap, ◌∙◌, subst}
use lib.Dec.{leb, ltb, eqb}
use borrow.Author.Tests.{leb-true, ltb-true, ltb-false, lt-ltb, le-ltb, eqb-true, eqb-false}
use Rattle.text.specs.Ranges.{pick}
use Rattle.text.specs.Sector.{largest}
use Rattle.lines.specs.Record.{most}
use Rattle.tables.specs.declared.table.Source.{Source}
use Rattle.tables.specs.declared.table.Source.TheVariants.{NoAccess as Locked, Zero as Zeros, Flat as File}
use Rattle.tables.specs.declared.table.Table.{Table}
use Rattle.tables.specs.declared.table.ShallowMapping.TheVariants.{Eof, Zero, Raw}
use Rattle.tables.specs.declared.table.Stop.TheVariants.{Done, More}
use Rattle.tables.specs.declared.table.ShallowMapping.{ShallowMapping}
use Rattle.tables.specs.declared.table.Stop.{Stop}
use Rattle.lines.specs.declared.record.Fault.{Fault}
use Rattle.lines.specs.Fault.{refusal_number}
use Rattle.maps.specs.Map.{Search, found, nowhere, sourced, in_row, search_of, map_of}
use Rattle.maps.specs.Walk.{Walk, step, walk_from}
use Rattle.theorems.specs.Rows.{row_at, OneRow}
use Rattle.theorems.specs.Continuing.{go_on}
use Rattle.text.proofs.Flat.{by_test}
use Rattle.theorems.proofs.Rows.{holds_true}
use Rattle.theorems.proofs.Halving.{few_looks}
use Rattle.theorems.proofs.Routes.{over_or_on, walk_full, walk_step}
use Rattle.theorems.proofs.Joins.{join}

-- 1 if an end is above a position, else 0
over : ℕ → ℕ → ℕ
over end pos = pick (ltb pos end) 1 0

over_in : (end pos : ℕ) → pos < end → over end pos ≡ 1
unfolding over
over_in end pos h = rw (lt-ltb _ _ h)

over_out : (end pos : ℕ) → end ≤ pos → over end pos ≡ 0
unfolding over
over_out end pos h = rw (le-ltb _ _ h)

over_falls : (end pos pos' : ℕ) → pos ≤ pos' → over end pos' ≤ over end pos
over_falls end pos pos' h =
    by_test (ltb pos end)
    (λ e. by_test (ltb pos' end)
    (λ g. omega (arith, over_in end pos (ltb-true pos end e), over_in end pos' (ltb-true pos' end g)))
    (λ g. omega (arith, over_out end pos' (ltb-false pos' end g))))
    (λ e. let k = ltb-false pos end e in omega (arith, over_out end pos' (omega arith)))

-- how many of the first n rows end above a position
above : Table → ℕ → ℕ → ℕ
above t zero pos = 0
above t (suc n) pos = over (row_at t n).end.0 pos + above t n pos

above_most : (t : Table) (n pos : ℕ) → above t n pos ≤ n
unfolding above
above_most t zero pos = omega arith
above_most t (suc n) pos =
    omega (arith, above_most t n pos, over_falls (row_at t n).end.0 0 pos (omega arith), over_one (row_at t n).end.0)
  where
    over_one : (end : ℕ) → over end 0 ≤ 1
    over_one zero = omega (arith, over_out 0 0 (omega arith))
    over_one (suc end) = omega (arith, over_in (suc end) 0 (omega arith))

above_falls : (t : Table) (n pos pos' : ℕ) → pos ≤ pos' → above t n pos' ≤ above t n pos
unfolding above
above_falls t zero pos pos' h = omega arith
above_falls t (suc n) pos pos' h = omega (arith, over_falls (row_at t n).end.0 pos pos' h, above_falls t n pos pos' h)

-- a row that ends between two positions makes the difference
above_less : (t : Table) (n i pos pos' : ℕ) → i < n → pos < (row_at t i).end.0 → (row_at t i).end.0 ≤ pos' → above t n pos' < above t n pos
unfolding above
above_less t zero i pos pos' h a b = absurd (omega arith)
above_less t (suc n) i pos pos' h a b =
    by_test (eqb i n)
    (λ e. let q = eqb-true i n e in
    let o₁ = subst (λ (k : ℕ). over (row_at t k).end.0 pos ≡ 1) q (over_in (row_at t i).end.0 pos a) in
    let o₂ = subst (λ (k : ℕ). over (row_at t k).end.0 pos' ≡ 0) q (over_out (row_at t i).end.0 pos' b) in
    omega (arith, above_falls t n pos pos' (omega arith)))
    (λ e. let ne = eqb-false i n e in
    omega (arith, above_less t n i pos pos' (omega arith) a b, over_falls (row_at t n).end.0 pos pos' (omega arith)))

above_some : (t : Table) (n i pos : ℕ) → i < n → pos < (row_at t i).end.0 → 0 < above t n pos
above_some t n i pos h a = omega (arith, above_less t n i pos (row_at t i).end.0 h a (omega arith))

module _ (t : Table) (pos left : ℕ) where
  -- a mapping that gives a piece is by a row that holds the position, and its run is the least of three
  abbrev pub Cut : ℕ → ℕ → Type 0
  Cut i run = (i < t.count) × (pos < (row_at t i).end.0) × (run ≡ min left (min (t.size.0 - pos) ((row_at t i).end.0 - pos)))

  -- what a mapping gives: a file offset of 64 bits, and no number of a refusal above 23
  abbrev pub Gives : Result ShallowMapping Fault → ℕ → Type 0
  Gives (Ok Eof) run = Unit {0}
  Gives (Err f) run = refusal_number f ≤ 23
  Gives (Ok (Zero i)) run = Cut i run
  Gives (Ok (Raw i at w)) run = Cut i run × (at ≤ largest)

  gives_source : (s : Source) (i within run n : ℕ) → Cut i run → Gives (sourced s i within run n).mapping (sourced s i within run n).run
  unfolding sourced
  gives_source Locked i within run n c = omega arith
  gives_source (Zeros a) i within run n c = c
  gives_source (File a start name) i within run n c =
      by_test (leb (start.0 + within) largest) (λ e. rw e (c, leb-true _ _ e)) (λ e. rw e (omega arith))

  gives_row : (s : Search) → search_of t pos ≡ s → Gives (in_row t pos left s).mapping (in_row t pos left s).run
  unfolding in_row
  gives_row (nowhere n) e = tt
  gives_row (found i n) e =
      let f = (few_looks t pos left).found_row i n e in
      gives_source (row_at t i).source i _ _ n (f.0, (holds_true (row_at t i) pos f.1).1, refl)

  pub gives : Gives (map_of t pos left).mapping (map_of t pos left).run
  unfolding map_of
  gives = by_test (leb t.count most)
      (λ e. rw e (by_test (leb t.size.0 pos) (λ g. rw g tt) (λ g. rw g (gives_row (search_of t pos) refl))))
      (λ e. rw e (omega arith))

-- a walk that stops with More was not over, and as many rows less as it had room for end above the position reached
abbrev Fills : Table → ℕ → ℕ → ℕ → ℕ → Type 0
Fills t room pos left q =
    (0 < left) × (pos < t.size.0) × (room + above t t.count q ≤ above t t.count pos) × (q < t.size.0)

not_more : {C : Type 0} → ◌≡◌ {A = Result Stop Fault} (Ok Done) (Ok More) → C
not_more e = let z : ◌≡◌ {A = ℕ} 0 1 = cc in absurd (omega arith)

module _ (t : Table) (pos left : ℕ) (c : 0 < left) (l : pos < t.size.0) where
  fills_piece : (i run room q : ℕ) → Cut t pos left i run → Fills t room (pos + run) (left - run) q → Fills t (suc room) pos left q
  fills_piece i run room q k f =
      let e : (row_at t i).end.0 ≤ pos + run = omega (arith, k.2, f.0, f.1) in
      (c, l, omega (arith, above_less t t.count i pos (pos + run) k.0 k.1 e, f.2), f.3)

  fills_step : (m : Result ShallowMapping Fault) (run n room : ℕ) (w : Walk) → Gives t pos left m run → (w.stop ≡ (Ok More) → Fills t room (pos + run) (left - run) w.position) → (step pos m run n w).stop ≡ (Ok More) → Fills t (suc room) pos left (step pos m run n w).position
  fills_step (Ok Eof) run n room w g f e = not_more e
  fills_step (Err number) run n room w g f e = let z : ◌≡◌ {A = ℕ} 0 1 = cc in absurd (omega arith)
  fills_step (Ok (Zero i)) run n room w g f e = fills_piece i run room w.position g (f e)
  fills_step (Ok (Raw i at wr)) run n room w g f e = fills_piece i run room w.position g.0 (f e)

fills : (room : ℕ) (t : Table) (pos left : ℕ) → (walk_from room t pos left).stop ≡ (Ok More) → Fills t room pos left (walk_from room t pos left).position
fills zero t pos left h =
    over_or_on t pos left (λ e. not_more (rw (e 0) at h)) (λ c l. rw (walk_full t pos left c l) (c, l, omega arith, l))
fills (suc room) t pos left h =
    over_or_on t pos left (λ e. not_more (rw (e (suc room)) at h))
    (λ c l. let m = map_of t pos left in
    let w = walk_from room t (pos + m.run) (left - m.run) in
    let s = walk_step t pos left c l room in
    rw s (fills_step t pos left c l m.mapping m.run m.looked room w (gives t pos left) (fills room t (pos + m.run) (left - m.run)) (rw s at h)))

-- more room than rows is enough, on any table
pub room_enough : (room : ℕ) (t : Table) (pos left : ℕ) → t.count < room → (walk_from room t pos left).stop ≡ (Ok More) → ⊥
room_enough room t pos left h e = omega (arith, (fills room t pos left e).2, above_most t t.count pos)

-- as much room as rows is enough for all pieces
none_above : (t : Table) (pos left : ℕ) → above t t.count pos ≡ 0 → (room : ℕ) → (walk_from room t pos left).pieces ≡ []
none_above t pos left h zero = over_or_on t pos left (λ e. rw (e 0)) (λ c l. rw (walk_full t pos left c l))
none_above t pos left h (suc room) =
    over_or_on t pos left (λ e. rw (e (suc room)))
    (λ c l. let m = map_of t pos left in
    rw (walk_step t pos left c l room) (no_piece m.mapping m.run m.looked (walk_from room t (pos + m.run) (left - m.run)) (gives t pos left)))
  where
    no_cut : {A : Type 0} {i run : ℕ} → Cut t pos left i run → A
    no_cut {i = i} k = absurd (omega (arith, above_some t t.count i pos k.0 k.1))

    no_piece : (m : Result ShallowMapping Fault) (run n : ℕ) (w : Walk) → Gives t pos left m run → (step pos m run n w).pieces ≡ []
    no_piece (Ok Eof) run n w g = refl
    no_piece (Err number) run n w g = refl
    no_piece (Ok (Zero i)) run n w g = no_cut g
    no_piece (Ok (Raw i at wr)) run n w g = no_cut g.0

on_pieces : (w : Walk) (s : Result Stop Fault) (next : Walk) → (s ≡ (Ok More) → next.pieces ≡ []) → (go_on w s next).pieces ≡ w.pieces
on_pieces w (Ok Done) next h = refl
on_pieces w (Ok More) next h = rw (h refl, append-nil)
on_pieces w (Err number) next h = refl

pub all_pieces : (a b : ℕ) (t : Table) (pos left : ℕ) → t.count ≤ a → a ≤ b → (walk_from b t pos left).pieces ≡ (walk_from a t pos left).pieces
all_pieces a b t pos left h l =
    let w = walk_from a t pos left in
    let e : b ≡ a + (b - a) = omega arith in
    ap (λ (n : ℕ). (walk_from n t pos left).pieces) e ∙ ap (λ (w : Walk). w.pieces) (join a (b - a) t pos left)
    ∙ on_pieces w w.stop (walk_from (b - a) t w.position (left - (w.position - pos)))
    (λ k. none_above t w.position (left - (w.position - pos)) (omega (arith, (fills a t pos left k).2, above_most t t.count pos)) (b - a))

-- on a table whose rows hold every offset below the size, as much room as rows is enough
pub room_enough_held : (room : ℕ) (t : Table) (pos left : ℕ) → ((o : ℕ) → o < t.size.0 → OneRow t o) → t.count ≤ room → (walk_from room t pos left).stop ≡ (Ok More) → ⊥
room_enough_held room t pos left one h e =
    let f = fills room t pos left e in
    let q = (walk_from room t pos left).position in
    let r = one q f.3 in
    omega (arith, f.2, above_most t t.count pos, above_some t t.count r.row q r.below (holds_true (row_at t r.row) q r.holding).1)
