-- A piece that is not the last ends where its row does, and rows before that end no later: so the next piece is by a later row.
-- That holds on any table whose rows' ends never fall, wherever and why the walk stops.
-- Assumes nothing.
use Rattle.std.specs.Prelude.{Err, Ok, Result}
use Prim.Native.Nat.{ℕ, zero, suc, ◌+◌, ◌-◌, ◌<◌, ◌≤◌, min}
use native.Mathlib.Omega.{arith}
use mathlib.Core.List.{List, [], ◌∷◌}
use mathlib.Core.Path.{◌≡◌, sym, subst}
use lib.ListN.{length}
use lib.Dec.{leb}
use borrow.Author.Tests.{leb-true, leb-false}
use Rattle.text.specs.Sector.{largest}
use Rattle.lines.specs.Record.{most, counted}
use Rattle.lines.specs.declared.record.Record.{Record}
use Rattle.lines.specs.declared.record.VmdkParsedExtent.{VmdkParsedExtent}
use Rattle.tables.specs.declared.table.Table.{Table}
use Rattle.tables.specs.declared.table.Piece.{Piece}
use Rattle.tables.specs.declared.table.ShallowMapping.TheVariants.{Eof, Zero, Raw}
use Rattle.tables.specs.declared.table.ShallowMapping.{ShallowMapping}
use Rattle.lines.specs.declared.record.Fault.{Fault}
use Rattle.maps.specs.Map.{map_of}
use Rattle.maps.specs.Place.{bytes_in, size_of}
use Rattle.maps.specs.Walk.{Walk, zero_piece, raw_piece, step, walk_from, walk_of}
use Rattle.theorems.specs.Rows.{Builds, row_at, line_at}
use Rattle.theorems.specs.Tiling.{All, Rise, rows_of}
use Rattle.text.proofs.Flat.{by_test}
use Rattle.theorems.proofs.Built.{Numbers, table_in, table_laid, length_laid}
use Rattle.theorems.proofs.Enough.{Cut, Gives, gives}
use Rattle.theorems.proofs.Joins.{walk_of_lem}
use Rattle.theorems.proofs.Orders.{three_ways}
use Rattle.theorems.proofs.Routes.{over_or_on, walk_full, walk_step}
use Rattle.theorems.proofs.Rows.{start_in, end_in, rows_apart}
use Rattle.theorems.proofs.Widths.{Numbered, Stops}

-- the rows' ends never fall
abbrev pub EndsRise : Table → Type 0
EndsRise t = (j k : ℕ) → j < k → k < t.count → (row_at t j).end.0 ≤ (row_at t k).end.0

-- the rows of pieces rise, from a number on, and are rows of the table; their numbers are of 64 bits
abbrev pub Rising : Table → ℕ → List Piece → Type 0
Rising t i ps = Rise i (rows_of ps) × All (λ (k : ℕ). k < t.count) (rows_of ps) × All Numbered ps

-- a walk stops at a number of 64 bits, and so is a refusal's
abbrev pub StopsWell : Walk → Type 0
StopsWell w = Stops w.stop × (w.position ≤ largest)

-- numbers that rise are no more than there are
pub rise_few : (n i : ℕ) (ks : List ℕ) → i ≤ n → Rise i ks → All (λ (k : ℕ). k < n) ks → i + length ks ≤ n
rise_few n i [] h r a = omega arith
rise_few n i (k ∷ ks) h r a = omega (arith, r.0, rise_few n (suc k) ks a.0 r.1 a.1)

module _ (t : Table) (up : EndsRise t) (size : t.size.0 ≤ largest) (few : t.count ≤ largest) where
  -- a step at a position, where the first rows have ended
  module _ (pos left i : ℕ) (l : pos < t.size.0) (low : (j : ℕ) → j < i → (row_at t j).end.0 ≤ pos) where
    later : (k run : ℕ) → Cut t pos left k run → i ≤ k
    later k run c = by_test (leb i k) (leb-true i k) (λ e. absurd (omega (arith, c.1, low k (leb-false i k e))))

    step_rises : (m : Result ShallowMapping Fault) (run n : ℕ) (w : Walk) → Gives t pos left m run → ((k : ℕ) → Cut t pos left k run → Rising t (suc k) w.pieces) → Rising t i (step pos m run n w).pieces
    step_rises (Ok Eof) run n w g f = (tt, tt, tt)
    step_rises (Err number) run n w g f = (tt, tt, tt)
    step_rises (Ok (Zero k)) run n w g f =
        let r = f k g in
        let p : Numbered (zero_piece pos run k) = record { start = omega arith; run = omega (arith, g.2); row = omega (arith, g.0); offset = omega arith } in
        ((later k run g, r.0), (g.0, r.1), (p, r.2))
    step_rises (Ok (Raw k at wr)) run n w g f =
        let c = g.0 in
        let r = f k c in
        let p : Numbered (raw_piece pos run k at wr) = record { start = omega arith; run = omega (arith, c.2); row = omega (arith, c.0); offset = g.1 } in
        ((later k run c, r.0), (c.0, r.1), (p, r.2))

  -- the rows up to k have ended where the walk goes on after its piece
  ended : (pos left k run j : ℕ) → Cut t pos left k run → 0 < left - run → pos + run < t.size.0 → j < suc k → (row_at t j).end.0 ≤ pos + run
  ended pos left k run j c a b h =
      let e : (row_at t k).end.0 ≤ pos + run = omega (arith, c.1, c.2) in
      three_ways j k (λ l. omega (arith, up j k l c.0))
      (λ q. subst (λ (n : ℕ). (row_at t n).end.0 ≤ pos + run) (sym q) e) (λ l. absurd (omega arith))

  pub walk_rises : (room pos left i : ℕ) → ((j : ℕ) → j < i → (row_at t j).end.0 ≤ pos) → Rising t i (walk_from room t pos left).pieces
  walk_rises zero pos left i low =
      over_or_on t pos left (λ e. rw (e 0) (tt, tt, tt)) (λ c l. rw (walk_full t pos left c l) (tt, tt, tt))
  walk_rises (suc room) pos left i low =
      over_or_on t pos left (λ e. rw (e (suc room)) (tt, tt, tt))
      (λ c l. let m = map_of t pos left in
      let run = m.run in
      rw (walk_step t pos left c l room)
      (step_rises pos left i l low m.mapping run m.looked (walk_from room t (pos + run) (left - run)) (gives t pos left)
      (λ k cut. over_or_on t (pos + run) (left - run) (λ e. rw (e room) (tt, tt, tt))
      (λ a b. walk_rises room (pos + run) (left - run) (suc k) (λ j h. ended pos left k run j cut a b h)))))

  -- why and where it stops
  step_stops : (pos left : ℕ) → pos < t.size.0 → (m : Result ShallowMapping Fault) (run n : ℕ) (w : Walk) → Gives t pos left m run → (pos + run ≤ largest → StopsWell w) → StopsWell (step pos m run n w)
  step_stops pos left l (Ok Eof) run n w g f = (tt, omega arith)
  step_stops pos left l (Err number) run n w g f = (omega arith, omega arith)
  step_stops pos left l (Ok (Zero k)) run n w g f = f (omega (arith, g.2))
  step_stops pos left l (Ok (Raw k at wr)) run n w g f = f (omega (arith, g.0.2))

  pub walk_stops : (room pos left : ℕ) → pos ≤ largest → StopsWell (walk_from room t pos left)
  walk_stops zero pos left h =
      over_or_on t pos left (λ e. rw (e 0) (tt, h)) (λ c l. rw (walk_full t pos left c l) (tt, h))
  walk_stops (suc room) pos left h =
      over_or_on t pos left (λ e. rw (e (suc room)) (tt, h))
      (λ c l. let m = map_of t pos left in
      rw (walk_step t pos left c l room)
      (step_stops pos left l m.mapping m.run m.looked (walk_from room t (pos + m.run) (left - m.run)) (gives t pos left) (walk_stops room (pos + m.run) (left - m.run))))

-- ---- a table of extents
size_numbers : (start : ℕ) (xs : List VmdkParsedExtent) → start ≤ largest → Numbers start xs → start + size_of xs ≤ largest
unfolding size_of
size_numbers start [] h n = omega arith
size_numbers start (x ∷ xs) h n = omega (arith, size_numbers (start + bytes_in x) xs n.0 n.2)

module _ (ln : ℕ → ℕ) (xs : List VmdkParsedExtent) where
  pub count_is : (table_in ln xs).count ≡ length xs
  count_is = length_laid ln 0 xs

  ends_rise : EndsRise (table_in ln xs)
  ends_rise j k h l =
      let i : k < length xs = omega (arith, count_is) in omega (arith, rows_apart ln xs j k h i, start_in ln xs k i, end_in ln xs k i)

  module _ (few : length xs ≤ most) (n : Numbers 0 xs) where
    pub size_small : (table_in ln xs).size.0 ≤ largest
    size_small = omega (arith, size_numbers 0 xs (omega arith) n)

    pub table_rises : (places pos left : ℕ) → Rising (table_in ln xs) 0 (walk_of (table_in ln xs) places pos left).pieces
    table_rises places pos left =
        rw (walk_of_lem (table_in ln xs) places pos left (omega (arith, count_is)))
        (walk_rises (table_in ln xs) ends_rise size_small (omega (arith, count_is)) (min places most) pos left 0 (λ j l. absurd (omega arith)))

    pub table_stops : (places pos left : ℕ) → pos ≤ largest → StopsWell (walk_of (table_in ln xs) places pos left)
    table_stops places pos left h =
        rw (walk_of_lem (table_in ln xs) places pos left (omega (arith, count_is)))
        (walk_stops (table_in ln xs) ends_rise size_small (omega (arith, count_is)) (min places most) pos left h)

-- the rows of a walk over a built table
pub built_rises : (r : Record) (t : Table) → Builds r t → (places pos left : ℕ) → Rise 0 (rows_of (walk_of t places pos left).pieces)
built_rises r t b places pos left =
    let g = table_laid r t b in
    subst (λ (t : Table). Rise 0 (rows_of (walk_of t places pos left).pieces)) (sym g.0) (table_rises (line_at r) (counted r) g.1 g.2 places pos left).0
