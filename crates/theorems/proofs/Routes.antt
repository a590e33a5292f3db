-- A route is a walk told extent by extent: it passes the extents that end before its position, and then each extent gives a piece or stops it.
-- The walk over a table of extents takes such a route, because mapping tells the extent that holds the position.
-- Assumes nothing.
use Rattle.std.specs.Prelude.{Err, Ok, Result}
use Prim.Native.Nat.{ℕ, zero, suc, ◌+◌, ◌-◌, ◌*◌, ◌<◌, ◌≤◌, min}
use native.Mathlib.Omega.{arith}
use native.Mathlib.Nat.{add_assoc}
use mathlib.Core.List.{List, [], ◌∷◌}
use mathlib.Core.Bool.{true}
use mathlib.Core.Path.{◌≡◌, refl, sym, ap, ◌∙◌, subst}
use lib.ListN.{length}
use lib.Dec.{leb, eqb}
use borrow.Author.Tests.{le-leb, lt-leb, leb-true, leb-false, lt-ltb, le-ltb, eq-eqb, ne_eqb, eqb-true, eqb-false}
use Rattle.text.specs.Sector.{largest, sector_size}
use Rattle.text.specs.declared.sector.Sectors.{Sectors}
use Rattle.lines.specs.declared.record.Text.{Text}
use Rattle.lines.specs.declared.record.VmdkAccessType.{VmdkAccessType}
use Rattle.lines.specs.declared.record.VmdkParsedExtent.{VmdkParsedExtent}
use Rattle.lines.specs.declared.record.VmdkParsedStorage.{VmdkParsedStorage}
use Rattle.lines.specs.declared.record.VmdkParsedStorage.TheVariants.{NoAccess, Zero, Flat}
use Rattle.tables.specs.declared.table.Table.{Table}
use Rattle.tables.specs.declared.table.Mapping.{Mapping}
use Rattle.tables.specs.declared.table.Piece.{Piece}
use Rattle.tables.specs.declared.table.ShallowMapping.TheVariants.{Zero as Zeroed, Raw}
use Rattle.tables.specs.declared.table.Stop.TheVariants.{Done, More}
use Rattle.tables.specs.declared.table.Stop.{Stop}
use Rattle.lines.specs.declared.record.Fault.{Fault}
use Rattle.lines.specs.declared.record.Fault.TheVariants.{Inaccessible}
use Rattle.maps.specs.Map.{writable, map_of}
use Rattle.maps.specs.Place.{within, bytes_in, size_of, place_from, place_of, Reaches, Reachable}
use Rattle.maps.specs.Walk.{Walk, ends, then, zero_piece, raw_piece, step, walk_from}
use Rattle.theorems.specs.Maps.{rest_of, shown, run_at, MapsBy}
use Rattle.theorems.specs.Tiling.{ZeroPlain, readable, byte_of}
use Rattle.text.proofs.Flat.{by_test, pick_same}

-- the piece of extent i from a position up to a place; the extent begins at a place of the disk
pub record PieceOf (x : VmdkParsedExtent) (i begin pos upto : ℕ) (p : Piece) : Type 0 where
  pub start : p.start ≡ pos
  pub run : pos + p.run ≡ upto
  pub row : p.row ≡ i
  pub reads : readable x.storage ≡ true
  pub bytes : (d : ℕ) → within i x.storage (pos - begin + d) ≡ byte_of p d
  pub zero_piece_lem : ZeroPlain p

-- over extents numbered from i on, which begin at a place, from a position up to a place: the pieces, the stop and the position reached
pub data Route : ℕ → ℕ → List VmdkParsedExtent → ℕ → ℕ → List Piece → Result Stop Fault → ℕ → Type 0 where
  over : {begin i pos hi : ℕ} → begin ≤ pos → Route begin i [] pos hi [] (Ok Done) pos
  done : {begin i pos hi : ℕ} {xs : List VmdkParsedExtent} → hi ≤ pos → Route begin i xs pos hi [] (Ok Done) pos
  pass : {begin i pos hi q : ℕ} {x : VmdkParsedExtent} {xs : List VmdkParsedExtent} {ps : List Piece} {s : Result Stop Fault} → begin + bytes_in x ≤ pos → Route (begin + bytes_in x) (suc i) xs pos hi ps s q → Route begin i (x ∷ xs) pos hi ps s q
  shut : {begin i pos hi : ℕ} {x : VmdkParsedExtent} {xs : List VmdkParsedExtent} → begin ≤ pos → pos < begin + bytes_in x → pos < hi → x.storage ≡ NoAccess → Route begin i (x ∷ xs) pos hi [] (Err Inaccessible) pos
  piece : {begin i pos hi q : ℕ} {x : VmdkParsedExtent} {xs : List VmdkParsedExtent} {p : Piece} {ps : List Piece} {s : Result Stop Fault} → begin ≤ pos → pos < begin + bytes_in x → pos < hi → PieceOf x i begin pos (min hi (begin + bytes_in x)) p → Route (begin + bytes_in x) (suc i) xs (min hi (begin + bytes_in x)) hi ps s q → Route begin i (x ∷ xs) pos hi (p ∷ ps) s q

-- at a byte of the first extent, and at one past it
module _ (i : ℕ) (x : VmdkParsedExtent) (xs : List VmdkParsedExtent) (begin at : ℕ) where
  pub place_here : begin ≤ at → at < begin + bytes_in x → place_from i (x ∷ xs) (at - begin) ≡ within i x.storage (at - begin)
  unfolding place_from
  place_here h g = let l : at - begin < bytes_in x = omega arith in rw (lt-ltb _ _ l)

  pub place_next : begin + bytes_in x ≤ at → place_from i (x ∷ xs) (at - begin) ≡ place_from (suc i) xs (at - (begin + bytes_in x))
  unfolding place_from
  place_next h =
      let l : bytes_in x ≤ at - begin = omega arith in
      let e : at - begin - bytes_in x ≡ at - (begin + bytes_in x) = omega arith in
      rw (le-ltb _ _ l, e)

  pub rest_here : begin ≤ at → at < begin + bytes_in x → rest_of (x ∷ xs) (at - begin) ≡ begin + bytes_in x - at
  unfolding rest_of
  rest_here h g =
      let l : at - begin < bytes_in x = omega arith in
      let e : bytes_in x - (at - begin) ≡ begin + bytes_in x - at = omega arith in
      rw (lt-ltb _ _ l, e)

  pub rest_next : begin + bytes_in x ≤ at → rest_of (x ∷ xs) (at - begin) ≡ rest_of xs (at - (begin + bytes_in x))
  unfolding rest_of
  rest_next h =
      let l : bytes_in x ≤ at - begin = omega arith in
      let e : at - begin - bytes_in x ≡ at - (begin + bytes_in x) = omega arith in
      rw (le-ltb _ _ l, e)

-- the walk before each step
module _ (t : Table) (pos left : ℕ) where
  pub walk_done : (room : ℕ) → left ≡ 0 → walk_from room t pos left ≡ ends (Ok Done) pos 0
  unfolding walk_from
  walk_done zero e = rw (eq-eqb left 0 e)
  walk_done (suc room) e = rw (eq-eqb left 0 e)

  pub walk_over : (room : ℕ) → t.size.0 ≤ pos → walk_from room t pos left ≡ ends (Ok Done) pos 0
  unfolding walk_from
  walk_over zero h = rw (le-leb _ _ h) (pick_same (eqb left 0) (ends (Ok Done) pos 0))
  walk_over (suc room) h = rw (le-leb _ _ h) (pick_same (eqb left 0) (ends (Ok Done) pos 0))

  -- the walk is over, whatever the room, or it goes on
  pub over_or_on : {C : Type 0} → (((room : ℕ) → walk_from room t pos left ≡ ends (Ok Done) pos 0) → C) → (0 < left → pos < t.size.0 → C) → C
  over_or_on f g =
      by_test (eqb left 0) (λ e. f (λ room. walk_done room (eqb-true _ _ e)))
      (λ e. let n = eqb-false left 0 e in
      by_test (leb t.size.0 pos) (λ l. f (λ room. walk_over room (leb-true _ _ l))) (λ l. g (omega arith) (leb-false _ _ l)))

  module _ (some_left : 0 < left) (before-end : pos < t.size.0) where
    pub walk_full : walk_from 0 t pos left ≡ ends (Ok More) pos 0
    unfolding walk_from
    walk_full = rw (ne_eqb left 0 (omega arith), lt-leb _ _ before-end)

    pub walk_step : (room : ℕ) → let m : Mapping = map_of t pos left in walk_from (suc room) t pos left ≡ step pos m.mapping m.run m.looked (walk_from room t (pos + m.run) (left - m.run))
    unfolding walk_from
    walk_step room = rw (ne_eqb left 0 (omega arith), lt-leb _ _ before-end)

-- the extents from number i on, which begin at a place, are the rest of all extents
record Suffix (all : List VmdkParsedExtent) (begin i : ℕ) (xs : List VmdkParsedExtent) : Type 0 where
  place_at : (at : ℕ) → begin ≤ at → place_of all at ≡ place_from i xs (at - begin)
  rest_at : (at : ℕ) → begin ≤ at → rest_of all at ≡ rest_of xs (at - begin)
  total : size_of all ≡ begin + size_of xs
  reach : Reachable xs

suffix_all : (all : List VmdkParsedExtent) → Reachable all → Suffix all 0 0 all
unfolding place_of
suffix_all all h =
    record {
      place_at = λ at l. let e : at - 0 ≡ at = omega arith in rw e;
      rest_at = λ at l. let e : at - 0 ≡ at = omega arith in rw e;
      total = omega arith;
      reach = h;
    }

suffix_next : (all : List VmdkParsedExtent) (begin i : ℕ) (x : VmdkParsedExtent) (xs : List VmdkParsedExtent) → Suffix all begin i (x ∷ xs) → Suffix all (begin + bytes_in x) (suc i) xs
unfolding size_of
suffix_next all begin i x xs h =
    record {
      place_at = λ at l. h.place_at at (omega arith) ∙ place_next i x xs begin at l;
      rest_at = λ at l. h.rest_at at (omega arith) ∙ rest_next i x xs begin at l;
      total = omega (arith, h.total);
      reach = h.reach.1;
    }

-- the walk takes a route
abbrev pub Takes : ℕ → ℕ → List VmdkParsedExtent → ℕ → ℕ → Walk → Type 0
Takes begin i xs pos left w = Route begin i xs pos (pos + left) w.pieces w.stop w.position

module _ (begin i pos left : ℕ) (x : VmdkParsedExtent) (xs : List VmdkParsedExtent) (a : begin ≤ pos) (b : pos < begin + bytes_in x) (c : 0 < left) where
  abbrev part : ℕ
  part = min left (begin + bytes_in x - pos)

  takes_piece : (p : Piece) (n : ℕ) (after : Walk) → PieceOf x i begin pos (pos + part) p → Takes (begin + bytes_in x) (suc i) xs (pos + part) (left - part) after → Takes begin i (x ∷ xs) pos left (then p n after)
  takes_piece p n after m r =
      let e : pos + part ≡ min (pos + left) (begin + bytes_in x) = omega arith in
      let f : pos + part + (left - part) ≡ pos + left = omega arith in
      let g : pos < pos + left = omega arith in
      piece a b g (subst (λ (k : ℕ). PieceOf x i begin pos k p) e m)
      (subst (λ (k : ℕ). Route (begin + bytes_in x) (suc i) xs k (pos + left) after.pieces after.stop after.position) e
      (subst (λ (k : ℕ). Route (begin + bytes_in x) (suc i) xs (pos + part) k after.pieces after.stop after.position) f r))

  zero_of : (acc : VmdkAccessType) → x.storage ≡ Zero acc → PieceOf x i begin pos (pos + part) (zero_piece pos part i)
  zero_of acc e =
      record { start = refl; run = refl; row = refl; reads = rw e; bytes = λ d. rw e; zero_piece_lem = λ q. (refl, refl) }

  raw_of : (acc : VmdkAccessType) (name : Text) (at : Sectors) → x.storage ≡ Flat acc name at → PieceOf x i begin pos (pos + part) (raw_piece pos part i (at.0 * sector_size + (pos - begin)) (writable acc))
  raw_of acc name at e =
      record {
        start = refl;
        run = refl;
        row = refl;
        reads = rw e;
        bytes = λ d. rw (e, add_assoc);
        zero_piece_lem = λ q. let z : ◌≡◌ {A = ℕ} 0 1 = cc in absurd (omega arith);
      }

module _ (all : List VmdkParsedExtent) (t : Table) (maps : (o asked : ℕ) → MapsBy all t o asked) (size : t.size.0 ≡ size_of all) where
  -- at a position in an extent
  module _ (begin i room pos left : ℕ) (x : VmdkParsedExtent) (xs : List VmdkParsedExtent) (h : Suffix all begin i (x ∷ xs)) (a : begin ≤ pos) (b : pos < begin + bytes_in x) (c : 0 < left) where
    abbrev run_here : ℕ
    run_here = part begin i pos left x xs a b c

    shown_here : (map_of t pos left).mapping ≡ shown (within i x.storage (pos - begin))
    shown_here = (maps pos left).mapping ∙ ap shown (h.place_at pos a ∙ place_here i x xs begin pos a b)

    ran_here : (map_of t pos left).run ≡ run_at (within i x.storage (pos - begin)) run_here
    ran_here = (maps pos left).run ∙ rw (h.place_at pos a, place_here i x xs begin pos a b, h.rest_at pos a, rest_here i x xs begin pos a b)

    inside : pos < t.size.0
    unfolding size_of
    inside = omega (arith, size, h.total)

    abbrev onward : Walk
    onward = walk_from room t (pos + run_here) (left - run_here)

    step_here : (st : VmdkParsedStorage) → x.storage ≡ st → Reaches x st → Takes (begin + bytes_in x) (suc i) xs (pos + run_here) (left - run_here) onward → Takes begin i (x ∷ xs) pos left (walk_from (suc room) t pos left)
    step_here NoAccess e f r =
        let m : (map_of t pos left).mapping ≡ Err Inaccessible = shown_here ∙ rw e in
        let w : walk_from (suc room) t pos left ≡ ends (Err Inaccessible) pos (map_of t pos left).looked = walk_step t pos left c inside room ∙ rw m in
        let g : pos < pos + left = omega arith in
        subst (Takes begin i (x ∷ xs) pos left) (sym w) (shut a b g e)
    step_here (Zero acc) e f r =
        let m : (map_of t pos left).mapping ≡ Ok (Zeroed i) = shown_here ∙ rw e in
        let n : (map_of t pos left).run ≡ run_here = ran_here ∙ rw e in
        let w : walk_from (suc room) t pos left ≡ then (zero_piece pos run_here i) (map_of t pos left).looked onward = walk_step t pos left c inside room ∙ rw (m, n) in
        subst (Takes begin i (x ∷ xs) pos left) (sym w) (takes_piece begin i pos left x xs a b c (zero_piece pos run_here i) (map_of t pos left).looked onward (zero_of begin i pos left x xs a b c acc e) r)
    step_here (Flat acc name at) e f r =
        let l : at.0 * sector_size + (pos - begin) ≤ largest = omega arith in
        let m : (map_of t pos left).mapping ≡ Ok (Raw i (at.0 * sector_size + (pos - begin)) (writable acc)) = shown_here ∙ rw (e, le-leb _ _ l) in
        let n : (map_of t pos left).run ≡ run_here = ran_here ∙ rw (e, le-leb _ _ l) in
        let p = raw_piece pos run_here i (at.0 * sector_size + (pos - begin)) (writable acc) in
        let w : walk_from (suc room) t pos left ≡ then p (map_of t pos left).looked onward = walk_step t pos left c inside room ∙ rw (m, n) in
        subst (Takes begin i (x ∷ xs) pos left) (sym w) (takes_piece begin i pos left x xs a b c p (map_of t pos left).looked onward (raw_of begin i pos left x xs a b c acc name at e) r)

  takes_done : (begin i room pos left : ℕ) (xs : List VmdkParsedExtent) → left ≡ 0 → Takes begin i xs pos left (walk_from room t pos left)
  takes_done begin i room pos left xs e =
      let g : pos + left ≤ pos = omega arith in
      subst (Takes begin i xs pos left) (sym (walk_done t pos left room e)) (done g)

  takes_over : (begin i room pos left : ℕ) → Suffix all begin i [] → begin ≤ pos → Takes begin i [] pos left (walk_from room t pos left)
  unfolding size_of
  takes_over begin i room pos left h g =
      let l : t.size.0 ≤ pos = omega (arith, h.total, size) in
      subst (Takes begin i [] pos left) (sym (walk_over t pos left room l)) (over g)

  takes : (xs : List VmdkParsedExtent) (begin i room pos left : ℕ) → Suffix all begin i xs → length xs ≤ room → (0 < left → begin ≤ pos) → Takes begin i xs pos left (walk_from room t pos left)
  takes [] begin i room pos left h l g =
      by_test (eqb left 0) (λ e. takes_done begin i room pos left [] (eqb-true _ _ e))
      (λ e. let n = eqb-false left 0 e in takes_over begin i room pos left h (g (omega arith)))
  takes (x ∷ xs) begin i zero pos left h l g = absurd (omega arith)
  takes (x ∷ xs) begin i (suc room) pos left h l g =
      by_test (eqb left 0) (λ e. takes_done begin i (suc room) pos left (x ∷ xs) (eqb-true _ _ e))
      (λ e. let ne = eqb-false left 0 e in
      let c : 0 < left = omega arith in
      let n = suffix_next all begin i x xs h in
      by_test (leb (begin + bytes_in x) pos)
      (λ p. let p₂ = leb-true (begin + bytes_in x) pos p in
      pass p₂ (takes xs (begin + bytes_in x) (suc i) (suc room) pos left n (omega arith) (λ k. p₂)))
      (λ p. let p₂ = leb-false (begin + bytes_in x) pos p in
      let r = run_here begin i room pos left x xs h (g c) p₂ c in
      step_here begin i room pos left x xs h (g c) p₂ c x.storage refl h.reach.0
      (takes xs (begin + bytes_in x) (suc i) room (pos + r) (left - r) n (omega arith) (λ k. omega arith))))

  -- the walk over a table of extents takes a route
  pub walk_takes : (room pos left : ℕ) → Reachable all → length all ≤ room → Takes 0 0 all pos left (walk_from room t pos left)
  walk_takes room pos left h l = takes all 0 0 room pos left (suffix_all all h) l (λ k. omega arith)
