-- What a route's pieces tile, where their bytes lie, where it ends and why, each by going along the route.
-- A piece ends where its extent ends or where the range does, so the next begins in another extent or there is none.
-- Assumes nothing.
use Rattle.std.specs.Prelude.{Err, Ok, Result}
use Prim.Native.Nat.{ℕ, suc, ◌+◌, ◌-◌, ◌<◌, ◌≤◌, min, max}
use native.Mathlib.Omega.{arith}
use mathlib.Core.List.{List, [], ◌∷◌}
use mathlib.Core.Bool.{true, false}
use mathlib.Core.Path.{◌≡◌, refl, sym, ◌∙◌, subst}
use mathlib.Core.Logic.{◌⊎◌, inl, inr}
use lib.Dec.{ltb}
use borrow.Author.Tests.{ltb-true, ltb-false, lt-ltb, le-ltb}
use Rattle.lines.specs.declared.record.VmdkParsedExtent.{VmdkParsedExtent}
use Rattle.lines.specs.declared.record.VmdkParsedStorage.{VmdkParsedStorage}
use Rattle.lines.specs.declared.record.VmdkParsedStorage.TheVariants.{NoAccess, Zero, Flat}
use Rattle.tables.specs.declared.table.Piece.{Piece}
use Rattle.tables.specs.declared.table.Stop.TheVariants.{Done}
use Rattle.tables.specs.declared.table.Stop.{Stop}
use Rattle.lines.specs.declared.record.Fault.{Fault}
use Rattle.lines.specs.declared.record.Fault.TheVariants.{Inaccessible}
use Rattle.maps.specs.Place.{within, bytes_in, size_of, place_from}
use Rattle.theorems.specs.Tiling.{rows_of, ZeroPlain, All, Follow, is_locked, readable, byte_of, met_from}
use Rattle.text.proofs.Flat.{by_test, pick_same}
use Rattle.theorems.proofs.Routes.{PieceOf, Route, over, done, pass, shut, piece, place_here, place_next}

pub all_map : {A : Type 0} (P Q : A → Type 0) → ((a : A) → P a → Q a) → (l : List A) → All P l → All Q l
all_map P Q f [] h = tt
all_map P Q f (x ∷ l) h = (f x h.0, all_map P Q f l h.1)

-- (a)
pub route_follow : {begin i pos hi q : ℕ} {xs : List VmdkParsedExtent} {ps : List Piece} {s : Result Stop Fault} → Route begin i xs pos hi ps s q → Follow pos ps q
route_follow (over h) = refl
route_follow (done h) = refl
route_follow (pass h r) = route_follow r
route_follow (shut a b c e) = refl
route_follow (piece {q = q} {ps = ps} a b c m r) =
    (m.start, omega (arith, m.run), subst (λ (k : ℕ). Follow k ps q) (sym m.run) (route_follow r))

-- (c)
abbrev pub Lies : ℕ → ℕ → List VmdkParsedExtent → Piece → Type 0
Lies begin i xs p = (begin ≤ p.start) × ((d : ℕ) → d < p.run → place_from i xs (p.start + d - begin) ≡ byte_of p d)

lies_next : (begin i : ℕ) (x : VmdkParsedExtent) (xs : List VmdkParsedExtent) (p : Piece) → Lies (begin + bytes_in x) (suc i) xs p → Lies begin i (x ∷ xs) p
lies_next begin i x xs p h = (omega arith, λ d l. place_next i x xs begin (p.start + d) (omega (arith, h.0)) ∙ h.1 d l)

lies_here : (begin i pos hi : ℕ) (x : VmdkParsedExtent) (xs : List VmdkParsedExtent) (p : Piece) → begin ≤ pos → PieceOf x i begin pos (min hi (begin + bytes_in x)) p → Lies begin i (x ∷ xs) p
lies_here begin i pos hi x xs p a m = (
  omega (arith, m.start),
  λ d l. let e : p.start + d - begin ≡ pos - begin + d = omega (arith, m.start) in
      place_here i x xs begin (p.start + d) (omega (arith, m.start)) (omega (arith, m.start, m.run)) ∙ rw e (m.bytes d),
)

pub route_lies : {begin i pos hi q : ℕ} {xs : List VmdkParsedExtent} {ps : List Piece} {s : Result Stop Fault} → Route begin i xs pos hi ps s q → All (Lies begin i xs) ps
route_lies (over h) = tt
route_lies (done h) = tt
route_lies (pass {begin = begin} {i = i} {x = x} {xs = xs} {ps = ps} h r) =
    all_map (Lies (begin + bytes_in x) (suc i) xs) (Lies begin i (x ∷ xs)) (lies_next begin i x xs) ps (route_lies r)
route_lies (shut a b c e) = tt
route_lies (piece {begin = begin} {i = i} {pos = pos} {hi = hi} {x = x} {xs = xs} {p = p} {ps = ps} a b c m r) =
    (lies_here begin i pos hi x xs p a m, all_map (Lies (begin + bytes_in x) (suc i) xs) (Lies begin i (x ∷ xs)) (lies_next begin i x xs) ps (route_lies r))

pub route_zeros : {begin i pos hi q : ℕ} {xs : List VmdkParsedExtent} {ps : List Piece} {s : Result Stop Fault} → Route begin i xs pos hi ps s q → All ZeroPlain ps
route_zeros (over h) = tt
route_zeros (done h) = tt
route_zeros (pass h r) = route_zeros r
route_zeros (shut a b c e) = tt
route_zeros (piece a b c m r) = (m.zero_piece_lem, route_zeros r)

-- (b), (f): the position reached, that no access lies before it, and why the route ends there
abbrev pub Why : ℕ → ℕ → List VmdkParsedExtent → ℕ → ℕ → Result Stop Fault → ℕ → Type 0
Why begin i xs pos hi s q =
    ((s ≡ (Ok Done)) × (q ≡ max pos (min hi (begin + size_of xs)))) ⊎ ((s ≡ Err Inaccessible) × (q < min hi (begin + size_of xs)) × (is_locked (place_from i xs (q - begin)) ≡ true))

pub record Reached (begin i : ℕ) (xs : List VmdkParsedExtent) (pos hi : ℕ) (s : Result Stop Fault) (q : ℕ) : Type 0 where
  pub up : pos ≤ q
  pub cap : q ≤ max pos (min hi (begin + size_of xs))
  pub free : (at : ℕ) → pos ≤ at → at < q → is_locked (place_from i xs (at - begin)) ≡ false
  pub why : Why begin i xs pos hi s q

pub reads_free : (st : VmdkParsedStorage) (i o : ℕ) → readable st ≡ true → is_locked (within i st o) ≡ false
reads_free NoAccess i o e = sym e
reads_free (Zero a) i o e = refl
reads_free (Flat a name start) i o e = refl

reached_here : (begin i : ℕ) (xs : List VmdkParsedExtent) (pos hi : ℕ) → max pos (min hi (begin + size_of xs)) ≡ pos → Reached begin i xs pos hi (Ok Done) pos
reached_here begin i xs pos hi e =
    record { up = omega arith; cap = omega arith; free = λ at a b. absurd (omega arith); why = inl (refl, sym e) }

module _ (begin i : ℕ) (x : VmdkParsedExtent) (xs : List VmdkParsedExtent) (pos hi : ℕ) where
  reached_shut : begin ≤ pos → pos < begin + bytes_in x → pos < hi → x.storage ≡ NoAccess → Reached begin i (x ∷ xs) pos hi (Err Inaccessible) pos
  unfolding size_of
  reached_shut a b c e =
      let l : is_locked (place_from i (x ∷ xs) (pos - begin)) ≡ true = rw (place_here i x xs begin pos a b, e) in
      record { up = omega arith; cap = omega arith; free = λ at a b. absurd (omega arith); why = inr (refl, omega arith, l) }

  module _ (s : Result Stop Fault) (q : ℕ) where
    reached_pass : begin + bytes_in x ≤ pos → Reached (begin + bytes_in x) (suc i) xs pos hi s q → Reached begin i (x ∷ xs) pos hi s q
    unfolding size_of
    reached_pass h r =
        record {
          up = r.up;
          cap = omega (arith, r.cap);
          free = λ at a b. rw (place_next i x xs begin at (omega arith)) (r.free at a b);
          why = go r.why;
        }
      where
        go : Why (begin + bytes_in x) (suc i) xs pos hi s q → Why begin i (x ∷ xs) pos hi s q
        go (inl e) = inl (e.0, omega arith)
        go (inr e) = inr (e.0, omega arith, rw (place_next i x xs begin q (omega (arith, r.up))) e.2)

    reached_piece : begin ≤ pos → pos < begin + bytes_in x → pos < hi → readable x.storage ≡ true → Reached (begin + bytes_in x) (suc i) xs (min hi (begin + bytes_in x)) hi s q → Reached begin i (x ∷ xs) pos hi s q
    unfolding size_of
    reached_piece a b c e r =
        record {
          up = omega (arith, r.up);
          cap = omega (arith, r.cap);
          free = λ at l m. by_test (ltb at (begin + bytes_in x))
              (λ t. rw (place_here i x xs begin at (omega arith) (ltb-true _ _ t)) (reads_free x.storage i (at - begin) e))
              (λ t. let g = ltb-false at (begin + bytes_in x) t in rw (place_next i x xs begin at g) (r.free at (omega arith) m));
          why = go r.why;
        }
      where
        go : Why (begin + bytes_in x) (suc i) xs (min hi (begin + bytes_in x)) hi s q → Why begin i (x ∷ xs) pos hi s q
        go (inl e) = inl (e.0, omega arith)
        go (inr e) = inr (e.0, omega arith, rw (place_next i x xs begin q (omega (arith, r.up))) e.2)

pub route_reached : {begin i pos hi q : ℕ} {xs : List VmdkParsedExtent} {ps : List Piece} {s : Result Stop Fault} → Route begin i xs pos hi ps s q → Reached begin i xs pos hi s q
unfolding size_of
route_reached (over {begin = begin} {i = i} {pos = pos} {hi = hi} h) = reached_here begin i [] pos hi (omega arith)
route_reached (done {begin = begin} {i = i} {pos = pos} {hi = hi} {xs = xs} h) = reached_here begin i xs pos hi (omega arith)
route_reached (pass {begin = begin} {i = i} {pos = pos} {hi = hi} {q = q} {x = x} {xs = xs} {s = s} h r) =
    reached_pass begin i x xs pos hi s q h (route_reached r)
route_reached (shut {begin = begin} {i = i} {pos = pos} {hi = hi} {x = x} {xs = xs} a b c e) = reached_shut begin i x xs pos hi a b c e
route_reached (piece {begin = begin} {i = i} {pos = pos} {hi = hi} {q = q} {x = x} {xs = xs} {s = s} a b c m r) =
    reached_piece begin i x xs pos hi s q a b c m.reads (route_reached r)

-- (d)
module _ (begin i : ℕ) (x : VmdkParsedExtent) (xs : List VmdkParsedExtent) (from to : ℕ) where
  met_skip : min (begin + bytes_in x) to ≤ max begin from → met_from begin i (x ∷ xs) from to ≡ met_from (begin + bytes_in x) (suc i) xs from to
  unfolding met_from
  met_skip h = rw (le-ltb (max begin from) (min (begin + bytes_in x) to) h) (pick_same (readable x.storage) (met_from (begin + bytes_in x) (suc i) xs from to))

  met_here : readable x.storage ≡ true → max begin from < min (begin + bytes_in x) to → met_from begin i (x ∷ xs) from to ≡ i ∷ met_from (begin + bytes_in x) (suc i) xs from to
  unfolding met_from
  met_here e h = rw (e, lt-ltb (max begin from) (min (begin + bytes_in x) to) h)

met_empty : (begin i : ℕ) (xs : List VmdkParsedExtent) (from to : ℕ) → to ≤ from → met_from begin i xs from to ≡ []
met_empty begin i [] from to h = unfold met_from in refl
met_empty begin i (x ∷ xs) from to h =
    met_skip begin i x xs from to (omega arith) ∙ met_empty (begin + bytes_in x) (suc i) xs from to h

-- a range that begins before the extents may begin anywhere before them
met_from_lem : (begin i : ℕ) (xs : List VmdkParsedExtent) (a b to : ℕ) → a ≤ begin → b ≤ begin → met_from begin i xs a to ≡ met_from begin i xs b to
unfolding met_from
met_from_lem begin i [] a b to h g = refl
met_from_lem begin i (x ∷ xs) a b to h g =
    let e : max begin a ≡ max begin b = omega arith in
    rw (e, met_from_lem (begin + bytes_in x) (suc i) xs a b to (omega arith) (omega arith))

met_piece : (begin i pos hi q : ℕ) (x : VmdkParsedExtent) (xs : List VmdkParsedExtent) (p : Piece) (ps : List Piece) → begin ≤ pos → pos < begin + bytes_in x → pos < hi → min hi (begin + bytes_in x) ≤ q → PieceOf x i begin pos (min hi (begin + bytes_in x)) p → rows_of ps ≡ met_from (begin + bytes_in x) (suc i) xs (min hi (begin + bytes_in x)) q → rows_of (p ∷ ps) ≡ met_from begin i (x ∷ xs) pos q
met_piece begin i pos hi q x xs p ps a b c d m e =
    rw (met_here begin i x xs pos q m.reads (omega arith), m.row, e, met_from_lem (begin + bytes_in x) (suc i) xs (min hi (begin + bytes_in x)) pos q (omega arith) (omega arith))

pub route_met : {begin i pos hi q : ℕ} {xs : List VmdkParsedExtent} {ps : List Piece} {s : Result Stop Fault} → Route begin i xs pos hi ps s q → rows_of ps ≡ met_from begin i xs pos q
route_met (over h) = unfold met_from in refl
route_met (done {begin = begin} {i = i} {pos = pos} {xs = xs} h) = sym (met_empty begin i xs pos pos (omega arith))
route_met (pass {begin = begin} {i = i} {pos = pos} {q = q} {x = x} {xs = xs} h r) =
    route_met r ∙ sym (met_skip begin i x xs pos q (omega arith))
route_met (shut {begin = begin} {i = i} {pos = pos} {x = x} {xs = xs} a b c e) = sym (met_empty begin i (x ∷ xs) pos pos (omega arith))
route_met (piece {begin = begin} {i = i} {pos = pos} {hi = hi} {q = q} {x = x} {xs = xs} {p = p} {ps = ps} a b c m r) =
    met_piece begin i pos hi q x xs p ps a b c (route_reached r).up m (route_met r)
