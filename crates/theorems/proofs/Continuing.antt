-- The parts joined are one walk into as many places as they have together, and a walk that has ended is the same with more places.
-- So two walks that have both ended are the same, and `most` places are enough.
-- Assumes nothing.
use Rattle.std.specs.Prelude.{Err, Ok}
use Prim.Native.Nat.{ℕ, suc, ◌+◌, ◌<◌, ◌≤◌, min}
use native.Mathlib.Omega.{arith}
use mathlib.Core.List.{List, [], ◌∷◌}
use mathlib.Core.Path.{◌≡◌, sym, ap, ◌∙◌, subst}
use lib.ListN.{length}
use lib.Dec.{leb}
use borrow.Author.Tests.{lt-leb, leb-true, leb-false}
use Rattle.lines.specs.Record.{most}
use Rattle.lines.specs.declared.record.Record.{Record}
use Rattle.tables.specs.declared.table.Table.{Table}
use Rattle.tables.specs.declared.table.Stop.TheVariants.{More}
use Rattle.lines.specs.declared.record.Fault.TheVariants.{CountTooLarge}
use Rattle.maps.specs.Walk.{Walk, ends, walk_from, walk_of}
use Rattle.theorems.specs.Rows.{Builds}
use Rattle.theorems.specs.Tiling.{All}
use Rattle.theorems.specs.Continuing.{parts_of, places_in, Continues, ContinuesWhole}
use Rattle.text.proofs.Flat.{by_test}
use Rattle.theorems.proofs.Rows.{built_in_rows}
use Rattle.theorems.proofs.Joins.{more_places, walk_of_lem, parts_from, parts_refused, parts_long, long_call}
use Rattle.theorems.proofs.Enough.{room_enough, all_pieces, room_enough_held}

-- lists of at least one place each have as many places as they are
places_many : (n : ℕ) (ns : List ℕ) → All (λ (k : ℕ). 0 < k) (n ∷ ns) → suc (length ns) ≤ places_in n ns
unfolding places_in
places_many n [] h = omega arith
places_many n (m ∷ ns) h = omega (arith, places_many m ns h.1)

module _ (t : Table) (n : ℕ) (ns : List ℕ) (pos left : ℕ) where
  -- a single walk, given `most` places
  walk_most : t.count ≤ most → (places : ℕ) → most ≤ places → walk_of t places pos left ≡ walk_from most t pos left
  walk_most h places l = let e : min places most ≡ most = omega arith in walk_of_lem t places pos left h ∙ rw e

  -- 23 comes first
  module _ (h : most < t.count) where
    walk_refused : (places : ℕ) → walk_of t places pos left ≡ ends (Err CountTooLarge) pos 0
    unfolding walk_of
    walk_refused places = rw (lt-leb _ _ h)

    refused_ended : (parts_of n ns t pos left).stop ≡ (Ok More) → ⊥
    refused_ended e =
        let g : Err CountTooLarge ≡ (Ok More) = rw (parts_refused n ns t pos left h) at e in let z : ◌≡◌ {A = ℕ} 0 1 = cc in omega arith

  module _ (h : t.count ≤ most) where
    abbrev joined : Walk
    joined = walk_from (places_in n ns) t pos left

    joins : parts_of n ns t pos left ≡ joined
    joins = parts_from n ns t pos left h

    ended : ((parts_of n ns t pos left).stop ≡ (Ok More) → ⊥) → joined.stop ≡ (Ok More) → ⊥
    ended = subst (λ (w : Walk). w.stop ≡ (Ok More) → ⊥) joins

    longer : (joined.stop ≡ (Ok More) → ⊥) → walk_from (most + places_in n ns) t pos left ≡ joined
    longer k = more_places (places_in n ns) (most + places_in n ns) t pos left k (omega arith)

    list_in : ((parts_of n ns t pos left).stop ≡ (Ok More) → ⊥) → (places : ℕ) → most ≤ places → (parts_of n ns t pos left).pieces ≡ (walk_of t places pos left).pieces
    list_in k places l =
        rw (joins, walk_most h places l)
        (ap (λ (w : Walk). w.pieces) (sym (longer (ended k))) ∙ all_pieces most (most + places_in n ns) t pos left h (omega arith))

    whole_in : ((walk_from most t pos left).stop ≡ (Ok More) → ⊥) → ((parts_of n ns t pos left).stop ≡ (Ok More) → ⊥) → (places : ℕ) → most ≤ places → parts_of n ns t pos left ≡ walk_of t places pos left
    whole_in m k places l =
        rw (joins, walk_most h places l)
        (sym (longer (ended k)) ∙ more_places most (most + places_in n ns) t pos left m (omega arith))

  ends_enough : most < places_in n ns → (parts_of n ns t pos left).stop ≡ (Ok More) → ⊥
  ends_enough l e =
      by_test (leb t.count most)
      (λ b. let h = leb-true t.count most b in
      room_enough (places_in n ns) t pos left (omega arith) (ap (λ (w : Walk). w.stop) (sym (joins h)) ∙ e))
      (λ b. refused_ended (leb-false _ _ b) e)

  whole_list : ((parts_of n ns t pos left).stop ≡ (Ok More) → ⊥) → (places : ℕ) → most ≤ places → (parts_of n ns t pos left).pieces ≡ (walk_of t places pos left).pieces
  whole_list k places l =
      by_test (leb t.count most)
      (λ b. list_in (leb-true _ _ b) k places l)
      (λ b. let h = leb-false t.count most b in rw (parts_refused n ns t pos left h, walk_refused h places))

  pub continues : Continues t n ns pos left
  continues =
      record {
        joins = parts_long n ns t pos left;
        one_call = long_call t (places_in n ns) pos left;
        enough = ends_enough;
        lists_enough = λ a l. ends_enough (omega (arith, places_many n ns a));
        whole_list = whole_list;
      }

-- on a built table
pub built_continues : (r : Record) (t : Table) → Builds r t → (n : ℕ) (ns : List ℕ) (pos left : ℕ) → ContinuesWhole t n ns pos left
built_continues r t b n ns pos left =
    let g = built_in_rows r t b in
    let h : t.count ≤ most = g.most_rows in
    record {
      enough = λ l e. room_enough_held (places_in n ns) t pos left g.one (omega arith) (ap (λ (w : Walk). w.stop) (sym (joins t n ns pos left h)) ∙ e);
      whole = whole_in t n ns pos left h (room_enough_held most t pos left g.one h);
    }
