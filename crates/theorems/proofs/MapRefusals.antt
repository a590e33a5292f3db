-- A mapping is refused with 21 or 22 by the place that it shows, and with 23 only before anything is looked at.
-- A walk takes one step after the other, so it stops with a refusal exactly where the mapping of a step is refused.
use Rattle.std.specs.Prelude.{Err, Ok, Result}
use Prim.Native.Nat.{ℕ, zero, suc, ◌+◌, ◌-◌, ◌≤◌, ◌<◌, min}
use native.Mathlib.Omega.{arith}
use mathlib.Core.Logic.{◌↔◌}
use mathlib.Core.Bool.{Bool}
use mathlib.Core.Path.{◌≡◌, refl, sym, ap, subst, ◌∙◌}
use lib.ListN.{length, get_or}
use lib.Dec.{leb}
use borrow.Author.Tests.{le-leb, lt-leb, leb-true, leb-false}
use Rattle.text.specs.Sector.{largest}
use Rattle.text.proofs.Flat.{by_test, pick_all}
use Rattle.lines.specs.Record.{most, counted}
use Rattle.lines.specs.declared.record.Record.{Record}
use Rattle.tables.specs.declared.table.Source.{Source}
use Rattle.tables.specs.declared.table.Source.TheVariants.{NoAccess as Locked, Zero as Zeros, Flat as File}
use Rattle.tables.specs.declared.table.Table.{Table}
use Rattle.tables.specs.declared.table.Mapping.{Mapping}
use Rattle.tables.specs.declared.table.Piece.{Piece}
use Rattle.tables.specs.declared.table.ShallowMapping.TheVariants.{Eof, Zero, Raw}
use Rattle.tables.specs.declared.table.Stop.TheVariants.{Done, More}
use Rattle.tables.specs.declared.table.ShallowMapping.{ShallowMapping}
use Rattle.lines.specs.declared.record.Fault.{Fault}
use Rattle.lines.specs.declared.record.Fault.TheVariants.{Inaccessible, OffsetTooLarge, CountTooLarge}
use Rattle.lines.specs.Fault.{refusal_number}
use Rattle.tables.specs.Build.{no_row}
use Rattle.maps.specs.Map.{Search, found, nowhere, writable, ended, refused, sourced, in_row, search_of, map_of}
use Rattle.maps.specs.Place.{Place, past, locked, zeros, file, place_of}
use Rattle.maps.specs.Walk.{Walk, ends, then, zero_piece, raw_piece, step, walk_from, walk_of}
use Rattle.theorems.specs.Rows.{Builds}
use Rattle.theorems.specs.Maps.{shown}
use Rattle.theorems.specs.Refusing.{NoAccessAt, FileOverAt, StopsWhere}
use Rattle.theorems.proofs.Maps.{built_maps}
use Rattle.theorems.proofs.Routes.{over_or_on, walk_full, walk_step}

-- ---- by the place
shown_locked : (p : Place) → (shown p ≡ Err Inaccessible) ↔ ((i : ℕ) × (p ≡ locked i))
shown_locked past = (λ e. let z : ◌≡◌ {A = ℕ} 0 1 = cc in absurd (omega arith), λ w. let e = w.1 in let z : ◌≡◌ {A = ℕ} 0 1 = cc in absurd (omega arith))
shown_locked (locked i) = (λ e. (i, refl), λ w. refl)
shown_locked (zeros i) = (λ e. let z : ◌≡◌ {A = ℕ} 0 1 = cc in absurd (omega arith), λ w. let e = w.1 in let z : ◌≡◌ {A = ℕ} 0 1 = cc in absurd (omega arith))
shown_locked (file i f w) = (
  λ e. by_test (leb f largest)
      (λ h. let g : Ok (Raw i f w) ≡ Err Inaccessible = rw h at e in let z : ◌≡◌ {A = ℕ} 0 1 = cc in absurd (omega arith))
      (λ h. let g : Err OffsetTooLarge ≡ Err Inaccessible = rw h at e in let z : ◌≡◌ {A = ℕ} 22 21 = cc in absurd (omega arith)),
  λ k. let e = k.1 in let z : ◌≡◌ {A = ℕ} 0 1 = cc in absurd (omega arith),
)

shown_over : (p : Place) → (shown p ≡ Err OffsetTooLarge) ↔ ((i f : ℕ) × (w : Bool) × (p ≡ file i f w) × (largest < f))
shown_over past = (λ e. let z : ◌≡◌ {A = ℕ} 0 1 = cc in absurd (omega arith), λ w. let e = w.3 in let z : ◌≡◌ {A = ℕ} 0 1 = cc in absurd (omega arith))
shown_over (locked i) = (λ e. let z : ◌≡◌ {A = ℕ} 21 22 = cc in absurd (omega arith), λ w. let e = w.3 in let z : ◌≡◌ {A = ℕ} 0 1 = cc in absurd (omega arith))
shown_over (zeros i) = (λ e. let z : ◌≡◌ {A = ℕ} 0 1 = cc in absurd (omega arith), λ w. let e = w.3 in let z : ◌≡◌ {A = ℕ} 0 1 = cc in absurd (omega arith))
shown_over (file i f w) = (
  λ e. by_test (leb f largest)
      (λ h. let g : Ok (Raw i f w) ≡ Err OffsetTooLarge = rw h at e in let z : ◌≡◌ {A = ℕ} 0 1 = cc in absurd (omega arith))
      (λ h. (i, f, w, refl, leb-false _ _ h)),
  λ k. let e = k.3 in let q : f ≡ k.1 = cc in let h : largest < f = omega (arith, k.4) in rw (lt-leb _ _ h),
)

module _ (r : Record) (t : Table) (b : Builds r t) (o asked : ℕ) where
  pub map_locked : ((map_of t o asked).mapping ≡ Err Inaccessible) ↔ NoAccessAt (counted r) o
  map_locked = rw (built_maps r t b o asked).mapping (shown_locked (place_of (counted r) o))

  pub map_over : ((map_of t o asked).mapping ≡ Err OffsetTooLarge) ↔ FileOverAt (counted r) o
  map_over = rw (built_maps r t b o asked).mapping (shown_over (place_of (counted r) o))

-- ---- a row's refusal is 21 or 22
abbrev Fair : Result ShallowMapping Fault → Type 0
Fair (Ok Eof) = Unit {0}
Fair (Ok (Zero i)) = Unit {0}
Fair (Ok (Raw i at w)) = Unit {0}
Fair (Err n) = (21 ≤ refusal_number n) × (refusal_number n ≤ 22)

-- and a run is at most what was asked
abbrev Fine : ℕ → Mapping → Type 0
Fine asked m = Fair m.mapping × (m.run ≤ asked)

fine_sourced : (s : Source) (i o run n : ℕ) → Fine run (sourced s i o run n)
unfolding sourced
fine_sourced Locked i o run n = (omega arith, omega arith)
fine_sourced (Zeros a) i o run n = (tt, omega arith)
fine_sourced (File a start name) i o run n =
    pick_all (Fine run) (leb (start.0 + o) largest) (record { mapping = Ok (Raw i (start.0 + o) (writable a)); run = run; looked = n }) (refused OffsetTooLarge n) (tt, omega arith) (omega arith, omega arith)

fine_row : (t : Table) (o asked : ℕ) (s : Search) → Fine asked (in_row t o asked s)
unfolding in_row
fine_row t o asked (nowhere n) = (tt, omega arith)
fine_row t o asked (found i n) =
    let r = get_or t.rows i no_row in
    let f = fine_sourced r.source i (o - r.start.0) (min asked (min (t.size.0 - o) (r.end.0 - o))) n in
    (f.0, omega (arith, f.1))

module _ (t : Table) (o asked : ℕ) where
  map_few : t.count ≤ most → Fine asked (map_of t o asked)
  unfolding map_of
  map_few h = rw (le-leb _ _ h) (pick_all (Fine asked) (leb t.size.0 o) (ended 0) (in_row t o asked (search_of t o)) (tt, omega arith) (fine_row t o asked (search_of t o)))

  map_many : most < t.count → map_of t o asked ≡ refused CountTooLarge 0
  unfolding map_of
  map_many h = rw (lt-leb _ _ h)

  map_past : t.count ≤ most → t.size.0 ≤ o → map_of t o asked ≡ ended 0
  unfolding map_of
  map_past h g = rw (le-leb _ _ h, le-leb _ _ g)

  pub map_counted : ((map_of t o asked).mapping ≡ Err CountTooLarge) ↔ (most < t.count)
  map_counted = (
    λ e. by_test (leb t.count most)
        (λ h. let f : (21 ≤ 23) × (23 ≤ 22) = subst Fair e (map_few (leb-true _ _ h)).0 in absurd (omega arith))
        (λ h. leb-false _ _ h),
    λ h. ap (λ (m : Mapping). m.mapping) (map_many h),
  )

  pub map_numbers : (n : Fault) → (map_of t o asked).mapping ≡ Err n → (21 ≤ refusal_number n) × (refusal_number n ≤ 23)
  map_numbers n e =
      by_test (leb t.count most)
      (λ h. let f : (21 ≤ refusal_number n) × (refusal_number n ≤ 22) = subst Fair e (map_few (leb-true _ _ h)).0 in omega arith)
      (λ h. let g : Err CountTooLarge ≡ Err n = sym (map_counted.1 (leb-false _ _ h)) ∙ e in let q : CountTooLarge ≡ n = cc in omega (arith, ap refusal_number q))

-- ---- the walk
-- a walk up to a place, with room for some pieces, stands at a mapping that is refused with n
module _ (t : Table) (n : Fault) where
  record Meets (room end : ℕ) (w : Walk) : Type 0 where
    some_left : w.position < end
    some_room : length w.pieces < room
    meets : (map_of t w.position (end - w.position)).mapping ≡ Err n

  -- then it stops with n, and only then
  abbrev Due : ℕ → ℕ → Walk → Type 0
  Due room end w = (w.stop ≡ Err n) ↔ Meets room end w

  on : (room end : ℕ) (p : Piece) (k : ℕ) (after : Walk) → Due room end after → Due (suc room) end (then p k after)
  on room end p k after h = (
    λ e. let m = h.0 e in record { some_left = m.some_left; some_room = omega (arith, m.some_room); meets = m.meets },
    λ m. h.1 (record { some_left = m.some_left; some_room = omega (arith, m.some_room); meets = m.meets }),
  )

  module _ (pos left end : ℕ) (upto : pos + left ≡ end) (some_left : 0 < left) where
    here : (map_of t pos (end - pos)).mapping ≡ (map_of t pos left).mapping
    here = let e : end - pos ≡ left = omega arith in rw e

    due_step : (room run k : ℕ) (m : Result ShallowMapping Fault) (after : Walk) → (map_of t pos left).mapping ≡ m → Due room end after → Due (suc room) end (step pos m run k after)
    due_step room run k (Ok Eof) after q h = (
      λ e. let z : ◌≡◌ {A = ℕ} 0 1 = cc in absurd (omega arith),
      λ m. let g : (Ok Eof) ≡ Err n = sym q ∙ sym here ∙ m.meets in let z : ◌≡◌ {A = ℕ} 0 1 = cc in absurd (omega arith),
    )
    due_step room run k (Err i) after q h = (
      λ e. let g : i ≡ n = cc in record { some_left = omega arith; some_room = omega arith; meets = here ∙ q ∙ ap Err g },
      λ m. let g : Err i ≡ Err n = sym q ∙ sym here ∙ m.meets in let f : i ≡ n = cc in ap Err f,
    )
    due_step room run k (Ok (Zero i)) after q h = on room end (zero_piece pos run i) k after h
    due_step room run k (Ok (Raw i at w)) after q h = on room end (raw_piece pos run i at w) k after h

  due : (room pos left end : ℕ) → t.count ≤ most → pos + left ≡ end → Due room end (walk_from room t pos left)
  due zero pos left end c u =
      over_or_on t pos left
      (λ e. rw (e 0) (λ f. let z : ◌≡◌ {A = ℕ} 0 1 = cc in absurd (omega arith), λ m. absurd (omega (arith, m.some_room))))
      (λ a b. rw (walk_full t pos left a b) (λ f. let z : ◌≡◌ {A = ℕ} 0 1 = cc in absurd (omega arith), λ m. absurd (omega (arith, m.some_room))))
  due (suc room) pos left end c u =
      over_or_on t pos left
      (λ e. rw (e (suc room)) (λ f. let z : ◌≡◌ {A = ℕ} 0 1 = cc in absurd (omega arith), λ m. absurd (no_more m.some_left m.meets e)))
      (λ a b. let m = map_of t pos left in
      let r : pos + m.run + (left - m.run) ≡ end = omega (arith, (map_few t pos left c).1) in
      rw (walk_step t pos left a b room) (due_step pos left end u a room m.run m.looked m.mapping (walk_from room t (pos + m.run) (left - m.run)) refl (due room (pos + m.run) (left - m.run) end c r)))
    where
      no_more : pos < end → (map_of t pos (end - pos)).mapping ≡ Err n → ((room : ℕ) → walk_from room t pos left ≡ ends (Ok Done) pos 0) → ⊥
      no_more l q e =
          by_test (leb t.size.0 pos)
          (λ s. let g : (Ok Eof) ≡ Err n = ap (λ (m : Mapping). m.mapping) (sym (map_past t pos (end - pos) c (leb-true _ _ s))) ∙ q in let z : ◌≡◌ {A = ℕ} 0 1 = cc in omega arith)
          (λ s. let a : 0 < left = omega arith in
          let g : (Ok More) ≡ (Ok Done) = ap (λ (w : Walk). w.stop) (sym (walk_full t pos left a (leb-false _ _ s)) ∙ e 0) in
          let z : ◌≡◌ {A = ℕ} 0 1 = cc in
          omega arith)

module _ (t : Table) (places start long : ℕ) where
  abbrev walk : Walk
  walk = walk_of t places start long

  walk_few : t.count ≤ most → walk ≡ walk_from (min places most) t start long
  unfolding walk_of
  walk_few h = rw (le-leb _ _ h)

  walk_many : most < t.count → walk ≡ ends (Err CountTooLarge) start 0
  unfolding walk_of
  walk_many h = rw (lt-leb _ _ h)

  pub walk_met : (n : Fault) → refusal_number n < 23 → (walk.stop ≡ Err n) ↔ StopsWhere (λ o. (map_of t o (start + long - o)).mapping ≡ Err n) places start long walk
  walk_met n h =
      by_test (leb t.count most)
      (λ e. let c = leb-true _ _ e in
      let d = due t n (min places most) start long (start + long) c refl in
      rw (walk_few c) (
        λ q. let m = d.0 q in record { left = m.some_left; room = m.some_room; so = m.meets },
        λ m. d.1 (record { some_left = m.left; some_room = m.room; meets = m.so }),
      ))
      (λ e. let c = leb-false _ _ e in
      rw (walk_many c) (
        λ q. let z : CountTooLarge ≡ n = cc in absurd (omega (arith, ap refusal_number z)),
        λ m. let g : Err CountTooLarge ≡ Err n = sym ((map_counted t start (start + long - start)).1 c) ∙ m.so in let z : CountTooLarge ≡ n = cc in absurd (omega (arith, ap refusal_number z)),
      ))

  pub walk_counted : (walk.stop ≡ Err CountTooLarge) ↔ (most < t.count)
  walk_counted = (
    λ q. by_test (leb t.count most)
        (λ e. let c = leb-true _ _ e in
        let m = (due t CountTooLarge (min places most) start long (start + long) c refl).0 (rw (walk_few c) at q) in
        (map_counted t _ _).0 m.meets)
        (λ e. leb-false _ _ e),
    λ h. ap (λ (w : Walk). w.stop) (walk_many h),
  )

  pub walk_numbers : (n : Fault) → walk.stop ≡ Err n → (21 ≤ refusal_number n) × (refusal_number n ≤ 23)
  walk_numbers n q =
      by_test (leb t.count most)
      (λ e. let c = leb-true _ _ e in
      let m = (due t n (min places most) start long (start + long) c refl).0 (rw (walk_few c) at q) in
      map_numbers t _ _ n m.meets)
      (λ e. let g : Err CountTooLarge ≡ Err n = sym (walk_counted.1 (leb-false _ _ e)) ∙ q in let z : CountTooLarge ≡ n = cc in omega (arith, ap refusal_number z))

-- with another way to say how the position is
stops_map : {P Q : ℕ → Type 0} {places start long : ℕ} (w : Walk) → ((o : ℕ) → P o ↔ Q o) → StopsWhere P places start long w ↔ StopsWhere Q places start long w
stops_map w g = (
  λ m. record { left = m.left; room = m.room; so = (g w.position).0 m.so },
  λ m. record { left = m.left; room = m.room; so = (g w.position).1 m.so },
)

both_ways : {A B C : Type 0} → A ↔ B → B ↔ C → A ↔ C
both_ways f g = (λ a. g.0 (f.0 a), λ c. f.1 (g.1 c))

module _ (r : Record) (t : Table) (b : Builds r t) (places start long : ℕ) where
  pub walk_locked : ((walk_of t places start long).stop ≡ Err Inaccessible) ↔ StopsWhere (NoAccessAt (counted r)) places start long (walk_of t places start long)
  walk_locked = both_ways (walk_met t places start long Inaccessible (omega arith)) (stops_map (walk_of t places start long) (λ o. map_locked r t b o (start + long - o)))

  pub walk_file_over : ((walk_of t places start long).stop ≡ Err OffsetTooLarge) ↔ StopsWhere (FileOverAt (counted r)) places start long (walk_of t places start long)
  walk_file_over = both_ways (walk_met t places start long OffsetTooLarge (omega arith)) (stops_map (walk_of t places start long) (λ o. map_over r t b o (start + long - o)))
