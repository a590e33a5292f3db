-- The lines and the extents that they say take the same bytes off an offset, so both end in the same line, whose row has its name.
-- So a place by an extent's number, with the number read as the row's name, is the place by the lines, and what is known of the one is known of the other.
use Rattle.std.specs.Prelude.{Err, Ok, Result}
use Prim.Native.Nat.{ℕ, suc, ◌+◌, ◌-◌, ◌<◌}
use native.Mathlib.Omega.{arith}
use mathlib.Core.List.{List, [], ◌∷◌, ◌++◌}
use mathlib.Core.Bool.{Bool}
use mathlib.Core.Logic.{◌↔◌}
use mathlib.Core.Path.{◌≡◌, refl, sym, ap, ◌∙◌}
use lib.ListN.{length}
use lib.Dec.{leb, ltb}
use borrow.Author.Tests.{leb-false, lt-leb}
use Rattle.text.specs.Lines.{lines_of}
use Rattle.text.specs.Text.{trimmed}
use Rattle.text.specs.Sector.{largest}
use Rattle.text.specs.declared.sector.Sectors.{Sectors}
use Rattle.text.proofs.Flat.{by_test}
use Rattle.lines.specs.Line.{line_of}
use Rattle.lines.specs.declared.line.Said.TheVariants.{Nothing, Extent, Set}
use Rattle.lines.specs.declared.record.Text.{Text}
use Rattle.lines.specs.declared.record.VmdkAccessType.{VmdkAccessType}
use Rattle.lines.specs.declared.record.VmdkParsedStorage.{VmdkParsedStorage}
use Rattle.lines.specs.declared.record.VmdkParsedStorage.TheVariants.{NoAccess, Zero, Flat}
use Rattle.descriptor.specs.Read.{read_of}
use Rattle.tables.specs.declared.table.Table.{Table}
use Rattle.tables.specs.declared.table.Piece.{Piece}
use Rattle.tables.specs.declared.table.PieceSource.{PieceSource}
use Rattle.tables.specs.declared.table.PieceSource.TheVariants.{Zero as ZeroPiece, Raw as RawPiece}
use Rattle.tables.specs.declared.table.ShallowMapping.TheVariants.{Eof, Zero as ZeroAt, Raw}
use Rattle.lines.specs.declared.line.Said.{Said}
use Rattle.tables.specs.declared.table.ShallowMapping.{ShallowMapping}
use Rattle.lines.specs.declared.record.Fault.{Fault}
use Rattle.lines.specs.declared.record.Fault.TheVariants.{Inaccessible, OffsetTooLarge}
use Rattle.maps.specs.Alike.{AlikeTables}
use Rattle.maps.specs.Map.{map_of}
use Rattle.maps.specs.Place.{Place, past as end, locked as locked_by, zeros as zeros_by, file as file_by, within, bytes_in, place_from, place_of}
use Rattle.maps.specs.Walk.{Walk}
use Rattle.theorems.specs.Statements.{place_after, sayings, sayings_of, extents_in, LineAt}
use Rattle.theorems.specs.Rows.{Builds}
use Rattle.theorems.specs.Maps.{shown, run_at, MapsBy}
use Rattle.theorems.specs.Tiling.{source_at, Placed, Tiles}
use Rattle.theorems.specs.NamedPlaces.{in_quotes, NamedPlace, past, locked, zeros, file, byte_by, byte_from, place_by, place_in, name_of, name_at, at, refused, seen_by, due_at, TooFar, run_by, MapsNamed, piece_byte, PlacedBy, TilesNamed}
use Rattle.theorems.proofs.Sayings.{extents_more}
use Rattle.theorems.proofs.LineRows.{row_below, row_name}
use Rattle.theorems.proofs.Tiles.{all_map}

-- ---- a place by an extent's number, with the names that the numbers have
abbrev named : (ℕ → List ℕ) → Place → NamedPlace
named f end = past
named f (locked_by i) = locked
named f (zeros_by i) = zeros
named f (file_by i a w) = file (f i) a w

-- the lines that say an extent, from number i on, have these names
abbrev Names : (ℕ → List ℕ) → ℕ → ℕ → List (List ℕ) → Type 0
Names f p i ls =
    (before : List (List ℕ)) (l : List ℕ) (after : List (List ℕ)) → ls ≡ before ++ l ∷ after → (s : Sectors) (a : VmdkAccessType) (name : Text) (start : Sectors) → line_of (place_after p before) l ≡ Ok (Extent (record { sectors = s; storage = Flat a name start })) → f (i + length (extents_in (sayings p before))) ≡ trimmed (in_quotes l)

module _ (f : ℕ → List ℕ) (p : ℕ) (l : List ℕ) (ls : List (List ℕ)) where
  abbrev next : ℕ
  next = p + length l + 1

  names_here : (i : ℕ) → Names f p i (l ∷ ls) → (s : Sectors) (a : VmdkAccessType) (name : Text) (start : Sectors) → line_of p l ≡ Ok (Extent (record { sectors = s; storage = Flat a name start })) → f i ≡ trimmed (in_quotes l)
  unfolding place_after sayings extents_in
  names_here i n s a name start h =
      let e : i + 0 ≡ i = omega arith in rw e at (n [] l ls refl s a name start h)

  names_next : (i j : ℕ) → i + length (extents_in (line_of p l ∷ [])) ≡ j → Names f p i (l ∷ ls) → Names f next j ls
  unfolding place_after sayings
  names_next i j e n before m after q s a name start h =
      let g : i + length (extents_in (line_of p l ∷ sayings next before)) ≡ j + length (extents_in (sayings next before)) =
      omega (arith, extents_more (line_of p l) (sayings next before)) in
      rw g at (n (l ∷ before) m after (rw q) s a name start h)

  -- in the extent that the line says
  byte_named : (i : ℕ) → Names f p i (l ∷ ls) → (s : Sectors) (st : VmdkParsedStorage) → line_of p l ≡ Ok (Extent (record { sectors = s; storage = st })) → (o : ℕ) → byte_by l st o ≡ named f (within i st o)
  byte_named i n s NoAccess h o = refl
  byte_named i n s (Zero a) h o = refl
  byte_named i n s (Flat a name start) h o = rw (names_here i n s a name start h)

  line_named : (i : ℕ) → Names f p i (l ∷ ls) → (o : ℕ) (s : Result Said Fault) → line_of p l ≡ s → ((j : ℕ) → Names f next j ls → (o : ℕ) → place_by next ls o ≡ named f (place_from j (extents_in (sayings next ls)) o)) → byte_from l s o (λ o. place_by next ls o) ≡ named f (place_from i (extents_in (s ∷ sayings next ls)) o)
  unfolding extents_in place_from
  line_named i n o (Ok Nothing) e r = r i (names_next i i (rw e (omega arith)) n) o
  line_named i n o (Ok (Set v)) e r = r i (names_next i i (rw e (omega arith)) n) o
  line_named i n o (Err m) e r = r i (names_next i i (rw e (omega arith)) n) o
  line_named i n o (Ok (Extent x)) e r =
      by_test (ltb o (bytes_in x)) (λ g. rw g (byte_named i n x.sectors x.storage e o))
      (λ g. rw g (r (suc i) (names_next i (suc i) (rw e (omega arith)) n) (o - bytes_in x)))

lines_named : (f : ℕ → List ℕ) (p i : ℕ) (ls : List (List ℕ)) → Names f p i ls → (o : ℕ) → place_by p ls o ≡ named f (place_from i (extents_in (sayings p ls)) o)
unfolding place_by sayings extents_in place_from
lines_named f p i [] n o = refl
lines_named f p i (l ∷ ls) n o =
    line_named f p l ls i n o (line_of p l) refl (λ j m o. lines_named f (p + length l + 1) j ls m o)

-- what is known of the one is known of the other
named_past : (f : ℕ → List ℕ) (q : Place) → named f q ≡ past ↔ q ≡ end
named_past f end = (λ e. refl, λ e. refl)
named_past f (locked_by i) = (λ e. cc, λ e. cc)
named_past f (zeros_by i) = (λ e. cc, λ e. cc)
named_past f (file_by i a w) = (λ e. cc, λ e. cc)

named_run : (f : ℕ → List ℕ) (q : Place) (run : ℕ) → run_by (named f q) run ≡ run_at q run
named_run f end run = refl
named_run f (locked_by i) run = refl
named_run f (zeros_by i) run = refl
named_run f (file_by i a w) run = refl

-- ---- where a refusal is due
due_locked : (q : NamedPlace) → due_at q ≡ refused Inaccessible ↔ q ≡ locked
due_locked past = (λ e. cc, λ e. cc)
due_locked locked = (λ e. refl, λ e. refl)
due_locked zeros = (λ e. cc, λ e. cc)
due_locked (file name f w) = (
  λ e. by_test (leb f largest)
      (λ g. let k : at (file name f w) ≡ refused Inaccessible = rw g at e in cc)
      (λ g. let k : refused OffsetTooLarge ≡ refused Inaccessible = rw g at e in let z : ◌≡◌ {A = ℕ} 22 21 = cc in absurd (omega arith)),
  λ e. cc,
)

due_far : (q : NamedPlace) → due_at q ≡ refused OffsetTooLarge ↔ TooFar q
due_far past = (λ e. let z : ◌≡◌ {A = ℕ} 0 1 = cc in absurd (omega arith), λ h. let e = h.3 in cc)
due_far locked = (λ e. let z : ◌≡◌ {A = ℕ} 21 22 = cc in absurd (omega arith), λ h. let e = h.3 in cc)
due_far zeros = (λ e. let z : ◌≡◌ {A = ℕ} 0 1 = cc in absurd (omega arith), λ h. let e = h.3 in cc)
due_far (file name f w) = (
  λ e. by_test (leb f largest)
      (λ g. let k : at (file name f w) ≡ refused OffsetTooLarge = rw g at e in let z : ◌≡◌ {A = ℕ} 0 1 = cc in absurd (omega arith))
      (λ g. (name, f, w, refl, leb-false f largest g)),
  λ h. let e = h.3 in let q : f ≡ h.1 = cc in let k : largest < f = rw q h.4 in rw (lt-leb f largest k),
)

-- ---- of a table u of the same disk as the one that a descriptor builds
module _ (d : List ℕ) (u t : Table) (same : AlikeTables u t) (a : (read_of d).verdict ≡ (Ok tt)) (b : Builds (read_of d).descriptor t) where
  row_names : Names (name_at d u) 0 0 (lines_of d)
  row_names before l after q s acc name start h =
      let i : ℕ = length (extents_in (sayings 0 before)) in
      let e : 0 + i ≡ i = omega arith in
      let p : ℕ = place_after 0 before in
      let at : LineAt d before l p (suc (length before)) = record { after = after; lines = q; place = refl; number = refl } in
      let below : i < t.count = row_below d t a b before l p _ at (record { sectors = s; storage = Flat acc name start }) h in
      rw e (ap (name_of d) (same.rows i (rw same.count below)).source ∙ row_name d t a b before l p _ at s acc name start h)

  place_named : (o : ℕ) → place_in d o ≡ named (name_at d u) (place_of (extents_in (sayings_of d)) o)
  unfolding place_in place_of
  place_named o = lines_named (name_at d u) 0 0 (lines_of d) row_names o

  -- a piece whose bytes have the places that the extents give them
  piece_named : (s : PieceSource) (i f : ℕ) (w : Bool) (k : ℕ) → named (name_at d u) (source_at s i f w k) ≡ piece_byte d u s i f w k
  piece_named ZeroPiece i f w k = refl
  piece_named RawPiece i f w k = refl

  placed_named : (p : Piece) → Placed (extents_in (sayings_of d)) p → PlacedBy d u p
  placed_named p h k l =
      place_named (p.start + k) ∙ ap (named (name_at d u)) (h k l) ∙ piece_named p.source p.row p.file_offset p.writable k

  pub tiles_named : (start long : ℕ) (w : Walk) → Tiles (extents_in (sayings_of d)) start long w → TilesNamed d u start long w
  tiles_named start long w h =
      record { tiles = h; names = all_map (Placed (extents_in (sayings_of d))) (PlacedBy d u) placed_named w.pieces h.places }

  -- what a mapping shows of a place
  shown_due : (q : Place) → seen_by d u (shown q) ≡ due_at (named (name_at d u) q)
  shown_due end = refl
  shown_due (locked_by i) = refl
  shown_due (zeros_by i) = refl
  shown_due (file_by i f w) = by_test (leb f largest) (λ e. rw e) (λ e. rw e)

  -- a mapping is refused exactly if it shows the refusal
  seen_refused : (m : Result ShallowMapping Fault) (n : Fault) → m ≡ Err n ↔ seen_by d u m ≡ refused n
  seen_refused (Ok Eof) n = (λ e. cc, λ e. cc)
  seen_refused (Ok (ZeroAt i)) n = (λ e. cc, λ e. cc)
  seen_refused (Ok (Raw i f w)) n = (λ e. cc, λ e. cc)
  seen_refused (Err m) n = (λ e. let q : m ≡ n = cc in ap refused q, λ e. let q : m ≡ n = cc in ap Err q)

  module _ (o asked : ℕ) (h : MapsBy (extents_in (sayings_of d)) u o asked) where
    shows : seen_by d u (map_of u o asked).mapping ≡ due_at (place_in d o)
    shows = ap (seen_by d u) h.mapping ∙ shown_due (place_of (extents_in (sayings_of d)) o) ∙ ap due_at (sym (place_named o))

    refused_due : (n : Fault) {P : Type 0} → due_at (place_in d o) ≡ refused n ↔ P → (map_of u o asked).mapping ≡ Err n ↔ P
    refused_due n e =
        let m = seen_refused (map_of u o asked).mapping n in
        (λ q. e.0 (sym shows ∙ m.0 q), λ q. m.1 (shows ∙ e.1 q))

    pub maps_named : MapsNamed d u o asked
    maps_named =
        let ends = named_past (name_at d u) (place_of (extents_in (sayings_of d)) o) in
        record {
          shows = shows;
          no_access = refused_due Inaccessible (due_locked (place_in d o));
          too_far = refused_due OffsetTooLarge (due_far (place_in d o));
          end = (λ e. h.end.0 (ends.0 (sym (place_named o) ∙ e)), λ e. place_named o ∙ ends.1 (h.end.1 e));
          run = rw (place_named o, named_run (name_at d u) (place_of (extents_in (sayings_of d)) o)) h.run;
          row = h.mapping;
        }
