-- What a lent record counts is what is read, and what a lent table counts is what is built from it, whatever the places past the counts hold; so the table in hand is of the same disk as the one of the descriptor alone.
-- Tables of the same disk map and walk alike, and names are asked of counted rows only, so each law of that one table is a law of the table in hand.
-- What is stored of the lines is by recursion on those before the refused one: sound lines say their extents, and there it ends, or the room does.
use Rattle.std.specs.Prelude.{Err, Ok, Result}
use Prim.Native.Nat.{ℕ, zero, suc, ◌+◌, ◌≤◌, min}
use native.Mathlib.Omega.{arith}
use mathlib.Core.List.{List, [], ◌∷◌, ◌++◌, append-nil}
use mathlib.Core.Bool.{false}
use mathlib.Core.Logic.{◌⊎◌, inl, inr}
use mathlib.Core.Path.{◌≡◌, refl, sym, ap, subst, ◌∙◌}
use lib.Dec.{eqb, ltb}
use lib.ListN.{length, take}
use lib.Seq.{take_all, take-append_seam}
use borrow.Author.Tests.{le-leb, le-ltb, ltb-false}
use Rattle.text.specs.Find.{begins}
use Rattle.text.specs.Lines.{lines_of}
use Rattle.text.specs.declared.sector.Bytes.{Bytes}
use Rattle.text.proofs.Flat.{by_test, pick_same}
use Rattle.lines.specs.Record.{most, most_bytes, at_line, read_in, over, no_record}
use Rattle.lines.specs.Line.{line_of}
use Rattle.lines.specs.declared.line.Said.TheVariants.{Nothing, Extent, Set}
use Rattle.lines.specs.declared.record.Record.{Record}
use Rattle.lines.specs.declared.record.Refusal.{Refusal}
use Rattle.lines.specs.declared.record.ReadExtent.{ReadExtent}
use Rattle.lines.specs.declared.record.VmdkParsedExtent.{VmdkParsedExtent}
use Rattle.lines.proofs.Overs.{over_first, over_past, over_length}
use Rattle.descriptor.specs.Read.{least_bytes, sparse, read_of}
use Rattle.descriptor.specs.Into.{then_said, said_before, stored_of, read_into}
use Rattle.descriptor.proofs.Intos.{stored_few as read_few, refused_none as Read-none, sound_count, into_desc, into_count as read_count, into_read as read_same}
use Rattle.tables.specs.declared.table.Mapping.{Mapping}
use Rattle.tables.specs.declared.table.Stop.TheVariants.{Done}
use Rattle.tables.specs.declared.table.Table.{Table}
use Rattle.lines.specs.declared.line.Said.{Said}
use Rattle.lines.specs.declared.record.Fault.{Fault}
use Rattle.maps.specs.Alike.{AlikeTables, SameTable}
use Rattle.tables.specs.Build.{Built, no_table, rows_from, build_of}
use Rattle.tables.specs.Into.{stored_rows, build_into}
use Rattle.tables.proofs.Into.{refused_none, stored_few, stored_sound, into_size, into_count, into_counted, build_same}
use Rattle.maps.specs.Map.{ended, map_of}
use Rattle.maps.specs.Place.{Reachable}
use Rattle.maps.specs.Walk.{Walk, ends, unless_over, walk_from, walk_of}
use Rattle.maps.proofs.Alike.{same_table, map_alike, walk_alike}
use Rattle.theorems.specs.Statements.{ByLine, place_after, sayings, sayings_of, extents_in, read_from, refuses, AllSound, RefusedWith, FirstRefused}
use Rattle.theorems.specs.Rows.{Builds}
use Rattle.theorems.specs.Maps.{MapsBy}
use Rattle.theorems.specs.Tiling.{Tiles}
use Rattle.theorems.specs.LentAgain.{in_hand, fresh, NoDisk, LentAgain, BuiltAgain, Stored, ReadLeaves, BuildLeaves}
use Rattle.theorems.proofs.Built.{sound_build}
use Rattle.theorems.proofs.LineRows.{from_line, from_same}
use Rattle.theorems.proofs.Sayings.{read_length}
use Rattle.theorems.proofs.NamedPlaces.{maps_named, tiles_named}

-- ---- the empty table
none_maps : (o asked : ℕ) → map_of no_table o asked ≡ ended 0
unfolding map_of
none_maps o asked = rw (le-leb 0 o (omega arith))

none_over : (pos left : ℕ) (go : Walk) → unless_over no_table pos left go ≡ ends (Ok Done) pos 0
none_over pos left go = rw (le-leb 0 pos (omega arith)) (pick_same (eqb left 0) (ends (Ok Done) pos 0))

none_from : (room pos left : ℕ) → walk_from room no_table pos left ≡ ends (Ok Done) pos 0
unfolding walk_from
none_from zero pos left = none_over pos left _
none_from (suc room) pos left = none_over pos left _

none_walks : (places pos left : ℕ) → walk_of no_table places pos left ≡ ends (Ok Done) pos 0
unfolding walk_of
none_walks places pos left = none_from (min places most) pos left

no_disk : (t : Table) → SameTable t no_table → NoDisk t
no_disk t same =
    let alike = same.alike in
    record {
      count = alike.count;
      size = ap (λ (b : Bytes). b.0) alike.size;
      maps = λ o asked. map_alike t no_table alike o asked ∙ none_maps o asked;
      walks = λ places start long. walk_alike t no_table alike places start long ∙ none_walks places start long;
    }

-- the empty record builds it
none_builds : (build_of no_record).table ≡ no_table
unfolding build_of read_in rows_from
none_builds = refl

-- ---- what is built
built_disk : (r : Record) (t : Table) → SameTable (build_into r t) (build_of r).table
built_disk r t = same_table (build_into r t) (build_of r).table (into_size r t) (into_count r t) (into_counted r t)

pub built_alike : (r : Record) (t : Table) → BuiltAgain r t
built_alike r t =
    let same = built_disk r t in
    let alike = same.alike in
    record { table = same; maps = map_alike (build_into r t) (build_of r).table alike; walks = walk_alike (build_into r t) (build_of r).table alike }

-- ---- what is in hand
module _ (d : List ℕ) (r : Record) (t : Table) where
  builds_same : build_of (read_into d r) ≡ build_of (read_of d).descriptor
  builds_same = build_same (read_into d r) (read_of d).descriptor (read_count d r) (read_same d r)

  verdict_same : (build_of (read_into d r)).verdict ≡ (build_of (read_of d).descriptor).verdict
  verdict_same = ap (λ (b : Built). b.verdict) builds_same

  table_same : SameTable (in_hand d r t) (fresh d)
  table_same = subst (SameTable (in_hand d r t)) (ap (λ (b : Built). b.table) builds_same) (built_disk (read_into d r) t)

  alike_hand : AlikeTables (in_hand d r t) (fresh d)
  alike_hand = table_same.alike

  -- a refusal's table is the empty one
  fresh_none : (x : Refusal) → ((read_of d).verdict ≡ Err x) ⊎ ((build_of (read_into d r)).verdict ≡ Err x) → fresh d ≡ no_table
  fresh_none x (inl e) = ap (λ (z : Record). (build_of z).table) (Read-none d x e) ∙ none_builds
  fresh_none x (inr e) = refused_none (read_of d).descriptor x (sym verdict_same ∙ e)

  -- the descriptor alone builds its table
  builds : (build_of (read_into d r)).verdict ≡ (Ok tt) → Builds (read_of d).descriptor (fresh d)
  builds b = sound_build (read_of d).descriptor (sym verdict_same ∙ b)

  maps_in_hand : (xs : List VmdkParsedExtent) (o asked : ℕ) → MapsBy xs (fresh d) o asked → MapsBy xs (in_hand d r t) o asked
  maps_in_hand xs o asked h =
      let e = map_alike (in_hand d r t) (fresh d) alike_hand o asked in
      record { end = h.end; mapping = ap (λ (m : Mapping). m.mapping) e ∙ h.mapping; run = ap (λ (m : Mapping). m.run) e ∙ h.run }

  -- where the laws of mapping and of the walk hold of the table of the descriptor alone, all holds of what is in hand
  pub lent_alike : ((read_of d).verdict ≡ (Ok tt) → Builds (read_of d).descriptor (fresh d) → (o asked : ℕ) → MapsBy (extents_in (sayings_of d)) (fresh d) o asked) → ((read_of d).verdict ≡ (Ok tt) → Builds (read_of d).descriptor (fresh d) → Reachable (extents_in (sayings_of d)) → (places start long : ℕ) → most ≤ places → Tiles (extents_in (sayings_of d)) start long (walk_of (fresh d) places start long)) → LentAgain d r t
  lent_alike m w =
      let walks = walk_alike (in_hand d r t) (fresh d) alike_hand in
      record {
        values = into_desc d r;
        extents = read_same d r;
        verdict = verdict_same;
        table = table_same;
        lines = λ a b i h. from_same d (in_hand d r t) (fresh d) table_same i h (from_line d (fresh d) a (builds b) i (rw (← alike_hand.count) h));
        maps = map_alike (in_hand d r t) (fresh d) alike_hand;
        walks = walks;
        bytes = λ a b o asked. maps_named d (in_hand d r t) (fresh d) alike_hand a (builds b) o asked (maps_in_hand (extents_in (sayings_of d)) o asked (m a (builds b) o asked));
        pieces = λ a b h places start long l. tiles_named d (in_hand d r t) (fresh d) alike_hand a (builds b) start long (walk_of (in_hand d r t) places start long) (rw (walks places start long) (w a (builds b) h places start long l));
        nothing = λ x e. no_disk (in_hand d r t) (rw (fresh_none x e) at table_same);
      }

-- ---- what is left
stored_over : {A : Type 0} (had list : List A) → length had ≡ most → length list ≤ most → Stored had list (over list had)
stored_over had list l few = record { long = over_length list had (omega (arith, l, few)); written = over_first list had; kept = λ i none h. over_past list had i none h }

-- ---- what is stored of the lines
-- sound lines say their extents, before what the lines after them say
said_one : (k : ℕ) (s : Result Said Fault) (ss : List (Result Said Fault)) (rest more : List ReadExtent) → refuses (s ∷ ss) ≡ false → (refuses ss ≡ false → rest ≡ read_from (suc k) ss ++ more) → then_said k s rest ≡ read_from k (s ∷ ss) ++ more
unfolding refuses read_from
said_one k (Ok Nothing) ss rest more h g = g h
said_one k (Ok (Set v)) ss rest more h g = g h
said_one k (Ok (Extent x)) ss rest more h g = ap (λ (xs : List ReadExtent). at_line k x ∷ xs) (g h)
said_one k (Err n) ss rest more h g = let z : ◌≡◌ {A = ℕ} 0 1 = cc in absurd (omega arith)

said_all : (k p : ℕ) (before ls : List (List ℕ)) → refuses (sayings p before) ≡ false → said_before k p (before ++ ls) ≡ read_from k (sayings p before) ++ said_before (k + length before) (place_after p before) ls
unfolding said_before sayings place_after read_from
said_all k p [] ls h = let e : k + 0 ≡ k = omega arith in rw e
said_all k p (l ∷ before) ls h =
    let e : suc k + length before ≡ k + suc (length before) = omega arith in
    said_one k (line_of p l) (sayings (p + length l + 1) before) (said_before (suc k) (p + length l + 1) (before ++ ls)) (said_before (k + suc (length before)) (place_after (p + length l + 1) before) ls) h
    (λ g. said_all (suc k) (p + length l + 1) before ls g ∙ rw e)

-- and where they are followed by no line or by a refused one, no more is stored
cut_end : (xs : List ReadExtent) → length xs ≤ most → take most (xs ++ []) ≡ xs
cut_end xs h = rw (append-nil xs) (take_all most xs h)

cut_refused : (n : Fault) (k : ℕ) (s : Result Said Fault) (xs rest : List ReadExtent) → length xs ≤ most → RefusedWith n (length xs) s → take most (xs ++ then_said k s rest) ≡ xs
cut_refused n k (Ok Nothing) xs rest h r = absurd r
cut_refused n k (Ok (Set v)) xs rest h r = absurd r
cut_refused n k (Err m) xs rest h r = cut_end xs h
cut_refused n k (Ok (Extent x)) xs rest h r = ap (λ (j : ℕ). take j (xs ++ at_line k x ∷ rest)) (sym r.1) ∙ take-append_seam xs (at_line k x ∷ rest)

stored_by_line : (d : List ℕ) → ByLine d → stored_of d ≡ take most (said_before 1 0 (lines_of d))
unfolding stored_of
stored_by_line d b = rw (le-ltb (length d) least_bytes b.least, le-ltb most_bytes (length d) b.small, b.plain)

stored_whole : (d : List ℕ) → ByLine d → AllSound (sayings_of d) → stored_of d ≡ read_from 1 (sayings_of d)
unfolding said_before
stored_whole d b a =
    stored_by_line d b ∙ ap (λ (ls : List (List ℕ)). take most (said_before 1 0 ls)) (sym (append-nil (lines_of d)))
    ∙ ap (take most) (said_all 1 0 (lines_of d) [] a.0) ∙ cut_end (read_from 1 (sayings_of d)) (rw (read_length 1 (sayings_of d)) a.1)

stored_before : (d l : List ℕ) (n : Fault) (k : ℕ) → ByLine d → (f : FirstRefused d l n k) → stored_of d ≡ read_from 1 (sayings 0 f.before)
unfolding said_before
stored_before d l n k b f =
    let p = place_after 0 f.before in
    let ss = sayings 0 f.before in
    let xs = read_from 1 ss in
    let k' : ℕ = 1 + length f.before in
    let r : RefusedWith n (length xs) (line_of p l) = rw (read_length 1 ss) (subst (λ (i : ℕ). RefusedWith n (length (extents_in ss)) (line_of i l)) f.line.place f.refused) in
    stored_by_line d b ∙ ap (λ (ls : List (List ℕ)). take most (said_before 1 0 ls)) f.line.lines
    ∙ ap (take most) (said_all 1 0 f.before (l ∷ f.line.after) f.sound.0) ∙ cut_refused n k' (line_of p l) xs (said_before (suc k') (p + length l + 1) f.line.after) (rw (read_length 1 ss) f.sound.1) r

stored_none : (d : List ℕ) → (ByLine d → ⊥) → stored_of d ≡ []
unfolding stored_of
stored_none d unread =
    by_test (ltb (length d) least_bytes) (λ e. rw e)
    (λ e. by_test (ltb most_bytes (length d)) (λ e₂. rw (e, e₂))
    (λ e₂. by_test (begins d sparse) (λ e₃. rw (e, e₂, e₃))
    (λ e₃. absurd (unread (record { least = ltb-false (length d) least_bytes e; small = ltb-false most_bytes (length d) e₂; plain = e₃ })))))

pub read_leaves : (d : List ℕ) (r : Record) → ReadLeaves d r
unfolding read_into
read_leaves d r =
    record {
      places = λ l. stored_over r.extents (stored_of d) l (read_few d);
      whole = stored_whole d;
      before = stored_before d;
      none = stored_none d;
      sound = λ e. sym (sound_count d e);
      refused = λ x e. let h = Read-none d x e in (ap (λ (z : Record). z.count) h, ap (λ (z : Record). z.desc) h);
    }

pub build_leaves : (r : Record) (t : Table) → BuildLeaves r t
unfolding build_into
build_leaves r t =
    record {
      places = λ l. stored_over t.rows (stored_rows r) l (stored_few r);
      sound = λ e. sym (stored_sound r e);
      refused = λ x e. let h = refused_none r x e in (ap (λ (z : Table). z.count) h, ap (λ (z : Table). z.size.0) h);
    }
