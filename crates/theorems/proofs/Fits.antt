-- An answer is a few lines and at most one line for each row, in which its name stands, and the names lie in the input.
-- So it has at most as many bytes as the input, with row_most more for each row and head_most besides.
-- Assumes nothing.
use Rattle.std.specs.Prelude.{Err, None, Ok, Option, Result, Some}
use Prim.Native.Nat.{ℕ, suc, ◌+◌, ◌*◌, ◌<◌, ◌≤◌, min}
use native.Mathlib.Omega.{arith}
use mathlib.Core.List.{List, [], ◌∷◌}
use mathlib.Core.Bool.{true, false}
use mathlib.Core.Logic.{◌⊎◌, inl, inr}
use mathlib.Core.Path.{◌≡◌, refl, ap, subst}
use lib.ListN.{length, replicate, length-append}
use lib.Seq.{take_all, take-append_seam}
use lib.Dec.{leb, eqb}
use borrow.Author.Tests.{leb-true, leb-false}
use Rattle.text.specs.Ranges.{within}
use Rattle.text.specs.Sector.{largest}
use Rattle.text.specs.Ascii.{ascii}
use Rattle.text.specs.Find.{same}
use Rattle.text.specs.Number.{number_of}
use Rattle.text.proofs.Flat.{by_test, pick_all}
use Rattle.text.proofs.Numerals.{number_out}
use Rattle.lines.specs.Record.{most, no_desc, no_extent, filled, counted}
use Rattle.lines.specs.declared.record.Refusal.{Refusal}
use Rattle.lines.specs.declared.record.VmdkParsedExtent.{VmdkParsedExtent}
use Rattle.lines.specs.declared.record.VmdkParsedStorage.{VmdkParsedStorage}
use Rattle.lines.specs.declared.record.VmdkParsedStorage.TheVariants.{NoAccess, Zero, Flat}
use Rattle.descriptor.specs.Read.{read_of}
use Rattle.probing.specs.Probe.{probe_of}
use Rattle.tables.specs.Build.{no_row}
use Rattle.tables.specs.declared.table.Row.{Row}
use Rattle.tables.specs.declared.table.Table.{Table}
use Rattle.tables.specs.declared.table.Piece.{Piece}
use Rattle.tables.specs.declared.table.ShallowMapping.TheVariants.{Eof, Zero as Zeroed, Raw}
use Rattle.maps.specs.Map.{map_of}
use Rattle.maps.specs.Place.{bytes_in}
use Rattle.maps.specs.Walk.{walk_of, walked}
use Rattle.phrases.specs.Line.{lines_from, lines_to, name_of, source_at, refused_line}
use Rattle.disk_lines.specs.Report.{row_line, table_lines}
use Rattle.map_lines.specs.Map.{mapping_line}
use Rattle.walk_lines.specs.Walk.{piece_line, walk_lines}
use Rattle.report.specs.Command.{most_input, map_by, walk_by, range_of, places_of, command_of, said, answer_of}
use Rattle.report.specs.Room.{row_most, head_most, room}
use Rattle.report.specs.declared.command.Command.{Command}
use Rattle.report.specs.declared.command.Command.TheVariants.{Report, Map, Walk as Walks, Usage}
use Rattle.tables.specs.declared.table.ShallowMapping.{ShallowMapping}
use Rattle.lines.specs.declared.record.Fault.{Fault}
use Rattle.lines.specs.Fault.{refusal_number}
use Rattle.theorems.specs.Reports.{RefusedBy, Opens, OfTable, total, Asked}
use Rattle.theorems.specs.Rows.{source_of, line_at}
use Rattle.theorems.specs.Statements.{sayings_of}
use Rattle.theorems.specs.Tiling.{All, Rise, rows_of}
use Rattle.theorems.proofs.Built.{FileStarts, Numbers, row_of, laid, table_in, table_laid}
use Rattle.theorems.proofs.Enough.{Gives, gives}
use Rattle.theorems.proofs.Halving.{looked_most}
use Rattle.theorems.proofs.Joins.{walk_of_lem}
use Rattle.theorems.proofs.Limits.{Few, walk_few}
use Rattle.theorems.proofs.NameSums.{line_bytes, lines_names, accepted_names}
use Rattle.theorems.proofs.Reports.{only_refused, built_written, refused_or_opens, answer_short, answer_long}
use Rattle.theorems.proofs.Rising.{rise_few, count_is, size_small, table_rises, table_stops}
use Rattle.theorems.proofs.Rows.{row_in}
use Rattle.theorems.proofs.Sayings.{set_all}
use Rattle.theorems.proofs.SecondNumbers.{AtMost, read_most, read_lined, build_most}
use Rattle.theorems.proofs.Totals.{span, total_rise, span_total}
use Rattle.theorems.proofs.Verdicts.{accepted_checked}
use Rattle.theorems.proofs.Widths.{Starts, Shows, shown_name, Numbered, probe_short, refused_short, head_short, row_short, mapping_short, piece_short, stop_short}

-- ---- the rows of extents
starts_of : (st : VmdkParsedStorage) → FileStarts st → Starts (source_of st)
starts_of NoAccess h = tt
starts_of (Zero a) h = tt
starts_of (Flat a name start) h = h

rows_fit : (d : List ℕ) (ln : ℕ → ℕ) (k start : ℕ) (xs : List VmdkParsedExtent) → start ≤ largest → Numbers start xs → k + length xs ≤ largest → length (lines_from (row_line d) k (laid ln start xs)) ≤ total (line_bytes d) xs
unfolding lines_from laid total
rows_fit d ln k start [] h n l = omega arith
rows_fit d ln k start (x ∷ xs) h n l =
    simp length-append
    (omega (arith, row_short d k (row_of (ln 0) start x) (omega arith) h n.0 (starts_of x.storage n.1), rows_fit d (λ i. ln (suc i)) (suc k) (start + bytes_in x) xs n.0 n.2 (omega arith)))

-- ---- the pieces of a walk
-- the most bytes of the line of a piece by row i
abbrev piece_bytes : List ℕ → List Row → ℕ → ℕ
piece_bytes d rows i = row_most + length (name_of d (source_at rows i))

pieces_fit : (d : List ℕ) (rows : List Row) (k : ℕ) (ps : List Piece) → All Numbered ps → length (lines_from (piece_line d rows) k ps) ≤ total (piece_bytes d rows) (rows_of ps)
unfolding lines_from total
pieces_fit d rows k [] h = omega arith
pieces_fit d rows k (p ∷ ps) h = simp length-append (omega (arith, piece_short d rows k p h.0, pieces_fit d rows (suc k) ps h.1))

-- ---- a table of extents
module _ (d : List ℕ) (ln : ℕ → ℕ) (xs : List VmdkParsedExtent) (few : length xs ≤ most) (n : Numbers 0 xs) where
  abbrev t : Table
  t = table_in ln xs

  table_fits : (version : ℕ) → version ≤ largest → length (table_lines d version t) ≤ 84 + total (line_bytes d) xs
  unfolding table_lines lines_to filled
  table_fits version h =
      rw (take-append_seam (laid ln 0 xs) (replicate _ no_row))
      (simp length-append
      (omega (arith, head_short version t.size.0 t.count h (size_small ln xs few n) (omega (arith, count_is ln xs)), rows_fit d ln 0 0 xs (omega arith) n (omega arith))))

  -- the lines of rows that rise
  rows_once : (ks : List ℕ) → Rise 0 ks → All (λ (k : ℕ). k < t.count) ks → total (piece_bytes d t.rows) ks ≤ total (line_bytes d) xs
  rows_once ks r a =
      let f = piece_bytes d t.rows in
      let e : span f 0 (length xs) ≡ total (line_bytes d) xs = span_total f (line_bytes d) no_extent xs 0
      (λ j h. let z : 0 + j ≡ j = omega arith in rw z (ap (λ (r : Row). row_most + length (name_of d r.source)) (row_in ln xs j h))) in
      omega (arith, total_rise f t.count (length xs) 0 ks (omega (arith, count_is ln xs)) r a)

  -- ---- a mapping
  shows_of : (o asked : ℕ) (m : Result ShallowMapping Fault) (run : ℕ) → Gives t o asked m run → Shows m run × (shown_name d t.rows m ≤ total (line_bytes d) xs)
  unfolding total
  shows_of o asked (Ok Eof) run g = (tt, omega arith)
  shows_of o asked (Err k) run g = (omega arith, omega arith)
  shows_of o asked (Ok (Zeroed i)) run g = ((omega (arith, size_small ln xs few n, g.2), omega (arith, count_is ln xs, g.0)), omega arith)
  shows_of o asked (Ok (Raw i at w)) run g =
      let c = g.0 in
      ((omega (arith, size_small ln xs few n, c.2), omega (arith, count_is ln xs, c.0), g.1), omega (arith, rows_once (i ∷ []) (omega arith, tt) (c.0, tt)))

  map_fits : (o asked : ℕ) → length (mapping_line d t.rows (map_of t o asked)) ≤ 111 + total (line_bytes d) xs
  map_fits o asked =
      let m = map_of t o asked in
      let g = shows_of o asked m.mapping m.run (gives t o asked) in
      let l : m.looked ≤ 64 = looked_most t o asked 64 (omega (arith, count_is ln xs)) in
      omega (arith, mapping_short d t.rows m (omega arith) g.0, g.1)

  -- ---- a walk
  walk_fits : (places o asked : ℕ) → o ≤ largest → length (walk_lines d t.rows (walk_of t places o asked)) ≤ 111 + total (line_bytes d) xs
  unfolding walk_lines lines_to
  walk_fits places o asked h =
      let w = walk_of t places o asked in
      let r = table_rises ln xs few n places o asked in
      let s = table_stops ln xs few n places o asked h in
      let k = rise_few t.count 0 (rows_of w.pieces) (omega arith) r.0 r.1 in
      let l : length w.pieces ≤ most = omega (arith, rows_many w.pieces, count_is ln xs) in
      let f : Few w = rw (walk_of_lem t places o asked (omega (arith, count_is ln xs))) (walk_few (min places most) t o asked) in
      rw (take_all (length w.pieces) w.pieces (omega arith))
      (simp length-append
      (omega (arith, pieces_fit d t.rows 0 w.pieces r.2, rows_once (rows_of w.pieces) r.0 r.1, stop_short (walked w) s.0 s.1 (omega arith) (omega arith))))
    where
      rows_many : (ps : List Piece) → length (rows_of ps) ≡ length ps
      rows_many [] = refl
      rows_many (p ∷ ps) = ap suc (rows_many ps)

-- ---- an input
-- the version of a descriptor that is read
version_small : (d : List ℕ) → (read_of d).verdict ≡ (Ok tt) → (read_of d).descriptor.desc.version ≤ 3
version_small d e =
    let a = accepted_checked d e in
    rw a.1 (upto (set_all no_desc (sayings_of d)).version a.0)
  where
    upto : (v : ℕ) → within 1 3 v ≡ true → v ≤ 3
    upto v h = by_test (leb 1 v) (λ e. leb-true v 3 (rw e at h))
        (λ e. let g : false ≡ true = rw e at h in let z : ◌≡◌ {A = ℕ} 0 1 = cc in absurd (omega arith))

refused_small : (d : List ℕ) → length d ≤ most_input → (x : Refusal) → RefusedBy d x → length (refused_line x) ≤ 50
refused_small d h x (inl e) =
    let g : (refusal_number x.fault ≤ 24) × (x.second ≤ largest) = subst (AtMost largest) e (read_most largest d (omega arith)) in
    refused_short x (omega arith) g.1
refused_small d h x (inr e) =
    let g : (refusal_number x.fault ≤ 24) × (x.second ≤ largest) = subst (AtMost largest) e.1 (build_most largest (read_of d).descriptor (read_lined largest d (omega arith) e.0)) in
    refused_short x (omega arith) g.1

-- the most bytes of an answer to so many bytes
abbrev pub answer_most : ℕ → ℕ
answer_most n = n + most * row_most + head_most

-- only a refusal
refused_fits : (d : List ℕ) → length d ≤ most_input → (x : Refusal) → RefusedBy d x → (c : Command) → length (said d c) ≤ answer_most (length d)
refused_fits d h x r Report =
    rw (only_refused d x r).report (simp length-append (omega (arith, probe_short (probe_of d), refused_small d h x r)))
refused_fits d h x r (Map offset long) = rw ((only_refused d x r).map offset long) (omega (arith, refused_small d h x r))
refused_fits d h x r (Walks offset long places) = rw ((only_refused d x r).walk offset long places) (omega (arith, refused_small d h x r))
refused_fits d h x r Usage = omega arith

-- what is said of its table
table_said : (d : List ℕ) (ln : ℕ → ℕ) (xs : List VmdkParsedExtent) → length xs ≤ most → Numbers 0 xs → total (line_bytes d) xs ≤ length d + most * row_most → (read_of d).descriptor.desc.version ≤ 3 → OfTable d (table_in ln xs) → (c : Command) → Asked c → length (said d c) ≤ answer_most (length d)
table_said d ln xs few n l v o Report a =
    rw o.report (simp length-append (omega (arith, probe_short (probe_of d), table_fits d ln xs few n (read_of d).descriptor.desc.version (omega arith))))
table_said d ln xs few n l v o (Map offset long) a = rw (o.map offset long) (omega (arith, map_fits d ln xs few n offset long))
table_said d ln xs few n l v o (Walks offset long places) a =
    rw (o.walk offset long places) (omega (arith, walk_fits d ln xs few n places offset long a))
table_said d ln xs few n l v o Usage a = omega arith

opened_fits : (d : List ℕ) (t : Table) → Opens d t → (c : Command) → Asked c → length (said d c) ≤ answer_most (length d)
opened_fits d t o =
    let g = table_laid (read_of d).descriptor t o.1 in
    let xs = counted (read_of d).descriptor in
    table_said d (line_at (read_of d).descriptor) xs g.1 g.2 (omega (arith, lines_names d xs, accepted_names d o.0, g.1)) (version_small d o.0)
    (subst (OfTable d) g.0 (built_written d o.0 t o.1))

pub said_fits : (d : List ℕ) (c : Command) → length d ≤ most_input → Asked c → length (said d c) ≤ answer_most (length d)
said_fits d c h a = by (refused_or_opens d)
  where
    by : ((x : Refusal) × RefusedBy d x) ⊎ ((t : Table) × Opens d t) → length (said d c) ≤ answer_most (length d)
    by (inl (x, r)) = refused_fits d h x r c
    by (inr (t, o)) = opened_fits d t o c a

pub answer_bound : (d : List ℕ) (c : Command) → Asked c → length (answer_of d c) ≤ answer_most most_input
answer_bound d c a =
    by_test (leb (length d) most_input)
    (λ e. let h = leb-true (length d) most_input e in rw (answer_short d c h) (omega (arith, said_fits d c h a)))
    (λ e. rw (answer_long d c (leb-false (length d) most_input e)) (omega arith))

-- The only step that knows the numbers: with another `most`, `most_input`, `row_most` or `head_most`, `room` is what has to be made larger.
pub room_enough : answer_most most_input ≤ room
room_enough = omega arith

-- ---- what the program's arguments ask
map_asked : (x y : Option ℕ) → Asked (map_by x y)
map_asked (Some o) (Some l) = tt
map_asked (Some o) None = tt
map_asked None y = tt

walk_asked : (a : List ℕ) (x y z : Option ℕ) → number_of largest a ≡ x → Asked (walk_by (map_by x y) z)
walk_asked a (Some o) (Some l) (Some p) e = (number_out largest a e).3
walk_asked a (Some o) (Some l) None e = tt
walk_asked a (Some o) None z e = tt
walk_asked a None y z e = tt

pub command_asked : (n : ℕ) (mode a b c : List ℕ) → Asked (command_of n mode a b c)
unfolding command_of range_of places_of
command_asked n mode a b c =
    pick_all Asked (eqb n 0) Report _ tt
    (pick_all Asked (eqb n 1) _ _ (pick_all Asked (same mode (ascii "report")) Report Usage tt tt)
    (pick_all Asked (eqb n 3) _ _ (pick_all Asked (same mode (ascii "map")) (range_of a b) Usage (map_asked (number_of largest a) (number_of largest b)) tt)
    (pick_all Asked (eqb n 4) _ Usage (pick_all Asked (same mode (ascii "walk")) (places_of a b c) Usage (walk_asked a (number_of largest a) (number_of largest b) (number_of most c) refl) tt) tt)))
