-- The theorems of the whole, in the document's words: start here. In order: reading, building, places with names, mapping, demand 3, the report, refusals. Each is about
-- definitions that the contract of an exported function names, and is proved by citing a law; the words of the statements stand in specs/. TheoremsOfText.antt is the page of the text layer.
-- Assumes nothing.
use Rattle.std.specs.Prelude.{Err, Ok}
use Prim.Native.Nat.{ℕ, ◌≤◌, ◌<◌, ◌+◌, ◌*◌, ◌-◌}
use mathlib.Core.List.{List, map, [], ◌∷◌, ◌++◌}
use mathlib.Core.Logic.{◌↔◌, ◌⊎◌}
use mathlib.Core.Bool.{true, false}
use mathlib.Core.Path.{◌≡◌, sym, ◌∙◌, subst}
use lib.ListN.{length, take}
use Rattle.text.specs.Lines.{lines_of}
use Rattle.text.specs.Ranges.{within}
use Rattle.text.specs.Text.{text_at, sound, trimmed}
use Rattle.text.specs.declared.sector.Sectors.{Sectors}
use Rattle.lines.specs.Record.{most, no_record, read_in, counted, refusal, most_bytes}
use Rattle.lines.specs.Line.{line_of}
use Rattle.descriptor.specs.Read.{read_of, least_bytes, sparse}
use Rattle.probing.specs.Probe.{probe_of}
use Rattle.theorems.specs.Statements.{ByLine, sayings_of, extents_in, read_from, AllSound, first_version, last_version, LineAt, FirstRefused, Quotes, text_in, ExtentIn, sayings}
use Rattle.lines.specs.declared.line.Said.TheVariants.{Extent}
use Rattle.lines.specs.declared.record.Text.{Text}
use Rattle.lines.specs.declared.record.Refusal.{Refusal}
use Rattle.lines.specs.declared.record.VmdkAccessType.{VmdkAccessType}
use Rattle.lines.specs.declared.record.VmdkParsedStorage.TheVariants.{Flat as Parsed-as-Flat}
use Rattle.lines.specs.declared.record.VmdkParsedExtent.{VmdkParsedExtent}
use Rattle.descriptor.proofs.Intos.{refused_none as Read-none}
use Rattle.theorems.proofs.Faults.{number_within, number_taken, number_once}
use Rattle.theorems.proofs.Verdicts.{line_refused, line_no_text, accepted_lines, accepted_read, accepted_extents}
use Rattle.theorems.proofs.Versions.{probe_accepted, last_accepted, probe_refused, last_refused}
use Rattle.theorems.proofs.LinePlaces.{lies}
use Rattle.theorems.proofs.ExtentLines.{file_named}
use Rattle.theorems.specs.LineWords.{Item, NameAt}
use Rattle.theorems.specs.Values.{held_in, LastSaid}
use Rattle.theorems.proofs.LastValues.{last_held}
use Rattle.lines.specs.declared.record.Record.{Record}
use Rattle.tables.specs.declared.table.Table.{Table}
use Rattle.maps.specs.Place.{Reachable, size_of}
use Rattle.maps.proofs.Alike.{alike_itself, map_alike, walk_alike}
use Rattle.maps.specs.Walk.{walk_of}
use Rattle.theorems.specs.Rows.{Builds, row_at, InRows}
use Rattle.theorems.specs.Looks.{Finds, FewLooks}
use Rattle.theorems.specs.Maps.{MapsBy}
use Rattle.theorems.specs.Tiling.{no_access_from, FirstNoAccess, met_by, Met, Tiles, Rise, rows_of}
use Rattle.theorems.specs.Cases.{Case, cases, lines, report}
use Rattle.theorems.specs.Continuing.{Continues, ContinuesWhole}
use Rattle.theorems.proofs.Rows.{built_in_rows}
use Rattle.theorems.proofs.Halving.{few_looks, built_finds}
use Rattle.theorems.proofs.Maps.{built_maps}
use Rattle.theorems.proofs.Tiling.{built_tiles}
use Rattle.theorems.proofs.Limits.{no_access_first}
use Rattle.theorems.proofs.Shared.{met_is}
use Rattle.theorems.proofs.Marked.{cases_due}
use Rattle.theorems.proofs.Continuing.{continues, built_continues}
use Rattle.tables.specs.declared.table.Piece.{Piece}
use Rattle.lines.specs.Alike.{AlikeRecords}
use Rattle.maps.specs.Alike.{AlikeTables}
use Rattle.tables.specs.Build.{no_table, build_of}
use Rattle.theorems.specs.NamedPlaces.{in_quotes, ExtentFrom, FromLine, place_in, MapsNamed, TilesNamed}
use Rattle.theorems.specs.NamedCases.{joined, Joint, joints}
use Rattle.theorems.specs.Counted.{OnlyCounted}
use Rattle.theorems.specs.LentAgain.{BuiltAgain, fresh, LentAgain, ReadLeaves, BuildLeaves}
use Rattle.theorems.proofs.LineRows.{quotes_in, extent_from, from_line, row_below, lines_rise as rows-rise}
use Rattle.theorems.proofs.NamedPlaces.{maps_named, tiles_named}
use Rattle.theorems.proofs.NamedCases.{joints_due}
use Rattle.theorems.proofs.Counted.{only_counted}
use Rattle.theorems.proofs.LentAgain.{built_alike, lent_alike, read_leaves, build_leaves}
use Rattle.tables.proofs.Into.{refused_none as built-none}
use Rattle.theorems.proofs.Built.{sound_build}
use native.Mathlib.Omega.{arith}
use Rattle.text.specs.Ascii.{ascii}
use Rattle.text.specs.Sector.{largest}
use Rattle.text.specs.declared.sector.Bytes.{Bytes}
use Rattle.tables.specs.declared.table.Source.TheVariants.{Flat}
use Rattle.tables.specs.declared.table.Row.{Row}
use Rattle.puts.specs.Decimal.{decimal_of}
use Rattle.puts.specs.Put.{pasted, after}
use Rattle.puts.proofs.Puts.{pasted_start}
use Rattle.phrases.specs.Line.{name_in, access_word}
use Rattle.disk_lines.specs.Report.{row_line, report_of}
use Rattle.report.specs.Command.{most_input, command_of, said, answer_of}
use Rattle.report.specs.Room.{row_most, head_most, room}
use Rattle.report.specs.declared.command.Command.{Command}
use Rattle.lines.specs.declared.record.Fault.TheVariants.{TooShort, TooLong, Sparse, NotUtf8, TooManyExtents, OtherVersion, SizeTooLarge, SumTooLarge, FileStartTooLarge, Inaccessible, OffsetTooLarge, CountTooLarge}
use Rattle.theorems.specs.Reports.{report_due, unended, RefusedBy, Opens, OnlyRefused, OfTable, each_spaced, total, name_bytes, Asked}
use Rattle.theorems.proofs.Digits.{decimal_short}
use Rattle.theorems.proofs.Fits.{answer_bound, room_enough, command_asked}
use Rattle.theorems.proofs.NameSums.{accepted_names}
use Rattle.theorems.proofs.Reports.{report_computes, empty_computes, only_refused, built_written, refused_or_opens, flat_written, answer_short, answer_long}
use Rattle.theorems.proofs.Probing.{probe_yes}
use Rattle.theorems.proofs.TooLong.{only_long}
use Rattle.theorems.proofs.Rising.{built_rises}
use Rattle.text.specs.Find.{begins}
use Rattle.lines.specs.Fault.{refusal_number}
use Rattle.lines.specs.declared.record.Fault.{Fault}
use Rattle.maps.specs.Map.{map_of}
use Rattle.theorems.specs.GivenWhen.{LineFault, line_fault, When, FirstFault, OneMore}
use Rattle.theorems.specs.Over.{SoundLines, SizeOver, SumOver, StartOver, OverAt, over_nth, StartsFit, OverIn, BuildAlike}
use Rattle.theorems.specs.Probing.{FirstSays}
use Rattle.theorems.specs.Refusing.{NoAccessAt, FileOverAt, StopsWhere}
use Rattle.theorems.proofs.Alike.{records_alike}
use Rattle.theorems.proofs.BeforeLines.{too_few, too_many, sparse_bytes}
use Rattle.theorems.proofs.LineFaults.{line_given, extent_exactly, fault_first, extents_full}
use Rattle.theorems.proofs.Over.{size_over, sum_over, start_over, read_over, text_start, read_few, read_sound, build_over, build_sound, build_few, build_counted}
use Rattle.theorems.proofs.MapRefusals.{map_locked, map_over, map_counted, map_numbers, walk_met, walk_locked, walk_file_over, walk_counted, walk_numbers}

-- ---- reading, and probing
-- Probing says yes exactly if the length is in range and the bytes are sparse, or the first line whose trimmed text before its first `=` is `version` has a number 1 to 3 after it, and that line and all before it are UTF-8.
pub probed_when : (d : List ℕ) → (probe_of d ≡ true) ↔ ((least_bytes ≤ length d) × (length d ≤ most_bytes) × ((begins d sparse ≡ true) ⊎ FirstSays (lines_of d)))
probed_when = probe_yes

-- An accepted descriptor's extents are those that its lines say, in order, and at most as many as a record has room for ..
pub extents_in_order : (t : List ℕ) → (read_of t).verdict ≡ (Ok tt) → (counted (read_of t).descriptor ≡ extents_in (sayings_of t)) × (length (extents_in (sayings_of t)) ≤ most)
extents_in_order t e = (accepted_extents t e, (accepted_lines t e).1.1)

-- .. each with the line that says it, counted from 1: extent i is said by the i-th line that says one, and has its number ..
pub extent_from_line : (d : List ℕ) → (read_of d).verdict ≡ (Ok tt) → (i : ℕ) → i < (read_of d).descriptor.count → ExtentFrom d (read_of d).descriptor i
extent_from_line = extent_from

-- .. so that all of them, with their lines, are those that the lines say from line 1 on.
pub extents_with_lines : (t : List ℕ) → (read_of t).verdict ≡ (Ok tt) → read_in (read_of t).descriptor ≡ read_from 1 (sayings_of t)
extents_with_lines = accepted_read

-- A line says an extent exactly if its words have that extent's values and its file's name is kept where it lies between the quotes.
pub extent_lines : (d : List ℕ) (before : List (List ℕ)) (l : List ℕ) (p k : ℕ) (x : VmdkParsedExtent) → LineAt d before l p k → (line_of p l ≡ Ok (Extent x)) ↔ (ExtentIn d (trimmed l) x × NameAt p l x.storage)
extent_lines d before l p k x a = extent_exactly d p l (lies d before l p k a) x

-- The name of a flat extent's file is, in the descriptor, the trimmed text between the line's first two quotes.
pub extent_name : (t : List ℕ) (before : List (List ℕ)) (l : List ℕ) (p k : ℕ) (s : Sectors) (a : VmdkAccessType) (name : Text) (start : Sectors) → LineAt t before l p k → line_of p l ≡ Ok (Extent (record { sectors = s; storage = Parsed-as-Flat a name start })) → (front middle back : List ℕ) × Quotes l front middle back × (text_in t name ≡ trimmed middle)
extent_name t before l p k s a name start i h = file_named t p l s a name start (lies t before l p k i) h

-- An accepted descriptor's record holds, for each of the seven keys, what the last line with that key says (a repeated key overwrites), and the start value where no line has it.
pub last_values : (d : List ℕ) (i : Item) → (read_of d).verdict ≡ (Ok tt) → LastSaid d i (held_in (read_of d).descriptor.desc i)
last_values = last_held

-- A refused read answers the empty record.
pub refused_empty : (t : List ℕ) (r : Refusal) → (read_of t).verdict ≡ Err r → (read_of t).descriptor ≡ no_record
refused_empty = Read-none

-- Read accepts exactly if the lines and the version are sound and the sum of the sizes is within 2^64-1.
pub accepted_when : (d : List ℕ) → ((read_of d).verdict ≡ (Ok tt)) ↔ (SoundLines d × (size_of (extents_in (sayings_of d)) ≤ largest))
accepted_when = read_sound

-- Read accepts and probe says no, exactly if read accepts and the first line whose key is `version` has no number 1 to 3 there (K7) ..
pub accepted_not_probed : (t : List ℕ) → (((read_of t).verdict ≡ (Ok tt)) × (probe_of t ≡ false)) ↔ (((read_of t).verdict ≡ (Ok tt)) × (within 1 3 (first_version (sayings_of t)) ≡ false))
accepted_not_probed t =
    (λ w. (w.0, sym (probe_accepted t w.0) ∙ w.1), λ w. (w.0, probe_accepted t w.0 ∙ w.1))

-- .. and then a later one has: the last version of an accepted descriptor is 1 to 3.
pub accepted_version : (t : List ℕ) → (read_of t).verdict ≡ (Ok tt) → within 1 3 (last_version (sayings_of t)) ≡ true
accepted_version t h = last_accepted t h

-- Read answers 17 and probe says yes, exactly if every line is sound, the first version is 1 to 3 and the last is not (K8).
pub probed_not_accepted : (t : List ℕ) → (((read_of t).verdict ≡ refusal OtherVersion 0) × (probe_of t ≡ true)) ↔ (ByLine t × AllSound (sayings_of t) × (within 1 3 (first_version (sayings_of t)) ≡ true) × (within 1 3 (last_version (sayings_of t)) ≡ false))
probed_not_accepted t = probe_refused t

-- ---- building
-- On a built table rows follow each other from 0 to the size, one for each extent; for every offset below the size exactly one of them holds it, and an empty extent's row holds none.
pub rows_follow : (r : Record) (t : Table) → Builds r t → InRows r t
rows_follow = built_in_rows

-- Building succeeds exactly if the count is within the record's room, the sum of the sizes is within 2^64-1, and so is every file start in bytes.
pub built_when : (r : Record) → ((build_of r).verdict ≡ (Ok tt)) ↔ ((r.count ≤ most) × (size_of (counted r) ≤ largest) × StartsFit (counted r))
built_when = build_sound

-- A refused build answers the empty table ..
pub refused_no_table : (r : Record) (x : Refusal) → (build_of r).verdict ≡ Err x → (build_of r).table ≡ no_table
refused_no_table = built-none

-- .. and one that is not refused, the table that the record builds.
pub sound_builds : (r : Record) → (build_of r).verdict ≡ (Ok tt) → Builds r (build_of r).table
sound_builds = sound_build

-- ---- places with names: which line a row is, and the place that the descriptor's own lines give to each byte of the disk (`place_in`)
-- For any descriptor that reads and whose record builds, row i is the i-th line that says an extent: the line's number is the row's line, its words are the extent's, its source is the row's, and where it is flat its name is the row's.
pub row_from_line : (d : List ℕ) (t : Table) → (read_of d).verdict ≡ (Ok tt) → Builds (read_of d).descriptor t → (i : ℕ) → i < t.count → FromLine d t i
row_from_line = from_line

-- Each line that says an extent has its row.
pub line_has_row : (d : List ℕ) (t : Table) → (read_of d).verdict ≡ (Ok tt) → Builds (read_of d).descriptor t → (before : List (List ℕ)) (l : List ℕ) (p k : ℕ) → LineAt d before l p k → (x : VmdkParsedExtent) → line_of p l ≡ Ok (Extent x) → length (extents_in (sayings 0 before)) < t.count
line_has_row = row_below

-- Lines rise strictly over the rows of a table read from text.
pub lines_rise : (d : List ℕ) (t : Table) → (read_of d).verdict ≡ (Ok tt) → Builds (read_of d).descriptor t → (i j : ℕ) → i < j → j < t.count → (row_at t i).line < (row_at t j).line
lines_rise = rows-rise

-- Where a line is cut at its first two quotes, the text between them is the middle.
pub between_quotes : (l front middle back : List ℕ) → Quotes l front middle back → in_quotes l ≡ middle
between_quotes = quotes_in

-- The places at the joints of a disk of two files, zeros and no access: its descriptor reads and builds, and each byte lies where it is due.
pub joint_places : ((read_of joined).verdict ≡ (Ok tt)) × ((build_of (read_of joined).descriptor).verdict ≡ (Ok tt)) × (map (λ (j : Joint). place_in joined j.byte) joints ≡ map (λ (j : Joint). j.due) joints)
joint_places = joints_due

-- ---- mapping
-- On a built table halving finds the one row that holds the offset, for every offset below the size.
pub halving_finds : (r : Record) (t : Table) → Builds r t → (o : ℕ) → o < t.size.0 → Finds t o
halving_finds = built_finds

-- On any table, the count of rows looked at is 0 for refusal 23 or an offset at or past the size, at most 11, and for n rows (n at least 1) at most 1 + the whole part of log2 n.
pub halving_looks : (t : Table) (o asked : ℕ) → FewLooks t o asked
halving_looks = few_looks

-- Mapping a built table equals the place that the record's extents give to the offset, with the run, and with 21 and 22 exactly where they are due.
pub mapping_places : (r : Record) (t : Table) → Builds r t → (o asked : ℕ) → MapsBy (counted r) t o asked
mapping_places = built_maps

-- The same for bytes: for any descriptor that reads and whose record builds, mapping equals the place that its extent lines give.
pub mapping_places_bytes : (d : List ℕ) (t : Table) → (read_of d).verdict ≡ (Ok tt) → Builds (read_of d).descriptor t → (o asked : ℕ) → MapsBy (extents_in (sayings_of d)) t o asked
mapping_places_bytes d t a b o asked =
    subst (λ (xs : List VmdkParsedExtent). MapsBy xs t o asked) (extents_in_order d a).0 (mapping_places (read_of d).descriptor t b o asked)

-- For any descriptor that reads and whose record builds, mapping gives each offset the place that the descriptor's own lines give it: kind, name, file offset and writable, with 21 and 22 exactly where they are due.
pub mapping_names : (d : List ℕ) (t : Table) → (read_of d).verdict ≡ (Ok tt) → Builds (read_of d).descriptor t → (o asked : ℕ) → MapsNamed d t o asked
mapping_names d t a b o asked = maps_named d t t (alike_itself t) a b o asked (mapping_places_bytes d t a b o asked)

-- ---- demand 3, and the walk
-- Demand 3. Take any built table in which each flat extent's file start plus its length is at most 2^64. A walk over any range, given as many list places as a table has room for rows, writes pieces that tile the range up to the first of its end, the disk's end and a no-access byte, each byte at the place that the extents give it, with one piece for each non-empty readable extent met and no shorter tiling by single-extent pieces. It stops with refusal 21 exactly if a no-access byte lies in the range, and otherwise with Done. The walk looks at no more than 11 rows a piece and 11 besides.
pub demand_3 : (r : Record) (t : Table) → Builds r t → Reachable (counted r) → (places start long : ℕ) → most ≤ places → Tiles (counted r) start long (walk_of t places start long)
demand_3 = built_tiles

-- The same for bytes: for any descriptor that reads and builds, and in which each flat extent's file start plus its length is at most 2^64, a walk over any range, given as many list places as a table has room for rows, tiles it up to the first of its end, the disk's end and a no-access byte, each byte at the place that the extent lines give it.
pub demand_3_bytes : (d : List ℕ) (t : Table) → (read_of d).verdict ≡ (Ok tt) → Builds (read_of d).descriptor t → Reachable (extents_in (sayings_of d)) → (places start long : ℕ) → most ≤ places → Tiles (extents_in (sayings_of d)) start long (walk_of t places start long)
demand_3_bytes d t a b h places start long m =
    let e = (extents_in_order d a).0 in
    subst (λ (xs : List VmdkParsedExtent). Tiles xs start long (walk_of t places start long)) e
    (demand_3 (read_of d).descriptor t b (subst Reachable (sym e) h) places start long m)

-- Demand 3 with names: for any descriptor that reads and builds, and in which each flat extent's file start plus its length is at most 2^64, a walk over any range, given as many list places as a table has room for rows, writes pieces that tile it up to the first of its end, the disk's end and a no-access byte, and for every byte of every piece, kind, name, file offset and writable are those that the descriptor's own lines give to that byte of the disk.
pub demand_3_names : (d : List ℕ) (t : Table) → (read_of d).verdict ≡ (Ok tt) → Builds (read_of d).descriptor t → Reachable (extents_in (sayings_of d)) → (places start long : ℕ) → most ≤ places → TilesNamed d t start long (walk_of t places start long)
demand_3_names d t a b h places start long m =
    tiles_named d t t (alike_itself t) a b start long (walk_of t places start long) (demand_3_bytes d t a b h places start long m)

-- Two words of demand 3, told by the bytes' places alone: the first no-access byte at or after a place, ..
pub first_no_access : (xs : List VmdkParsedExtent) (start : ℕ) → FirstNoAccess xs start (no_access_from xs start)
first_no_access = no_access_first

-- .. and the readable extents that share a byte with a range.
pub extents_met : (xs : List VmdkParsedExtent) (from to : ℕ) → Met xs from to (met_by xs from to)
extents_met = met_is

-- A walk writes only the places that it counts: at most as many as the list has and at most `most`, the first of them hold its pieces, and every place from the count on holds what it held.
pub walk_only_counted : (t : Table) (list : List Piece) (pos left : ℕ) → OnlyCounted t list pos left
walk_only_counted = only_counted

-- Continuing after More at the position given, with the length still left, joins to the list that one long walk writes, for any way of cutting it, on any table. With lists of at least one place each, one more of them than a table has room for rows are enough.
pub continuing_joins : (t : Table) (n : ℕ) (ns : List ℕ) (pos left : ℕ) → Continues t n ns pos left
continuing_joins = continues

-- On a built table the stop, the position and the sum of the long walk are those of the last part, the last part, and the parts added up.
pub continuing_whole : (r : Record) (t : Table) → Builds r t → (n : ℕ) (ns : List ℕ) (pos left : ℕ) → ContinuesWhole t n ns pos left
continuing_whole = built_continues

-- Memory that is lent again: a descriptor read into any record, and built from it into any table, in whatever state the two were, gives mappings and walks that depend on the descriptor alone, each byte at the place that the descriptor's own lines give it. Nothing of an earlier reel can shine through.
pub lent_again : (d : List ℕ) (r : Record) (t : Table) → LentAgain d r t
lent_again d r t = lent_alike d r t (mapping_places_bytes d (fresh d)) (demand_3_bytes d (fresh d))

-- The same of a record made by hand: built into any table, in whatever state that was, it gives the mappings and walks of the table that the record alone builds, of which `mapping_places` and `demand_3` speak.
pub built_again : (r : Record) (t : Table) → BuiltAgain r t
built_again = built_alike

-- Lines aside, what is built depends on no line: of records that agree in all but the lines the one builds exactly if the other does, refusals have the same number, and their tables agree in all but the lines.
pub alike_builds : (r s : Record) → AlikeRecords r s → BuildAlike r s
alike_builds = records_alike

-- Neither do mapping and the walk: tables that agree in all but the lines map alike ..
pub alike_maps : (s t : Table) → AlikeTables s t → (o asked : ℕ) → map_of s o asked ≡ map_of t o asked
alike_maps = map_alike

-- .. and walk alike.
pub alike_walks : (s t : Table) → AlikeTables s t → (places start long : ℕ) → walk_of s places start long ≡ walk_of t places start long
alike_walks = walk_alike

-- What reading leaves in a record that is lent: count 0 and start values if it is refused, in the first places the extents of the lines before the refused one, or of all lines, and every other place as it was.
pub reading_leaves : (d : List ℕ) (r : Record) → ReadLeaves d r
reading_leaves = read_leaves

-- What building leaves in a table that is lent: count 0 and size 0 if it is refused, in the first places what was stored before the refusal, or all rows, and every other place as it was.
pub building_leaves : (r : Record) (t : Table) → BuildLeaves r t
building_leaves = build_leaves

-- The marked cases of document 01, K1 to K12, and more beside them, as one table: each gives what is due.
pub marked_cases : map (λ (c : Case). c.got) cases ≡ map (λ (c : Case). c.due) cases
marked_cases = cases_due

-- ---- the report, and the program's answers
-- For document 01's descriptor the report is the eight lines that stand there ..
pub report_whole : report_of (lines report) ≡ lines report_due
report_whole = report_computes.0

-- .. and the same if no 0A stands after the descriptor's last line.
pub report_unended : report_of (unended report) ≡ lines report_due
report_unended = report_computes.1

-- Empty input writes `probe no`, then `refused 1 0`.
pub report_empty : report_of [] ≡ lines ("probe no" ∷ "refused 1 0" ∷ [])
report_empty = empty_computes

-- A refused read or build writes the probe line, then only the refusal; a mapping or a walk writes only the refusal.
pub refused_alone : (d : List ℕ) (x : Refusal) → RefusedBy d x → OnlyRefused d x
refused_alone = only_refused

-- A descriptor that is read and built is written by its table: the probe line and the table's lines, the line of a mapping, the lines of a walk.
pub opened_written : (d : List ℕ) (t : Table) → Opens d t → OfTable d t
opened_written d t o = built_written d o.0 t o.1

-- Every input is refused, or it is read and built.
pub refused_or_opened : (d : List ℕ) → ((x : Refusal) × RefusedBy d x) ⊎ ((t : Table) × Opens d t)
refused_or_opened = refused_or_opens

-- A flat row's line is its number, start, end, FLAT, access and file start, each with one space after it, and then its name ..
pub flat_line : (d : List ℕ) (i : ℕ) (r : Row) (a : VmdkAccessType) (start : Bytes) (name : Text) → r.source ≡ Flat a start name → row_line d i r ≡ each_spaced (decimal_of i ∷ decimal_of r.start.0 ∷ decimal_of r.end.0 ∷ ascii "FLAT" ∷ access_word a ∷ decimal_of start.0 ∷ []) ++ (name_in d name ++ (0x0A ∷ []))
flat_line = flat_written

-- .. and an empty name leaves the space before it.
pub empty_name : (d : List ℕ) (i : ℕ) (r : Row) (a : VmdkAccessType) (start : Bytes) (name : Text) → r.source ≡ Flat a start name → name_in d name ≡ [] → row_line d i r ≡ each_spaced (decimal_of i ∷ decimal_of r.start.0 ∷ decimal_of r.end.0 ∷ ascii "FLAT" ∷ access_word a ∷ decimal_of start.0 ∷ []) ++ (0x0A ∷ [])
empty_name d i r a start name e n = rw n at (flat_line d i r a start name e)

-- Number 24 writes only `refused 24 0`, whatever is asked ..
pub too_long : (d : List ℕ) (c : Command) → most_input < length d → answer_of d c ≡ lines ("refused 24 0" ∷ [])
too_long = answer_long

-- .. and an input of at most 65,536 bytes gets the answer of its command.
pub short_enough : (d : List ℕ) (c : Command) → length d ≤ most_input → answer_of d c ≡ said d c
short_enough = answer_short

-- A number of 64 bits has at most 20 digits.
pub number_digits : (n : ℕ) → n ≤ largest → length (decimal_of n) ≤ 20
number_digits = decimal_short

-- The names of a descriptor that is read have together at most as many bytes as the descriptor.
pub names_within : (d : List ℕ) → (read_of d).verdict ≡ (Ok tt) → total (name_bytes d) (counted (read_of d).descriptor) ≤ length d
names_within = accepted_names

-- A walk over a built table writes each row at most once and in rising order, wherever and why it stops.
pub walk_once : (r : Record) (t : Table) → Builds r t → (places start long : ℕ) → Rise 0 (rows_of (walk_of t places start long).pieces)
walk_once = built_rises

-- Each answer has at most as many bytes as the longest input, `row_most` more for each row that a table can have, and `head_most` besides, if a walk starts at or below 2^64-1, as every number of the code does ..
pub answer_most : (d : List ℕ) (c : Command) → Asked c → length (answer_of d c) ≤ most_input + most * row_most + head_most
answer_most = answer_bound

-- .. so it fits in the room that the program has ..
pub answer_fits : (d : List ℕ) (c : Command) → Asked c → length (answer_of d c) ≤ room
answer_fits d c a = omega (arith, answer_most d c a, room_enough)

-- .. whatever the program's arguments are.
pub program_fits : (d : List ℕ) (n : ℕ) (mode a b c : List ℕ) → length (answer_of d (command_of n mode a b c)) ≤ room
program_fits d n mode a b c = answer_fits d (command_of n mode a b c) (command_asked n mode a b c)

-- A buffer with that room has the whole answer at its start, and the place after it, which comes back, is its length.
pub answer_whole : (d : List ℕ) (c : Command) → Asked c → (out : List ℕ) → room ≤ length out → (after 0 (answer_of d c) ≡ length (answer_of d c)) × (take (length (answer_of d c)) (pasted out 0 (answer_of d c)) ≡ answer_of d c)
answer_whole d c a out h =
    let f = answer_fits d c a in (omega arith, pasted_start out (answer_of d c) (omega arith))

-- ---- refusals: each number of the table, given exactly when
-- 1: fewer than 4 bytes.
pub given_1 : (d : List ℕ) (k : ℕ) → ((read_of d).verdict ≡ refusal TooShort k) ↔ ((length d < least_bytes) × (k ≡ 0))
given_1 = too_few

-- 2: more than 2,097,152 bytes.
pub given_2 : (d : List ℕ) (k : ℕ) → ((read_of d).verdict ≡ refusal TooLong k) ↔ ((most_bytes < length d) × (k ≡ 0))
given_2 = too_many

-- 3: a length in range, and sparse bytes.
pub given_3 : (d : List ℕ) (k : ℕ) → ((read_of d).verdict ≡ refusal Sparse k) ↔ ((least_bytes ≤ length d) × (length d ≤ most_bytes) × (begins d sparse ≡ true) × (k ≡ 0))
given_3 = sparse_bytes

-- Read answers a number from 4 to 16 with line k exactly if line k is the first that is refused, and it is refused with that number.
pub first_refused : (t : List ℕ) (n : Fault) (k : ℕ) → 4 ≤ refusal_number n → refusal_number n ≤ 16 → ((read_of t).verdict ≡ refusal n k) ↔ (ByLine t × ((l : List ℕ) × FirstRefused t l n k))
first_refused t n k = line_refused t n k

-- Read answers 4 with line k exactly if line k is the first that is refused and it is not UTF-8.
pub first_no_text : (t : List ℕ) (k : ℕ) → ((read_of t).verdict ≡ refusal NotUtf8 k) ↔ (ByLine t × ((l : List ℕ) × ((n : Fault) × FirstRefused t l n k × (sound (text_at l 0) ≡ false))))
first_no_text t k = line_no_text t k

-- 5 to 15, of one line wherever it lies: it is refused with the number of a fault exactly if its trimmed text has that fault, as the table says.
pub line_faults : (p : ℕ) (l : List ℕ) (f : LineFault) → (line_of p l ≡ Err (line_fault f)) ↔ When f (trimmed l)
line_faults = line_given

-- 5 to 15, of reading: line k has the fault, and every line before it is sound.
pub given_5_to_15 : (d : List ℕ) (f : LineFault) (k : ℕ) → ((read_of d).verdict ≡ refusal (line_fault f) k) ↔ (ByLine d × FirstFault d f k)
given_5_to_15 = fault_first

-- 16: line k is a sound extent line, one more than a record has room for, and every line before it is sound.
pub given_16 : (d : List ℕ) (k : ℕ) → ((read_of d).verdict ≡ refusal TooManyExtents k) ↔ (ByLine d × OneMore d k)
given_16 = extents_full

-- 17: every line is sound, and the last version is not 1 to 3.
pub given_17 : (d : List ℕ) (k : ℕ) → ((read_of d).verdict ≡ refusal OtherVersion k) ↔ (ByLine d × AllSound (sayings_of d) × (within 1 3 (last_version (sayings_of d)) ≡ false) × (k ≡ 0))
given_17 = last_refused

-- 18, of reading: the lines and the version are sound, and line k says the first extent that is over, by its size.
pub given_18 : (d : List ℕ) (k : ℕ) → ((read_of d).verdict ≡ refusal SizeTooLarge k) ↔ (SoundLines d × OverAt SizeOver d k)
given_18 d k = read_over d size_over k

-- 19, of reading: the same, by the sum.
pub given_19 : (d : List ℕ) (k : ℕ) → ((read_of d).verdict ≡ refusal SumTooLarge k) ↔ (SoundLines d × OverAt SumOver d k)
given_19 d k = read_over d sum_over k

-- 20, of a descriptor that reads: line k says the first extent that is over, by its file start in bytes, and no file start before it is over.
pub given_20 : (d : List ℕ) (k : ℕ) → (read_of d).verdict ≡ (Ok tt) → ((build_of (read_of d).descriptor).verdict ≡ refusal FileStartTooLarge k) ↔ ((o : OverAt StartOver d k) × StartsFit (take (over_nth d o) (extents_in (sayings_of d))))
given_20 = text_start

-- 18, of building: an extent with the line k is the first that is over, by its size, and no file start before it is over.
pub building_18 : (r : Record) (k : ℕ) → ((build_of r).verdict ≡ refusal SizeTooLarge k) ↔ ((r.count ≤ most) × OverIn SizeOver r k)
building_18 r k = build_over r size_over k

-- 19: the same, by the sum.
pub building_19 : (r : Record) (k : ℕ) → ((build_of r).verdict ≡ refusal SumTooLarge k) ↔ ((r.count ≤ most) × OverIn SumOver r k)
building_19 r k = build_over r sum_over k

-- 20: the same, by the file start in bytes.
pub building_20 : (r : Record) (k : ℕ) → ((build_of r).verdict ≡ refusal FileStartTooLarge k) ↔ ((r.count ≤ most) × OverIn StartOver r k)
building_20 r k = build_over r start_over k

-- 23: a count above the record's room, whatever the extents are.
pub building_23 : (r : Record) (k : ℕ) → ((build_of r).verdict ≡ refusal CountTooLarge k) ↔ ((most < r.count) × (k ≡ 0))
building_23 = build_counted

-- 21, of a built table: the byte lies in an extent of no access.
pub mapping_21 : (r : Record) (t : Table) → Builds r t → (o asked : ℕ) → ((map_of t o asked).mapping ≡ Err Inaccessible) ↔ NoAccessAt (counted r) o
mapping_21 = map_locked

-- 22, of a built table: the byte lies in a file, at an offset above 2^64-1.
pub mapping_22 : (r : Record) (t : Table) → Builds r t → (o asked : ℕ) → ((map_of t o asked).mapping ≡ Err OffsetTooLarge) ↔ FileOverAt (counted r) o
mapping_22 = map_over

-- 23, of any table: a count above the table's room, whatever its rows and size are.
pub mapping_23 : (t : Table) (o asked : ℕ) → ((map_of t o asked).mapping ≡ Err CountTooLarge) ↔ (most < t.count)
mapping_23 = map_counted

-- On any table a walk stops with a refusal other than 23 exactly if, at the position reached, length is left, the list has room, and mapping is refused with that number.
pub walk_refused : (t : Table) (places begin long : ℕ) (f : Fault) → refusal_number f < 23 → ((walk_of t places begin long).stop ≡ Err f) ↔ StopsWhere (λ o. (map_of t o (begin + long - o)).mapping ≡ Err f) places begin long (walk_of t places begin long)
walk_refused = walk_met

-- 21, of a built table: the byte there lies in an extent of no access.
pub walk_21 : (r : Record) (t : Table) → Builds r t → (places begin long : ℕ) → ((walk_of t places begin long).stop ≡ Err Inaccessible) ↔ StopsWhere (NoAccessAt (counted r)) places begin long (walk_of t places begin long)
walk_21 = walk_locked

-- 22, of a built table: the byte there lies in a file, at an offset above 2^64-1.
pub walk_22 : (r : Record) (t : Table) → Builds r t → (places begin long : ℕ) → ((walk_of t places begin long).stop ≡ Err OffsetTooLarge) ↔ StopsWhere (FileOverAt (counted r)) places begin long (walk_of t places begin long)
walk_22 = walk_file_over

-- 23, of any table: a count above the table's room, even where nothing is left or the list has no place.
pub walk_23 : (t : Table) (places begin long : ℕ) → ((walk_of t places begin long).stop ≡ Err CountTooLarge) ↔ (most < t.count)
walk_23 = walk_counted

-- 24, of the program: more than 65,536 bytes, whatever is asked; no other answer is that line.
pub given_24 : (d : List ℕ) (c : Command) → (answer_of d c ≡ lines ("refused 24 0" ∷ [])) ↔ (most_input < length d)
given_24 = only_long

-- The faults have document 01's numbers, 1 to 24, and each number is that of one fault.
pub faults_numbered : ((f : Fault) → (1 ≤ refusal_number f) × (refusal_number f ≤ 24)) × ((n : ℕ) → 1 ≤ n → n ≤ 24 → (f : Fault) × (refusal_number f ≡ n)) × ((f g : Fault) → refusal_number f ≡ refusal_number g → f ≡ g)
faults_numbered = (number_within, number_taken, number_once)

-- Reading gives 1 to 19 only, ..
pub reading_numbers : (d : List ℕ) (f : Fault) (k : ℕ) → (read_of d).verdict ≡ refusal f k → (1 ≤ refusal_number f) × (refusal_number f ≤ 19)
reading_numbers = read_few

-- .. building 18 to 20 and 23, ..
pub building_numbers : (r : Record) (f : Fault) (k : ℕ) → (build_of r).verdict ≡ refusal f k → ((18 ≤ refusal_number f) × (refusal_number f ≤ 20)) ⊎ (f ≡ CountTooLarge)
building_numbers = build_few

-- .. mapping 21 to 23, on any table, ..
pub mapping_numbers : (t : Table) (o asked : ℕ) (f : Fault) → (map_of t o asked).mapping ≡ Err f → (21 ≤ refusal_number f) × (refusal_number f ≤ 23)
mapping_numbers = map_numbers

-- .. and so does the walk.
pub walking_numbers : (t : Table) (places begin long : ℕ) (f : Fault) → (walk_of t places begin long).stop ≡ Err f → (21 ≤ refusal_number f) × (refusal_number f ≤ 23)
walking_numbers = walk_numbers
