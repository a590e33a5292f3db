-- What the statements of the page rule out. Each is said again with an answer in the place of the exported function's: the function's own answer meets it, by the theorem of the page, and a wrong one does not.
-- A statement "exactly when" would give the wrong answer wherever the right one is given, and the other way round; the others are false of the wrong answer at one small input.
use Rattle.std.specs.Prelude.{Err, Ok, Result}
use Prim.Native.Nat.{ℕ, suc, ◌+◌, ◌*◌, ◌-◌, ◌≤◌, ◌<◌}
use native.Mathlib.Omega.{arith}
use mathlib.Core.List.{List, [], ◌∷◌, ◌++◌}
use mathlib.Core.Logic.{◌↔◌, ◌⊎◌, inl}
use mathlib.Core.Bool.{Bool, true, false}
use mathlib.Core.Path.{◌≡◌, refl, sym, ap, ◌∙◌}
use lib.ListN.{length, take, get_or}
use Rattle.text.specs.Ascii.{ascii}
use Rattle.text.specs.Find.{begins}
use Rattle.text.specs.Lines.{lines_of}
use Rattle.text.specs.Ranges.{within}
use Rattle.text.specs.Sector.{largest}
use Rattle.text.specs.Text.{trimmed}
use Rattle.text.specs.declared.sector.Bytes.{Bytes}
use Rattle.lines.specs.Line.{line_of}
use Rattle.lines.specs.Record.{most, filled, most_bytes, no_text, no_extent, at_line, desc_of, no_desc, no_record, record_of, read_in, counted, refusal, Verdict}
use Rattle.lines.specs.declared.line.Said.TheVariants.{Extent}
use Rattle.lines.specs.declared.record.Record.{Record}
use Rattle.lines.specs.declared.record.Refusal.{Refusal}
use Rattle.lines.specs.declared.record.Text.{Text}
use Rattle.lines.specs.declared.record.VmdkAccessType.{VmdkAccessType}
use Rattle.lines.specs.declared.record.VmdkAccessType.TheVariants.{RW}
use Rattle.lines.specs.declared.record.VmdkDesc.{VmdkDesc}
use Rattle.lines.specs.declared.record.ReadExtent.{ReadExtent}
use Rattle.lines.specs.declared.record.VmdkParsedExtent.{VmdkParsedExtent}
use Rattle.descriptor.specs.Into.{stored_of, read_into}
use Rattle.tables.specs.Into.{build_into}
use Rattle.tables.specs.declared.table.Mapping.{Mapping}
use Rattle.theorems.specs.LentAgain.{fresh, Stored}
use Rattle.descriptor.specs.Read.{least_bytes, sparse, read_of}
use Rattle.tables.specs.Build.{Built, no_row, no_table, table_of, build_of}
use Rattle.tables.specs.declared.table.Piece.{Piece}
use Rattle.tables.specs.declared.table.Row.{Row}
use Rattle.tables.specs.declared.table.ShallowMapping.TheVariants.{Eof, Raw}
use Rattle.tables.specs.declared.table.Source.TheVariants.{Flat as File}
use Rattle.tables.specs.declared.table.Stop.TheVariants.{Done}
use Rattle.tables.specs.declared.table.Table.{Table}
use Rattle.maps.specs.Map.{ended, map_of}
use Rattle.lines.specs.Alike.{AlikeRecords}
use Rattle.maps.specs.Alike.{AlikeTables}
use Rattle.maps.specs.Place.{Reachable, size_of}
use Rattle.maps.specs.Walk.{Walk, ends, raw_piece, no_piece, walk_of, listed}
use Rattle.probing.specs.Probe.{probe_of}
use Rattle.puts.specs.Decimal.{digits_in, decimal_of}
use Rattle.puts.specs.Put.{pasted, after}
use Rattle.phrases.specs.Line.{name_in, access_word, refused_line}
use Rattle.disk_lines.specs.Report.{probe_line, row_line, table_lines, report_of}
use Rattle.map_lines.specs.Map.{mapping_line, map_line_of}
use Rattle.walk_lines.specs.Walk.{walk_lines, walk_lines_of}
use Rattle.report.specs.Command.{most_input, command_of, said, answer_of}
use Rattle.report.specs.Room.{row_most, head_most, room}
use Rattle.report.specs.declared.command.Command.{Command}
use Rattle.report.specs.declared.command.Command.TheVariants.{Report}
use Rattle.lines.specs.declared.line.Said.{Said}
use Rattle.tables.specs.declared.table.ShallowMapping.{ShallowMapping}
use Rattle.lines.specs.declared.record.Fault.{Fault}
use Rattle.lines.specs.declared.record.Fault.TheVariants.{TooShort, TooLong, Sparse, ParentHint, OtherKey, TooManyExtents, OtherVersion, SizeTooLarge, SumTooLarge, FileStartTooLarge, Inaccessible, OffsetTooLarge, CountTooLarge}
use Rattle.lines.specs.Fault.{refusal_number}
use Rattle.theorems.specs.Cases.{lines}
use Rattle.theorems.specs.LineWords.{NameAt, Item, cid}
use Rattle.theorems.specs.Values.{held_in, LastSaid}
use Rattle.theorems.specs.Counted.{walk_with, count_of}
use Rattle.theorems.specs.Reports.{RefusedBy, Opens, each_spaced, total, name_bytes, Asked}
use Rattle.theorems.specs.Tiling.{All, Rise, rows_of}
use Rattle.theorems.specs.GivenWhen.{LineFault, line_fault, When, FirstFault, OneMore, parent_hint, unknown_key}
use Rattle.theorems.specs.NamedPlaces.{place_in, seen_by, due_at, PlacedBy, FromLine}
use Rattle.theorems.specs.NamedCases.{joined}
use Rattle.theorems.specs.Over.{SoundLines, SizeOver, SumOver, StartOver, OverAt, StartsFit, OverIn}
use Rattle.theorems.specs.Probing.{FirstSays}
use Rattle.theorems.specs.Refusing.{NoAccessAt, FileOverAt, StopsWhere}
use Rattle.theorems.specs.Rows.{Builds, row_at, line_at}
use Rattle.theorems.specs.Statements.{ByLine, sayings, sayings_of, extents_in, read_from, AllSound, last_version, LineAt, FirstRefused, ExtentIn}
use Rattle.theorems.proofs.Theorems.{alike_builds, extent_from_line, extents_with_lines, lines_rise, alike_maps, alike_walks, lent_again, built_again, reading_leaves, building_leaves, probed_when, given_24, last_values, row_from_line, line_has_row, mapping_names, demand_3_names, walk_only_counted, extent_lines, walk_once, names_within, refused_alone, opened_written, flat_line, empty_name, too_long, short_enough, report_empty, number_digits, answer_most, answer_fits, program_fits, answer_whole, accepted_when, built_when, refused_no_table, sound_builds, joint_places, mapping_21, mapping_22, mapping_23, walk_refused, walk_21, walk_22, walk_23, given_1, given_2, given_3, given_5_to_15, given_16, given_17, given_18, given_19, line_faults, building_18, building_19, building_20, building_23, reading_numbers, faults_numbered, building_numbers, mapping_numbers, walking_numbers}
use Rattle.theorems.proofs.SmallInputs.{joined_read, moved, moved_alike, moved_disk, disks_alike, moved_rows, oversized, overfull, large, summed, far, not_oversized, not_overfull, not_large, not_summed, not_far, not_from_zero, map_zero, not_zero, not_emptied, not_dropped, not_behind, small_long, many_refused, read_sound, small, disk, many, crowd, small_sound, small_builds, build_sound, map_sound, first_line, empty_says, small_rows, not_17, empty_refused, joined_opens, shifted, joined_table, joined_holds, wrong_file, not_seen, joined_reaches, no_steps, whole, nameless, zeros, zeros_long, line_written, no_line, refused_is, walk_written, not_kept, not_shifted, not_few, twice_long, not_there}

-- one answer meets a statement, and another does not
abbrev Tells : {A : Type 0} → (A → Type 0) → A → A → Type 0
Tells Says right wrong = Says right × (Says wrong → ⊥)

-- two answers that are each given exactly when the same holds are given together
together : {P Q B : Type 0} → P ↔ B → Q ↔ B → Q → P
together p q h = p.1 (q.0 h)

-- ---- probing: yes to every descriptor
probed_when_tells : Tells (λ (probe : List ℕ → Bool). (d : List ℕ) → (probe d ≡ true) ↔ ((least_bytes ≤ length d) × (length d ≤ most_bytes) × ((begins d sparse ≡ true) ⊎ FirstSays (lines_of d)))) probe_of (λ d. true)
probed_when_tells = (probed_when, λ s. absurd (omega (arith, ((s []).0 refl).0)))

-- ---- reading: every descriptor accepted; every line one that says no access; every descriptor refused, with each number; 18 and 19 with the extent's number for its line
accepted_when_tells : Tells (λ (read : List ℕ → Verdict). (d : List ℕ) → (read d ≡ (Ok tt)) ↔ (SoundLines d × (size_of (extents_in (sayings_of d)) ≤ largest))) (λ d. (read_of d).verdict) (λ d. (Ok tt))
accepted_when_tells = (accepted_when, λ s. absurd (omega (arith, ((s []).0 refl).0.0.least)))

extent_lines_tells : Tells (λ (line : ℕ → List ℕ → Result Said Fault). (d : List ℕ) (before : List (List ℕ)) (l : List ℕ) (p k : ℕ) (x : VmdkParsedExtent) → LineAt d before l p k → (line p l ≡ Ok (Extent x)) ↔ (ExtentIn d (trimmed l) x × NameAt p l x.storage)) line_of (λ p l. Ok (Extent no_extent))
extent_lines_tells =
    (extent_lines, λ s. let e = together (extent_lines [] [] [] 0 1 no_extent first_line) (s [] [] [] 0 1 no_extent first_line) refl in let n = empty_says in let z : ◌≡◌ {A = ℕ} 0 1 = cc in absurd (omega arith))

given_1_tells : Tells (λ (read : List ℕ → Verdict). (d : List ℕ) (k : ℕ) → (read d ≡ refusal TooShort k) ↔ ((length d < least_bytes) × (k ≡ 0))) (λ d. (read_of d).verdict) (λ d. refusal TooShort 0)
given_1_tells = (given_1, λ s. read_sound TooShort 0 (together (given_1 joined 0) (s joined 0) refl))

given_2_tells : Tells (λ (read : List ℕ → Verdict). (d : List ℕ) (k : ℕ) → (read d ≡ refusal TooLong k) ↔ ((most_bytes < length d) × (k ≡ 0))) (λ d. (read_of d).verdict) (λ d. refusal TooLong 0)
given_2_tells = (given_2, λ s. read_sound TooLong 0 (together (given_2 joined 0) (s joined 0) refl))

given_3_tells : Tells (λ (read : List ℕ → Verdict). (d : List ℕ) (k : ℕ) → (read d ≡ refusal Sparse k) ↔ ((least_bytes ≤ length d) × (length d ≤ most_bytes) × (begins d sparse ≡ true) × (k ≡ 0))) (λ d. (read_of d).verdict) (λ d. refusal Sparse 0)
given_3_tells = (given_3, λ s. read_sound Sparse 0 (together (given_3 joined 0) (s joined 0) refl))

line_faults_tells : Tells (λ (line : ℕ → List ℕ → Result Said Fault). (p : ℕ) (l : List ℕ) (f : LineFault) → (line p l ≡ Err (line_fault f)) ↔ When f (trimmed l)) line_of (λ p l. Err OtherKey)
line_faults_tells =
    (line_faults, λ s. let e = together (line_faults 0 [] unknown_key) (s 0 [] unknown_key) refl in let n = empty_says in let z : ◌≡◌ {A = ℕ} 0 1 = cc in absurd (omega arith))

given_5_to_15_tells : Tells (λ (read : List ℕ → Verdict). (d : List ℕ) (f : LineFault) (k : ℕ) → (read d ≡ refusal (line_fault f) k) ↔ (ByLine d × FirstFault d f k)) (λ d. (read_of d).verdict) (λ d. refusal ParentHint 1)
given_5_to_15_tells = (given_5_to_15, λ s. read_sound ParentHint 1 (together (given_5_to_15 joined parent_hint 1) (s joined parent_hint 1) refl))

given_16_tells : Tells (λ (read : List ℕ → Verdict). (d : List ℕ) (k : ℕ) → (read d ≡ refusal TooManyExtents k) ↔ (ByLine d × OneMore d k)) (λ d. (read_of d).verdict) (λ d. refusal TooManyExtents 1)
given_16_tells = (given_16, λ s. read_sound TooManyExtents 1 (together (given_16 joined 1) (s joined 1) refl))

given_17_tells : Tells (λ (read : List ℕ → Verdict). (d : List ℕ) (k : ℕ) → (read d ≡ refusal OtherVersion k) ↔ (ByLine d × AllSound (sayings_of d) × (within 1 3 (last_version (sayings_of d)) ≡ false) × (k ≡ 0))) (λ d. (read_of d).verdict) (λ d. refusal OtherVersion 0)
given_17_tells = (given_17, λ s. read_sound OtherVersion 0 (together (given_17 joined 0) (s joined 0) refl))

given_18_tells : Tells (λ (read : List ℕ → Verdict). (d : List ℕ) (k : ℕ) → (read d ≡ refusal SizeTooLarge k) ↔ (SoundLines d × OverAt SizeOver d k)) (λ d. (read_of d).verdict) (λ d. refusal SizeTooLarge 0)
given_18_tells = (given_18, λ s. not_oversized (together (given_18 oversized 0) (s oversized 0) refl))

given_19_tells : Tells (λ (read : List ℕ → Verdict). (d : List ℕ) (k : ℕ) → (read d ≡ refusal SumTooLarge k) ↔ (SoundLines d × OverAt SumOver d k)) (λ d. (read_of d).verdict) (λ d. refusal SumTooLarge 1)
given_19_tells = (given_19, λ s. not_overfull (together (given_19 overfull 1) (s overfull 1) refl))

faults_numbered_tells : Tells (λ (number : Fault → ℕ). (n : ℕ) → 1 ≤ n → n ≤ 24 → (f : Fault) × (number f ≡ n)) refusal_number (λ f. 1)
faults_numbered_tells = (faults_numbered.1, λ s. absurd (omega (arith, (s 2 (omega arith) (omega arith)).1)))

reading_numbers_tells : Tells (λ (read : List ℕ → Verdict). (d : List ℕ) (f : Fault) (k : ℕ) → read d ≡ refusal f k → (1 ≤ refusal_number f) × (refusal_number f ≤ 19)) (λ d. (read_of d).verdict) (λ d. refusal FileStartTooLarge 0)
reading_numbers_tells = (reading_numbers, λ s. absurd (omega (arith, (s [] FileStartTooLarge 0 refl).1)))

-- the whole descriptor for the name of each of two extents
names_within_tells : Tells (λ (read : List ℕ → Record). (d : List ℕ) → (read_of d).verdict ≡ (Ok tt) → total (name_bytes d) (counted (read d)) ≤ length d) (λ d. (read_of d).descriptor) (λ d. record_of no_desc (at_line 1 (whole d) ∷ at_line 2 (whole d) ∷ []))
names_within_tells = (names_within, λ s. twice_long (s joined joint_places.0))

-- the extent's number for its line; lines counted from 0
extent_from_line_tells : Tells (λ (line : List ℕ → ℕ → ℕ). (d : List ℕ) (a : (read_of d).verdict ≡ (Ok tt)) (i : ℕ) (h : i < (read_of d).descriptor.count) → line d i ≡ (extent_from_line d a i h).number) (λ d i. line_at (read_of d).descriptor i) (λ d i. i)
extent_from_line_tells =
    (λ d a i h. (extent_from_line d a i h).lined, λ s. let h = joined_read in absurd (omega (arith, s joined joint_places.0 0 h, (extent_from_line joined joint_places.0 0 h).there.number)))

extents_with_lines_tells : Tells (λ (read : List ℕ → Record). (d : List ℕ) → (read_of d).verdict ≡ (Ok tt) → read_in (read d) ≡ read_from 1 (sayings_of d)) (λ d. (read_of d).descriptor) (λ d. record_of no_desc (read_from 0 (sayings_of d)))
extents_with_lines_tells = (extents_with_lines, λ s. not_from_zero (s joined joint_places.0))

-- an empty text that is kept elsewhere than at place 0
last_values_tells : Tells (λ (values : List ℕ → VmdkDesc). (d : List ℕ) (i : Item) → (read_of d).verdict ≡ (Ok tt) → LastSaid d i (held_in (values d) i)) (λ d. (read_of d).descriptor.desc) (λ d. desc_of 1 (record { place = 5; length = 0 }) no_text no_text 0 0 0)
last_values_tells = (last_values, λ s. not_kept (s joined cid joint_places.0))

-- ---- building: every record built, a row left by a refused build, a table that is larger, 18 to 20 with the extent's number for its line, and every record refused with 23
built_when_tells : Tells (λ (build : Record → Verdict). (r : Record) → (build r ≡ (Ok tt)) ↔ ((r.count ≤ most) × (size_of (counted r) ≤ largest) × StartsFit (counted r))) (λ r. (build_of r).verdict) (λ r. (Ok tt))
built_when_tells = (built_when, λ s. absurd (omega (arith, ((s many).0 refl).0)))

refused_no_table_tells : Tells (λ (build : Record → Built). (r : Record) (x : Refusal) → (build r).verdict ≡ Err x → (build r).table ≡ no_table) build_of (λ r. record { verdict = refusal CountTooLarge 0; table = table_of (no_row ∷ []) 0 })
refused_no_table_tells =
    (refused_no_table, λ s. let e = ap (λ (t : Table). t.count) (s no_record (record { fault = CountTooLarge; second = 0 }) refl) in absurd (omega (arith, e)))

sound_builds_tells : Tells (λ (table : Record → Table). (r : Record) → (build_of r).verdict ≡ (Ok tt) → Builds r (table r)) (λ r. (build_of r).table) (λ r. table_of [] 1)
sound_builds_tells =
    (sound_builds, λ s. let e = ap (λ (b : Built). b.table.count) (sym small_builds ∙ s small small_sound) in let n = small_rows in absurd (omega (arith, e, n)))

building_18_tells : Tells (λ (build : Record → Verdict). (r : Record) (k : ℕ) → (build r ≡ refusal SizeTooLarge k) ↔ ((r.count ≤ most) × OverIn SizeOver r k)) (λ r. (build_of r).verdict) (λ r. refusal SizeTooLarge 0)
building_18_tells = (building_18, λ s. not_large (together (building_18 large 0) (s large 0) refl))

building_19_tells : Tells (λ (build : Record → Verdict). (r : Record) (k : ℕ) → (build r ≡ refusal SumTooLarge k) ↔ ((r.count ≤ most) × OverIn SumOver r k)) (λ r. (build_of r).verdict) (λ r. refusal SumTooLarge 1)
building_19_tells = (building_19, λ s. not_summed (together (building_19 summed 1) (s summed 1) refl))

building_20_tells : Tells (λ (build : Record → Verdict). (r : Record) (k : ℕ) → (build r ≡ refusal FileStartTooLarge k) ↔ ((r.count ≤ most) × OverIn StartOver r k)) (λ r. (build_of r).verdict) (λ r. refusal FileStartTooLarge 0)
building_20_tells = (building_20, λ s. not_far (together (building_20 far 0) (s far 0) refl))

building_23_tells : Tells (λ (build : Record → Verdict). (r : Record) (k : ℕ) → (build r ≡ refusal CountTooLarge k) ↔ ((most < r.count) × (k ≡ 0))) (λ r. (build_of r).verdict) (λ r. refusal CountTooLarge 0)
building_23_tells = (building_23, λ s. build_sound CountTooLarge 0 (together (building_23 small 0) (s small 0) refl))

building_numbers_tells : Tells (λ (build : Record → Verdict). (r : Record) (f : Fault) (k : ℕ) → build r ≡ refusal f k → ((18 ≤ refusal_number f) × (refusal_number f ≤ 20)) ⊎ (f ≡ CountTooLarge)) (λ r. (build_of r).verdict) (λ r. refusal OtherVersion 0)
building_numbers_tells = (building_numbers, λ s. not_17 (s no_record OtherVersion 0 refl))

-- ---- places with names: the row of the next line, lines without a row, and the wrong file after a joint
row_from_line_tells : Tells (λ (in-hand : Table → Table). (d : List ℕ) (t : Table) → (read_of d).verdict ≡ (Ok tt) → Builds (read_of d).descriptor t → (i : ℕ) → i < t.count → FromLine d (in-hand t) i) (λ t. t) shifted
row_from_line_tells =
    (row_from_line, λ s. not_shifted (s joined joined_table joint_places.0 joined_opens.1 0 (omega (arith, joined_holds.0))))

line_has_row_tells : Tells (λ (count : Table → ℕ). (d : List ℕ) (t : Table) → (read_of d).verdict ≡ (Ok tt) → Builds (read_of d).descriptor t → (before : List (List ℕ)) (l : List ℕ) (p k : ℕ) → LineAt d before l p k → (x : VmdkParsedExtent) → line_of p l ≡ Ok (Extent x) → length (extents_in (sayings 0 before)) < count t) (λ t. t.count) (λ t. 0)
line_has_row_tells = (line_has_row, λ s. not_few (s joined joined_table joint_places.0 joined_opens.1))

-- the line of a row: the line after its own, one too small, the extent's number, and the line of the extent before
abbrev TellsLine : (Table → ℕ → ℕ) → Type 0
TellsLine wrong =
    Tells (λ (line : Table → ℕ → ℕ). (d : List ℕ) (t : Table) (a : (read_of d).verdict ≡ (Ok tt)) (b : Builds (read_of d).descriptor t) (i : ℕ) (h : i < t.count) → line t i ≡ (row_from_line d t a b i h).number) (λ t i. (row_at t i).line) wrong

row_line_lem : (d : List ℕ) (t : Table) (a : (read_of d).verdict ≡ (Ok tt)) (b : Builds (read_of d).descriptor t) (i : ℕ) (h : i < t.count) → (row_at t i).line ≡ (row_from_line d t a b i h).number
row_line_lem d t a b i h = (row_from_line d t a b i h).lined

-- the first rows of a disk, and the lines of the first two
some_rows : (0 < joined_table.count) × (1 < joined_table.count)
some_rows = (omega (arith, joined_holds.0), omega (arith, joined_holds.0))

first_lines : (0 < (row_at joined_table 0).line) × ((row_at joined_table 0).line < (row_at joined_table 1).line)
first_lines =
    let w = row_from_line joined joined_table joint_places.0 joined_opens.1 0 some_rows.0 in
    (omega (arith, w.lined, w.there.number), lines_rise joined joined_table joint_places.0 joined_opens.1 0 1 (omega arith) some_rows.1)

-- a wrong line, at row i of that disk
wrong_line : (i n : ℕ) (h : i < joined_table.count) → n ≡ (row_from_line joined joined_table joint_places.0 joined_opens.1 i h).number → n ≡ (row_at joined_table i).line
wrong_line i n h e = e ∙ sym (row_line_lem joined joined_table joint_places.0 joined_opens.1 i h)

next_line_tells : TellsLine (λ t i. suc (row_at t i).line)
next_line_tells =
    (row_line_lem, λ s. absurd (omega (arith, wrong_line 0 _ some_rows.0 (s joined joined_table joint_places.0 joined_opens.1 0 some_rows.0))))

too_small_tells : TellsLine (λ t i. (row_at t i).line - 1)
too_small_tells =
    (row_line_lem, λ s. absurd (omega (arith, first_lines, wrong_line 0 _ some_rows.0 (s joined joined_table joint_places.0 joined_opens.1 0 some_rows.0))))

extents_number_tells : TellsLine (λ t i. i)
extents_number_tells =
    (row_line_lem, λ s. absurd (omega (arith, first_lines, wrong_line 0 _ some_rows.0 (s joined joined_table joint_places.0 joined_opens.1 0 some_rows.0))))

extent_before_tells : TellsLine (λ t i. (row_at t (i - 1)).line)
extent_before_tells =
    (row_line_lem, λ s. absurd (omega (arith, first_lines, wrong_line 1 _ some_rows.1 (s joined joined_table joint_places.0 joined_opens.1 1 some_rows.1))))

-- each row with line 0
lines_rise_tells : Tells (λ (line : Table → ℕ → ℕ). (d : List ℕ) (t : Table) → (read_of d).verdict ≡ (Ok tt) → Builds (read_of d).descriptor t → (i j : ℕ) → i < j → j < t.count → line t i < line t j) (λ t i. (row_at t i).line) (λ t i. 0)
lines_rise_tells =
    (lines_rise, λ s. absurd (omega (arith, s joined joined_table joint_places.0 joined_opens.1 0 1 (omega arith) (omega (arith, joined_holds.0)))))

mapping_names_tells : Tells (λ (map : Table → ℕ → ℕ → Result ShallowMapping Fault). (d : List ℕ) (t : Table) → (read_of d).verdict ≡ (Ok tt) → Builds (read_of d).descriptor t → (o asked : ℕ) → seen_by d t (map t o asked) ≡ due_at (place_in d o)) (λ t o asked. (map_of t o asked).mapping) (λ t o asked. Ok (Raw 2 1024 true))
mapping_names_tells =
    (λ d t a b o asked. (mapping_names d t a b o asked).shows, λ s. not_seen (s joined joined_table joint_places.0 joined_opens.1 0 1))

demand_3_names_tells : Tells (λ (walk : Table → ℕ → ℕ → ℕ → Walk). (d : List ℕ) (t : Table) → (read_of d).verdict ≡ (Ok tt) → Builds (read_of d).descriptor t → Reachable (extents_in (sayings_of d)) → (places start long : ℕ) → most ≤ places → All (PlacedBy d t) (walk t places start long).pieces) walk_of (λ t places start long. record { pieces = raw_piece 0 1 2 1024 true ∷ []; stop = (Ok Done); position = 1; looked = 1 })
demand_3_names_tells =
    (λ d t a b h places start long m. (demand_3_names d t a b h places start long m).names, λ s. wrong_file ((s joined joined_table joint_places.0 joined_opens.1 joined_reaches most 0 1 (omega arith)).0 0 (omega arith)))

-- ---- mapping and the walk: each refusal where there are zeros, a table of one row too many mapped and walked, a number that is another's, a row twice
mapping_21_tells : Tells (λ (map : Table → ℕ → ℕ → Result ShallowMapping Fault). (r : Record) (t : Table) → Builds r t → (o asked : ℕ) → (map t o asked ≡ Err Inaccessible) ↔ NoAccessAt (counted r) o) (λ t o asked. (map_of t o asked).mapping) (λ t o asked. Err Inaccessible)
mapping_21_tells = (mapping_21, λ s. map_sound Inaccessible (together (mapping_21 small disk small_builds 0 1) (s small disk small_builds 0 1) refl))

mapping_22_tells : Tells (λ (map : Table → ℕ → ℕ → Result ShallowMapping Fault). (r : Record) (t : Table) → Builds r t → (o asked : ℕ) → (map t o asked ≡ Err OffsetTooLarge) ↔ FileOverAt (counted r) o) (λ t o asked. (map_of t o asked).mapping) (λ t o asked. Err OffsetTooLarge)
mapping_22_tells = (mapping_22, λ s. map_sound OffsetTooLarge (together (mapping_22 small disk small_builds 0 1) (s small disk small_builds 0 1) refl))

mapping_23_tells : Tells (λ (map : Table → ℕ → ℕ → Result ShallowMapping Fault). (t : Table) (o asked : ℕ) → (map t o asked ≡ Err CountTooLarge) ↔ (most < t.count)) (λ t o asked. (map_of t o asked).mapping) (λ t o asked. (Ok Eof))
mapping_23_tells =
    (mapping_23, λ s. let e = (s crowd 0 0).1 (omega arith) in let z : ◌≡◌ {A = ℕ} 0 1 = cc in absurd (omega arith))

mapping_numbers_tells : Tells (λ (map : Table → ℕ → ℕ → Result ShallowMapping Fault). (t : Table) (o asked : ℕ) (f : Fault) → map t o asked ≡ Err f → (21 ≤ refusal_number f) × (refusal_number f ≤ 23)) (λ t o asked. (map_of t o asked).mapping) (λ t o asked. Err FileStartTooLarge)
mapping_numbers_tells = (mapping_numbers, λ s. absurd (omega (arith, (s no_table 0 0 FileStartTooLarge refl).0)))

walk_refused_tells : Tells (λ (walk : Table → ℕ → ℕ → ℕ → Walk). (t : Table) (places begin long : ℕ) (f : Fault) → refusal_number f < 23 → ((walk t places begin long).stop ≡ Err f) ↔ StopsWhere (λ o. (map_of t o (begin + long - o)).mapping ≡ Err f) places begin long (walk t places begin long)) walk_of (λ t places begin long. ends (Err Inaccessible) begin 0)
walk_refused_tells = (walk_refused, λ s. absurd (omega (arith, ((s no_table 0 0 0 Inaccessible (omega arith)).0 refl).left)))

walk_21_tells : Tells (λ (walk : Table → ℕ → ℕ → ℕ → Walk). (r : Record) (t : Table) → Builds r t → (places begin long : ℕ) → ((walk t places begin long).stop ≡ Err Inaccessible) ↔ StopsWhere (NoAccessAt (counted r)) places begin long (walk t places begin long)) walk_of (λ t places begin long. ends (Err Inaccessible) begin 0)
walk_21_tells =
    (walk_21, λ s. map_sound Inaccessible ((mapping_21 small disk small_builds 0 1).1 ((s small disk small_builds 1 0 1).0 refl).so))

walk_22_tells : Tells (λ (walk : Table → ℕ → ℕ → ℕ → Walk). (r : Record) (t : Table) → Builds r t → (places begin long : ℕ) → ((walk t places begin long).stop ≡ Err OffsetTooLarge) ↔ StopsWhere (FileOverAt (counted r)) places begin long (walk t places begin long)) walk_of (λ t places begin long. ends (Err OffsetTooLarge) begin 0)
walk_22_tells =
    (walk_22, λ s. map_sound OffsetTooLarge ((mapping_22 small disk small_builds 0 1).1 ((s small disk small_builds 1 0 1).0 refl).so))

walk_23_tells : Tells (λ (walk : Table → ℕ → ℕ → ℕ → Walk). (t : Table) (places begin long : ℕ) → ((walk t places begin long).stop ≡ Err CountTooLarge) ↔ (most < t.count)) walk_of (λ t places begin long. ends (Ok Done) begin 0)
walk_23_tells =
    (walk_23, λ s. let e = (s crowd 0 0 0).1 (omega arith) in let z : ◌≡◌ {A = ℕ} 0 1 = cc in absurd (omega arith))

walking_numbers_tells : Tells (λ (walk : Table → ℕ → ℕ → ℕ → Walk). (t : Table) (places begin long : ℕ) (f : Fault) → (walk t places begin long).stop ≡ Err f → (21 ≤ refusal_number f) × (refusal_number f ≤ 23)) walk_of (λ t places begin long. ends (Err FileStartTooLarge) begin 0)
walking_numbers_tells = (walking_numbers, λ s. absurd (omega (arith, (s no_table 0 0 0 FileStartTooLarge refl).0)))

walk_once_tells : Tells (λ (walk : Table → ℕ → ℕ → ℕ → Walk). (r : Record) (t : Table) → Builds r t → (places start long : ℕ) → Rise 0 (rows_of (walk t places start long).pieces)) walk_of (λ t places start long. record { pieces = no_piece ∷ no_piece ∷ []; stop = (Ok Done); position = start; looked = 0 })
walk_once_tells = (walk_once, λ s. absurd (omega (arith, (s small disk small_builds 1 0 1).1.0)))

-- a list that is emptied
walk_only_counted_tells : Tells (λ (left : Walk → List Piece → List Piece). (t : Table) (list : List Piece) (pos long i : ℕ) (none : Piece) → count_of t list pos long ≤ i → get_or (left (walk_with t list pos long) list) i none ≡ get_or list i none) listed (λ w list. [])
walk_only_counted_tells =
    (λ t list pos long i none h. (walk_only_counted t list pos long).kept_at i none h, λ s. let e : ◌≡◌ {A = ℕ} 1 0 = ap (λ (p : Piece). p.start) (s no_table (no_piece ∷ []) 0 0 0 (raw_piece 1 1 1 1 true) no_steps) in absurd (omega (arith, e)))

-- a build whose table is as large as its first extent's line says; a mapping and a walk that tell a row's line
alike_builds_tells : Tells (λ (build : Record → Table). (r s : Record) → AlikeRecords r s → AlikeTables (build r) (build s)) (λ r. (build_of r).table) (λ r. table_of [] (row_at (build_of r).table 0).line)
alike_builds_tells =
    (λ r s a. (alike_builds r s a).table, λ w. let e : (row_at disk 0).line ≡ (row_at moved_disk 0).line = ap (λ (b : Bytes). b.0) (w small moved moved_alike).size in absurd (omega (arith, e, moved_rows)))

alike_maps_tells : Tells (λ (map : Table → ℕ → ℕ → Mapping). (s t : Table) → AlikeTables s t → (o asked : ℕ) → map s o asked ≡ map t o asked) map_of (λ t o asked. ended (row_at t 0).line)
alike_maps_tells =
    (alike_maps, λ w. let e = ap (λ (m : Mapping). m.looked) (w disk moved_disk disks_alike 0 1) in absurd (omega (arith, e, moved_rows)))

alike_walks_tells : Tells (λ (walk : Table → ℕ → ℕ → ℕ → Walk). (s t : Table) → AlikeTables s t → (places start long : ℕ) → walk s places start long ≡ walk t places start long) walk_of (λ t places start long. ends (Ok Done) start (row_at t 0).line)
alike_walks_tells =
    (alike_walks, λ w. let e = ap (λ (z : Walk). z.looked) (w disk moved_disk disks_alike 1 0 1) in absurd (omega (arith, e, moved_rows)))

-- ---- memory that is lent again: a record and a table left as they were, one emptied, nothing stored, the lines behind a refused one stored too, a refusal that leaves a count
lent_record_tells : Tells (λ (into : List ℕ → Record → Record). (d : List ℕ) (r : Record) → read_in (into d r) ≡ read_in (read_of d).descriptor) read_into (λ d r. r)
unfolding read_of filled read_in
lent_record_tells =
    (λ d r. (lent_again d r no_table).extents, λ s. let e : ◌≡◌ {A = ℕ} 1 0 = ap length (s [] small) in absurd (omega (arith, e)))

lent_table_tells : Tells (λ (into : Record → Table → Table). (d : List ℕ) (r : Record) (t : Table) (o asked : ℕ) → map_of (into (read_into d r) t) o asked ≡ map_of (fresh d) o asked) build_into (λ r t. t)
lent_table_tells =
    (λ d r t o asked. (lent_again d r t).maps o asked, λ s. let e = ap (λ (m : Mapping). m.mapping) (s [] no_record disk 0 1) in not_zero (sym map_zero ∙ e))

built_again_tells : Tells (λ (into : Record → Table → Table). (r : Record) (t : Table) (o asked : ℕ) → map_of (into r t) o asked ≡ map_of (build_of r).table o asked) build_into (λ r t. t)
built_again_tells =
    (λ r t o asked. (built_again r t).maps o asked, λ s. let e = ap (λ (m : Mapping). m.mapping) (s (read_of []).descriptor disk 0 1) in not_zero (sym map_zero ∙ e))

reading_leaves_tells : Tells (λ (into : List ℕ → Record → Record). (d : List ℕ) (r : Record) → length r.extents ≡ most → Stored r.extents (stored_of d) (into d r).extents) read_into (λ d r. no_record)
reading_leaves_tells = (λ d r. (reading_leaves d r).places, λ s. not_emptied (s [] small small_long))

reading_whole_tells : Tells (λ (stored : List ℕ → List ReadExtent). (d : List ℕ) → ByLine d → AllSound (sayings_of d) → stored d ≡ read_from 1 (sayings_of d)) stored_of (λ d. [])
reading_whole_tells = (λ d. (reading_leaves d no_record).whole, not_dropped)

reading_before_tells : Tells (λ (stored : List ℕ → List ReadExtent). (d l : List ℕ) (n : Fault) (k : ℕ) → ByLine d → (f : FirstRefused d l n k) → stored d ≡ read_from 1 (sayings 0 f.before)) stored_of (λ d. read_from 1 (sayings_of d))
reading_before_tells = (λ d. (reading_leaves d no_record).before, not_behind)

building_leaves_tells : Tells (λ (into : Record → Table → Table). (r : Record) (t : Table) (x : Refusal) → (build_of r).verdict ≡ Err x → ((into r t).count ≡ 0) × ((into r t).size.0 ≡ 0)) build_into (λ r t. t)
building_leaves_tells =
    (λ r t. (building_leaves r t).refused, λ s. absurd (omega (arith, (s many disk (record { fault = CountTooLarge; second = 0 }) many_refused).0, small_rows)))

-- ---- the report, and the program's answers: nothing written, an empty name without the space, 24 for each input, an answer that is longer, a buffer left as it was
refused_alone_tells : Tells (λ (report : List ℕ → List ℕ). (d : List ℕ) (x : Refusal) → RefusedBy d x → report d ≡ probe_line (probe_of d) ++ refused_line x) report_of (λ d. [])
refused_alone_tells =
    (λ d x r. (refused_alone d x r).report, λ s. no_line (probe_of []) _ (s [] (record { fault = TooShort; second = 0 }) (inl empty_refused)))

refused_map_tells : Tells (λ (map : List ℕ → ℕ → ℕ → List ℕ). (d : List ℕ) (x : Refusal) → RefusedBy d x → (offset long : ℕ) → map d offset long ≡ refused_line x) map_line_of (λ d offset long. [])
refused_map_tells =
    (λ d x r. (refused_alone d x r).map, λ s. line_written _ (s [] (record { fault = TooShort; second = 0 }) (inl empty_refused) 0 0 ∙ refused_is))

refused_walk_tells : Tells (λ (walk : List ℕ → ℕ → ℕ → ℕ → List ℕ). (d : List ℕ) (x : Refusal) → RefusedBy d x → (offset long places : ℕ) → walk d offset long places ≡ refused_line x) walk_lines_of (λ d offset long places. [])
refused_walk_tells =
    (λ d x r. (refused_alone d x r).walk, λ s. line_written _ (s [] (record { fault = TooShort; second = 0 }) (inl empty_refused) 0 0 0 ∙ refused_is))

opened_report_tells : Tells (λ (report : List ℕ → List ℕ). (d : List ℕ) (t : Table) → Opens d t → report d ≡ probe_line (probe_of d) ++ table_lines d (read_of d).descriptor.desc.version t) report_of (λ d. [])
opened_report_tells = (λ d t o. (opened_written d t o).report, λ s. no_line (probe_of joined) _ (s joined _ joined_opens))

opened_map_tells : Tells (λ (map : List ℕ → ℕ → ℕ → List ℕ). (d : List ℕ) (t : Table) → Opens d t → (offset long : ℕ) → map d offset long ≡ mapping_line d t.rows (map_of t offset long)) map_line_of (λ d offset long. [])
opened_map_tells = (λ d t o. (opened_written d t o).map, λ s. line_written _ (s joined _ joined_opens 0 0))

opened_walk_tells : Tells (λ (walk : List ℕ → ℕ → ℕ → ℕ → List ℕ). (d : List ℕ) (t : Table) → Opens d t → (offset long places : ℕ) → walk d offset long places ≡ walk_lines d t.rows (walk_of t places offset long)) walk_lines_of (λ d offset long places. [])
opened_walk_tells = (λ d t o. (opened_written d t o).walk, λ s. walk_written _ _ _ (s joined _ joined_opens 0 0 0))

flat_line_tells : Tells (λ (row : List ℕ → ℕ → Row → List ℕ). (d : List ℕ) (i : ℕ) (r : Row) (a : VmdkAccessType) (start : Bytes) (name : Text) → r.source ≡ File a start name → row d i r ≡ each_spaced (decimal_of i ∷ decimal_of r.start.0 ∷ decimal_of r.end.0 ∷ ascii "FLAT" ∷ access_word a ∷ decimal_of start.0 ∷ []) ++ (name_in d name ++ (0x0A ∷ []))) row_line (λ d i r. lines ("0 0 0 RW FLAT 0 " ∷ []))
unfolding decimal_of digits_in name_in
flat_line_tells =
    (flat_line, λ s. let e = s [] 0 nameless RW (record { 0 = 0 }) no_text refl in let h : ◌≡◌ {A = ℕ} 0x52 0x46 = ap (λ (x : List ℕ). get_or x 6 0) e in absurd (omega (arith, h)))

empty_name_tells : Tells (λ (row : List ℕ → ℕ → Row → List ℕ). (d : List ℕ) (i : ℕ) (r : Row) (a : VmdkAccessType) (start : Bytes) (name : Text) → r.source ≡ File a start name → name_in d name ≡ [] → row d i r ≡ each_spaced (decimal_of i ∷ decimal_of r.start.0 ∷ decimal_of r.end.0 ∷ ascii "FLAT" ∷ access_word a ∷ decimal_of start.0 ∷ []) ++ (0x0A ∷ [])) row_line (λ d i r. lines ("0 0 0 FLAT RW 0" ∷ []))
unfolding decimal_of digits_in name_in
empty_name_tells =
    (empty_name, λ s. let h : ◌≡◌ {A = ℕ} 0x0A 0x20 = ap (λ (x : List ℕ). get_or x 15 0) (s [] 0 nameless RW (record { 0 = 0 }) no_text refl refl) in absurd (omega (arith, h)))

too_long_tells : Tells (λ (answer : List ℕ → Command → List ℕ). (d : List ℕ) (c : Command) → most_input < length d → answer d c ≡ lines ("refused 24 0" ∷ [])) answer_of (λ d c. [])
too_long_tells =
    (too_long, λ s. let h : ◌≡◌ {A = ℕ} 0 13 = ap length (s (zeros (suc most_input)) Report (omega (arith, zeros_long (suc most_input)))) in absurd (omega (arith, h)))

short_enough_tells : Tells (λ (answer : List ℕ → Command → List ℕ). (d : List ℕ) (c : Command) → length d ≤ most_input → answer d c ≡ said d c) answer_of (λ d c. lines ("refused 24 0" ∷ []))
short_enough_tells =
    (short_enough, λ s. let h : ◌≡◌ {A = ℕ} 13 21 = ap length (s [] Report (omega arith) ∙ report_empty) in absurd (omega (arith, h)))

given_24_tells : Tells (λ (answer : List ℕ → Command → List ℕ). (d : List ℕ) (c : Command) → (answer d c ≡ lines ("refused 24 0" ∷ [])) ↔ (most_input < length d)) answer_of (λ d c. lines ("refused 24 0" ∷ []))
given_24_tells = (given_24, λ s. absurd (omega (arith, (s [] Report).0 refl)))

number_digits_tells : Tells (λ (decimal : ℕ → List ℕ). (n : ℕ) → n ≤ largest → length (decimal n) ≤ 20) decimal_of (λ n. ascii "000000000000000000000")
number_digits_tells = (number_digits, λ s. absurd (omega (arith, s 0 (omega arith))))

answer_most_tells : Tells (λ (answer : List ℕ → Command → List ℕ). (d : List ℕ) (c : Command) → Asked c → length (answer d c) ≤ most_input + most * row_most + head_most) answer_of (λ d c. zeros (suc room))
answer_most_tells = (answer_most, λ s. absurd (omega (arith, s [] Report tt, zeros_long (suc room))))

answer_fits_tells : Tells (λ (answer : List ℕ → Command → List ℕ). (d : List ℕ) (c : Command) → Asked c → length (answer d c) ≤ room) answer_of (λ d c. zeros (suc room))
answer_fits_tells = (answer_fits, λ s. absurd (omega (arith, s [] Report tt, zeros_long (suc room))))

program_fits_tells : Tells (λ (answer : List ℕ → Command → List ℕ). (d : List ℕ) (n : ℕ) (mode a b c : List ℕ) → length (answer d (command_of n mode a b c)) ≤ room) answer_of (λ d c. zeros (suc room))
program_fits_tells = (program_fits, λ s. absurd (omega (arith, s [] 0 [] [] [] [], zeros_long (suc room))))

answer_whole_tells : Tells (λ (left : List ℕ → List ℕ → List ℕ). (d : List ℕ) (c : Command) → Asked c → (out : List ℕ) → room ≤ length out → (after 0 (answer_of d c) ≡ length (answer_of d c)) × (take (length (answer_of d c)) (left out (answer_of d c)) ≡ answer_of d c)) (λ out x. pasted out 0 x) (λ out x. out)
answer_whole_tells =
    (answer_whole, λ s. not_there (s [] Report tt (zeros room) (omega (arith, zeros_long room))).1)
