-- Small inputs that are answered without a refusal, and what cannot be said of them: what the wrong answers of RuledOut.antt come to.
-- Each answer is computed, or follows from a theorem of the page.
use Rattle.std.specs.Prelude.{Err, Ok, Result}
use Prim.Native.Nat.{ℕ, suc, ◌+◌, ◌-◌, ◌*◌, ◌^◌, ◌≤◌, ◌<◌}
use native.Mathlib.Omega.{arith}
use mathlib.Core.List.{List, [], ◌∷◌, ◌++◌, map}
use mathlib.Core.Logic.{◌⊎◌, inl, inr}
use mathlib.Core.Bool.{Bool, true}
use mathlib.Core.Path.{◌≡◌, refl, sym, ap, subst, ◌∙◌}
use lib.ListN.{length, take, drop, get_or, replicate, length-replicate, length-append}
use lib.Seq.{take_all}
use lib.Dec.{leb}
use borrow.Author.Tests.{leb-true}
use Rattle.text.specs.Ascii.{ascii}
use Rattle.text.specs.Utf8.{lead_of, tail_of, char_of}
use Rattle.text.specs.Blank.{blank}
use Rattle.text.specs.Find.{find_from, find_at, same, begins}
use Rattle.text.specs.Number.{all_digits, value, digits_of, digits_at, sign_of, number_of}
use Rattle.text.specs.Lines.{lines_of, join_lines}
use Rattle.keys.specs.Key.{geometry_key, key_of}
use Rattle.lines.specs.Kept.{kept_at, kept_of}
use Rattle.lines.specs.Extent.{second_of, third_of, three_words, file_name_of, file_start_of, flat_line, no_access_line, extent_line}
use Rattle.text.specs.Sector.{sectors_of, bytes_of}
use Rattle.text.specs.Text.{text_from, text_at, sound, drop_blanks, last_end, trim_text, trim_of, trimmed, run_text, run_of, word_of}
use Rattle.lines.specs.Line.{version_of, value_of, key_line, access_word as word_of_access, access_line, text_line, line_of}
use Rattle.lines.specs.Record.{at_line, no_read, most, most_bytes, no_text, no_desc, no_record, record_of, filled, read_in, bare, counted, refusal}
use Rattle.lines.specs.declared.line.Said.TheVariants.{Nothing, Extent, Set}
use Rattle.lines.specs.declared.record.Record.{Record}
use Rattle.lines.specs.declared.record.VmdkAccessType.TheVariants.{RW}
use Rattle.lines.specs.declared.record.ReadExtent.{ReadExtent}
use Rattle.lines.specs.declared.record.VmdkParsedExtent.{VmdkParsedExtent}
use Rattle.lines.specs.declared.record.VmdkParsedStorage.TheVariants.{Zero, Flat}
use Rattle.descriptor.specs.Into.{said_before, stored_of}
use Rattle.theorems.specs.LentAgain.{fresh, Stored}
use Rattle.descriptor.specs.Read.{least_bytes, set_of, sizes_from, checked, read_lines, read_of}
use Rattle.tables.specs.Build.{no_table, rows_from, build_of}
use Rattle.tables.specs.declared.table.Row.{Row}
use Rattle.tables.specs.declared.table.ShallowMapping.TheVariants.{Zero as ZeroAt, Raw}
use Rattle.tables.specs.declared.table.Source.TheVariants.{Flat as File}
use Rattle.lines.specs.Alike.{AlikeRecords}
use Rattle.maps.specs.Alike.{AlikeTables}
use Rattle.tables.specs.declared.table.Table.{Table}
use Rattle.maps.specs.Map.{halve, sourced, in_row, search_of, map_of}
use Rattle.maps.specs.Place.{Reachable}
use Rattle.maps.specs.Walk.{Walk, no_piece, walk_from, walk_of}
use Rattle.puts.specs.Decimal.{decimal_of}
use Rattle.puts.specs.Put.{after}
use Rattle.phrases.specs.Line.{ended, line, lines_to, name_in, refused_line}
use Rattle.disk_lines.specs.Report.{yes_no, probe_line}
use Rattle.walk_lines.specs.Walk.{piece_line, stop_text, stop_line, walk_lines}
use Rattle.report.specs.Command.{answer_of}
use Rattle.report.specs.Room.{room}
use Rattle.report.specs.declared.command.Command.TheVariants.{Report}
use Rattle.lines.specs.declared.line.Said.{Said}
use Rattle.lines.specs.declared.record.Fault.{Fault}
use Rattle.lines.specs.Fault.{refusal_number}
use Rattle.lines.specs.declared.record.Fault.TheVariants.{OtherVersion, TooShort, OtherKey, SizeTooLarge, SumTooLarge, FileStartTooLarge, CountTooLarge}
use Rattle.theorems.specs.Cases.{lines}
use Rattle.theorems.specs.LineWords.{cid}
use Rattle.theorems.specs.Values.{Held, number, text, LastSaid}
use Rattle.theorems.specs.Counted.{count_of}
use Rattle.theorems.specs.Reports.{Opens, total, name_bytes}
use Rattle.theorems.specs.NamedPlaces.{NamedPlace, past, locked, zeros as zeros-there, file, place_in, name_of, name_at, Seen, at, refused, seen_by, due_at, FromLine}
use Rattle.theorems.specs.NamedCases.{joined}
use Rattle.theorems.specs.Rows.{Builds, row_at, line_at}
use Rattle.theorems.specs.Statements.{ByLine, place_after, sayings, sayings_of, extents_in, refuses, AllSound, LineAt, FirstRefused, read_from}
use Rattle.theorems.proofs.Sayings.{never, read_length}
use Rattle.theorems.proofs.Verdicts.{read_all, accepted_extents}
use Rattle.theorems.proofs.Built.{counted_few}
use Rattle.theorems.proofs.LineRows.{said_count, row_source}
use Rattle.theorems.proofs.Theorems.{rows_follow, alike_builds, row_from_line, short_enough, report_empty, accepted_when, sound_builds, joint_places, first_refused, reading_leaves}

-- ---- what is read, built, mapped and walked without a refusal
pub read_sound : (n : Fault) (k : ℕ) → (read_of joined).verdict ≡ refusal n k → ⊥
read_sound n k e = let s = joint_places.0 in let z : ◌≡◌ {A = ℕ} 0 1 = cc in absurd (omega arith)

-- one sector of zeros
abbrev pub small : Record
small = record_of no_desc (at_line 1 (record { sectors = record { 0 = 1 }; storage = Zero RW }) ∷ [])

abbrev pub disk : Table
disk = (build_of small).table

-- a count above the room
abbrev pub many : Record
many = record { desc = no_desc; count = suc most; extents = [] }

abbrev pub crowd : Table
crowd = record { size = record { 0 = 0 }; count = suc most; rows = [] }

pub small_sound : (build_of small).verdict ≡ (Ok tt)
unfolding bytes_of filled read_in bare rows_from build_of
small_sound = refl

pub small_builds : Builds small disk
small_builds = sound_builds small small_sound

pub build_sound : (n : Fault) (k : ℕ) → (build_of small).verdict ≡ refusal n k → ⊥
build_sound n k e = let s = small_sound in let z : ◌≡◌ {A = ℕ} 0 1 = cc in absurd (omega arith)

pub map_zero : (map_of disk 0 1).mapping ≡ Ok (ZeroAt 0)
unfolding bytes_of filled read_in bare rows_from build_of halve sourced in_row search_of map_of
map_zero = refl

pub map_sound : (n : Fault) → (map_of disk 0 1).mapping ≡ Err n → ⊥
map_sound n e = let s = map_zero in let z : ◌≡◌ {A = ℕ} 0 1 = cc in absurd (omega arith)

-- the empty line, as the first of the empty descriptor
pub first_line : LineAt [] [] [] 0 1
unfolding lines_of place_after
first_line = record { after = []; lines = refl; place = refl; number = refl }

pub empty_says : line_of 0 [] ≡ (Ok Nothing)
unfolding line_of text_line trim_of trim_text text_at text_from sound drop_blanks last_end
empty_says = refl

pub small_rows : disk.count ≡ 1
unfolding bytes_of filled read_in bare rows_from build_of
small_rows = refl

pub not_17 : ((18 ≤ 17) × (17 ≤ 20)) ⊎ (OtherVersion ≡ CountTooLarge) → ⊥
not_17 (inl h) = absurd (omega (arith, h.0))
not_17 (inr h) = absurd (omega (arith, ap refusal_number h))

pub empty_refused : (read_of []).verdict ≡ refusal TooShort 0
unfolding read_of
empty_refused = refl

pub joined_opens : Opens joined (build_of (read_of joined).descriptor).table
joined_opens = (joint_places.0, sound_builds (read_of joined).descriptor joint_places.1)

-- a table whose rows each stand where the row before them stood
abbrev pub shifted : Table → Table
shifted t = record { size = t.size; count = t.count; rows = drop 1 t.rows }

pub reach : (sectors : ℕ) → leb sectors 3 ≡ true → 512 * sectors ≤ 2 ^ 64
reach sectors h = omega (arith, leb-true sectors 3 h)

-- its table, and the names of its first three rows: two files, and an empty extent between them; its extents are within demand 3's premise
abbrev pub joined_table : Table
joined_table = (build_of (read_of joined).descriptor).table

pub joined_holds : (joined_table.count ≡ 5) × (name_at joined joined_table 0 ≡ ascii "reel a.vmdk") × (name_at joined (shifted joined_table) 0 ≡ ascii "c") × (name_at joined joined_table 2 ≡ ascii "reel b.vmdk") × Reachable (counted (read_of joined).descriptor)
unfolding sectors_of lead_of tail_of char_of blank text_from text_at sound drop_blanks last_end trim_text trim_of trimmed run_text run_of word_of find_from find_at same begins all_digits value digits_of digits_at sign_of number_of lines_of join_lines key_of kept_at kept_of second_of third_of three_words file_name_of file_start_of flat_line no_access_line extent_line version_of value_of key_line word_of_access access_line text_line line_of set_of sizes_from checked read_lines read_of bytes_of filled read_in bare rows_from build_of
joined_holds = (refl, refl, refl, refl, (reach 3 refl, (reach 0 refl, (reach 1 refl, (tt, (tt, tt))))))

-- its first byte, and the name of the wrong file in its place
pub first_byte : place_in joined 0 ≡ file (ascii "reel a.vmdk") 1024 true
first_byte = ap (λ (ps : List NamedPlace). get_or ps 0 past) joint_places.2

abbrev pub named : NamedPlace → List ℕ
named past = []
named locked = []
named zeros-there = []
named (file name f w) = name

pub wrong_file : place_in joined 0 ≡ file (name_at joined joined_table 2) 1024 true → ⊥
wrong_file e =
    let n : ascii "reel a.vmdk" ≡ ascii "reel b.vmdk" = ap named (sym first_byte ∙ e) ∙ joined_holds.3 in
    let h : ◌≡◌ {A = ℕ} 0x61 0x62 = ap (λ (x : List ℕ). get_or x 5 0) n in absurd (omega (arith, h))

abbrev pub seen_place : Seen → NamedPlace
seen_place (at q) = q
seen_place (refused n) = past

pub not_seen : seen_by joined joined_table (Ok (Raw 2 1024 true)) ≡ due_at (place_in joined 0) → ⊥
not_seen e =
    let w : at (file (name_at joined joined_table 2) 1024 true) ≡ at (file (ascii "reel a.vmdk") 1024 true) = rw first_byte at e in
    wrong_file (first_byte ∙ sym (ap seen_place w))

pub joined_reaches : Reachable (extents_in (sayings_of joined))
joined_reaches = subst Reachable (accepted_extents joined joint_places.0) joined_holds.4

-- a walk over nothing
pub no_steps : count_of no_table (no_piece ∷ []) 0 0 ≤ 0
unfolding walk_from walk_of
no_steps = omega arith

-- an extent whose name is the whole descriptor
abbrev pub whole : List ℕ → VmdkParsedExtent
whole d = record { sectors = record { 0 = 1 }; storage = Flat RW (record { place = 0; length = length d }) (record { 0 = 0 }) }

-- a flat row without a name
abbrev pub nameless : Row
nameless = record { start = record { 0 = 0 }; end = record { 0 = 0 }; source = File RW (record { 0 = 0 }) no_text; line = 0 }

-- so many zero bytes
abbrev pub zeros : ℕ → List ℕ
zeros n = replicate n 0

pub zeros_long : (n : ℕ) → length (zeros n) ≡ n
zeros_long n = length-replicate {A = ℕ} n 0

-- a line has at least its end
pub line_long : (ws : List (List ℕ)) → 1 ≤ length (line ws)
unfolding line ended
line_long [] = omega arith
line_long (w ∷ []) = simp length-append (omega arith)
line_long (w ∷ v ∷ ws) = simp length-append (omega (arith, line_long (v ∷ ws)))

pub line_written : (ws : List (List ℕ)) → [] ≡ line ws → ⊥
line_written ws e = absurd (omega (arith, ap length e, line_long ws))

pub line_first : (ws : List (List ℕ)) (after : List ℕ) → [] ≡ line ws ++ after → ⊥
line_first ws after e =
    let h : 0 ≡ length (line ws) + length after = ap length e ∙ length-append (line ws) after in absurd (omega (arith, h, line_long ws))

pub no_line : (b : Bool) (after : List ℕ) → [] ≡ probe_line b ++ after → ⊥
unfolding probe_line
no_line b after = line_first (ascii "probe" ∷ yes_no b ∷ []) after

pub refused_is : refused_line (record { fault = TooShort; second = 0 }) ≡ line (ascii "refused" ∷ decimal_of 1 ∷ decimal_of 0 ∷ [])
unfolding refused_line
refused_is = refl

pub walk_written : (d : List ℕ) (rows : List Row) (w : Walk) → [] ≡ walk_lines d rows w → ⊥
unfolding walk_lines stop_line
walk_written d rows w e =
    let ws : List (List ℕ) = decimal_of w.position ∷ ascii "pieces" ∷ decimal_of (length w.pieces) ∷ ascii "looked" ∷ decimal_of w.looked ∷ [] in
    let pieces : List ℕ = lines_to (piece_line d rows) w.pieces (length w.pieces) in
    let a = length-append pieces (stop_text w.stop ++ line ws) in
    let b = length-append (stop_text w.stop) (line ws) in
    absurd (omega (arith, ap length e, a, b, line_long ws))

pub not_kept : LastSaid joined cid (text (record { place = 5; length = 0 })) → ⊥
not_kept (inl h) =
    let e : ◌≡◌ {A = ℕ} 5 0 = ap (λ (x : Held). kept_place x) h.1 in absurd (omega (arith, e))
  where
    kept_place : Held → ℕ
    kept_place (number n) = 0
    kept_place (text x) = x.place
not_kept (inr l) = absurd (omega (arith, l.says.2 refl))

pub not_shifted : FromLine joined (shifted joined_table) 0 → ⊥
not_shifted w =
    let r = row_source joined joined_table joint_places.0 joined_opens.1 w.before w.line w.place w.number w.there w.extent w.says in
    let e : (row_at joined_table 0).source ≡ (row_at (shifted joined_table) 0).source = (rw w.nth at r) ∙ sym w.source in
    let n : name_at joined joined_table 0 ≡ name_at joined (shifted joined_table) 0 = ap (name_of joined) e in
    let m : ascii "reel a.vmdk" ≡ ascii "c" = sym joined_holds.1 ∙ n ∙ joined_holds.2 in
    let h : ◌≡◌ {A = ℕ} 11 1 = ap length m in absurd (omega (arith, h))

-- a line that says an extent has no row of no rows
pub not_few : ((before : List (List ℕ)) (l : List ℕ) (p k : ℕ) → LineAt joined before l p k → (x : VmdkParsedExtent) → line_of p l ≡ Ok (Extent x) → length (extents_in (sayings 0 before)) < 0) → ⊥
not_few s =
    let w = row_from_line joined joined_table joint_places.0 joined_opens.1 0 (omega (arith, joined_holds.0)) in
    absurd (omega (arith, s w.before w.line w.place w.number w.there w.extent w.says))

-- twice the bytes of a descriptor are more than once
pub twice_long : total (name_bytes joined) (counted (record_of no_desc (at_line 1 (whole joined) ∷ at_line 2 (whole joined) ∷ []))) ≤ length joined → ⊥
unfolding total read_in bare filled name_in
twice_long h = absurd (omega (arith, h, ap length (take_all (length joined) joined (omega arith)), ((accepted_when joined).0 joint_places.0).0.0.least))

-- the first byte of an answer is no zero byte
pub not_there : take (length (answer_of [] Report)) (zeros room) ≡ answer_of [] Report → ⊥
not_there e =
    let w = short_enough [] Report (omega arith) ∙ report_empty in
    let g : take 21 (zeros room) ≡ lines ("probe no" ∷ "refused 1 0" ∷ []) = rw w at e in
    let h : ◌≡◌ {A = ℕ} 0 0x70 = ap (λ (x : List ℕ). get_or x 0 0) g in absurd (omega (arith, h))

-- ---- memory that was used before
pub small_long : length small.extents ≡ most
unfolding filled
small_long = simp length-append (omega (arith, length-replicate {A = ReadExtent} (most - 1) no_read))

pub many_refused : (build_of many).verdict ≡ refusal CountTooLarge 0
unfolding build_of
many_refused = refl

-- nothing is mapped of a disk that is not there
pub not_zero : Ok (ZeroAt 0) ≡ (map_of (fresh []) 0 1).mapping → ⊥
unfolding read_of filled read_in bare rows_from build_of map_of
not_zero e = let z : ◌≡◌ {A = ℕ} 0 1 = cc in absurd (omega arith)

-- what was stored before is kept
pub not_emptied : Stored small.extents (stored_of []) no_record.extents → ⊥
unfolding stored_of filled
not_emptied w =
    let e : ◌≡◌ {A = ℕ} 0 1 = ap (λ (x : ReadExtent). x.extent.sectors.0) (w.kept 0 no_read (omega arith)) in absurd (omega (arith, e))

-- an extent line, and one behind a line that is refused: the one is stored, the other is not
abbrev pub alone : List ℕ
alone = ascii "RW 1 ZERO"

abbrev pub behind : List ℕ
behind = join_lines (map ascii ("x=" ∷ "RW 1 ZERO" ∷ []))

pub alone_holds : ByLine alone × AllSound (sayings_of alone) × (length (extents_in (sayings_of alone)) ≡ 1)
unfolding sectors_of lead_of tail_of char_of blank text_from text_at sound drop_blanks last_end trim_text trim_of trimmed run_text run_of word_of find_from find_at same begins all_digits value digits_of digits_at sign_of number_of lines_of join_lines key_of kept_at kept_of second_of third_of three_words file_name_of file_start_of flat_line extent_line version_of value_of key_line word_of_access access_line text_line line_of sayings refuses extents_in
alone_holds = (record { least = leb-true least_bytes (length alone) refl; small = leb-true (length alone) most_bytes refl; plain = refl }, (refl, leb-true 1 most refl), refl)

pub behind_holds : ((read_of behind).verdict ≡ refusal OtherKey 1) × (length (stored_of behind) ≡ 0) × (length (extents_in (sayings_of behind)) ≡ 1)
unfolding sectors_of lead_of tail_of char_of blank text_from text_at sound drop_blanks last_end trim_text trim_of trimmed run_text run_of word_of find_from find_at same begins all_digits value digits_of digits_at sign_of number_of lines_of join_lines geometry_key key_of kept_at kept_of second_of third_of three_words file_name_of file_start_of flat_line extent_line version_of value_of key_line word_of_access access_line text_line line_of read_lines read_of said_before stored_of sayings extents_in
behind_holds = (refl, refl, refl)

pub not_dropped : ((d : List ℕ) → ByLine d → AllSound (sayings_of d) → [] ≡ read_from 1 (sayings_of d)) → ⊥
not_dropped s = let e : ◌≡◌ {A = ℕ} 0 1 = ap length (s alone alone_holds.0 alone_holds.1) ∙ read_length 1 (sayings_of alone) ∙ alone_holds.2 in absurd (omega (arith, e))

pub not_behind : ((d l : List ℕ) (n : Fault) (k : ℕ) → ByLine d → (f : FirstRefused d l n k) → read_from 1 (sayings_of d) ≡ read_from 1 (sayings 0 f.before)) → ⊥
not_behind s =
    let w = (first_refused behind OtherKey 1 (omega arith) (omega arith)).0 behind_holds.0 in
    let l = w.1.0 in
    let f = w.1.1 in
    let e : ◌≡◌ {A = ℕ} 1 0 = sym behind_holds.2 ∙ sym (read_length 1 (sayings_of behind)) ∙ ap length (s behind l OtherKey 1 w.0 f ∙ sym ((reading_leaves behind no_record).before l OtherKey 1 w.0 f)) ∙ behind_holds.1 in
    absurd (omega (arith, e))

-- ---- lines
pub joined_read : 0 < (read_of joined).descriptor.count
joined_read =
    let r = rows_follow (read_of joined).descriptor joined_table joined_opens.1 in
    omega (arith, joined_holds.0, r.count, counted_few (read_of joined).descriptor)

-- counted from 0, the first extent's line is one too small
first_later : (k : ℕ) (ss : List (Result Said Fault)) → 0 < length (extents_in ss) → (get_or (read_from (suc k) ss) 0 no_read).line ≡ suc (get_or (read_from k ss) 0 no_read).line
unfolding read_from extents_in
first_later k [] h = absurd (omega arith)
first_later k (Ok (Extent x) ∷ ss) h = refl
first_later k ((Ok Nothing) ∷ ss) h = first_later (suc k) ss h
first_later k (Ok (Set v) ∷ ss) h = first_later (suc k) ss h
first_later k (Err n ∷ ss) h = first_later (suc k) ss h

pub not_from_zero : read_in (record_of no_desc (read_from 0 (sayings_of joined))) ≡ read_from 1 (sayings_of joined) → ⊥
not_from_zero e =
    let ss = sayings_of joined in
    let same : read_from 0 ss ≡ read_from 1 ss = sym (read_all no_desc (read_from 0 ss)) ∙ e in
    let some : 0 < length (extents_in ss) = omega (arith, joined_holds.0, said_count joined joined_table joint_places.0 joined_opens.1) in
    absurd (omega (arith, first_later 0 ss some, ap (λ (xs : List ReadExtent). (get_or xs 0 no_read).line) same))

-- one sector of zeros, said by another line
abbrev pub moved : Record
moved = record_of no_desc (at_line 2 (record { sectors = record { 0 = 1 }; storage = Zero RW }) ∷ [])

pub moved_alike : AlikeRecords small moved
unfolding read_in filled
moved_alike = record { desc = refl; count = refl; extents = (refl, tt) }

moved_lines : (line_at small 0 ≡ 1) × (line_at moved 0 ≡ 2)
unfolding read_in filled
moved_lines = (refl, refl)

abbrev pub moved_disk : Table
moved_disk = (build_of moved).table

pub disks_alike : AlikeTables disk moved_disk
disks_alike = (alike_builds small moved moved_alike).table

-- the lines of the two rows
pub moved_rows : ((row_at disk 0).line ≡ 1) × ((row_at moved_disk 0).line ≡ 2)
moved_rows =
    let n = small_rows in
    let m : moved_disk.count ≡ 1 = sym disks_alike.count ∙ n in
    let b = sound_builds moved ((alike_builds small moved moved_alike).sound.0 small_sound) in
    ((rows_follow small disk small_builds).lines 0 (omega (arith, n)) ∙ moved_lines.0, (rows_follow moved moved_disk b).lines 0 (omega (arith, m)) ∙ moved_lines.1)

-- two descriptors that are refused by their sizes, and records that are built by no one: what is given with the number is the line, and not the extent's number
abbrev pub oversized : List ℕ
oversized = lines ("version=1" ∷ "RW 36028797018963968 ZERO" ∷ [])

abbrev pub overfull : List ℕ
overfull = lines ("version=1" ∷ "RW 36028797018963967 ZERO" ∷ "RW 1 ZERO" ∷ [])

sizes_refused : ((read_of oversized).verdict ≡ refusal SizeTooLarge 2) × ((read_of overfull).verdict ≡ refusal SumTooLarge 3)
unfolding sectors_of lead_of tail_of char_of blank text_from text_at sound drop_blanks last_end trim_text trim_of trimmed run_text run_of word_of find_from find_at same begins all_digits value digits_of digits_at sign_of number_of lines_of geometry_key key_of kept_at kept_of second_of third_of three_words file_name_of file_start_of flat_line extent_line version_of value_of key_line word_of_access access_line text_line line_of set_of bytes_of sizes_from checked read_lines read_of
sizes_refused = (refl, refl)

abbrev pub large : Record
large = record_of no_desc (at_line 7 (record { sectors = record { 0 = 36028797018963968 }; storage = Zero RW }) ∷ [])

abbrev pub summed : Record
summed = record_of no_desc (at_line 7 (record { sectors = record { 0 = 36028797018963967 }; storage = Zero RW }) ∷ at_line 9 (record { sectors = record { 0 = 1 }; storage = Zero RW }) ∷ [])

abbrev pub far : Record
far = record_of no_desc (at_line 7 (record { sectors = record { 0 = 1 }; storage = Flat RW no_text (record { 0 = 36028797018963968 }) }) ∷ [])

builds_refused : ((build_of large).verdict ≡ refusal SizeTooLarge 7) × ((build_of summed).verdict ≡ refusal SumTooLarge 9) × ((build_of far).verdict ≡ refusal FileStartTooLarge 7)
unfolding bytes_of filled read_in rows_from build_of
builds_refused = (refl, refl, refl)

pub not_oversized : (read_of oversized).verdict ≡ refusal SizeTooLarge 0 → ⊥
not_oversized e = omega (arith, (never SizeTooLarge 0 SizeTooLarge 2 (sym sizes_refused.0 ∙ e)).1)

pub not_overfull : (read_of overfull).verdict ≡ refusal SumTooLarge 1 → ⊥
not_overfull e = omega (arith, (never SumTooLarge 1 SumTooLarge 3 (sym sizes_refused.1 ∙ e)).1)

pub not_large : (build_of large).verdict ≡ refusal SizeTooLarge 0 → ⊥
not_large e = omega (arith, (never SizeTooLarge 0 SizeTooLarge 7 (sym builds_refused.0 ∙ e)).1)

pub not_summed : (build_of summed).verdict ≡ refusal SumTooLarge 1 → ⊥
not_summed e = omega (arith, (never SumTooLarge 1 SumTooLarge 9 (sym builds_refused.1 ∙ e)).1)

pub not_far : (build_of far).verdict ≡ refusal FileStartTooLarge 0 → ⊥
not_far e = omega (arith, (never FileStartTooLarge 0 FileStartTooLarge 7 (sym builds_refused.2 ∙ e)).1)
