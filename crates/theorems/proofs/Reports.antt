-- A report is the probe's line and then, by the verdict of reading and building, the refusal or the table's lines.
-- The report of document 01 is computed.
-- Assumes nothing.
use Rattle.std.specs.Prelude.{Err, Ok}
use Prim.Native.Nat.{ℕ, ◌≤◌, ◌<◌}
use mathlib.Core.List.{List, [], ◌∷◌, ◌++◌, append_assoc}
use mathlib.Core.Logic.{◌⊎◌, inl, inr}
use mathlib.Core.Path.{◌≡◌, refl, ap, ◌∙◌}
use lib.ListN.{length}
use borrow.Author.Tests.{le-leb, lt-leb}
use Rattle.text.specs.Ascii.{ascii}
use Rattle.text.specs.Lines.{lines_of, join_lines}
use Rattle.text.specs.Sector.{sectors_of, bytes_of}
use Rattle.text.specs.Utf8.{lead_of, tail_of, char_of}
use Rattle.text.specs.Blank.{blank}
use Rattle.text.specs.Text.{text_from, text_at, sound, drop_blanks, last_end, trim_text, trim_of, trimmed, run_text, run_of, word_of}
use Rattle.text.specs.Find.{find_from, find_at, same, begins, strip_of}
use Rattle.text.specs.Number.{all_digits, value, digits_of, digits_at, sign_of, number_of}
use Rattle.text.specs.declared.sector.Bytes.{Bytes}
use Rattle.keys.specs.Key.{geometry_key, key_of}
use Rattle.lines.specs.Kept.{kept_at, kept_of, unquoted_of}
use Rattle.lines.specs.Extent.{second_of, third_of, three_words, file_name_of, file_start_of, flat_line, no_access_line, extent_line}
use Rattle.lines.specs.Line.{version_of, geometry_of, geometry_line, value_of, key_line, access_word as word_of_access, access_line, text_line, line_of}
use Rattle.lines.specs.Record.{filled, read_in, bare, Verdict}
use Rattle.lines.specs.declared.record.Text.{Text}
use Rattle.lines.specs.declared.record.Refusal.{Refusal}
use Rattle.lines.specs.declared.record.VmdkAccessType.{VmdkAccessType}
use Rattle.descriptor.specs.Read.{set_of, sizes_from, checked, read_lines, read_of}
use Rattle.probing.specs.Probe.{probe_key, probe_line as probe_one, probe_lines, probe_of}
use Rattle.tables.specs.Build.{Built, rows_from, build_of}
use Rattle.tables.specs.declared.table.Source.TheVariants.{Flat}
use Rattle.tables.specs.declared.table.Row.{Row}
use Rattle.tables.specs.declared.table.Table.{Table}
use Rattle.puts.specs.Decimal.{digits_in, decimal_of}
use Rattle.phrases.specs.Line.{spaced, ended, line, lines_from, lines_to, name_in, access_word, refused_line}
use Rattle.phrases.specs.Opening.{open_of}
use Rattle.disk_lines.specs.Report.{probe_line, row_line, head_lines, table_lines, report_of}
use Rattle.map_lines.specs.Map.{map_line_of}
use Rattle.walk_lines.specs.Walk.{walk_lines_of}
use Rattle.report.specs.Command.{most_input, said, answer_of}
use Rattle.report.specs.declared.command.Command.{Command}
use Rattle.theorems.specs.Cases.{lines, report}
use Rattle.theorems.specs.Reports.{report_due, unended, RefusedBy, Opens, OnlyRefused, OfTable, each_spaced}

-- ---- the report of document 01
pub report_computes : (report_of (lines report) ≡ lines report_due) × (report_of (unended report) ≡ lines report_due)
unfolding report_of join_lines sectors_of lead_of tail_of char_of blank text_from text_at sound drop_blanks last_end trim_text trim_of trimmed run_text run_of word_of find_from find_at same begins strip_of all_digits value digits_of digits_at sign_of number_of lines_of geometry_key key_of kept_at kept_of unquoted_of second_of third_of three_words file_name_of file_start_of flat_line no_access_line extent_line version_of geometry_of geometry_line value_of key_line word_of_access access_line text_line line_of set_of sizes_from checked read_lines read_of probe_key probe_one probe_lines probe_of bytes_of filled read_in bare rows_from build_of digits_in decimal_of spaced ended line lines_from lines_to name_in refused_line open_of probe_line row_line head_lines table_lines
report_computes = (refl, refl)

pub empty_computes : report_of [] ≡ lines ("probe no" ∷ "refused 1 0" ∷ [])
unfolding report_of read_of probe_of open_of probe_line refused_line decimal_of digits_in line spaced ended
empty_computes = refl

-- ---- by the verdicts
module _ (d : List ℕ) where
  read_refused : (x : Refusal) → (read_of d).verdict ≡ Err x → OnlyRefused d x
  unfolding report_of map_line_of walk_lines_of open_of
  read_refused x e = record { report = rw e; map = λ o l. rw e; walk = λ o l p. rw e }

  module _ (s : (read_of d).verdict ≡ (Ok tt)) where
    build_refused : (x : Refusal) → (build_of (read_of d).descriptor).verdict ≡ Err x → OnlyRefused d x
    unfolding report_of map_line_of walk_lines_of open_of
    build_refused x e = record { report = rw (s, e); map = λ o l. rw (s, e); walk = λ o l p. rw (s, e) }

    pub built_written : (t : Table) → build_of (read_of d).descriptor ≡ record { verdict = (Ok tt); table = t } → OfTable d t
    unfolding report_of map_line_of walk_lines_of open_of
    built_written t e = record { report = rw (s, e); map = λ o l. rw (s, e); walk = λ o l p. rw (s, e) }

pub only_refused : (d : List ℕ) (x : Refusal) → RefusedBy d x → OnlyRefused d x
only_refused d x (inl e) = read_refused d x e
only_refused d x (inr e) = build_refused d e.0 x e.1

-- one of the two, for every input
pub refused_or_opens : (d : List ℕ) → ((x : Refusal) × RefusedBy d x) ⊎ ((t : Table) × Opens d t)
refused_or_opens d = by_read (read_of d).verdict refl
  where
    by_build : (read_of d).verdict ≡ (Ok tt) → (b : Built) → build_of (read_of d).descriptor ≡ b → (v : Verdict) → b.verdict ≡ v → ((x : Refusal) × RefusedBy d x) ⊎ ((t : Table) × Opens d t)
    by_build s b q (Ok tt) e = inr (b.table, (s, q ∙ rw (← e)))
    by_build s b q (Err x) e = inl (x, inr (s, ap (λ (b : Built). b.verdict) q ∙ e))

    by_read : (v : Verdict) → (read_of d).verdict ≡ v → ((x : Refusal) × RefusedBy d x) ⊎ ((t : Table) × Opens d t)
    by_read (Ok tt) e = by_build e (build_of (read_of d).descriptor) refl (build_of (read_of d).descriptor).verdict refl
    by_read (Err x) e = inl (x, inl e)

-- ---- a flat row
pub flat_written : (d : List ℕ) (i : ℕ) (r : Row) (a : VmdkAccessType) (start : Bytes) (name : Text) → r.source ≡ Flat a start name → row_line d i r ≡ each_spaced (decimal_of i ∷ decimal_of r.start.0 ∷ decimal_of r.end.0 ∷ ascii "FLAT" ∷ access_word a ∷ decimal_of start.0 ∷ []) ++ (name_in d name ++ (0x0A ∷ []))
unfolding row_line line spaced ended
flat_written d i r a start name e = rw e (simp append_assoc)

-- ---- an input that is too long
module _ (d : List ℕ) (c : Command) where
  pub answer_short : length d ≤ most_input → answer_of d c ≡ said d c
  unfolding answer_of
  answer_short h = rw (le-leb _ _ h)

  pub answer_long : most_input < length d → answer_of d c ≡ lines ("refused 24 0" ∷ [])
  unfolding answer_of refused_line decimal_of digits_in line spaced ended
  answer_long h = rw (lt-leb _ _ h)
