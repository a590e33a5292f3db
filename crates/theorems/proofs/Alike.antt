-- What is built of a record is its extents' rows, laid one after the other; the lines are told beside them, so they change nothing else.
-- Assumes nothing.
use Rattle.std.specs.Prelude.{Err, Ok, Option, Some}
use Prim.Native.Nat.{ℕ, ◌<◌}
use native.Mathlib.Omega.{arith}
use mathlib.Core.List.{List, [], ◌∷◌}
use mathlib.Core.Logic.{◌↔◌}
use mathlib.Core.Path.{◌≡◌, refl, sym, ap, ◌∙◌}
use lib.ListN.{length}
use Rattle.lines.specs.Alike.{AllAlike, AlikeRecords}
use Rattle.lines.specs.Record.{read_in, bare, counted, Verdict}
use Rattle.lines.specs.declared.record.ReadExtent.{ReadExtent}
use Rattle.lines.specs.declared.record.Record.{Record}
use Rattle.lines.specs.declared.record.Refusal.{Refusal}
use Rattle.lines.specs.declared.record.VmdkParsedExtent.{VmdkParsedExtent}
use Rattle.lines.specs.declared.record.Fault.{Fault}
use Rattle.tables.specs.declared.table.Row.{Row}
use Rattle.maps.specs.Alike.{AlikeTables}
use Rattle.tables.specs.Build.{no_table, build_of}
use Rattle.tables.proofs.Into.{refused_none}
use Rattle.maps.proofs.Alike.{alike_itself}
use Rattle.theorems.specs.Rows.{line_at}
use Rattle.theorems.specs.Over.{BuildAlike}
use Rattle.theorems.proofs.Built.{table_in, table_laid, length_laid, sound_build}
use Rattle.theorems.proofs.Over.{fault_in, build_sound, build_number}
use Rattle.theorems.proofs.Rows.{row_in}

-- the tables of the same extents, whatever their lines
laid_alike : (ln kn : ℕ → ℕ) (xs : List VmdkParsedExtent) → AlikeTables (table_in ln xs) (table_in kn xs)
laid_alike ln kn xs =
    record {
      size = refl;
      count = length_laid ln 0 xs ∙ sym (length_laid kn 0 xs);
      rows = λ i h.
          let l : i < length xs = omega (arith, h, length_laid ln 0 xs) in
          let a = row_in ln xs i l in
          let b = row_in kn xs i l in
          record {
            start = ap (λ (r : Row). r.start) a ∙ sym (ap (λ (r : Row). r.start) b);
            end = ap (λ (r : Row). r.end) a ∙ sym (ap (λ (r : Row). r.end) b);
            source = ap (λ (r : Row). r.source) a ∙ sym (ap (λ (r : Row). r.source) b);
          };
    }

-- lists that are alike are the same without their lines
all_bare : (xs ys : List ReadExtent) → AllAlike xs ys → bare xs ≡ bare ys
unfolding bare
all_bare [] [] h = refl
all_bare (x ∷ xs) (y ∷ ys) h = rw (h.0, all_bare xs ys h.1)
all_bare [] (y ∷ ys) h = absurd h
all_bare (x ∷ xs) [] h = absurd h

module _ (r s : Record) (same : AlikeRecords r s) where
  extents_same : counted r ≡ counted s
  extents_same = all_bare (read_in r) (read_in s) same.extents

  -- the one builds exactly if the other does
  sound_alike : ((build_of r).verdict ≡ (Ok tt)) ↔ ((build_of s).verdict ≡ (Ok tt))
  sound_alike = (
    λ e. let w = (build_sound r).0 e in (build_sound s).1 (rw (← same.count) w.0, rw (← extents_same) w.1, rw (← extents_same) w.2),
    λ e. let w = (build_sound s).0 e in (build_sound r).1 (rw same.count w.0, rw extents_same w.1, rw extents_same w.2),
  )

  table_alike : (build_of r).verdict ≡ (Ok tt) → AlikeTables (build_of r).table (build_of s).table
  table_alike e =
      let a : (build_of r).table ≡ table_in (line_at r) (counted r) = (table_laid r (build_of r).table (sound_build r e)).0 in
      let b : (build_of s).table ≡ table_in (line_at s) (counted s) = (table_laid s (build_of s).table (sound_build s (sound_alike.0 e))).0 in
      rw (a, b, ← extents_same) (laid_alike (line_at r) (line_at s) (counted r))

  none_alike : (x y : Refusal) → (build_of r).verdict ≡ Err x → (build_of s).verdict ≡ Err y → AlikeTables (build_of r).table (build_of s).table
  none_alike x y e f = rw (refused_none r x e, refused_none s y f) (alike_itself no_table)

  by_verdicts : (v w : Verdict) → (build_of r).verdict ≡ v → (build_of s).verdict ≡ w → AlikeTables (build_of r).table (build_of s).table
  by_verdicts (Ok tt) w e f = table_alike e
  by_verdicts (Err x) (Ok tt) e f = table_alike (sound_alike.1 f)
  by_verdicts (Err x) (Err y) e f = none_alike x y e f

  -- refusals have the same number
  number_alike : (x y : Refusal) → (build_of r).verdict ≡ Err x → (build_of s).verdict ≡ Err y → x.fault ≡ y.fault
  number_alike x y e f =
      let n : fault_in (build_of r).verdict ≡ fault_in (build_of s).verdict = build_number r s same.count same.extents in
      let q : ◌≡◌ {A = Option Fault} (Some x.fault) (Some y.fault) = ap fault_in (sym e) ∙ n ∙ ap fault_in f in
      cc

  pub records_alike : BuildAlike r s
  records_alike = record { sound = sound_alike; number = number_alike; table = by_verdicts (build_of r).verdict (build_of s).verdict refl refl }
