-- A descriptor is opened by reading it and building what was read: the first refusal stands. The record that was read into builds as the one that is read.
-- Assumes nothing.
use Prim.Native.Nat.{ℕ}
use mathlib.Core.List.{List}
use mathlib.Core.Path.{◌≡◌, refl, sym}
use Rattle.std.specs.Prelude.{Result, Ok, Err}
use Rattle.lines.specs.declared.record.Record.{Record}
use Rattle.lines.specs.declared.record.Refusal.{Refusal}
use Rattle.descriptor.specs.Read.{read_of}
use Rattle.descriptor.specs.Into.{read_into}
use Rattle.descriptor.proofs.Intos.{into_desc, into_count, into_read, refused_none as read_none}
use Rattle.tables.specs.Build.{no_table, rows_from, build_of}
use Rattle.tables.specs.Into.{build_into}
use Rattle.tables.specs.declared.table.Table.{Table}
use Rattle.tables.proofs.Into.{into_empty, build_same, into_same, refused_none as build_none}
use Rattle.phrases.specs.Line.{refused_line}
use Rattle.phrases.specs.declared.opening.Unopened.{Unopened}
use Rattle.phrases.specs.Opening.{Opened, first, version_or, opened, open_of, open_into, unless}
use Rattle.lines.specs.Record.{Verdict, read_in, no_record}

-- what was read into any record builds as what is read
module _ (d : List ℕ) (r : Record) where
  same_build : build_of (read_into d r) ≡ build_of (read_of d).descriptor
  same_build = build_same (read_into d r) (read_of d).descriptor (into_count d r) (into_read d r)

  pub same_into : (t : Table) → build_into (read_into d r) t ≡ build_into (read_of d).descriptor t
  same_into t = into_same (read_into d r) (read_of d).descriptor t (into_count d r) (into_read d r)

-- Rules of `read_and_build`, by the record that was read into
module _ (d : List ℕ) (z : Record) where
  pub version_read : (read_into d z).desc.version ≡ (open_of d).version
  unfolding open_of
  version_read = rw (into_desc d z)

  pub read_refused : {x : Refusal} → Err x ≡ (read_of d).verdict → Err x ≡ (open_of d).verdict
  unfolding open_of
  read_refused e = rw (← e)

  module _ (e : (Ok tt) ≡ (read_of d).verdict) where
    pub built_told : (build_of (read_into d z)).verdict ≡ (open_of d).verdict
    unfolding open_of
    built_told = rw (← e) (rw (same_build d z))

    -- an empty table becomes the one that is built
    pub built_made : (Ok tt) ≡ (build_of (read_into d z)).verdict → build_into (read_into d z) no_table ≡ (open_of d).table
    unfolding open_of
    built_made q = rw (into_empty (read_into d z) (sym q), same_build d z)

pub ruleset opens = (same_into, version_read, read_refused, built_told, built_made)

-- ---- what opening leaves
-- an empty record builds an empty table
none_builds : (build_of no_record).table ≡ no_table
unfolding build_of read_in rows_from
none_builds = refl

first_none : (d : List ℕ) (v : Verdict) {k : Refusal} → (read_of d).verdict ≡ v → first v (build_of (read_of d).descriptor).verdict ≡ Err k → (build_of (read_of d).descriptor).table ≡ no_table
first_none d (Ok tt) {k} e f = build_none (read_of d).descriptor k f
first_none d (Err x) e f = rw (read_none d x e) none_builds

-- Rules of `open`
module _ (d : List ℕ) where
  pub left_sound : (t : Table) → (Ok tt) ≡ (open_of d).verdict → build_into (read_of d).descriptor t ≡ open_into d t
  unfolding open_into
  left_sound t e = rw (← e)

  pub left_refused : (t : Table) {x : Refusal} → Err x ≡ (open_of d).verdict → no_table ≡ open_into d t
  unfolding open_into
  left_refused t e = rw (← e)

  pub made_refused : {x : Refusal} → Err x ≡ (open_of d).verdict → no_table ≡ (open_of d).table
  unfolding open_of
  made_refused e = sym (first_none d (read_of d).verdict refl (sym e))

pub ruleset leaves = (left_sound, left_refused, made_refused)

-- ---- what opening tells of the definition
-- a text where there is a version, and else the line of the refusal
abbrev pub or_refused : Result ℕ Unopened → List ℕ → List ℕ
or_refused (Ok version) text = text
or_refused (Err e) text = refused_line e.refusal

pub unless_is : (o : Opened) (text : List ℕ) → unless o.verdict text ≡ or_refused (opened o) text
unless_is o text = by_verdict o.verdict o.version
  where
    by_verdict : (v : Verdict) (n : ℕ) → unless v text ≡ or_refused (version_or v n) text
    by_verdict (Ok tt) n = refl
    by_verdict (Err k) n = refl

-- the version that is answered is the one that was read
abbrev pub by_version : Result ℕ Unopened → ℕ → Type 0
by_version (Ok m) n = m ≡ n
by_version (Err e) n = e.version ≡ n

pub version_is : (v : Verdict) (n : ℕ) → by_version (version_or v n) n
version_is (Ok tt) n = refl
version_is (Err r) n = refl
