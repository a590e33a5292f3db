-- Reading a descriptor and building its table: refused where either is.
use Rattle.std.specs.Prelude.{ℕ, List, Result, Ok, Err}
use Rattle.descriptor.specs.Read.{Read, read_of}
use Rattle.tables.specs.Build.{Built, no_table, build_of}
use Rattle.tables.specs.Into.{build_into}
use Rattle.tables.specs.declared.table.Table.{Table}
use Rattle.phrases.specs.Line.{refused_line}
use Rattle.phrases.specs.declared.opening.Unopened.{Unopened}
use Rattle.lines.specs.Record.{Verdict}

-- a descriptor that was read and built: its version and its table, or why it is refused
pub record Opened : Type 0 where
  pub verdict : Verdict
  pub version : ℕ
  pub table : Table

-- the first of two refusals
abbrev pub first : Verdict → Verdict → Verdict
first (Ok tt) v = v
first (Err r) v = Err r

-- a record that was read, and its table
abbrev pub open_by : Read → Built → Opened
open_by r b = record { verdict = first r.verdict b.verdict; version = r.descriptor.desc.version; table = b.table }

-- reading, then building
unfoldable pub open_of : List ℕ → Opened
open_of d = open_by (read_of d) (build_of (read_of d).descriptor)

-- what opening answers: the version, beside the refusal where there is one
abbrev pub version_or : Verdict → ℕ → Result ℕ Unopened
version_or (Ok tt) version = Ok version
version_or (Err r) version = Err (record { refusal = r; version = version })

abbrev pub opened : Opened → Result ℕ Unopened
opened o = version_or o.verdict o.version

-- the lent table after opening: empty where either is refused, and otherwise what the build leaves in it
abbrev pub or_none : Verdict → Table → Table
or_none (Ok tt) built = built
or_none (Err r) built = no_table

unfoldable pub open_into : List ℕ → Table → Table
open_into d t = or_none (open_of d).verdict (build_into (read_of d).descriptor t)

-- a refused read or build writes only the refusal
abbrev pub unless : Verdict → List ℕ → List ℕ
unless (Ok tt) text = text
unless (Err r) text = refused_line r
