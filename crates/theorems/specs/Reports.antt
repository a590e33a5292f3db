-- The words of the theorems about the answers: the report of document 01, whole, and what stands in an answer.
use Rattle.std.specs.Prelude.{ℕ, ◌+◌, ◌≤◌, List, [], ◌∷◌, ◌++◌, map, ◌≡◌, ◌⊎◌, length, Err, Ok}
use Prim.Native.String.{String}
use Rattle.text.specs.Ascii.{ascii}
use Rattle.text.specs.Lines.{join_lines}
use Rattle.text.specs.Sector.{largest}
use Rattle.probing.specs.Probe.{probe_of}
use Rattle.descriptor.specs.Read.{read_of}
use Rattle.lines.specs.declared.record.Refusal.{Refusal}
use Rattle.lines.specs.declared.record.VmdkParsedExtent.{VmdkParsedExtent}
use Rattle.tables.specs.Build.{build_of}
use Rattle.tables.specs.declared.table.Table.{Table}
use Rattle.maps.specs.Map.{map_of}
use Rattle.maps.specs.Walk.{walk_of}
use Rattle.phrases.specs.Line.{name_of, refused_line}
use Rattle.disk_lines.specs.Report.{probe_line, table_lines, report_of}
use Rattle.map_lines.specs.Map.{mapping_line, map_line_of}
use Rattle.walk_lines.specs.Walk.{walk_lines, walk_lines_of}
use Rattle.report.specs.declared.command.Command.{Command}
use Rattle.report.specs.declared.command.Command.TheVariants.{Report, Map, Walk, Usage}
use Rattle.theorems.specs.Rows.{Builds, source_of}

-- the eight lines that the program writes for document 01's descriptor
abbrev pub report_due : List String
report_due =
    "probe yes"
    ∷ "version 1"
    ∷ "size 4096"
    ∷ "extents 4"
    ∷ "0 0 2048 FLAT RW 1024 reel a.vmdk"
    ∷ "1 2048 2048 ZERO RDONLY"
    ∷ "2 2048 2560 NOACCESS"
    ∷ "3 2560 4096 ZERO RDONLY"
    ∷ []

-- lines, with a 0A between each two and none after the last
abbrev pub unended : List String → List ℕ
unended ls = join_lines (map ascii ls)

-- reading the descriptor is refused so, or it is read and building is refused so
abbrev pub RefusedBy : List ℕ → Refusal → Type 0
RefusedBy d x =
    ((read_of d).verdict ≡ Err x) ⊎ (((read_of d).verdict ≡ (Ok tt)) × ((build_of (read_of d).descriptor).verdict ≡ Err x))

-- the descriptor is read, and this is the table of its record
abbrev pub Opens : List ℕ → Table → Type 0
Opens d t = ((read_of d).verdict ≡ (Ok tt)) × Builds (read_of d).descriptor t

-- Only the refusal is written: the report has the probe's line before it, and the other answers have nothing else.
pub record OnlyRefused (d : List ℕ) (x : Refusal) : Type 0 where
  pub report : report_of d ≡ probe_line (probe_of d) ++ refused_line x
  pub map : (offset long : ℕ) → map_line_of d offset long ≡ refused_line x
  pub walk : (offset long places : ℕ) → walk_lines_of d offset long places ≡ refused_line x

-- Each answer is written of the table, and the report has the probe's line before it.
pub record OfTable (d : List ℕ) (t : Table) : Type 0 where
  pub report : report_of d ≡ probe_line (probe_of d) ++ table_lines d (read_of d).descriptor.desc.version t
  pub map : (offset long : ℕ) → map_line_of d offset long ≡ mapping_line d t.rows (map_of t offset long)
  pub walk : (offset long places : ℕ) → walk_lines_of d offset long places ≡ walk_lines d t.rows (walk_of t places offset long)

-- words, each with one space after it
abbrev pub each_spaced : List (List ℕ) → List ℕ
each_spaced [] = []
each_spaced (w ∷ ws) = w ++ (0x20 ∷ each_spaced ws)

-- the sum over a list
unfoldable pub total : {A : Type 0} → (A → ℕ) → List A → ℕ
total f [] = 0
total f (x ∷ xs) = f x + total f xs

-- how many bytes an extent's name has in the descriptor; zeros and no access have none
abbrev pub name_bytes : List ℕ → VmdkParsedExtent → ℕ
name_bytes d x = length (name_of d (source_of x.storage))

-- where a walk starts, the one number asked that an answer may repeat, is a number of 64 bits, as every number of the program is
abbrev pub Asked : Command → Type 0
Asked Report = Unit {0}
Asked (Map offset long) = Unit {0}
Asked (Walk offset long places) = offset ≤ largest
Asked Usage = Unit {0}
