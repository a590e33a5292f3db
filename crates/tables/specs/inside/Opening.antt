-- How the code opens an extent: its row, or a refusal at its line.
use Rattle.std.specs.Prelude.{ℕ, ◌+◌, Result, Ok, leb, None, Option, Some}
use Rattle.text.specs.Ranges.{pick}
use Rattle.text.specs.Sector.{bytes_of, largest}
use Rattle.text.specs.declared.sector.Sectors.{Sectors}
use Rattle.lines.specs.declared.record.Text.{Text}
use Rattle.lines.specs.declared.record.VmdkAccessType.{VmdkAccessType}
use Rattle.lines.specs.declared.record.VmdkParsedExtent.{VmdkParsedExtent}
use Rattle.lines.specs.declared.record.VmdkParsedStorage.{VmdkParsedStorage}
use Rattle.lines.specs.declared.record.VmdkParsedStorage.TheVariants.{NoAccess, Zero, Flat}
use Rattle.lines.specs.declared.record.Refusal.{Refusal}
use Rattle.lines.specs.declared.record.Fault.TheVariants.{SizeTooLarge, SumTooLarge, FileStartTooLarge}
use Rattle.lines.specs.Record.{refused_with}
use Rattle.tables.specs.declared.table.Source.TheVariants.{NoAccess as Locked, Zero as Zeros, Flat as File}
use Rattle.tables.specs.declared.table.Row.{Row}
use Rattle.text.specs.declared.sector.Bytes.{Bytes}
use Rattle.tables.specs.Build.{row_of}

-- by the file start in bytes
abbrev pub file_by : Option Bytes → VmdkAccessType → Text → ℕ → ℕ → ℕ → Result Row Refusal
file_by (Some b) a name line start end = Ok (row_of line start end (File a (record { 0 = b.0 }) name))
file_by None a name line start end = refused_with FileStartTooLarge line

abbrev pub open_file : VmdkAccessType → Text → Sectors → ℕ → ℕ → ℕ → Result Row Refusal
open_file a name offset line start end = file_by (bytes_of offset) a name line start end

-- by the source
abbrev pub open_source : VmdkParsedStorage → ℕ → ℕ → ℕ → Result Row Refusal
open_source NoAccess line start end = Ok (row_of line start end Locked)
open_source (Zero a) line start end = Ok (row_of line start end (Zeros a))
open_source (Flat a name offset) line start end = open_file a name offset line start end

-- by the size in bytes
abbrev pub size_by : Option Bytes → VmdkParsedStorage → ℕ → ℕ → Result Row Refusal
size_by (Some b) s line start = pick (leb (start + b.0) largest) (open_source s line start (start + b.0)) (refused_with SumTooLarge line)
size_by None s line start = refused_with SizeTooLarge line

-- line's extent, which starts at a place of the disk
abbrev pub opened_of : VmdkParsedExtent → ℕ → ℕ → Result Row Refusal
opened_of x line start = size_by (bytes_of x.sectors) x.storage line start
