-- The marked cases K1 to K12 of document 01, and more beside them, as one table: what is asked, and what is due.
use Rattle.std.specs.Prelude.{ℕ, suc, List, [], ◌∷◌, ◌++◌, Bool, true, false, Err, Ok, Result}
use Prim.Native.String.{String}
use Rattle.text.specs.Ascii.{ascii}
use Rattle.probing.specs.Probe.{probe_of}
use Rattle.descriptor.specs.Read.{read_of}
use Rattle.lines.specs.Record.{at_line, no_read, most, no_text, no_desc, desc_of, filled, record_of, refusal, Verdict}
use Rattle.lines.specs.declared.record.Record.{Record}
use Rattle.lines.specs.declared.record.VmdkAccessType.TheVariants.{RW, RdOnly}
use Rattle.lines.specs.declared.record.ReadExtent.{ReadExtent}
use Rattle.lines.specs.declared.record.VmdkParsedExtent.{VmdkParsedExtent}
use Rattle.lines.specs.declared.record.VmdkParsedStorage.{VmdkParsedStorage}
use Rattle.lines.specs.declared.record.VmdkParsedStorage.TheVariants.{NoAccess, Zero, Flat}
use Rattle.tables.specs.declared.table.Table.{Table}
use Rattle.tables.specs.declared.table.Mapping.{Mapping}
use Rattle.tables.specs.declared.table.ShallowMapping.TheVariants.{Eof, Zero as Zeros, Raw}
use Rattle.tables.specs.declared.table.Stop.TheVariants.{Done}
use Rattle.tables.specs.declared.table.Piece.{Piece}
use Rattle.tables.specs.declared.table.ShallowMapping.{ShallowMapping}
use Rattle.tables.specs.declared.table.Stop.{Stop}
use Rattle.lines.specs.declared.record.Fault.{Fault}
use Rattle.lines.specs.declared.record.Fault.TheVariants.{NotThreeWords, OtherVersion, SizeTooLarge, SumTooLarge, FileStartTooLarge, Inaccessible, OffsetTooLarge, CountTooLarge}
use Rattle.tables.specs.Build.{no_row, build_of}
use Rattle.maps.specs.Map.{map_of}
use Rattle.maps.specs.Walk.{Walk, zero_piece, raw_piece, walk_of}
use Rattle.theorems.specs.Maps.{rest_of}
use Rattle.theorems.specs.Tiling.{met_by, no_access_from}

-- an answer
pub data Answer : Type 0 where
  probing : Bool → Answer
  reading : Verdict → Answer
  holding : Record → Answer
  building : Verdict → Answer
  mapping : Mapping → Answer
  walking : Walk → Answer
  number : ℕ → Answer
  numbers : List ℕ → Answer

-- a case: what is asked, and what is due
pub record Case : Type 0 where
  pub got : Answer
  pub due : Answer

abbrev is : Answer → Answer → Case
is got due = record { got = got; due = due }

-- an extent of some sectors
abbrev extent : ℕ → VmdkParsedStorage → VmdkParsedExtent
extent n st = record { sectors = record { 0 = n }; storage = st }

-- lines, each ended by 0A
abbrev pub lines : List String → List ℕ
lines [] = []
lines (l ∷ ls) = ascii l ++ (0x0A ∷ lines ls)

abbrev probes : List String → Bool → Case
probes ls due = is (probing (probe_of (lines ls))) (probing due)

abbrev reads : List String → Verdict → Case
reads ls due = is (reading (read_of (lines ls)).verdict) (reading due)

-- the record and the table of a descriptor
abbrev record_in : List String → Record
record_in ls = (read_of (lines ls)).descriptor

abbrev builds_from : List String → Verdict → Case
builds_from ls due = is (building (build_of (record_in ls)).verdict) (building due)

abbrev table_in : List String → Table
table_in ls = (build_of (record_in ls)).table

-- extents on one line after the other, from line k on
unfoldable pub on_lines : ℕ → List VmdkParsedExtent → List ReadExtent
on_lines k [] = []
on_lines k (x ∷ xs) = at_line k x ∷ on_lines (suc k) xs

-- the table of some extents
abbrev table_by : List VmdkParsedExtent → Table
table_by xs = (build_of (record_of no_desc (on_lines 1 xs))).table

-- a hand-made record, whose lines are whatever its maker wrote
abbrev builds : ℕ → List VmdkParsedExtent → Verdict → Case
builds k xs due = is (building (build_of (record_of no_desc (on_lines k xs))).verdict) (building due)

abbrev maps : Table → ℕ → ℕ → Result ShallowMapping Fault → ℕ → ℕ → Case
maps t o asked m run looked = is (mapping (map_of t o asked)) (mapping (record { mapping = m; run = run; looked = looked }))

-- a walk with `most` places
abbrev walks : Table → ℕ → ℕ → List Piece → Result Stop Fault → ℕ → ℕ → Case
walks t start long pieces stop position looked =
    is (walking (walk_of t most start long)) (walking (record { pieces = pieces; stop = stop; position = position; looked = looked }))

-- the report's descriptor
abbrev pub report : List String
report =
    "# Disk DescriptorFile"
    ∷ "version=1"
    ∷ "CID=fffffffe"
    ∷ "RW 4 FLAT \"reel a.vmdk\" 2"
    ∷ "RDONLY 0 ZERO"
    ∷ "NOACCESS 1"
    ∷ "RDONLY 3 ZERO"
    ∷ []

-- its extents
abbrev reel : List VmdkParsedExtent
reel =
    extent 4 (Flat RW (record { place = 56; length = 11 }) (record { 0 = 2 }))
    ∷ extent 0 (Zero RdOnly)
    ∷ extent 1 NoAccess
    ∷ extent 3 (Zero RdOnly)
    ∷ []

-- one flat extent that starts in the last sector that can be told
abbrev far : ℕ → List VmdkParsedExtent
far n = extent n (Flat RW no_text (record { 0 = 36028797018963967 })) ∷ []

-- a record, and a table, with a count above `most`
abbrev full : Record
full = record { desc = no_desc; count = suc most; extents = filled no_read [] }

abbrev full_table : Table
full_table = record { size = record { 0 = 4096 }; count = suc most; rows = filled no_row [] }

unfoldable pub cases : List Case
cases =
    -- the report: what reading its descriptor gives
    probes report true
    ∷ reads report (Ok tt)
    ∷ is (holding (record_in report)) (holding (record_of (desc_of 1 (record { place = 36; length = 8 }) no_text no_text 0 0 0) (on_lines 4 reel)))
    -- K1 to K6, on its table
    ∷ maps (table_in report) 0 100 (Ok (Raw 0 1024 true)) 100 3
    ∷ maps (table_in report) 2047 100 (Ok (Raw 0 3071 true)) 1 3
    ∷ maps (table_in report) 2048 10 (Err Inaccessible) 0 1
    ∷ maps (table_in report) 2560 0 (Ok (Zeros 3)) 0 2
    ∷ maps (table_in report) 4096 1 (Ok Eof) 0 0
    ∷ walks (table_in report) 2560 5000 (zero_piece 2560 1536 3 ∷ []) (Ok Done) 4096 2
    -- K7: probe no, reads
    ∷ probes ("version=9" ∷ "version=1" ∷ []) false
    ∷ reads ("version=9" ∷ "version=1" ∷ []) (Ok tt)
    -- K8: probe yes, 17
    ∷ probes ("version=1" ∷ "version=9" ∷ []) true
    ∷ reads ("version=1" ∷ "version=9" ∷ []) (refusal OtherVersion 0)
    -- K9: 18, in line 2; one less builds
    ∷ reads ("version=1" ∷ "RW 36028797018963968 ZERO" ∷ []) (refusal SizeTooLarge 2)
    ∷ builds 7 (extent 36028797018963968 (Zero RW) ∷ []) (refusal SizeTooLarge 7)
    ∷ reads ("version=1" ∷ "RW 36028797018963967 ZERO" ∷ []) (Ok tt)
    ∷ builds_from ("version=1" ∷ "RW 36028797018963967 ZERO" ∷ []) (Ok tt)
    -- K10: 19, in line 3
    ∷ reads ("version=1" ∷ "RW 36028797018963967 ZERO" ∷ "RW 1 ZERO" ∷ []) (refusal SumTooLarge 3)
    ∷ builds 7 (extent 36028797018963967 (Zero RW) ∷ extent 1 (Zero RW) ∷ []) (refusal SumTooLarge 8)
    -- lines that say no extent are counted too
    ∷ reads ("# reels" ∷ "version=1" ∷ "" ∷ "RW 36028797018963967 ZERO" ∷ "x" ∷ "RW 1 ZERO" ∷ "" ∷ []) (refusal SumTooLarge 6)
    ∷ builds_from ("version=1" ∷ "RW 1 ZERO" ∷ "# b" ∷ "RW 1 FLAT \"x\" 36028797018963968" ∷ []) (refusal FileStartTooLarge 4)
    -- K11: the last sector of a file, and one past it
    ∷ maps (table_in ("version=1" ∷ "RW 2 FLAT \"x\" 36028797018963967" ∷ [])) 0 1024 (Ok (Raw 0 18446744073709551104 true)) 1024 1
    ∷ maps (table_in ("version=1" ∷ "RW 2 FLAT \"x\" 36028797018963967" ∷ [])) 512 1 (Err OffsetTooLarge) 0 1
    -- K12: 10, in line 2
    ∷ reads ("version=1" ∷ "RW 5 FLAT x \"a\"" ∷ []) (refusal NotThreeWords 2)
    -- writable exactly for RW, and zeros never
    ∷ maps (table_by (extent 1 (Flat RdOnly no_text (record { 0 = 3 })) ∷ [])) 5 9 (Ok (Raw 0 1541 false)) 9 1
    ∷ walks (table_by (extent 1 (Zero RW) ∷ extent 1 (Flat RdOnly no_text (record { 0 = 3 })) ∷ [])) 0 1024 (zero_piece 0 512 0 ∷ raw_piece 512 512 1 1536 false ∷ []) (Ok Done) 1024 3
    -- demand 3's premise exactly met
    ∷ walks (table_by (far 1)) 0 600 (raw_piece 0 512 0 18446744073709551104 true ∷ []) (Ok Done) 512 1
    -- a start past the size
    ∷ walks (table_by reel) 5000 10 [] (Ok Done) 5000 0
    -- a start in a no-access row, and length 0 there
    ∷ walks (table_by reel) 2048 10 [] (Err Inaccessible) 2048 1
    ∷ walks (table_by reel) 2048 0 [] (Ok Done) 2048 0
    -- a range that ends where no access begins, and one byte more
    ∷ walks (table_by reel) 0 2048 (raw_piece 0 2048 0 1024 true ∷ []) (Ok Done) 2048 3
    ∷ walks (table_by reel) 0 2049 (raw_piece 0 2048 0 1024 true ∷ []) (Err Inaccessible) 2048 4
    -- a disk of size 0
    ∷ maps (table_by []) 0 1 (Ok Eof) 0 0
    ∷ walks (table_by []) 0 10 [] (Ok Done) 0 0
    -- 20, and 23 from a hand-made record and table
    ∷ builds 9 (extent 1 (Flat RW no_text (record { 0 = 36028797018963968 })) ∷ []) (refusal FileStartTooLarge 9)
    ∷ is (building (build_of full).verdict) (building (refusal CountTooLarge 0))
    ∷ maps full_table 0 1 (Err CountTooLarge) 0 0
    ∷ walks full_table 7 0 [] (Err CountTooLarge) 7 0
    -- the words of demand 3: what is left of an extent, the first no-access byte, and the extents met
    ∷ is (number (rest_of reel 2047)) (number 1)
    ∷ is (number (no_access_from reel 2000)) (number 2048)
    ∷ is (number (no_access_from reel 4000)) (number 4096)
    ∷ is (numbers (met_by reel 0 2048)) (numbers (0 ∷ []))
    ∷ is (numbers (met_by reel 0 4096)) (numbers (0 ∷ 3 ∷ []))
    ∷ []
