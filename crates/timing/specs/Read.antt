-- What reading, building and probing a descriptor answer, as one number.
use Rattle.std.specs.Prelude.{ℕ, zero, suc, Bool, true, false, List, Err, Ok}
use Rattle.text.specs.Sector.{largest}
use Rattle.descriptor.specs.Read.{read_of}
use Rattle.tables.specs.Build.{no_table, build_of}
use Rattle.tables.specs.Into.{build_into}
use Rattle.tables.specs.declared.table.Table.{Table}
use Rattle.timing.specs.Sum.{fold_of}
use Rattle.lines.specs.Record.{Verdict}

-- a number where the verdict is sound, 2^64-1 where it is a refusal
abbrev pub sound_or : Verdict → ℕ → ℕ
sound_or (Ok tt) n = n
sound_or (Err r) n = largest

-- a size where both verdicts are sound
abbrev pub value_of : Verdict → Verdict → ℕ → ℕ
value_of read built size = sound_or read (sound_or built size)

-- read and build: the disk's size; 2^64-1 if either is refused
unfoldable pub size_of : List ℕ → ℕ
size_of d = value_of (read_of d).verdict (build_of (read_of d).descriptor).verdict (build_of (read_of d).descriptor).table.size.0

-- the same value so many times, added to a sum
unfoldable pub reads_sum : ℕ → ℕ → ℕ → ℕ
reads_sum zero v s = s
reads_sum (suc n) v s = reads_sum n v (fold_of s v)

-- the table of a descriptor: what building leaves in an empty table, with size 0 and no row where reading or building is refused
unfoldable pub table_in : List ℕ → Table
table_in d = build_into (read_of d).descriptor no_table

-- 1 for yes, 0 for no
abbrev pub bit_of : Bool → ℕ
bit_of true = 1
bit_of false = 0
