-- The sum over many mappings of one table, each with its place and its run.
use Rattle.std.specs.Prelude.{ℕ, zero, suc, ◌+◌, ◌*◌, ◌%◌, Bool, nat_lt, Err, Ok, Result}
use Rattle.text.specs.Ranges.{pick}
use Rattle.tables.specs.declared.table.Table.{Table}
use Rattle.tables.specs.declared.table.ShallowMapping.TheVariants.{Eof, Zero, Raw}
use Rattle.tables.specs.declared.table.Mapping.{Mapping}
use Rattle.tables.specs.declared.table.ShallowMapping.{ShallowMapping}
use Rattle.lines.specs.declared.record.Fault.{Fault}
use Rattle.maps.specs.Map.{map_of}
use Rattle.timing.specs.Sum.{fold_of}

-- every mapping asks for so many bytes
abbrev pub asked : ℕ
asked = 65536

-- offsets ascend if the number that asks for it is not 0
abbrev pub is_ascending : ℕ → Bool
is_ascending n = nat_lt 0 n

-- the file offset, 0 for zeros, 1 for the end or a refusal
abbrev pub place_of : Result ShallowMapping Fault → ℕ
place_of (Ok Eof) = 1
place_of (Ok (Zero i)) = 0
place_of (Ok (Raw i at w)) = at
place_of (Err n) = 1

-- the sum with a mapping in it: its place, then its run
abbrev pub mapping_in : ℕ → Mapping → ℕ
mapping_in s g = fold_of (fold_of s (place_of g.mapping)) g.run

-- the offset after an offset, below 2^31: 4,096 further on, or drawn
abbrev pub next_of : Bool → ℕ → ℕ
next_of ascending o = pick ascending ((o + 4096) % 2147483648) ((o * 1103515245 + 12345) % 2147483648)

-- n mappings from an offset on, added to a sum
unfoldable pub map_sum : Bool → ℕ → Table → ℕ → ℕ → ℕ
map_sum ascending zero t o s = s
map_sum ascending (suc n) t o s = map_sum ascending n t (next_of ascending o) (mapping_in s (map_of t o asked))
