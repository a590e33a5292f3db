-- The line of a mapping: what lies at an offset, the run, the row, and how many rows were looked at; or only the refusal of a read or a build.
use Rattle.std.specs.Prelude.{ℕ, List, [], ◌∷◌, Bool, Err, Ok, Result}
use Rattle.text.specs.Ascii.{ascii}
use Rattle.maps.specs.Map.{map_of}
use Rattle.tables.specs.declared.table.Row.{Row}
use Rattle.tables.specs.declared.table.ShallowMapping.TheVariants.{Eof, Zero, Raw}
use Rattle.tables.specs.declared.table.Mapping.{Mapping}
use Rattle.tables.specs.declared.table.ShallowMapping.{ShallowMapping}
use Rattle.lines.specs.declared.record.Fault.{Fault}
use Rattle.lines.specs.Fault.{refusal_number}
use Rattle.puts.specs.Decimal.{decimal_of}
use Rattle.phrases.specs.Line.{line, mode_word, name_of, source_at}
use Rattle.phrases.specs.Opening.{Opened, open_of, unless}

-- the row, whether it may be written, the rows looked at and the name
abbrev pub row_words : ℕ → Bool → ℕ → List ℕ → List (List ℕ)
row_words i w n name = ascii "row" ∷ decimal_of i ∷ mode_word w ∷ ascii "looked" ∷ decimal_of n ∷ name ∷ []

-- what lies there, for a run of bytes, with n rows looked at
abbrev pub raw_words : List ℕ → List Row → ℕ → ℕ → ℕ → ℕ → Bool → List (List ℕ)
raw_words d rows run n i o w =
    ascii "raw" ∷ decimal_of o ∷ ascii "run" ∷ decimal_of run ∷ row_words i w n (name_of d (source_at rows i))

abbrev pub zero_words : ℕ → ℕ → ℕ → List (List ℕ)
zero_words run i n = ascii "zero run" ∷ decimal_of run ∷ ascii "row" ∷ decimal_of i ∷ ascii "looked" ∷ decimal_of n ∷ []

abbrev pub end_words : ℕ → List (List ℕ)
end_words n = ascii "end run 0 looked" ∷ decimal_of n ∷ []

abbrev pub refused_words : Fault → ℕ → List (List ℕ)
refused_words f n = ascii "refused" ∷ decimal_of (refusal_number f) ∷ ascii "0 run 0 looked" ∷ decimal_of n ∷ []

abbrev pub found_words : List ℕ → List Row → ℕ → ℕ → ShallowMapping → List (List ℕ)
found_words d rows run n (Raw i o w) = raw_words d rows run n i o w
found_words d rows run n (Zero i) = zero_words run i n
found_words d rows run n Eof = end_words n

abbrev pub mapping_words : List ℕ → List Row → ℕ → ℕ → Result ShallowMapping Fault → List (List ℕ)
mapping_words d rows run n (Ok found) = found_words d rows run n found
mapping_words d rows run n (Err f) = refused_words f n

-- a mapping's line
abbrev pub mapping_line : List ℕ → List Row → Mapping → List ℕ
mapping_line d rows m = line (mapping_words d rows m.run m.looked m.mapping)

-- mapping an offset of a descriptor's disk, for at most a length
unfoldable pub map_line_of : List ℕ → ℕ → ℕ → List ℕ
map_line_of d offset length =
    let o : Opened = open_of d in
    unless o.verdict (mapping_line d o.table.rows (map_of o.table offset length))
