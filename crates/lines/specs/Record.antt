-- What a record holds: at most 1,024 extents. Places past the count are no access and zeros, of line 0, in a record that was empty before it was read into; an empty text is place 0, length 0.
use Rattle.std.specs.Prelude.{ℕ, ◌-◌, List, [], ◌++◌, map, length, take, drop, replicate, ⊤, Result, Err}
use Rattle.lines.specs.declared.record.Text.{Text}
use Rattle.lines.specs.declared.record.VmdkParsedExtent.{VmdkParsedExtent}
use Rattle.lines.specs.declared.record.VmdkParsedStorage.TheVariants.{NoAccess}
use Rattle.lines.specs.declared.record.ReadExtent.{ReadExtent}
use Rattle.lines.specs.declared.record.VmdkDesc.{VmdkDesc}
use Rattle.lines.specs.declared.record.Record.{Record}
use Rattle.lines.specs.declared.record.Fault.{Fault}
use Rattle.lines.specs.declared.record.Refusal.{Refusal}

-- how many extents a record has room for, and rows a table
abbrev pub most : ℕ
most = 1024

-- the most bytes of a descriptor
abbrev pub most_bytes : ℕ
most_bytes = 2097152

-- the empty text
abbrev pub no_text : Text
no_text = record { place = 0; length = 0 }

-- no access and zeros
abbrev pub no_extent : VmdkParsedExtent
no_extent = record { sectors = record { 0 = 0 }; storage = NoAccess }

-- what line k says, with the line
abbrev pub at_line : ℕ → VmdkParsedExtent → ReadExtent
at_line k x = record { line = k; extent = x }

-- no access and zeros, of no line
abbrev pub no_read : ReadExtent
no_read = at_line 0 no_extent

-- the values of a descriptor: version, CID, parentCID, createType, and the geometry's sectors, heads and cylinders
abbrev pub desc_of : ℕ → Text → Text → Text → ℕ → ℕ → ℕ → VmdkDesc
desc_of v c p t s h y =
    record { version = v; cid = c; parent_cid = p; create_type = t; sectors = s; heads = h; cylinders = y }

-- the start values
abbrev pub no_desc : VmdkDesc
no_desc = desc_of 0 no_text no_text no_text 0 0 0

-- a list in as many places as a record has: what it holds, and `none` in the places past it
unfoldable pub filled : {A : Type 0} → A → List A → List A
filled none xs = xs ++ replicate (most - length xs) none

-- places that held a list, once another list is stored in the first of them: the places past it hold what they held
unfoldable pub over : {A : Type 0} → List A → List A → List A
over xs ys = xs ++ drop (length xs) ys

-- the record of some values and extents
abbrev pub record_of : VmdkDesc → List ReadExtent → Record
record_of desc xs = record { desc = desc; count = length xs; extents = filled no_read xs }

-- the empty record
abbrev pub no_record : Record
no_record = record_of no_desc []

-- the extents that a record counts, each with its line ..
unfoldable pub read_in : Record → List ReadExtent
read_in r = take r.count r.extents

-- .. and without
unfoldable pub bare : List ReadExtent → List VmdkParsedExtent
bare xs = map (λ (x : ReadExtent). x.extent) xs

abbrev pub counted : Record → List VmdkParsedExtent
counted r = bare (read_in r)

-- whether an input is sound, or why it is refused
abbrev pub Verdict : Type 0
Verdict = Result ⊤ Refusal

-- a refusal by its fault and its second number
abbrev pub refusal_at : Fault → ℕ → Refusal
refusal_at fault second = record { fault = fault; second = second }

abbrev pub refused_with : {A : Type 0} → Fault → ℕ → Result A Refusal
refused_with fault second = Err (refusal_at fault second)

abbrev pub refusal : Fault → ℕ → Verdict
refusal fault second = refused_with fault second
