-- Reading: length, then sparse bytes, then line by line; after the lines the version, and then, extent by extent, the sizes.
use Rattle.std.specs.Prelude.{ℕ, suc, ◌+◌, List, [], ◌∷◌, ◌++◌, length, leb, ltb, Err, None, Ok, Option, Result, Some}
use Rattle.text.specs.Ranges.{pick, within}
use Rattle.text.specs.Find.{begins}
use Rattle.text.specs.Lines.{lines_of}
use Rattle.text.specs.Sector.{bytes_of, largest}
use Rattle.lines.specs.Record.{most_bytes, most, at_line, no_desc, desc_of, record_of, no_record, refusal, Verdict}
use Rattle.lines.specs.Line.{line_of}
use Rattle.lines.specs.declared.line.Setting.{Setting}
use Rattle.lines.specs.declared.line.Setting.TheVariants.{Version, Cid, ParentCid, CreateType, Sectors, Heads, Cylinders}
use Rattle.lines.specs.declared.line.Said.TheVariants.{Nothing, Extent, Set}
use Rattle.lines.specs.declared.record.VmdkDesc.{VmdkDesc}
use Rattle.lines.specs.declared.record.ReadExtent.{ReadExtent}
use Rattle.lines.specs.declared.line.Said.{Said}
use Rattle.text.specs.declared.sector.Bytes.{Bytes}
use Rattle.lines.specs.declared.record.Fault.{Fault}
use Rattle.lines.specs.declared.record.Fault.TheVariants.{TooShort, TooLong, Sparse, TooManyExtents, OtherVersion, SizeTooLarge, SumTooLarge}
use Rattle.lines.specs.declared.record.Record.{Record}

-- what reading answers: a record, which is empty where the descriptor is refused
pub record Read : Type 0 where
  pub verdict : Verdict
  pub descriptor : Record

-- the least bytes of a descriptor
abbrev pub least_bytes : ℕ
least_bytes = 4

-- the first four bytes of a sparse file
abbrev pub sparse : List ℕ
sparse = 0x4B ∷ 0x44 ∷ 0x4D ∷ 0x56 ∷ []

-- what a verdict answers for some values and extents: a refused read answers an empty record
abbrev pub answer : Verdict → VmdkDesc → List ReadExtent → Read
answer (Ok tt) d xs = record { verdict = (Ok tt); descriptor = record_of d xs }
answer (Err r) d xs = record { verdict = Err r; descriptor = no_record }

abbrev pub refused_read : Fault → ℕ → Read
refused_read fault second = record { verdict = refusal fault second; descriptor = no_record }

-- a value is set; a repeated key overwrites
unfoldable pub set_of : VmdkDesc → Setting → VmdkDesc
set_of d (Version v) = desc_of v d.cid d.parent_cid d.create_type d.sectors d.heads d.cylinders
set_of d (Cid t) = desc_of d.version t d.parent_cid d.create_type d.sectors d.heads d.cylinders
set_of d (ParentCid t) = desc_of d.version d.cid t d.create_type d.sectors d.heads d.cylinders
set_of d (CreateType t) = desc_of d.version d.cid d.parent_cid t d.sectors d.heads d.cylinders
set_of d (Sectors n) = desc_of d.version d.cid d.parent_cid d.create_type n d.heads d.cylinders
set_of d (Heads n) = desc_of d.version d.cid d.parent_cid d.create_type d.sectors n d.cylinders
set_of d (Cylinders n) = desc_of d.version d.cid d.parent_cid d.create_type d.sectors d.heads n

-- the running sum, within 2^64-1, with the size of line k's extent
abbrev pub summed : ℕ → ℕ → Option Bytes → (ℕ → Verdict) → Verdict
summed k sum (Some b) go = pick (leb (sum + b.0) largest) (go (sum + b.0)) (refusal SumTooLarge k)
summed k sum None go = refusal SizeTooLarge k

-- extent by extent: sectors times 512, then the running sum
unfoldable pub sizes_from : ℕ → List ReadExtent → Verdict
sizes_from sum [] = (Ok tt)
sizes_from sum (x ∷ xs) = summed x.line sum (bytes_of x.extent.sectors) (λ s. sizes_from s xs)

-- after the lines: version 1 to 3; then the sizes
unfoldable pub checked : VmdkDesc → List ReadExtent → Read
checked d xs = pick (within 1 3 d.version) (answer (sizes_from 0 xs) d xs) (refused_read OtherVersion 0)

-- line k: an extent is kept with its line; a refusal is answered with it; 16 at a sound 1,025th extent line
abbrev pub by_line : ℕ → Result Said Fault → VmdkDesc → List ReadExtent → (VmdkDesc → List ReadExtent → Read) → Read
by_line k (Ok Nothing) d xs go = go d xs
by_line k (Ok (Set s)) d xs go = go (set_of d s) xs
by_line k (Ok (Extent x)) d xs go = pick (ltb (length xs) most) (go d (xs ++ (at_line k x ∷ []))) (refused_read TooManyExtents k)
by_line k (Err f) d xs go = refused_read f k

-- the lines from number k on, the first of which lies at the place p of the descriptor, after the values and extents so far
unfoldable pub read_lines : ℕ → ℕ → VmdkDesc → List ReadExtent → List (List ℕ) → Read
read_lines k p d xs [] = checked d xs
read_lines k p d xs (l ∷ ls) = by_line k (line_of p l) d xs (λ d xs. read_lines (suc k) (p + length l + 1) d xs ls)

-- before the lines: the length, and then sparse bytes, which are refused: 1, 2 or 3
abbrev pub before_lines : {A : Type 0} → List ℕ → (Fault → A) → A → A
before_lines t refused lines =
    pick (ltb (length t) least_bytes) (refused TooShort)
    (pick (ltb most_bytes (length t)) (refused TooLong)
    (pick (begins t sparse) (refused Sparse) lines))

-- reading a descriptor
unfoldable pub read_of : List ℕ → Read
read_of t = before_lines t (λ f. refused_read f 0) (read_lines 1 0 no_desc [] (lines_of t))
