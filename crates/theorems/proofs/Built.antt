-- A table that was built is the one table of its extents' rows laid one after the other, because building adds a row for each extent and refuses otherwise.
-- So every fact about its rows is a fact about sums of sizes.
-- Assumes nothing.
use Rattle.std.specs.Prelude.{Ok}
use Prim.Native.Nat.{ℕ, zero, suc, ◌+◌, ◌-◌, ◌*◌, ◌<◌, ◌≤◌}
use native.Mathlib.Omega.{arith}
use mathlib.Core.List.{List, [], ◌∷◌, ◌++◌}
use mathlib.Core.Bool.{Bool, true, false}
use mathlib.Core.Path.{◌≡◌, refl, sym, ap, ◌∙◌}
use lib.ListN.{length, get_or, take, replicate, length-take}
use lib.Seq.{take_all}
use lib.Dec.{leb}
use borrow.Author.Tests.{leb-true}
use Rattle.text.specs.Ranges.{pick}
use Rattle.text.specs.Sector.{bytes_of, largest, sector_size}
use Rattle.text.specs.declared.sector.Sectors.{Sectors}
use Rattle.lines.specs.Record.{most, filled, read_in, bare, counted, no_read, no_extent, refusal}
use Rattle.lines.specs.declared.record.Record.{Record}
use Rattle.lines.specs.declared.record.ReadExtent.{ReadExtent}
use Rattle.lines.specs.declared.record.VmdkParsedExtent.{VmdkParsedExtent}
use Rattle.lines.specs.declared.record.VmdkParsedStorage.{VmdkParsedStorage}
use Rattle.lines.specs.declared.record.VmdkParsedStorage.TheVariants.{NoAccess, Zero, Flat}
use Rattle.tables.specs.declared.table.Source.{Source}
use Rattle.tables.specs.declared.table.Row.{Row}
use Rattle.tables.specs.declared.table.Table.{Table}
use Rattle.lines.specs.declared.record.Fault.TheVariants.{SizeTooLarge, SumTooLarge, FileStartTooLarge, CountTooLarge}
use Rattle.lines.specs.declared.record.Fault.{Fault}
use Rattle.tables.specs.Build.{Built, no_row, table_of, Rows, rows, refused, in_bytes, in_source, before, rows_from, built, build_of}
use Rattle.maps.specs.Place.{bytes_in, size_of}
use Rattle.theorems.specs.Rows.{Builds, source_of, line_at}
use Rattle.theorems.proofs.Sayings.{bare_length}
use Rattle.text.proofs.Flat.{by_test}

-- the row of a line's extent that starts at a place of the disk
abbrev pub row_of : ℕ → ℕ → VmdkParsedExtent → Row
row_of k start x = record { start = record { 0 = start }; end = record { 0 = start + bytes_in x }; source = source_of x.storage; line = k }

-- the rows of extents, one after the other, whose lines are told by their numbers
unfoldable pub laid : (ℕ → ℕ) → ℕ → List VmdkParsedExtent → List Row
laid ln start [] = []
laid ln start (x ∷ xs) = row_of (ln 0) start x ∷ laid (λ i. ln (suc i)) (start + bytes_in x) xs

-- the lines of read extents
abbrev pub lines_in : List ReadExtent → ℕ → ℕ
lines_in xs i = (get_or xs i no_read).line

never : {k : ℕ} {n : Fault} {rs : List Row} {size : ℕ} → refused n k ≡ rows rs size → ⊥
never e = let z : ◌≡◌ {A = ℕ} 0 1 = cc in omega arith

-- an extent's file start in bytes is a number of 64 bits
abbrev pub FileStarts : VmdkParsedStorage → Type 0
FileStarts NoAccess = Unit {0}
FileStarts (Zero a) = Unit {0}
FileStarts (Flat a name start) = start.0 * sector_size ≤ largest

-- extents that begin at a place of the disk: each ends at a number of 64 bits, and so starts its file
abbrev pub Numbers : ℕ → List VmdkParsedExtent → Type 0
Numbers start [] = Unit {0}
Numbers start (x ∷ xs) = (start + bytes_in x ≤ largest) × FileStarts x.storage × Numbers (start + bytes_in x) xs

-- what a refusal would have stopped has gone on
module _ (else : Rows) (rs : List Row) (size : ℕ) (off : else ≡ rows rs size → ⊥) where
  in_bytes_lem : (s : Sectors) (go : ℕ → Rows) → in_bytes (bytes_of s) else go ≡ rows rs size → (go (s.0 * sector_size) ≡ rows rs size) × (s.0 * sector_size ≤ largest)
  unfolding bytes_of
  in_bytes_lem s go h = by_test (leb (s.0 * sector_size) largest) (λ e. (rw e at h, leb-true _ _ e)) (λ e. absurd (off (rw e at h)))

  in_test : (b : Bool) (go : Rows) → pick b go else ≡ rows rs size → (go ≡ rows rs size) × (b ≡ true)
  in_test true go h = (h, refl)
  in_test false go h = absurd (off h)

  in_source_lem : (st : VmdkParsedStorage) (go : Source → Rows) → in_source st else go ≡ rows rs size → (go (source_of st) ≡ rows rs size) × FileStarts st
  in_source_lem NoAccess go h = (h, tt)
  in_source_lem (Zero a) go h = (h, tt)
  in_source_lem (Flat a name start) go h = in_bytes_lem start _ h

in_front : (r : Row) (more : Rows) (rs : List Row) (size : ℕ) → before r more ≡ rows rs size → (rs' : List Row) × (more ≡ rows rs' size) × (rs ≡ r ∷ rs')
in_front r (rows rs' n) rs size h = (rs', cc, cc)
in_front r (refused n k) rs size h = absurd (never h)

pub rows_laid : (start : ℕ) (xs : List ReadExtent) (rs : List Row) (size : ℕ) → rows_from start xs ≡ rows rs size → (rs ≡ laid (lines_in xs) start (bare xs)) × (size ≡ start + size_of (bare xs)) × Numbers start (bare xs)
unfolding rows_from laid size_of bare
rows_laid start [] rs size h =
    let a : [] ≡ rs = cc in
    let b : start ≡ size = cc in
    (sym a, omega arith, tt)
rows_laid start (x ∷ xs) rs size h =
    let k = x.line in
    let y = x.extent in
    let h₁ = in_bytes_lem (refused SizeTooLarge k) rs size never y.sectors _ h in
    let h₂ = in_test (refused SumTooLarge k) rs size never (leb (start + bytes_in y) largest) _ h₁.0 in
    let h₃ = in_source_lem (refused FileStartTooLarge k) rs size never y.storage _ h₂.0 in
    let f = in_front (row_of k start y) (rows_from (start + bytes_in y) xs) rs size h₃.0 in
    let g = rows_laid (start + bytes_in y) xs f.0 size f.1 in
    (f.2 ∙ rw g.0, omega (arith, g.1), (leb-true _ _ h₂.1, h₃.1, g.2))

built_rows : (got : Rows) (t : Table) → built got ≡ record { verdict = (Ok tt); table = t } → (rs : List Row) × (size : ℕ) × (got ≡ rows rs size) × (t ≡ table_of rs size)
built_rows (rows rs size) t h = (rs, size, refl, sym (ap (λ (b : Built). b.table) h))
built_rows (refused n k) t h =
    let v : refusal n k ≡ (Ok tt) = ap (λ (b : Built). b.verdict) h in let z : ◌≡◌ {A = ℕ} 0 1 = cc in absurd (omega arith)

pub counted_few : (r : Record) → length (counted r) ≤ r.count
unfolding read_in
counted_few r = omega (arith, bare_length (take r.count r.extents), length-take r.count r.extents)

counted_short : (r : Record) → r.count ≤ most → length (counted r) ≤ most
counted_short r h = omega (arith, h, counted_few r)

-- the table of some extents
abbrev pub table_in : (ℕ → ℕ) → List VmdkParsedExtent → Table
table_in ln xs = table_of (laid ln 0 xs) (size_of xs)

rows_table : (xs : List ReadExtent) (rs : List Row) (size : ℕ) (t : Table) → rows_from 0 xs ≡ rows rs size → t ≡ table_of rs size → t ≡ table_in (lines_in xs) (bare xs)
rows_table xs rs size t h e =
    let g = rows_laid 0 xs rs size h in
    let s : size ≡ size_of (bare xs) = omega arith in
    rw (e, g.0, s)

-- a built table is the table of its extents' rows, and its numbers are of 64 bits
pub table_laid : (r : Record) (t : Table) → Builds r t → (t ≡ table_in (line_at r) (counted r)) × (length (counted r) ≤ most) × Numbers 0 (counted r)
unfolding build_of
table_laid r t h =
    by_test (leb r.count most)
    (λ e. let b = built_rows (rows_from 0 (read_in r)) t (rw e at h) in
    (rows_table (read_in r) b.0 b.1 t b.2 b.3, counted_short r (leb-true r.count most e), (rows_laid 0 (read_in r) b.0 b.1 b.2).2))
    (λ e. let b = built_rows (refused CountTooLarge 0) t (rw e at h) in absurd (never b.2))

pub length_laid : (ln : ℕ → ℕ) (start : ℕ) (xs : List VmdkParsedExtent) → length (laid ln start xs) ≡ length xs
unfolding laid
length_laid ln start [] = refl
length_laid ln start (x ∷ xs) = ap suc (length_laid (λ i. ln (suc i)) (start + bytes_in x) xs)

-- row i starts at the sum of the sizes before it
pub row_laid : (ln : ℕ → ℕ) (start : ℕ) (xs : List VmdkParsedExtent) (i : ℕ) → i < length xs → get_or (laid ln start xs) i no_row ≡ row_of (ln i) (start + size_of (take i xs)) (get_or xs i no_extent)
unfolding laid size_of
row_laid ln start [] i h = absurd (omega arith)
row_laid ln start (x ∷ xs) zero h = let e : start + 0 ≡ start = omega arith in rw e
row_laid ln start (x ∷ xs) (suc i) h =
    let e : start + bytes_in x + size_of (take i xs) ≡ start + (bytes_in x + size_of (take i xs)) = omega arith in
    row_laid (λ j. ln (suc j)) (start + bytes_in x) xs i (omega arith) ∙ rw e

-- the places past a list's end are `none`, so it reads the same with them
pub filled_at : {A : Type 0} (none : A) (l : List A) (i : ℕ) → get_or (filled none l) i none ≡ get_or l i none
unfolding filled
filled_at none l i = go l i (most - length l)
  where
    rest : (i n : ℕ) → get_or (replicate n none) i none ≡ none
    rest i zero = refl
    rest zero (suc n) = refl
    rest (suc i) (suc n) = rest i n

    go : (l : List _) (i n : ℕ) → get_or (l ++ replicate n none) i none ≡ get_or l i none
    go [] i n = rest i n
    go (x ∷ l) zero n = refl
    go (x ∷ l) (suc i) n = go l i n

-- the sum of the first sizes, one more, and all
pub size_next : (xs : List VmdkParsedExtent) (i : ℕ) → i < length xs → size_of (take (suc i) xs) ≡ size_of (take i xs) + bytes_in (get_or xs i no_extent)
unfolding size_of
size_next [] i h = absurd (omega arith)
size_next (x ∷ xs) zero h = omega arith
size_next (x ∷ xs) (suc i) h = omega (arith, size_next xs i (omega arith))

pub size_grows : (xs : List VmdkParsedExtent) (i j : ℕ) → i ≤ j → size_of (take i xs) ≤ size_of (take j xs)
unfolding size_of
size_grows xs zero j h = omega arith
size_grows xs (suc i) zero h = absurd (omega arith)
size_grows [] (suc i) (suc j) h = omega arith
size_grows (x ∷ xs) (suc i) (suc j) h = omega (arith, size_grows xs i j (omega arith))

pub size_all : (xs : List VmdkParsedExtent) (i : ℕ) → length xs ≤ i → size_of (take i xs) ≡ size_of xs
size_all xs i h = ap size_of (take_all i xs h)

-- what a sound build answers is the table that the record builds
pub sound_build : (r : Record) → (build_of r).verdict ≡ (Ok tt) → Builds r (build_of r).table
sound_build r e = λ i. record { verdict = e i; table = (build_of r).table }
