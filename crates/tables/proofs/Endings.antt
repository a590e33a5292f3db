-- Building, extent by extent: what opening the first extent gives decides, and after it what the extents behind it give.
-- Assumes nothing.
use Prim.Native.Nat.{ℕ, suc, ◌+◌, ◌≤◌, ◌<◌}
use native.Mathlib.Omega.{arith}
use mathlib.Core.Path.{◌≡◌, refl, sym, ◌∙◌, ap, subst}
use mathlib.Core.List.{List, [], ◌∷◌, ◌++◌}
use lib.Dec.{leb}
use lib.ListN.{length, take, drop, set, get_or, length-set, drop_of_length-le}
use borrow.Author.Tests.{le-leb, lt-leb}
use Rattle.std.specs.Prelude.{Result, Ok, Err, None, Option, Some}
use Rattle.std.proofs.lemmas.List.{drop_more}
use Rattle.text.specs.Ranges.{pick}
use Rattle.text.specs.Sector.{bytes_upto, bytes_of, largest}
use Rattle.text.specs.declared.sector.Bytes.{Bytes}
use Rattle.text.proofs.Flat.{by_test}
use Rattle.lines.specs.Record.{most, no_read, read_in, over, refused_with}
use Rattle.lines.specs.declared.record.Text.{Text}
use Rattle.lines.specs.declared.record.Record.{Record}
use Rattle.lines.specs.declared.record.Refusal.{Refusal}
use Rattle.lines.specs.declared.record.VmdkAccessType.{VmdkAccessType}
use Rattle.lines.specs.declared.record.ReadExtent.{ReadExtent}
use Rattle.lines.specs.declared.record.VmdkParsedStorage.{VmdkParsedStorage}
use Rattle.lines.specs.declared.record.VmdkParsedStorage.TheVariants.{NoAccess, Zero, Flat}
use Rattle.lines.proofs.Overs.{over_so_far, over_next}
use Rattle.tables.specs.declared.table.Source.TheVariants.{Flat as File}
use Rattle.tables.specs.declared.table.Row.{Row}
use Rattle.tables.specs.declared.table.Table.{Table}
use Rattle.lines.specs.declared.record.Fault.TheVariants.{SizeTooLarge, SumTooLarge, FileStartTooLarge, CountTooLarge}
use Rattle.tables.specs.Build.{Built, Rows, rows, refused, row_of, in_bytes, in_source, before, rows_from, built, build_of}
use Rattle.tables.specs.Into.{then_rows, rows_up_to, stored_rows, build_into}
use Rattle.tables.specs.inside.Opening.{file_by, open_source, size_by, opened_of}
use Rattle.tables.specs.inside.Storing.{size_in, size_of, with_rows}

-- ---- the definition, one extent at a time
-- by what opening an extent gives
abbrev pub by_rows : Result Row Refusal → (ℕ → Rows) → Rows
by_rows (Ok r) go = before r (go r.end.0)
by_rows (Err k) go = refused k.fault k.second

module _ (start : ℕ) (xs : List ReadExtent) where
  abbrev pub go : ℕ → Rows
  go end = rows_from end xs

  by_file : (c : Option Bytes) (a : VmdkAccessType) (name : Text) (k end : ℕ) → in_bytes c (refused FileStartTooLarge k) (λ b. before (row_of k start end (File a (record { 0 = b }) name)) (go end)) ≡ by_rows (file_by c a name k start end) go
  by_file (Some b) a name k end = refl
  by_file None a name k end = refl

  by_source : (s : VmdkParsedStorage) (k end : ℕ) → in_source s (refused FileStartTooLarge k) (λ source. before (row_of k start end source) (go end)) ≡ by_rows (open_source s k start end) go
  by_source NoAccess k end = refl
  by_source (Zero a) k end = refl
  by_source (Flat a name offset) k end = by_file (bytes_of offset) a name k end

  by_size : (c : Option Bytes) (s : VmdkParsedStorage) (k : ℕ) → in_bytes c (refused SizeTooLarge k) (λ size. pick (leb (start + size) largest) (in_source s (refused FileStartTooLarge k) (λ source. before (row_of k start (start + size) source) (go (start + size)))) (refused SumTooLarge k)) ≡ by_rows (size_by c s k start) go
  by_size (Some b) s k = by_test (leb (start + b.0) largest) (λ e. rw e (by_source s k (start + b.0))) (λ e. rw e)
  by_size None s k = refl

  pub rows_open : (x : ReadExtent) → rows_from start (x ∷ xs) ≡ by_rows (opened_of x.extent x.line start) go
  unfolding rows_from
  rows_open x = by_size (bytes_of x.extent.sectors) x.extent.storage x.line

-- ---- the rows that are stored
pub rows_none : (size : ℕ) → rows_from size [] ≡ rows [] size
unfolding rows_from
rows_none size = refl

pub up_to_none : (start : ℕ) → rows_up_to start [] ≡ []
unfolding rows_up_to
up_to_none start = refl

-- by what opening the extent gives
abbrev pub stored_by : Result Row Refusal → (ℕ → List Row) → List Row
stored_by (Ok r) go = r ∷ go r.end.0
stored_by (Err k) go = []

stored_by_lem : (o : Result Row Refusal) (more : ℕ → List Row) → then_rows (by_rows o (λ end. rows_from end [])) more ≡ stored_by o more
unfolding rows_from
stored_by_lem (Ok r) more = refl
stored_by_lem (Err k) more = refl

pub up_to_open : (start : ℕ) (x : ReadExtent) (xs : List ReadExtent) → rows_up_to start (x ∷ xs) ≡ stored_by (opened_of x.extent x.line start) (λ end. rows_up_to end xs)
unfolding rows_up_to
up_to_open start x xs = ap (λ (z : Rows). then_rows z (λ end. rows_up_to end xs)) (rows_open start [] x) ∙ stored_by_lem (opened_of x.extent x.line start) (λ end. rows_up_to end xs)

-- ---- the loop over the extents
-- no size is told before the last extent
size_before : (r : Row) (z : Rows) → size_in (before r z) ≡ size_in z
size_before r (rows rs size) = refl
size_before r (refused n k) = refl

-- what is answered from some extents on, whose first row starts at a place of the disk
unfoldable pub answer_from : Bytes → List ReadExtent → Result Bytes Refusal
answer_from start xs = size_in (rows_from start.0 xs)

-- what is left from there on, with the rows so far in the first i places
unfoldable pub left_from : Bytes → List ReadExtent → ℕ → Table → Table
left_from start xs i t = with_rows (take i t.rows ++ rows_up_to start.0 xs) t

-- before the first extent
module _ (r : Record) where
  begin_answer : r.count ≤ most → size_of r ≡ answer_from (bytes_upto 0) (read_in r)
  unfolding size_of answer_from
  begin_answer h = rw (le-leb r.count most h)

  begin_left : (t : Table) → r.count ≤ most → with_rows (stored_rows r) t ≡ left_from (bytes_upto 0) (read_in r) 0 t
  unfolding stored_rows left_from
  begin_left t h = rw (le-leb r.count most h)

  pub many_answer : most < r.count → refused_with CountTooLarge 0 ≡ size_of r
  unfolding size_of
  many_answer h = rw (lt-leb r.count most h)

  pub many_left : (t : Table) → most < r.count → t ≡ with_rows (stored_rows r) t
  unfolding stored_rows over
  many_left t h = rw (lt-leb r.count most h)

-- extent i, with those behind it
module _ (start : Bytes) (xs : List ReadExtent) (i : ℕ) (h : i < length xs) where
  abbrev pub read : ReadExtent
  read = get_or xs i no_read

  module _ {row : Row} (e : Ok row ≡ opened_of read.extent read.line start.0) where
    row_answer : answer_from start (drop i xs) ≡ answer_from row.end (drop (i + 1) xs)
    unfolding answer_from
    row_answer = rw (drop_more xs i no_read h, rows_open start.0 (drop (i + 1) xs) read, ← e) (size_before row (rows_from row.end.0 (drop (i + 1) xs)))

    row_left : (t : Table) → i < length t.rows → left_from start (drop i xs) i t ≡ left_from row.end (drop (i + 1) xs) (i + 1) (record { size = t.size; count = t.count; rows = set t.rows i row })
    unfolding left_from
    row_left t l =
        let next = up_to_open start.0 read (drop (i + 1) xs) in
        rw (drop_more xs i no_read h, next, ← e) (ap (λ (rs : List Row). record { size = t.size; count = t.count; rows = rs }) (sym (over_next t.rows (rows_up_to row.end.0 (drop (i + 1) xs)) i row l)))

  module _ {k : Refusal} (e : Err k ≡ opened_of read.extent read.line start.0) where
    stop_answer : answer_from start (drop i xs) ≡ Err k
    unfolding answer_from
    stop_answer = rw (drop_more xs i no_read h, rows_open start.0 (drop (i + 1) xs) read, ← e)

    stop_left : (t : Table) → i ≤ length t.rows → left_from start (drop i xs) i t ≡ t
    unfolding left_from
    stop_left t l =
        let next = up_to_open start.0 read (drop (i + 1) xs) in
        rw (drop_more xs i no_read h, next, ← e) (ap (λ (rs : List Row). record { size = t.size; count = t.count; rows = rs }) (over_so_far t.rows i l))

-- after the last
module _ (size : Bytes) (xs : List ReadExtent) (i : ℕ) (h : length xs ≤ i) where
  end_answer : answer_from size (drop i xs) ≡ Ok size
  unfolding answer_from
  end_answer = rw (drop_of_length-le xs h, rows_none size.0)

  end_left : (t : Table) → i ≤ length t.rows → left_from size (drop i xs) i t ≡ t
  unfolding left_from
  end_left t l = rw (drop_of_length-le xs h, up_to_none size.0) (ap (λ (rs : List Row). record { size = t.size; count = t.count; rows = rs }) (over_so_far t.rows i l))

-- the extents from i on
abbrev pub rest : Record → ℕ → List ReadExtent
rest r i = drop i (take r.count r.extents)

-- what is known before extent i, with the rows so far in the first i places of the table t: what was left when building began has become what is left from here on
pub record Stands (r : Record) (first t : Table) (i : ℕ) (size : Bytes) : Type 0 where
  pub answer : size_of r ≡ answer_from size (rest r i)
  pub left : with_rows (stored_rows r) first ≡ left_from size (rest r i) i t
  pub room : i ≤ length t.rows

pub begin_stands : (r : Record) (t : Table) {size : Bytes} → r.count ≤ most → size ≡ bytes_upto 0 → Stands r t t 0 size
unfolding read_in
begin_stands r t h e = rw e (record { answer = begin_answer r h; left = begin_left r t h; room = omega arith })

module _ {r : Record} {first t : Table} {i : ℕ} {size : Bytes} (s : Stands r first t i size) where
  abbrev all : List ReadExtent
  all = take r.count r.extents

  module _ (h : i < length all) {start : ℕ} (z : start ≡ size.0) where
    pub turn_row : {row : Row} → Ok row ≡ opened_of (read size all i h).extent (read size all i h).line start → i < length t.rows → Stands r first (record { size = t.size; count = t.count; rows = set t.rows i row }) (i + 1) row.end
    turn_row {row} e l =
        let e' = rw z at e in
        record { answer = s.answer ∙ row_answer size all i h e'; left = s.left ∙ row_left size all i h e' t l; room = omega (arith, length-set t.rows i row) }

    pub stop_row : {k : Refusal} → Err k ≡ opened_of (read size all i h).extent (read size all i h).line start → (Err k ≡ size_of r) × (t ≡ with_rows (stored_rows r) first)
    stop_row e = let e' = rw z at e in (sym (s.answer ∙ stop_answer size all i h e'), sym (s.left ∙ stop_left size all i h e' t s.room))

  pub end_rows : length all ≤ i → (Ok size ≡ size_of r) × (t ≡ with_rows (stored_rows r) first)
  end_rows h = (sym (s.answer ∙ end_answer size all i h), sym (s.left ∙ end_left size all i h t s.room))

-- ---- the whole
-- a row for each extent, where none is refused
abbrev AsMany : ℕ → Rows → Type 0
AsMany n (rows rs size) = length rs ≡ n
AsMany n (refused m k) = Unit {0}

one_more : (n : ℕ) (r : Row) (z : Rows) → AsMany n z → AsMany (suc n) (before r z)
one_more n r (rows rs size) h = ap suc h
one_more n r (refused m k) h = h

as_many_by : (n : ℕ) (o : Result Row Refusal) (go : ℕ → Rows) → ((end : ℕ) → AsMany n (go end)) → AsMany (suc n) (by_rows o go)
as_many_by n (Ok r) go h = one_more n r (go r.end.0) (h r.end.0)
as_many_by n (Err k) go h = tt

as_many : (xs : List ReadExtent) (start : ℕ) → AsMany (length xs) (rows_from start xs)
as_many [] start = rw (rows_none start) refl
as_many (x ∷ xs) start = rw (rows_open start xs x) (as_many_by (length xs) (opened_of x.extent x.line start) (λ end. rows_from end xs) (λ end. as_many xs end))

-- what a build answers tells its verdict, its size and, by the number of the extents, its count
abbrev Tells : Built → ℕ → Result Bytes Refusal → Type 0
Tells b n (Ok size) = ((Ok tt) ≡ b.verdict) × ((size ≡ b.table.size) × (n ≡ b.table.count))
Tells b n (Err k) = (Err k ≡ b.verdict) × ((bytes_upto 0 ≡ b.table.size) × (0 ≡ b.table.count))

built_tells : (n : ℕ) (z : Rows) → AsMany n z → Tells (built z) n (size_in z)
built_tells n (rows rs size) h = (refl, (refl, sym h))
built_tells n (refused m k) h = (refl, (refl, refl))

build_tells : (r : Record) → Tells (build_of r) (length (read_in r)) (size_of r)
unfolding build_of size_of
build_tells r = by_test (leb r.count most) (λ e. rw e (built_tells (length (read_in r)) (rows_from 0 (read_in r)) (as_many (read_in r) 0))) (λ e. rw e (refl, (refl, refl)))

-- with the head written, the table is the one that is left
module _ (r : Record) (t : Table) {into : Table} (p : into ≡ with_rows (stored_rows r) t) where
  pub sound_left : {size : Bytes} → Ok size ≡ size_of r → length (read_in r) ≡ r.count → ((Ok tt) ≡ (build_of r).verdict) × (record { size = size; count = r.count; rows = into.rows } ≡ build_into r t)
  unfolding build_into
  sound_left {size} e n =
      let h = subst (Tells (build_of r) (length (read_in r))) (sym e) (build_tells r) in
      let q : r.count ≡ (build_of r).table.count = sym n ∙ h.1.1 in
      (h.0, rw (p, h.1.0) (ap (λ (k : ℕ). record { size = (build_of r).table.size; count = k; rows = over (stored_rows r) t.rows }) q))

  pub refused_left : {k : Refusal} → Err k ≡ size_of r → (Err k ≡ (build_of r).verdict) × (record { size = bytes_upto 0; count = 0; rows = into.rows } ≡ build_into r t)
  unfolding build_into
  refused_left {k} e =
      let h = subst (Tells (build_of r) (length (read_in r))) (sym e) (build_tells r) in
      (h.0, rw (p, h.1.0, h.1.1))
