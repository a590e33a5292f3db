-- What a caller has in a table that it lent, whatever the table held: the rows that count are the definition's, and no place past the stored rows has changed. A sound build stores as many rows as it counts, and a refused one counts none.
-- Assumes nothing.
use Prim.Native.Nat.{ℕ, suc, ◌≤◌}
use native.Mathlib.Omega.{arith}
use mathlib.Core.Path.{◌≡◌, refl, sym, ◌∙◌, ap, subst}
use mathlib.Core.List.{List, [], ◌∷◌}
use lib.Dec.{leb}
use lib.ListN.{length, take, length-take}
use borrow.Author.Tests.{le-leb, leb-true}
use Rattle.std.specs.Prelude.{Result, Ok, Err}
use Rattle.text.proofs.Flat.{by_test}
use Rattle.lines.specs.Record.{most, filled, over, read_in, Verdict}
use Rattle.lines.specs.declared.record.Record.{Record}
use Rattle.lines.specs.declared.record.Refusal.{Refusal}
use Rattle.lines.specs.declared.record.ReadExtent.{ReadExtent}
use Rattle.lines.proofs.Overs.{over_first, over_blank}
use Rattle.tables.specs.declared.table.Row.{Row}
use Rattle.tables.specs.declared.table.Table.{Table}
use Rattle.tables.specs.Build.{no_row, no_table, table_of, Rows, rows, refused, before, rows_from, built, build_of}
use Rattle.tables.specs.inside.Opening.{opened_of}
use Rattle.tables.specs.Into.{rows_up_to, stored_rows, build_into}
use Rattle.tables.proofs.Endings.{by_rows, rows_none, rows_open, stored_by, up_to_none, up_to_open}

-- ---- the rows that are stored are those of the longest part of the extents that builds: of all, or of those before the first that is refused
abbrev pub Longest : ℕ → List ReadExtent → List Row → Rows → Type 0
Longest start xs us (rows rs size) = rs ≡ us
Longest start xs us (refused n j) = (k : ℕ) × ((size : ℕ) × ((rows_from start (take k xs) ≡ rows us size) × (rows_from start (take (suc k) xs) ≡ refused n j)))

module _ (start : ℕ) (x : ReadExtent) (xs : List ReadExtent) where
  longest_more : (r : Row) (us : List Row) → opened_of x.extent x.line start ≡ Ok r → (z : Rows) → Longest r.end.0 xs us z → Longest start (x ∷ xs) (r ∷ us) (before r z)
  longest_more r us e (rows rs size) h = ap (λ (vs : List Row). r ∷ vs) h
  longest_more r us e (refused n j) (k, (size, (h, g))) = (suc k, (size, (rows_open start (take k xs) x ∙ rw (e, h), rows_open start (take (suc k) xs) x ∙ rw (e, g))))

  longest_by : (o : Result Row Refusal) → opened_of x.extent x.line start ≡ o → ((end : ℕ) → Longest end xs (rows_up_to end xs) (rows_from end xs)) → Longest start (x ∷ xs) (stored_by o (λ end. rows_up_to end xs)) (by_rows o (λ end. rows_from end xs))
  longest_by (Ok r) e h = longest_more r (rows_up_to r.end.0 xs) e (rows_from r.end.0 xs) (h r.end.0)
  longest_by (Err k) e h = (0, (start, (rows_none start, rows_open start [] x ∙ rw e)))

longest : (xs : List ReadExtent) (start : ℕ) → Longest start xs (rows_up_to start xs) (rows_from start xs)
longest [] start = rw (rows_none start, up_to_none start)
longest (x ∷ xs) start = rw (rows_open start xs x, up_to_open start x xs) (longest_by start x xs (opened_of x.extent x.line start) refl (λ end. longest xs end))

pub stored_longest : (r : Record) → r.count ≤ most → Longest 0 (read_in r) (stored_rows r) (rows_from 0 (read_in r))
unfolding stored_rows
stored_longest r f = rw (le-leb r.count most f) (longest (read_in r) 0)

-- ---- a sound build's table is that of the rows that it stores, and a refused one's is empty
abbrev Stores : Verdict → Table → List Row → Type 0
Stores (Ok tt) t rs = t ≡ table_of rs t.size.0
Stores (Err k) t rs = t ≡ no_table

built_stores : (xs : List ReadExtent) (us : List Row) (z : Rows) → Longest 0 xs us z → Stores (built z).verdict (built z).table us
built_stores xs us (rows rs size) h = rw h
built_stores xs us (refused n k) h = refl

stores : (r : Record) → Stores (build_of r).verdict (build_of r).table (stored_rows r)
unfolding build_of
stores r =
    by_test (leb r.count most)
    (λ e. rw e (built_stores (read_in r) (stored_rows r) (rows_from 0 (read_in r)) (stored_longest r (leb-true r.count most e))))
    (λ e. rw e)

sound_table : (r : Record) → (build_of r).verdict ≡ (Ok tt) → (build_of r).table ≡ table_of (stored_rows r) (build_of r).table.size.0
sound_table r e = subst (λ (v : Verdict). Stores v (build_of r).table (stored_rows r)) e (stores r)

-- a refused build's table is empty
pub refused_none : (r : Record) (k : Refusal) → (build_of r).verdict ≡ Err k → (build_of r).table ≡ no_table
refused_none r k e = subst (λ (v : Verdict). Stores v (build_of r).table (stored_rows r)) e (stores r)

-- ---- no more rows are stored than a table has places
by_few : (o : Result Row Refusal) (go : ℕ → List Row) (n : ℕ) → ((end : ℕ) → length (go end) ≤ n) → length (stored_by o go) ≤ suc n
by_few (Ok r) go n h = omega (arith, h r.end.0)
by_few (Err k) go n h = omega arith

rows_few : (xs : List ReadExtent) (start : ℕ) → length (rows_up_to start xs) ≤ length xs
rows_few [] start = rw (up_to_none start) (omega arith)
rows_few (x ∷ xs) start = rw (up_to_open start x xs) (by_few (opened_of x.extent x.line start) (λ end. rows_up_to end xs) (length xs) (λ end. rows_few xs end))

read_few : (r : Record) → length (read_in r) ≤ r.count
unfolding read_in
read_few r = omega (arith, length-take r.count r.extents)

pub stored_few : (r : Record) → length (stored_rows r) ≤ most
unfolding stored_rows
stored_few r =
    by_test (leb r.count most)
    (λ e. rw e (omega (arith, leb-true r.count most e, read_few r, rows_few (read_in r) 0)))
    (λ e. rw e (omega arith))

-- ---- what is left in a lent table
-- the size and the count of the table that is built
pub into_size : (r : Record) (t : Table) → (build_into r t).size ≡ (build_of r).table.size
unfolding build_into
into_size r t = refl

pub into_count : (r : Record) (t : Table) → (build_into r t).count ≡ (build_of r).table.count
unfolding build_into
into_count r t = refl

-- and its rows, as far as they count
left_counted : (v : Verdict) (b : Table) (rs ys : List Row) → Stores v b rs → take b.count (over rs ys) ≡ take b.count b.rows
left_counted (Ok tt) b rs ys h = rw h (over_first rs ys ∙ sym (ap (take (length rs)) (sym (over_blank no_row rs)) ∙ over_first rs (filled no_row [])))
left_counted (Err k) b rs ys h = rw h

pub into_counted : (r : Record) (t : Table) → take (build_into r t).count (build_into r t).rows ≡ take (build_of r).table.count (build_of r).table.rows
unfolding build_into
into_counted r t = left_counted (build_of r).verdict (build_of r).table (stored_rows r) t.rows (stores r)

-- a sound build stores as many rows as it counts
pub stored_sound : (r : Record) → (build_of r).verdict ≡ (Ok tt) → length (stored_rows r) ≡ (build_of r).table.count
stored_sound r e = sym (ap (λ (t : Table). t.count) (sound_table r e))

-- an empty table becomes the table that is built
pub into_empty : (r : Record) → (build_of r).verdict ≡ (Ok tt) → build_into r no_table ≡ (build_of r).table
unfolding build_into
into_empty r e = let h = sound_table r e in rw (over_blank no_row (stored_rows r)) (rw h)

-- ---- what is built depends on a record only through its count and the extents that it counts: a record that was lent again builds as a fresh one
pub build_same : (r s : Record) → r.count ≡ s.count → read_in r ≡ read_in s → build_of r ≡ build_of s
unfolding build_of
build_same r s n e = rw (e, n)

pub into_same : (r s : Record) (t : Table) → r.count ≡ s.count → read_in r ≡ read_in s → build_into r t ≡ build_into s t
unfolding build_into stored_rows
into_same r s t n e = rw (build_same r s n e, e, n)
