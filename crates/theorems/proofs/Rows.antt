-- The rows of a built table are laid by sums of sizes, which only grow, so two rows never share an offset and none is left out.
-- An extent of no bytes adds nothing to the sum, and its row ends where it starts.
-- Assumes nothing.
use Prim.Native.Nat.{ℕ, suc, ◌+◌, ◌<◌, ◌≤◌}
use native.Mathlib.Omega.{arith}
use mathlib.Core.List.{List}
use mathlib.Core.Bool.{true, false}
use mathlib.Core.Path.{◌≡◌, refl, sym, ap, ◌∙◌, subst}
use lib.ListN.{length, get_or, take, get_or-eq_default}
use lib.Dec.{leb}
use borrow.Author.Tests.{le-leb, leb-true, ltb-true, lt-ltb}
use Rattle.lines.specs.Record.{most, counted, no_extent}
use Rattle.lines.specs.declared.record.Record.{Record}
use Rattle.lines.specs.declared.record.VmdkParsedExtent.{VmdkParsedExtent}
use Rattle.tables.specs.declared.table.Row.{Row}
use Rattle.tables.specs.declared.table.Table.{Table}
use Rattle.tables.specs.Build.{no_row}
use Rattle.maps.specs.Map.{holds}
use Rattle.maps.specs.Place.{bytes_in, size_of}
use Rattle.theorems.specs.Rows.{Builds, row_at, line_at, OneRow, InRows}
use Rattle.text.proofs.Flat.{by_test}
use Rattle.theorems.proofs.Orders.{three_ways}
use Rattle.theorems.proofs.Built.{table_in, laid, row_of, table_laid, length_laid, row_laid, filled_at, size_next, size_grows, size_all}
use Rattle.theorems.proofs.Places.{Held, held}

-- a test that holds, in numbers, and back
pub holds_true : (r : Row) (o : ℕ) → holds r o ≡ true → (r.start.0 ≤ o) × (o < r.end.0)
holds_true r o h = by_test (leb r.start.0 o)
    (λ e. (leb-true _ _ e, ltb-true _ _ (rw e at h)))
    (λ e. let g : false ≡ true = rw e at h in let z : ◌≡◌ {A = ℕ} 0 1 = cc in absurd (omega arith))

pub true_holds : (r : Row) (o : ℕ) → r.start.0 ≤ o → o < r.end.0 → holds r o ≡ true
true_holds r o a b = rw (le-leb _ _ a, lt-ltb _ _ b)

pub false_holds : (r : Row) (o : ℕ) → ((r.start.0 ≤ o) → (o < r.end.0) → ⊥) → holds r o ≡ false
false_holds r o no_way = by_test (holds r o) (λ e. let g = holds_true r o e in absurd (no_way g.0 g.1)) (λ e. e)

module _ (ln : ℕ → ℕ) (xs : List VmdkParsedExtent) where
  pub row_in : (i : ℕ) → i < length xs → row_at (table_in ln xs) i ≡ row_of (ln i) (size_of (take i xs)) (get_or xs i no_extent)
  row_in i h =
      let e : 0 + size_of (take i xs) ≡ size_of (take i xs) = omega arith in
      filled_at no_row (laid ln 0 xs) i ∙ row_laid ln 0 xs i h ∙ rw e

  pub start_in : (i : ℕ) → i < length xs → (row_at (table_in ln xs) i).start.0 ≡ size_of (take i xs)
  start_in i h = ap (λ (r : Row). r.start.0) (row_in i h)

  pub end_in : (i : ℕ) → i < length xs → (row_at (table_in ln xs) i).end.0 ≡ size_of (take i xs) + bytes_in (get_or xs i no_extent)
  end_in i h = ap (λ (r : Row). r.end.0) (row_in i h)

  pub size_upto : (i : ℕ) → i < length xs → size_of (take i xs) + bytes_in (get_or xs i no_extent) ≤ size_of xs
  size_upto i h = omega (arith, size_next xs i h, size_grows xs (suc i) (length xs) h, size_all xs (length xs) (omega arith))

  -- rows before one end at or below its start, and rows after it start at or above its end
  pub rows_apart : (i j : ℕ) → i < j → j < length xs → (row_at (table_in ln xs) i).end.0 ≤ (row_at (table_in ln xs) j).start.0
  rows_apart i j h k =
      let hi : i < length xs = omega arith in
      rw (end_in i hi, start_in j k) (omega (arith, size_next xs i hi, size_grows xs (suc i) j h))

  count_in : (table_in ln xs).count ≡ length xs
  count_in = length_laid ln 0 xs

  pub one_in : (o : ℕ) → Held 0 xs o → OneRow (table_in ln xs) o
  one_in o k =
      let n = k.nth in
      let b = k.below in
      record {
        row = n;
        below = omega (arith, count_in);
        holding = true_holds (row_at (table_in ln xs) n) o (omega (arith, start_in n b)) (omega (arith, end_in n b));
        only = λ j hj e.
            let g = holds_true (row_at (table_in ln xs) j) o e in
            let hj₂ : j < length xs = omega (arith, count_in) in
            three_ways j n (λ l. absurd (omega (arith, rows_apart j n l b, start_in n b))) (λ q. q)
            (λ l. absurd (omega (arith, rows_apart n j l hj₂, end_in n b)));
      }

  past_in : (i : ℕ) → length xs ≤ i → row_at (table_in ln xs) i ≡ no_row
  past_in i h = filled_at no_row (laid ln 0 xs) i ∙ get_or-eq_default (laid ln 0 xs) no_row (omega (arith, count_in))

  none_in : (o : ℕ) → size_of xs ≤ o → (i : ℕ) → i < length xs → holds (row_at (table_in ln xs) i) o ≡ false
  none_in o h i hi = false_holds (row_at (table_in ln xs) i) o (λ a b. omega (arith, end_in i hi, size_upto i hi))

  empty_in : (i : ℕ) → i < length xs → bytes_in (get_or xs i no_extent) ≡ 0 → (o : ℕ) → holds (row_at (table_in ln xs) i) o ≡ false
  empty_in i hi e o = false_holds (row_at (table_in ln xs) i) o (λ a b. omega (arith, start_in i hi, end_in i hi))

  next_in : (i : ℕ) → suc i < length xs → (row_at (table_in ln xs) (suc i)).start.0 ≡ (row_at (table_in ln xs) i).end.0
  next_in i h =
      let hi : i < length xs = omega arith in omega (arith, start_in (suc i) h, end_in i hi, size_next xs i hi)

  last_in : (i : ℕ) → suc i ≡ length xs → (row_at (table_in ln xs) i).end.0 ≡ size_of xs
  last_in i h =
      let hi : i < length xs = omega arith in omega (arith, end_in i hi, size_next xs i hi, size_all xs (suc i) (omega arith))

  first_in : 0 < length xs → (row_at (table_in ln xs) 0).start.0 ≡ 0
  unfolding size_of
  first_in h = start_in 0 h

in_rows : (r : Record) → length (counted r) ≤ most → InRows r (table_in (line_at r) (counted r))
in_rows r short =
    let xs = counted r in
    let ln = line_at r in
    let n : (table_in ln xs).count ≡ length xs = length_laid ln 0 xs in
    record {
      count = n;
      most_rows = omega arith;
      first = λ h. first_in ln xs (omega arith);
      next = λ i h. next_in ln xs i (omega arith);
      last = λ i h. last_in ln xs i (omega arith);
      size = refl;
      long = λ i h. let hi : i < length xs = omega arith in omega (arith, start_in ln xs i hi, end_in ln xs i hi);
      source = λ i h. ap (λ (r : Row). r.source) (row_in ln xs i (omega arith));
      lines = λ i h. ap (λ (r : Row). r.line) (row_in ln xs i (omega arith));
      past = λ i h. past_in ln xs i (omega arith);
      one = λ o h. one_in ln xs o (held 0 xs o h);
      none = λ o h i hi. none_in ln xs o h i (omega arith);
      empty = λ i h. empty_in ln xs i (omega arith);
    }

-- a built table's rows
pub built_in_rows : (r : Record) (t : Table) → Builds r t → InRows r t
built_in_rows r t b = let g = table_laid r t b in subst (InRows r) (sym g.0) (in_rows r g.1)
