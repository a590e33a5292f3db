-- A refusal's second number is a line's or 0, so it is at most the number of lines.
-- By recursion on the lines for reading, and on the extents for building.
-- Assumes nothing.
use Rattle.std.specs.Prelude.{Err, None, Ok, Option, Result, Some}
use Prim.Native.Nat.{ℕ, suc, ◌+◌, ◌≤◌}
use native.Mathlib.Omega.{arith}
use mathlib.Core.List.{List, [], ◌∷◌, ◌++◌}
use mathlib.Core.Path.{◌≡◌, refl}
use lib.ListN.{length}
use lib.Dec.{leb, ltb, eqb}
use Rattle.text.specs.Ranges.{within}
use Rattle.text.specs.Find.{begins}
use Rattle.text.specs.Lines.{lines_of, count}
use Rattle.text.specs.Sector.{bytes_of, largest}
use Rattle.text.proofs.Flat.{by_test, pick_all}
use Rattle.text.proofs.Lines.{lines_count}
use Rattle.lines.specs.Record.{most, most_bytes, at_line, no_desc, read_in, refusal, Verdict}
use Rattle.lines.specs.Line.{line_of}
use Rattle.lines.specs.declared.line.Said.TheVariants.{Nothing, Extent, Set}
use Rattle.lines.specs.declared.record.Record.{Record}
use Rattle.lines.specs.declared.record.VmdkDesc.{VmdkDesc}
use Rattle.lines.specs.declared.record.ReadExtent.{ReadExtent}
use Rattle.lines.specs.declared.record.VmdkParsedStorage.{VmdkParsedStorage}
use Rattle.lines.specs.declared.record.VmdkParsedStorage.TheVariants.{NoAccess, Zero, Flat}
use Rattle.descriptor.specs.Read.{Read, least_bytes, sparse, summed, set_of, sizes_from, checked, by_line, read_lines, read_of}
use Rattle.tables.specs.declared.table.Source.{Source}
use Rattle.lines.specs.declared.line.Said.{Said}
use Rattle.text.specs.declared.sector.Bytes.{Bytes}
use Rattle.lines.specs.declared.record.Fault.{Fault}
use Rattle.lines.specs.declared.record.Fault.TheVariants.{SizeTooLarge, SumTooLarge, FileStartTooLarge}
use Rattle.lines.specs.Fault.{refusal_number}
use Rattle.tables.specs.Build.{Rows, rows, refused, in_bytes, in_source, before, rows_from, built, build_of}
use Rattle.theorems.specs.Statements.{sayings_of, read_from}
use Rattle.theorems.proofs.RefusalNumbers.{line_number}
use Rattle.theorems.proofs.Sayings.{sayings_length, from_answer}
use Rattle.theorems.proofs.Verdicts.{accepted_read}

-- what is refused is refused with a number up to 24, and a second number up to m
abbrev pub AtMost : ℕ → Verdict → Type 0
AtMost m (Ok tt) = Unit {0}
AtMost m (Err r) = (refusal_number r.fault ≤ 24) × (r.second ≤ m)

-- a text has no more bytes 0A than bytes
count_short : (l : List ℕ) → count 0x0A l ≤ length l
unfolding count
count_short [] = omega arith
count_short (x ∷ l) =
    by_test (eqb x 0x0A) (λ e. rw e (omega (arith, count_short l))) (λ e. rw e (omega (arith, count_short l)))

module _ (m : ℕ) where
  -- the lines of some extents are up to m
  abbrev Lined : List ReadExtent → Type 0
  Lined [] = Unit {0}
  Lined (x ∷ xs) = (x.line ≤ m) × Lined xs

  lined_more : (xs : List ReadExtent) (x : ReadExtent) → Lined xs → x.line ≤ m → Lined (xs ++ (x ∷ []))
  lined_more [] x h l = (l, tt)
  lined_more (y ∷ xs) x h l = (h.0, lined_more xs x h.1 l)

  lined_from : (k : ℕ) (ss : List (Result Said Fault)) → k + length ss ≤ m → Lined (read_from k ss)
  unfolding read_from
  lined_from k [] h = tt
  lined_from k (Ok (Extent x) ∷ ss) h = (omega arith, lined_from (suc k) ss (omega arith))
  lined_from k ((Ok Nothing) ∷ ss) h = lined_from (suc k) ss (omega arith)
  lined_from k (Ok (Set v) ∷ ss) h = lined_from (suc k) ss (omega arith)
  lined_from k (Err n ∷ ss) h = lined_from (suc k) ss (omega arith)

  -- ---- reading
  sum_most : (k sum : ℕ) (b : Option Bytes) (go : ℕ → Verdict) → k ≤ m → ((s : ℕ) → AtMost m (go s)) → AtMost m (summed k sum b go)
  sum_most k sum (Some b) go h g = pick_all (AtMost m) (leb (sum + b.0) largest) (go (sum + b.0)) (refusal SumTooLarge k) (g (sum + b.0)) (omega arith, h)
  sum_most k sum None go h g = (omega arith, h)

  sizes_most : (sum : ℕ) (xs : List ReadExtent) → Lined xs → AtMost m (sizes_from sum xs)
  unfolding sizes_from
  sizes_most sum [] h = tt
  sizes_most sum (x ∷ xs) h =
      sum_most x.line sum (bytes_of x.extent.sectors) (λ s. sizes_from s xs) h.0 (λ s. sizes_most s xs h.1)

  checked_most : (d : VmdkDesc) (xs : List ReadExtent) → Lined xs → AtMost m (checked d xs).verdict
  unfolding checked
  checked_most d xs h =
      by_test (within 1 3 d.version) (λ e. rw (e, from_answer (sizes_from 0 xs) d xs) (sizes_most 0 xs h))
      (λ e. rw e (omega arith, omega arith))

  said_most : (k p : ℕ) (l : List ℕ) (s : Result Said Fault) → line_of p l ≡ s → (d : VmdkDesc) (xs : List ReadExtent) (go : VmdkDesc → List ReadExtent → Read) → k ≤ m → Lined xs → ((d : VmdkDesc) (xs : List ReadExtent) → Lined xs → AtMost m (go d xs).verdict) → AtMost m (by_line k s d xs go).verdict
  said_most k p l (Ok Nothing) e d xs go h f g = g d xs f
  said_most k p l (Ok (Set v)) e d xs go h f g = g (set_of d v) xs f
  said_most k p l (Err n) e d xs go h f g = (omega (arith, line_number p l n e), h)
  said_most k p l (Ok (Extent x)) e d xs go h f g =
      by_test (ltb (length xs) most)
      (λ q. rw q (g d (xs ++ (at_line k x ∷ [])) (lined_more xs (at_line k x) f h)))
      (λ q. rw q (omega arith, h))

  lines_most : (k p : ℕ) (d : VmdkDesc) (xs : List ReadExtent) (ls : List (List ℕ)) → k + length ls ≤ m → Lined xs → AtMost m (read_lines k p d xs ls).verdict
  unfolding read_lines
  lines_most k p d xs [] h f = checked_most d xs f
  lines_most k p d xs (l ∷ ls) h f =
      said_most k p l (line_of p l) refl d xs (λ d xs. read_lines (suc k) (p + length l + 1) d xs ls) (omega arith) f
      (λ d xs g. lines_most (suc k) (p + length l + 1) d xs ls (omega arith) g)

  module _ (d : List ℕ) (long : 2 + length d ≤ m) where
    few_lines : 1 + length (lines_of d) ≤ m
    few_lines = omega (arith, lines_count d, count_short d)

    pub read_most : AtMost m (read_of d).verdict
    unfolding read_of
    read_most =
        by_test (ltb (length d) least_bytes) (λ e. rw e (omega arith, omega arith))
        (λ e. by_test (ltb most_bytes (length d)) (λ e₂. rw (e, e₂) (omega arith, omega arith))
        (λ e₂. by_test (begins d sparse) (λ e₃. rw (e, e₂, e₃) (omega arith, omega arith))
        (λ e₃. rw (e, e₂, e₃) (lines_most 1 0 no_desc [] (lines_of d) few_lines tt))))

    -- and the extents that are read have such lines
    pub read_lined : (read_of d).verdict ≡ (Ok tt) → Lined (read_in (read_of d).descriptor)
    read_lined e = rw (accepted_read d e) (lined_from 1 (sayings_of d) (omega (arith, few_lines, sayings_length 0 (lines_of d))))

  -- ---- building
  abbrev RowsMost : Rows → Type 0
  RowsMost (rows rs size) = Unit {0}
  RowsMost (refused n k) = (refusal_number n ≤ 24) × (k ≤ m)

  bytes_most : (b : Option Bytes) (else : Rows) (go : ℕ → Rows) → RowsMost else → ((s : ℕ) → RowsMost (go s)) → RowsMost (in_bytes b else go)
  bytes_most (Some b) else go h g = g b.0
  bytes_most None else go h g = h

  source_most : (st : VmdkParsedStorage) (else : Rows) (go : Source → Rows) → RowsMost else → ((s : Source) → RowsMost (go s)) → RowsMost (in_source st else go)
  source_most NoAccess else go h g = g _
  source_most (Zero a) else go h g = g _
  source_most (Flat a name start) else go h g = bytes_most (bytes_of start) else _ h (λ b. g _)

  before_most : (r : _) (more : Rows) → RowsMost more → RowsMost (before r more)
  before_most r (rows rs size) h = tt
  before_most r (refused n k) h = h

  rows_most : (start : ℕ) (xs : List ReadExtent) → Lined xs → RowsMost (rows_from start xs)
  unfolding rows_from
  rows_most start [] h = tt
  rows_most start (x ∷ xs) h =
      bytes_most (bytes_of x.extent.sectors) (refused SizeTooLarge x.line) _ (omega arith, h.0)
      (λ size. pick_all RowsMost (leb (start + size) largest) _ (refused SumTooLarge x.line)
      (source_most x.extent.storage (refused FileStartTooLarge x.line) _ (omega arith, h.0) (λ source. before_most _ (rows_from (start + size) xs) (rows_most (start + size) xs h.1)))
      (omega arith, h.0))

  built_most : (r : Rows) → RowsMost r → AtMost m (built r).verdict
  built_most (rows rs size) h = tt
  built_most (refused n k) h = h

  pub build_most : (r : Record) → Lined (read_in r) → AtMost m (build_of r).verdict
  unfolding build_of
  build_most r h =
      by_test (leb r.count most)
      (λ e. rw e (built_most (rows_from 0 (read_in r)) (rows_most 0 (read_in r) h)))
      (λ e. rw e (omega arith, omega arith))
