-- The name of an extent is part of its line, and the lines join to the descriptor.
-- So all names together have at most as many bytes as the descriptor.
-- Assumes nothing.
use Rattle.std.specs.Prelude.{Err, None, Ok, Option, Result, Some}
use Prim.Native.Nat.{ℕ, ◌+◌, ◌*◌, ◌≤◌}
use native.Mathlib.Omega.{arith}
use mathlib.Core.List.{List, [], ◌∷◌}
use mathlib.Core.Path.{◌≡◌, refl, sym, ap}
use lib.ListN.{length, take, drop, length-append, length-take, length-drop}
use lib.Seq.{drop-append-add, drop-drop}
use Rattle.text.specs.Lines.{lines_of, join_lines}
use Rattle.text.specs.Text.{trim_of, trimmed}
use Rattle.text.proofs.Lines.{lines_join}
use Rattle.lines.specs.Record.{counted}
use Rattle.lines.specs.Line.{first_blank, line_of}
use Rattle.lines.specs.declared.line.Said.TheVariants.{Nothing, Extent, Set}
use Rattle.lines.specs.declared.record.VmdkParsedExtent.{VmdkParsedExtent}
use Rattle.lines.specs.declared.record.VmdkParsedStorage.{VmdkParsedStorage}
use Rattle.lines.specs.declared.record.VmdkParsedStorage.TheVariants.{NoAccess, Zero, Flat}
use Rattle.lines.specs.declared.line.Said.{Said}
use Rattle.lines.specs.declared.record.Fault.{Fault}
use Rattle.descriptor.specs.Read.{read_of}
use Rattle.phrases.specs.Line.{name_in, name_of}
use Rattle.report.specs.Room.{row_most}
use Rattle.theorems.specs.Reports.{total, name_bytes}
use Rattle.theorems.specs.Rows.{source_of}
use Rattle.theorems.specs.Statements.{sayings, extents_in, SourceIn}
use Rattle.theorems.proofs.ExtentLines.{extent_says}
use Rattle.theorems.proofs.LinePlaces.{Lies, first_lies}
use Rattle.theorems.proofs.Sayings.{extents_cons}
use Rattle.theorems.proofs.Verdicts.{accepted_extents}
use Rattle.theorems.proofs.Totals.{total_append}

-- the most bytes of an extent's line in an answer
abbrev pub line_bytes : List ℕ → VmdkParsedExtent → ℕ
line_bytes d x = row_most + name_bytes d x

pub lines_names : (d : List ℕ) (xs : List VmdkParsedExtent) → total (line_bytes d) xs ≡ length xs * row_most + total (name_bytes d) xs
unfolding total
lines_names d [] = omega arith
lines_names d (x ∷ xs) = omega (arith, lines_names d xs)

-- ---- a line's name
trimmed_short : (t : List ℕ) → length (trimmed t) ≤ length t
unfolding trimmed
trimmed_short t = go (trim_of t) refl
  where
    go : (r : Option (ℕ × ℕ)) → trim_of t ≡ r → length (trimmed t) ≤ length t
    go (Some (a, e)) q = rw q (simp (length-take, length-drop) (omega arith))
    go None q = rw q (omega arith)

module _ (d : List ℕ) (p : ℕ) (l : List ℕ) (lies : Lies d p l) where
  source_name : (access : List ℕ) (end : ℕ) (st : VmdkParsedStorage) → SourceIn d (trimmed l) access end st → length (name_of d (source_of st)) ≤ length l
  unfolding name_in
  source_name access end NoAccess s = omega arith
  source_name access end (Zero a) s = omega arith
  source_name access end (Flat a name start) s =
      let f = s.2 in
      let w = ap length f.quotes.whole in
      rw f.named (omega (arith, trimmed_short f.middle, simp length-append at w, trimmed_short l))

  said_name : (s : Result Said Fault) → line_of p l ≡ s → total (name_bytes d) (extents_in (s ∷ [])) ≤ length l
  unfolding total extents_in
  said_name (Ok Nothing) e = omega arith
  said_name (Ok (Set v)) e = omega arith
  said_name (Err n) e = omega arith
  said_name (Ok (Extent x)) e =
      let i = extent_says d p l x lies e in
      omega (arith, source_name (take (first_blank (trimmed l)) (trimmed l)) i.end x.storage i.source)

-- ---- all lines
names_cons : (d : List ℕ) (s : Result Said Fault) (ss : List (Result Said Fault)) → total (name_bytes d) (extents_in (s ∷ ss)) ≡ total (name_bytes d) (extents_in (s ∷ [])) + total (name_bytes d) (extents_in ss)
names_cons d s ss = rw (extents_cons s ss, total_append)

names_none : (d : List ℕ) → total (name_bytes d) (extents_in []) ≡ 0
unfolding total extents_in
names_none d = refl

names_in : (d : List ℕ) (p : ℕ) (ls : List (List ℕ)) → drop p d ≡ join_lines ls → total (name_bytes d) (extents_in (sayings p ls)) ≤ length (join_lines ls)
unfolding sayings join_lines
names_in d p [] h = omega (arith, names_none d)
names_in d p (l ∷ []) h =
    omega (arith, names_cons d (line_of p l) [], names_none d, said_name d p l (rw h (first_lies l [])) (line_of p l) refl)
names_in d p (l ∷ m ∷ ls) h =
    let q : p + length l + 1 ≡ p + (length l + 1) = omega arith in
    let g : drop (p + length l + 1) d ≡ join_lines (m ∷ ls) =
    rw (q, ← drop-drop (length l + 1) p d, h) (drop-append-add l (0x0A ∷ join_lines (m ∷ ls)) 1) in
    simp length-append
    (omega (arith, names_cons d (line_of p l) (sayings (p + length l + 1) (m ∷ ls)), names_in d (p + length l + 1) (m ∷ ls) g, said_name d p l (rw h (first_lies l (m ∷ ls))) (line_of p l) refl))

-- the names of an accepted descriptor
pub accepted_names : (d : List ℕ) → (read_of d).verdict ≡ (Ok tt) → total (name_bytes d) (counted (read_of d).descriptor) ≤ length d
accepted_names d e =
    rw (accepted_extents d e) (omega (arith, names_in d 0 (lines_of d) (sym (lines_join d)), ap length (lines_join d)))
