-- Outside the lines a descriptor is refused with 1, 2 or 3 before them and 17, 18 or 19 after them.
-- So a number between is a line's, and the first line that is refused gives it.
use Rattle.std.specs.Prelude.{Err, Ok, Result}
use Prim.Native.Nat.{ℕ, ◌+◌, ◌-◌, ◌≤◌}
use native.Mathlib.Omega.{arith}
use mathlib.Core.List.{List, []}
use mathlib.Core.Logic.{◌↔◌}
use mathlib.Core.Bool.{true, false}
use mathlib.Core.Path.{◌≡◌, refl, sym, ap, subst, ◌∙◌}
use lib.ListN.{length, replicate}
use lib.Seq.{take-append_seam}
use lib.Dec.{ltb}
use borrow.Author.Tests.{le-ltb, ltb-false}
use Rattle.text.specs.Ranges.{within}
use Rattle.text.specs.Find.{begins}
use Rattle.text.specs.Lines.{lines_of}
use Rattle.text.specs.Text.{text_at, sound}
use Rattle.text.proofs.Flat.{by_test}
use Rattle.lines.specs.Record.{most, most_bytes, no_read, no_desc, filled, record_of, read_in, bare, counted, refusal, Verdict}
use Rattle.lines.specs.Line.{line_of}
use Rattle.descriptor.specs.Read.{Read, least_bytes, sparse, answer, sizes_from, checked, read_lines, read_of}
use Rattle.theorems.specs.Statements.{ByLine, place_after, sayings, sayings_of, extents_in, read_from, AllSound, RefusedWith, FirstRefused}
use Rattle.lines.specs.declared.line.Said.TheVariants.{Nothing, Extent, Set}
use Rattle.lines.specs.declared.record.VmdkDesc.{VmdkDesc}
use Rattle.lines.specs.declared.record.ReadExtent.{ReadExtent}
use Rattle.lines.specs.declared.line.Said.{Said}
use Rattle.lines.specs.declared.record.Fault.{Fault}
use Rattle.lines.specs.declared.record.Fault.TheVariants.{NotUtf8, OtherVersion, TooShort, TooLong, Sparse}
use Rattle.lines.specs.Fault.{refusal_number}
use Rattle.theorems.proofs.RefusalNumbers.{four}
use Rattle.theorems.proofs.Sayings.{From, set_all, read_bare, Stops, never, stopped, stops, all_sound, after_all}

-- a descriptor in range that is no sparse file is read by its lines
pub by_line : (t : List ℕ) → ByLine t → read_of t ≡ read_lines 1 0 no_desc [] (lines_of t)
unfolding read_of
by_line t b = rw (le-ltb (length t) least_bytes b.least, le-ltb most_bytes (length t) b.small, b.plain)

-- and any other is refused with 1, 2 or 3
pub by_size : {C : Type 0} (t : List ℕ) → (ByLine t → C) → ((n : Fault) → refusal_number n ≤ 3 → (read_of t).verdict ≡ refusal n 0 → C) → C
unfolding read_of
by_size t f g =
    by_test (ltb (length t) least_bytes) (λ e. g TooShort (omega arith) (rw e))
    (λ e. by_test (ltb most_bytes (length t)) (λ e₂. g TooLong (omega arith) (rw (e, e₂)))
    (λ e₂. by_test (begins t sparse) (λ e₃. g Sparse (omega arith) (rw (e, e₂, e₃)))
    (λ e₃. f (record { least = ltb-false (length t) least_bytes e; small = ltb-false most_bytes (length t) e₂; plain = e₃ }))))

pub late : (t : List ℕ) (n : Fault) (k : ℕ) → 4 ≤ refusal_number n → (read_of t).verdict ≡ refusal n k → ByLine t
late t n k h e = by_size t (λ b. b) (λ m l q. let r = ap refusal_number (never n k m 0 (sym q ∙ e)).0 in absurd (omega arith))

-- the first line that is refused, as it is stated and as it is found
found_first : (t : List ℕ) (n : Fault) (k : ℕ) → Stops 1 0 0 (lines_of t) n k → (l : List ℕ) × FirstRefused t l n k
found_first t n k s =
    let q : 0 + length (extents_in (sayings 0 s.before)) ≡ length (extents_in (sayings 0 s.before)) = omega arith in (
      s.line,
      record {
        before = s.before;
        place = place_after 0 s.before;
        line = record { after = s.after; lines = s.lines; place = refl; number = let i = s.number in omega arith };
        sound = (s.none, let f = s.few in omega arith);
        refused = rw q at s.refused;
      },
    )

first_found : (t l : List ℕ) (n : Fault) (k : ℕ) → FirstRefused t l n k → Stops 1 0 0 (lines_of t) n k
first_found t l n k s =
    let q : 0 + length (extents_in (sayings 0 s.before)) ≡ length (extents_in (sayings 0 s.before)) = omega arith in
    record {
      before = s.before;
      line = l;
      after = s.line.after;
      lines = s.line.lines;
      number = let i = s.line.number in omega arith;
      none = s.sound.0;
      few = let f = s.sound.1 in omega arith;
      refused = rw (q, ← s.line.place) s.refused;
    }

pub line_refused : (t : List ℕ) (n : Fault) (k : ℕ) → 4 ≤ refusal_number n → refusal_number n ≤ 16 → ((read_of t).verdict ≡ refusal n k) ↔ (ByLine t × ((l : List ℕ) × FirstRefused t l n k))
line_refused t n k h m = (
  λ e. let b = late t n k h e in (b, found_first t n k (stopped 1 0 no_desc [] (lines_of t) n k (omega arith) m (rw (by_line t b) at e))),
  λ w. rw (by_line t w.0) (stops 1 0 no_desc [] (lines_of t) n k (first_found t w.1.0 n k w.1.1)),
)

-- with 4 exactly if it is not UTF-8
four_in : (p : ℕ) (l : List ℕ) (n : Fault) (count : ℕ) → sound (text_at l 0) ≡ false → RefusedWith n count (line_of p l) → n ≡ NotUtf8
four_in p l n count h r = sym (subst (RefusedWith n count) ((four p l).1 h) r)

four_out : (p : ℕ) (l : List ℕ) (s : Result Said Fault) (count : ℕ) → line_of p l ≡ s → RefusedWith NotUtf8 count s → sound (text_at l 0) ≡ false
four_out p l (Ok Nothing) count e r = absurd r
four_out p l (Ok (Set v)) count e r = absurd r
four_out p l (Ok (Extent x)) count e r = let z : ◌≡◌ {A = ℕ} 4 16 = ap refusal_number r.0 in absurd (omega arith)
four_out p l (Err m) count e r = (four p l).0 (e ∙ ap Err r)

pub line_no_text : (t : List ℕ) (k : ℕ) → ((read_of t).verdict ≡ refusal NotUtf8 k) ↔ (ByLine t × ((l : List ℕ) × ((n : Fault) × FirstRefused t l n k × (sound (text_at l 0) ≡ false))))
line_no_text t k = (
  λ e. let w = (line_refused t NotUtf8 k (omega arith) (omega arith)).0 e in
      let f = w.1.1 in
      (w.0, (w.1.0, (NotUtf8, f, four_out f.place w.1.0 (line_of f.place w.1.0) _ refl f.refused))),
  λ w. let f = w.1.1.1 in
      let q : w.1.1.0 ≡ NotUtf8 = four_in f.place w.1.0 w.1.1.0 _ w.1.1.2 f.refused in
      (line_refused t NotUtf8 k (omega arith) (omega arith)).1 (w.0, (w.1.0, rw q at f)),
)

-- ---- a descriptor that no line ends
module _ (t : List ℕ) where
  -- every line is sound
  pub lines_sound : ByLine t → From 17 (read_of t).verdict → AllSound (sayings_of t)
  lines_sound b f = let r = all_sound 1 0 no_desc [] (lines_of t) (omega arith) (rw (by_line t b) at f) in (r.0, omega (arith, r.1))

  -- and its values and extents are checked
  pub lines_checked : ByLine t → AllSound (sayings_of t) → read_of t ≡ checked (set_all no_desc (sayings_of t)) (read_from 1 (sayings_of t))
  lines_checked b a = by_line t b ∙ after_all 1 0 no_desc [] (lines_of t) a.0 (let f = a.1 in omega arith)

  pub accepted_lines : (read_of t).verdict ≡ (Ok tt) → ByLine t × AllSound (sayings_of t)
  accepted_lines e =
      let b : ByLine t = by_size t (λ b. b) (λ n h q. let g : refusal n 0 ≡ (Ok tt) = sym q ∙ e in let z : ◌≡◌ {A = ℕ} 0 1 = cc in absurd (omega arith)) in
      (b, lines_sound b (rw e tt))

-- what is accepted after the lines
answered : (v : Verdict) (d : VmdkDesc) (xs : List ReadExtent) → (answer v d xs).verdict ≡ (Ok tt) → (answer v d xs).descriptor ≡ record_of d xs
answered (Ok tt) d xs e = refl
answered (Err r) d xs e = let z : ◌≡◌ {A = ℕ} 0 1 = cc in absurd (omega arith)

checked_sound : (d : VmdkDesc) (xs : List ReadExtent) → (checked d xs).verdict ≡ (Ok tt) → (within 1 3 d.version ≡ true) × ((checked d xs).descriptor ≡ record_of d xs)
unfolding checked
checked_sound d xs e =
    by_test (within 1 3 d.version)
    (λ q. rw q (refl, answered (sizes_from 0 xs) d xs (rw q at e)))
    (λ q. let g : refusal OtherVersion 0 ≡ (Ok tt) = rw q at e in let z : ◌≡◌ {A = ℕ} 0 1 = cc in absurd (omega arith))

-- the values and extents of all lines are those of the record, and the version is 1 to 3
pub accepted_checked : (t : List ℕ) → (read_of t).verdict ≡ (Ok tt) → (within 1 3 (set_all no_desc (sayings_of t)).version ≡ true) × ((read_of t).descriptor ≡ record_of (set_all no_desc (sayings_of t)) (read_from 1 (sayings_of t)))
accepted_checked t e =
    let a = accepted_lines t e in
    let q = lines_checked t a.0 a.1 in
    let r = checked_sound (set_all no_desc (sayings_of t)) (read_from 1 (sayings_of t)) (ap (λ (x : Read). x.verdict) (sym q) ∙ e) in
    (r.0, ap (λ (x : Read). x.descriptor) q ∙ r.1)

pub read_all : (d : VmdkDesc) (xs : List ReadExtent) → read_in (record_of d xs) ≡ xs
unfolding read_in filled
read_all d xs = take-append_seam xs (replicate (most - length xs) no_read)

-- its extents are those that its lines say, each with its line ..
pub accepted_read : (t : List ℕ) → (read_of t).verdict ≡ (Ok tt) → read_in (read_of t).descriptor ≡ read_from 1 (sayings_of t)
accepted_read t e = ap read_in (accepted_checked t e).1 ∙ read_all (set_all no_desc (sayings_of t)) (read_from 1 (sayings_of t))

-- .. and without
pub accepted_extents : (t : List ℕ) → (read_of t).verdict ≡ (Ok tt) → counted (read_of t).descriptor ≡ extents_in (sayings_of t)
accepted_extents t e = ap bare (accepted_read t e) ∙ read_bare 1 (sayings_of t)
