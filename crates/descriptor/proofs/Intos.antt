-- What a record holds once it is read into, whatever it held before: what it counts is what reading gives, and the places past what was stored are as they were.
-- A sound read counts as many extents as it stores, and a refused one counts none. Assumes nothing.
use Rattle.std.specs.Prelude.{Err, Ok, Result}
use Prim.Native.Nat.{ℕ, suc, ◌+◌, ◌-◌, ◌≤◌, ◌<◌}
use native.Mathlib.Omega.{arith}
use mathlib.Core.List.{List, [], ◌∷◌, ◌++◌, append-nil, append_assoc}
use mathlib.Core.Path.{◌≡◌, refl, sym, ap, ◌∙◌, subst}
use lib.ListN.{length, take, replicate, length-take, length-append}
use lib.Seq.{take-append_seam, take-nil}
use lib.Dec.{ltb}
use borrow.Author.Tests.{ltb-true}
use Rattle.text.specs.Ranges.{within}
use Rattle.text.specs.Find.{begins}
use Rattle.text.specs.Lines.{lines_of}
use Rattle.text.proofs.Flat.{by_test}
use Rattle.lines.specs.Line.{line_of}
use Rattle.lines.specs.Record.{most, most_bytes, at_line, no_desc, no_read, filled, record_of, no_record, read_in, over, Verdict}
use Rattle.lines.specs.declared.line.Said.TheVariants.{Nothing, Extent, Set}
use Rattle.lines.specs.declared.record.Refusal.{Refusal}
use Rattle.lines.specs.declared.record.Record.{Record}
use Rattle.lines.specs.declared.record.VmdkDesc.{VmdkDesc}
use Rattle.lines.specs.declared.record.ReadExtent.{ReadExtent}
use Rattle.lines.proofs.Overs.{over_first}
use Rattle.descriptor.specs.Read.{Read, least_bytes, sparse, answer, refused_read, set_of, sizes_from, checked, by_line, read_lines, read_of}
use Rattle.descriptor.specs.Into.{then_said, said_before, stored_of, read_into}
use Rattle.lines.specs.declared.line.Said.{Said}
use Rattle.lines.specs.declared.record.Fault.{Fault}
use Rattle.lines.specs.declared.record.Fault.TheVariants.{TooShort, TooLong, Sparse, TooManyExtents, OtherVersion}

-- ---- how many extents are stored
-- no more than a record has room for
pub stored_few : (t : List ℕ) → length (stored_of t) ≤ most
unfolding stored_of
stored_few t =
    by_test (ltb (length t) least_bytes) (λ e. rw e (omega arith))
    (λ e. rw e (by_test (ltb most_bytes (length t)) (λ f. rw f (omega arith))
    (λ f. rw f (by_test (begins t sparse) (λ g. rw g (omega arith)) (λ g. rw g (omega (arith, length-take most (said_before 1 0 (lines_of t)))))))))

-- ---- what is read, beside what is stored meanwhile
-- a sound read's record is that of the extents stored, and a refused one's is empty
record Beside (r : Read) (xs : List ReadExtent) : Type 0 where
  pub sound : r.verdict ≡ (Ok tt) → r.descriptor ≡ record_of r.descriptor.desc xs
  pub refused : (k : Refusal) → r.verdict ≡ Err k → r.descriptor ≡ no_record

refused_beside : (n : Fault) (s : ℕ) (xs : List ReadExtent) → Beside (refused_read n s) xs
refused_beside n s xs = record { sound = λ e. let z : ◌≡◌ {A = ℕ} 0 1 = cc in absurd (omega arith); refused = λ k e. refl }

answer_beside : (v : Verdict) (d : VmdkDesc) (xs : List ReadExtent) → Beside (answer v d xs) xs
answer_beside (Ok tt) d xs = record { sound = λ e. refl; refused = λ k e. let z : ◌≡◌ {A = ℕ} 0 1 = cc in absurd (omega arith) }
answer_beside (Err r) d xs = refused_beside r.fault r.second xs

checked_beside : (d : VmdkDesc) (xs : List ReadExtent) → Beside (checked d xs) xs
unfolding checked
checked_beside d xs = by_test (within 1 3 d.version) (λ e. rw e (answer_beside (sizes_from 0 xs) d xs)) (λ e. rw e (refused_beside OtherVersion 0 xs))

-- the extents so far, and of the others as many as there is room for
abbrev as_room : List ReadExtent → List ReadExtent → List ReadExtent
as_room xs ys = xs ++ take (most - length xs) ys

no_more : (xs : List ReadExtent) → as_room xs [] ≡ xs
no_more xs = ap (λ (ys : List ReadExtent). xs ++ ys) (take-nil {A = ReadExtent} (most - length xs)) ∙ append-nil xs

one_more : (xs ys : List ReadExtent) (x : ReadExtent) → length xs < most → as_room (xs ++ (x ∷ [])) ys ≡ as_room xs (x ∷ ys)
one_more xs ys x l =
    let n = length (xs ++ (x ∷ [])) in
    let room : suc (most - n) ≡ most - length xs = omega (arith, length-append xs (x ∷ []), l) in
    append_assoc xs (x ∷ []) (take (most - n) ys) ∙ ap (λ (j : ℕ). xs ++ take j (x ∷ ys)) room

said_beside : (s : Result Said Fault) (k : ℕ) (d : VmdkDesc) (xs rest : List ReadExtent) (go : VmdkDesc → List ReadExtent → Read)
    → ((d : VmdkDesc) (ys : List ReadExtent) → length ys ≤ most → Beside (go d ys) (as_room ys rest)) → length xs ≤ most → Beside (by_line k s d xs go) (as_room xs (then_said k s rest))
said_beside (Ok Nothing) k d xs rest go h l = h d xs l
said_beside (Ok (Set s)) k d xs rest go h l = h (set_of d s) xs l
said_beside (Err n) k d xs rest go h l = refused_beside n k (as_room xs [])
said_beside (Ok (Extent x)) k d xs rest go h l =
    by_test (ltb (length xs) most)
    (λ e. let ys = xs ++ (at_line k x ∷ []) in
    let room = ltb-true (length xs) most e in
    rw e (subst (Beside (go d ys)) (one_more xs rest (at_line k x) room) (h d ys (omega (arith, length-append xs (at_line k x ∷ []), room)))))
    (λ e. rw e (refused_beside TooManyExtents k (as_room xs (at_line k x ∷ rest))))

lines_beside : (ls : List (List ℕ)) (k p : ℕ) (d : VmdkDesc) (xs : List ReadExtent) → length xs ≤ most → Beside (read_lines k p d xs ls) (as_room xs (said_before k p ls))
unfolding read_lines said_before
lines_beside [] k p d xs l = subst (Beside (checked d xs)) (sym (no_more xs)) (checked_beside d xs)
lines_beside (m ∷ ls) k p d xs l =
    said_beside (line_of p m) k d xs (said_before (suc k) (p + length m + 1) ls) (λ d xs. read_lines (suc k) (p + length m + 1) d xs ls)
    (λ d xs h. lines_beside ls (suc k) (p + length m + 1) d xs h) l

read_beside : (t : List ℕ) → Beside (read_of t) (stored_of t)
unfolding read_of stored_of
read_beside t =
    by_test (ltb (length t) least_bytes) (λ e. rw e (refused_beside TooShort 0 []))
    (λ e. rw e (by_test (ltb most_bytes (length t)) (λ f. rw f (refused_beside TooLong 0 []))
    (λ f. rw f (by_test (begins t sparse) (λ g. rw g (refused_beside Sparse 0 [])) (λ g. rw g (lines_beside (lines_of t) 1 0 no_desc [] (omega arith)))))))

-- ---- the laws
-- a refused read's record is empty
pub refused_none : (t : List ℕ) (k : Refusal) → (read_of t).verdict ≡ Err k → (read_of t).descriptor ≡ no_record
refused_none t k e = (read_beside t).refused k e

-- a sound read's record is that of its values and of the extents stored
pub sound_record : (t : List ℕ) → (read_of t).verdict ≡ (Ok tt) → (read_of t).descriptor ≡ record_of (read_of t).descriptor.desc (stored_of t)
sound_record t e = (read_beside t).sound e

-- it counts as many as it stores
pub sound_count : (t : List ℕ) → (read_of t).verdict ≡ (Ok tt) → length (stored_of t) ≡ (read_of t).descriptor.count
sound_count t e = sym (ap (λ (r : Record). r.count) (sound_record t e))

by_verdict : {C : Type 0} (v : Verdict) → (v ≡ (Ok tt) → C) → ((k : Refusal) → v ≡ Err k → C) → C
by_verdict (Ok tt) f g = f refl
by_verdict (Err k) f g = g k refl

module _ (t : List ℕ) (r : Record) where
  -- the values and the count are those that are read
  pub into_desc : (read_into t r).desc ≡ (read_of t).descriptor.desc
  unfolding read_into
  into_desc = refl

  pub into_count : (read_into t r).count ≡ (read_of t).descriptor.count
  unfolding read_into
  into_count = refl

  -- the extents that the record counts are those that are read, with their lines: nothing of what it held shines through
  pub into_read : read_in (read_into t r) ≡ read_in (read_of t).descriptor
  unfolding read_into read_in filled
  into_read =
      by_verdict (read_of t).verdict
      (λ e. let s = sound_record t e in
      let n : (read_of t).descriptor.count ≡ length (stored_of t) = sym (sound_count t e) in
      let held : take (read_of t).descriptor.count (read_of t).descriptor.extents ≡ stored_of t = ap read_in s ∙ take-append_seam (stored_of t) (replicate (most - length (stored_of t)) no_read) in
      ap (λ (k : ℕ). take k (over (stored_of t) r.extents)) n ∙ over_first (stored_of t) r.extents ∙ sym held)
      (λ k e. let none : (read_of t).descriptor.count ≡ 0 = ap (λ (z : Record). z.count) (refused_none t k e) in rw none)
