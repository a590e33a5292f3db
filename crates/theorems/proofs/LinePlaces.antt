-- The lines join to the descriptor, so a line's bytes stand there at its place, and those of a part of it behind them.
-- So a text that is kept as place and length has in the descriptor the bytes that trimming leaves.
use Rattle.std.specs.Prelude.{None, Option, Some}
use Prim.Native.Nat.{ℕ, zero, suc, ◌+◌, ◌-◌, ◌≤◌}
use native.Mathlib.Omega.{arith}
use mathlib.Core.List.{List, [], ◌∷◌, ◌++◌}
use mathlib.Core.Path.{◌≡◌, refl, sym, ap, ◌∙◌}
use lib.ListN.{length, take, drop, length-take, length-drop}
use lib.Dec.{eqb}
use lib.Seq.{take_all, take-take, take-append_seam, take-nil, drop-append-add, drop-drop}
use borrow.Author.Tests.{eqb-true}
use Rattle.text.specs.Text.{trim_of, trimmed}
use Rattle.text.specs.Lines.{join_lines}
use Rattle.text.proofs.Flat.{by_test}
use Rattle.text.proofs.Bounds.{trim_within}
use Rattle.text.proofs.Lines.{lines_join}
use Rattle.lines.specs.Kept.{kept_at, kept_of}
use Rattle.lines.specs.Extent.{part}
use Rattle.theorems.specs.Statements.{place_after, LineAt, text_in}

-- the bytes l stand in d at the place p
abbrev pub Lies : List ℕ → ℕ → List ℕ → Type 0
Lies d p l = take (length l) (drop p d) ≡ l

-- ---- a line
place_shift : (p : ℕ) (ls : List (List ℕ)) → place_after p ls ≡ p + place_after 0 ls
unfolding place_after
place_shift p [] = omega arith
place_shift p (l ∷ ls) = omega (arith, place_shift (p + length l + 1) ls, place_shift (0 + length l + 1) ls)

pub first_lies : (l : List ℕ) (ls : List (List ℕ)) → Lies (join_lines (l ∷ ls)) 0 l
unfolding join_lines
first_lies l [] = take_all (length l) l (omega arith)
first_lies l (m ∷ ls) = take-append_seam l (0x0A ∷ join_lines (m ∷ ls))

join_cons : (l m : List ℕ) (ls before : List (List ℕ)) → join_lines (l ∷ (before ++ m ∷ ls)) ≡ l ++ 0x0A ∷ join_lines (before ++ m ∷ ls)
unfolding join_lines
join_cons l m ls [] = refl
join_cons l m ls (b ∷ before) = refl

line_lies : (before : List (List ℕ)) (l : List ℕ) (after : List (List ℕ)) → Lies (join_lines (before ++ l ∷ after)) (place_after 0 before) l
unfolding place_after
line_lies [] l after = first_lies l after
line_lies (b ∷ before) l after =
    let q : place_after (0 + length b + 1) before ≡ length b + suc (place_after 0 before) = omega (arith, place_shift (0 + length b + 1) before) in
    rw (q, join_cons b l after before, drop-append-add b (0x0A ∷ join_lines (before ++ l ∷ after)) (suc (place_after 0 before))) (line_lies before l after)

pub lies : (t : List ℕ) (before : List (List ℕ)) (l : List ℕ) (p k : ℕ) → LineAt t before l p k → Lies t p l
lies t before l p k a =
    let q : t ≡ join_lines (before ++ l ∷ a.after) = sym (lines_join t) ∙ ap join_lines a.lines in
    rw (a.place, q) (line_lies before l a.after)

-- ---- a part of it
part_front : (n a m : ℕ) (l : List ℕ) → a + n ≤ m → take n (drop a (take m l)) ≡ take n (drop a l)
part_front n a m [] h = rw (take-nil m)
part_front n a zero (x ∷ l) h = let q : n ≡ 0 = omega arith in rw q
part_front n zero (suc m) (x ∷ l) h = take-take n (suc m) (x ∷ l) (omega arith)
part_front n (suc a) (suc m) (x ∷ l) h = part_front n a m l (omega arith)

module _ (d : List ℕ) (p : ℕ) (l : List ℕ) (i : Lies d p l) (a e : ℕ) (h : a ≤ e) (k : e ≤ length l) where
  pub part_bytes : take (e - a) (drop (p + a) d) ≡ part l a e
  part_bytes =
      rw (← drop-drop a p d, ← part_front (e - a) a (length l) (drop p d) (omega arith), i)

  pub part_lies : Lies d (p + a) (part l a e)
  part_lies = let q : length (part l a e) ≡ e - a = simp (length-take, length-drop) (omega arith) in rw q part_bytes

-- ---- a text that is kept
pub kept_at_lem : (d : List ℕ) (p : ℕ) (v : List ℕ) → Lies d p v → (a e : ℕ) → a ≤ e → e ≤ length v → text_in d (kept_at p a e) ≡ part v a e
unfolding kept_at
kept_at_lem d p v i a e h k =
    by_test (eqb a e)
    (λ f. let g : e - a ≡ 0 = omega (arith, eqb-true a e f) in rw (f, g))
    (λ f. rw f (part_bytes d p v i a e h k))

kept_bytes : (d : List ℕ) (p : ℕ) (v : List ℕ) (r : Option (ℕ × ℕ)) → trim_of v ≡ r → Lies d p v → text_in d (kept_of p v) ≡ trimmed v
unfolding kept_of trimmed
kept_bytes d p v (Some (a, e)) q i = let w = trim_within v q in rw q (kept_at_lem d p v i a e w.0 w.1)
kept_bytes d p v None q i = rw q

pub kept_is : (d : List ℕ) (p : ℕ) (v : List ℕ) → Lies d p v → text_in d (kept_of p v) ≡ trimmed v
kept_is d p v i = kept_bytes d p v (trim_of v) refl i
