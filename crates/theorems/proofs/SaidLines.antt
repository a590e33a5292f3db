-- A line says at most one extent, so the i-th line that says one says the i-th of the extents, which has that line; both ways by recursion on the lines.
-- Lines are counted up, so the extents' lines rise. Assumes nothing.
use Rattle.std.specs.Prelude.{Err, Ok, Result}
use Prim.Native.Nat.{ℕ, zero, suc, ◌+◌, ◌<◌, ◌≤◌}
use native.Mathlib.Omega.{arith}
use mathlib.Core.List.{List, [], ◌∷◌, ◌++◌, append_assoc}
use mathlib.Core.Path.{◌≡◌, refl, sym, ap, ◌∙◌}
use lib.ListN.{length, get_or, length-append}
use lib.Seq.{get_or-append_seam}
use Rattle.lines.specs.Record.{at_line, no_extent, no_read, bare}
use Rattle.lines.specs.Line.{line_of}
use Rattle.lines.specs.declared.line.Said.TheVariants.{Nothing, Extent, Set}
use Rattle.lines.specs.declared.record.ReadExtent.{ReadExtent}
use Rattle.lines.specs.declared.record.VmdkParsedExtent.{VmdkParsedExtent}
use Rattle.lines.specs.declared.line.Said.{Said}
use Rattle.lines.specs.declared.record.Fault.{Fault}
use Rattle.theorems.specs.Statements.{place_after, sayings, extents_in, read_from}
use Rattle.theorems.proofs.Sayings.{extents_more, read_bare, read_length}

-- ---- the extents that lines say, with their lines
-- those of some lines, and then those of the lines after them
read_cons : (k : ℕ) (s : Result Said Fault) (ss : List (Result Said Fault)) → read_from k (s ∷ ss) ≡ read_from k (s ∷ []) ++ read_from (suc k) ss
unfolding read_from
read_cons k (Ok Nothing) ss = refl
read_cons k (Ok (Set v)) ss = refl
read_cons k (Ok (Extent x)) ss = refl
read_cons k (Err n) ss = refl

pub read_append : (k p : ℕ) (before ls : List (List ℕ)) → read_from k (sayings p (before ++ ls)) ≡ read_from k (sayings p before) ++ read_from (k + length before) (sayings (place_after p before) ls)
unfolding sayings place_after read_from
read_append k p [] ls = let e : k + 0 ≡ k = omega arith in rw e
read_append k p (l ∷ before) ls =
    let n : ℕ = p + length l + 1 in
    let e : suc k + length before ≡ k + suc (length before) = omega arith in
    rw (read_cons k (line_of p l) (sayings n (before ++ ls)), read_cons k (line_of p l) (sayings n before), read_append (suc k) n before ls, e, append_assoc)

bare_append : (xs ys : List ReadExtent) → bare (xs ++ ys) ≡ bare xs ++ bare ys
unfolding bare
bare_append [] ys = refl
bare_append (x ∷ xs) ys = ap (λ (zs : List VmdkParsedExtent). x.extent ∷ zs) (bare_append xs ys)

pub said_append : (p : ℕ) (before ls : List (List ℕ)) → extents_in (sayings p (before ++ ls)) ≡ extents_in (sayings p before) ++ extents_in (sayings (place_after p before) ls)
said_append p before ls =
    let n : ℕ = 1 + length before in
    sym (read_bare 1 (sayings p (before ++ ls))) ∙ ap bare (read_append 1 p before ls) ∙ bare_append (read_from 1 (sayings p before)) (read_from n (sayings (place_after p before) ls))
    ∙ rw (read_bare 1 (sayings p before), read_bare n (sayings (place_after p before) ls))

pub said_first : (p : ℕ) (l : List ℕ) (ls : List (List ℕ)) (x : VmdkParsedExtent) → line_of p l ≡ Ok (Extent x) → extents_in (sayings p (l ∷ ls)) ≡ x ∷ extents_in (sayings (p + length l + 1) ls)
unfolding sayings extents_in
said_first p l ls x h = rw h

-- a line that says an extent, among the others
module _ (p : ℕ) (before : List (List ℕ)) (l : List ℕ) (after : List (List ℕ)) (x : VmdkParsedExtent) (h : line_of (place_after p before) l ≡ Ok (Extent x)) where
  said_split : extents_in (sayings p (before ++ l ∷ after)) ≡ extents_in (sayings p before) ++ x ∷ extents_in (sayings (place_after p before + length l + 1) after)
  said_split = said_append p before (l ∷ after) ∙ ap (◌++◌ (extents_in (sayings p before))) (said_first (place_after p before) l after x h)

  read_split : (k : ℕ) → read_from k (sayings p (before ++ l ∷ after)) ≡ read_from k (sayings p before) ++ at_line (k + length before) x ∷ read_from (suc (k + length before)) (sayings (place_after p before + length l + 1) after)
  unfolding sayings read_from
  read_split k = read_append k p before (l ∷ after) ∙ rw h

  -- its number among the extents has its line
  read_at : (k : ℕ) → get_or (read_from k (sayings p (before ++ l ∷ after))) (length (extents_in (sayings p before))) no_read ≡ at_line (k + length before) x
  read_at k = rw (← read_length k (sayings p before), read_split k) (get_or-append_seam (read_from k (sayings p before)) (at_line (k + length before) x) _ no_read)

  pub said_at : get_or (extents_in (sayings p (before ++ l ∷ after))) (length (extents_in (sayings p before))) no_extent ≡ x
  said_at = rw said_split (get_or-append_seam (extents_in (sayings p before)) x _ no_extent)

  pub said_below : length (extents_in (sayings p before)) < length (extents_in (sayings p (before ++ l ∷ after)))
  said_below = rw said_split (simp length-append (omega arith))

-- the line that says an extent after i others
pub record Says (p : ℕ) (ls : List (List ℕ)) (i : ℕ) : Type 0 where
  pub before : List (List ℕ)
  pub line : List ℕ
  pub after : List (List ℕ)
  pub lines : ls ≡ before ++ line ∷ after
  pub extent : VmdkParsedExtent
  pub says : line_of (place_after p before) line ≡ Ok (Extent extent)
  pub nth : length (extents_in (sayings p before)) ≡ i

module _ (p : ℕ) (l : List ℕ) (ls : List (List ℕ)) where
  abbrev next : ℕ
  next = p + length l + 1

  says_here : (x : VmdkParsedExtent) → line_of p l ≡ Ok (Extent x) → Says p (l ∷ ls) 0
  unfolding place_after sayings extents_in
  says_here x h = record { before = []; line = l; after = ls; lines = refl; extent = x; says = h; nth = refl }

  says_later : (j i : ℕ) → length (extents_in (line_of p l ∷ [])) + j ≡ i → Says next ls j → Says p (l ∷ ls) i
  unfolding place_after sayings
  says_later j i h s =
      record {
        before = l ∷ s.before;
        line = s.line;
        after = s.after;
        lines = rw s.lines;
        extent = s.extent;
        says = s.says;
        nth = let q = s.nth in omega (arith, extents_more (line_of p l) (sayings next s.before));
      }

  says_by : (s : Result Said Fault) → line_of p l ≡ s → (i : ℕ) → i < length (extents_in (s ∷ sayings next ls)) → ((j : ℕ) → j < length (extents_in (sayings next ls)) → Says next ls j) → Says p (l ∷ ls) i
  unfolding extents_in
  says_by (Ok Nothing) e i h f = says_later i i (rw e (omega arith)) (f i h)
  says_by (Ok (Set v)) e i h f = says_later i i (rw e (omega arith)) (f i h)
  says_by (Err n) e i h f = says_later i i (rw e (omega arith)) (f i h)
  says_by (Ok (Extent x)) e zero h f = says_here x e
  says_by (Ok (Extent x)) e (suc i) h f = says_later i (suc i) (rw e (omega arith)) (f i (omega arith))

pub says_in : (p : ℕ) (ls : List (List ℕ)) (i : ℕ) → i < length (extents_in (sayings p ls)) → Says p ls i
unfolding sayings extents_in
says_in p [] i h = absurd (omega arith)
says_in p (l ∷ ls) i h = says_by p l ls (line_of p l) refl i h (λ j k. says_in (p + length l + 1) ls j k)

-- it is the extent with that number
pub said_extent : (ls : List (List ℕ)) (i : ℕ) (s : Says 0 ls i) → get_or (extents_in (sayings 0 ls)) i no_extent ≡ s.extent
said_extent ls i s = rw (s.lines, ← s.nth) (said_at 0 s.before s.line s.after s.extent s.says)

-- and its number has that line
pub said_line : (ls : List (List ℕ)) (i : ℕ) (s : Says 0 ls i) → (get_or (read_from 1 (sayings 0 ls)) i no_read).line ≡ suc (length s.before)
said_line ls i s =
    let e : 1 + length s.before ≡ suc (length s.before) = omega arith in
    let w : get_or (read_from 1 (sayings 0 ls)) i no_read ≡ at_line (1 + length s.before) s.extent = rw (s.lines, ← s.nth) (read_at 0 s.before s.line s.after s.extent s.says 1) in
    ap (λ (x : ReadExtent). x.line) w ∙ e

-- there is no other
pub only_one : (p : ℕ) (ls a b : List (List ℕ)) (l m : List ℕ) (ra rb : List (List ℕ)) (x y : VmdkParsedExtent) → ls ≡ a ++ l ∷ ra → ls ≡ b ++ m ∷ rb → line_of (place_after p a) l ≡ Ok (Extent x) → line_of (place_after p b) m ≡ Ok (Extent y) → length (extents_in (sayings p a)) ≡ length (extents_in (sayings p b)) → length a ≡ length b
unfolding place_after sayings extents_in
only_one p ls [] [] l m ra rb x y e f h k n = refl
only_one p ls [] (v ∷ b) l m ra rb x y e f h k n =
    let q : l ≡ v = cc in
    let g : extents_in (sayings p (v ∷ b)) ≡ x ∷ extents_in (sayings (p + length v + 1) b) = said_first p v b x (rw (← q) h) in
    absurd (omega (arith, ap length g))
only_one p ls (u ∷ a) [] l m ra rb x y e f h k n =
    let q : u ≡ m = cc in
    let g : extents_in (sayings p (u ∷ a)) ≡ y ∷ extents_in (sayings (p + length u + 1) a) = said_first p u a y (rw q k) in
    absurd (omega (arith, ap length g))
only_one p ls (u ∷ a) (v ∷ b) l m ra rb x y e f h k n =
    let q : u ≡ v = cc in
    let t : a ++ l ∷ ra ≡ b ++ m ∷ rb = cc in
    let i : line_of (place_after (p + length u + 1) b) m ≡ Ok (Extent y) = rw q k in
    let n₂ : length (extents_in (line_of p u ∷ sayings (p + length u + 1) a)) ≡ length (extents_in (line_of p u ∷ sayings (p + length u + 1) b)) = n ∙ rw q in
    let j : length (extents_in (sayings (p + length u + 1) a)) ≡ length (extents_in (sayings (p + length u + 1) b)) =
    omega (arith, extents_more (line_of p u) (sayings (p + length u + 1) a), extents_more (line_of p u) (sayings (p + length u + 1) b)) in
    ap suc (only_one (p + length u + 1) (a ++ l ∷ ra) a b l m ra rb x y refl t h i j)

-- ---- the lines rise
read_above : (k : ℕ) (ss : List (Result Said Fault)) (j : ℕ) → j < length (read_from k ss) → k ≤ (get_or (read_from k ss) j no_read).line
unfolding read_from
read_above k [] j h = absurd (omega arith)
read_above k (Ok (Extent x) ∷ ss) zero h = omega arith
read_above k (Ok (Extent x) ∷ ss) (suc j) h = omega (arith, read_above (suc k) ss j (omega arith))
read_above k ((Ok Nothing) ∷ ss) j h = omega (arith, read_above (suc k) ss j h)
read_above k (Ok (Set v) ∷ ss) j h = omega (arith, read_above (suc k) ss j h)
read_above k (Err n ∷ ss) j h = omega (arith, read_above (suc k) ss j h)

pub read_rises : (k : ℕ) (ss : List (Result Said Fault)) (i j : ℕ) → i < j → j < length (read_from k ss) → (get_or (read_from k ss) i no_read).line < (get_or (read_from k ss) j no_read).line
unfolding read_from
read_rises k [] i j l h = absurd (omega arith)
read_rises k (Ok (Extent x) ∷ ss) i zero l h = absurd (omega arith)
read_rises k (Ok (Extent x) ∷ ss) zero (suc j) l h = omega (arith, read_above (suc k) ss j (omega arith))
read_rises k (Ok (Extent x) ∷ ss) (suc i) (suc j) l h = read_rises (suc k) ss i j (omega arith) (omega arith)
read_rises k ((Ok Nothing) ∷ ss) i j l h = read_rises (suc k) ss i j l h
read_rises k (Ok (Set v) ∷ ss) i j l h = read_rises (suc k) ss i j l h
read_rises k (Err n ∷ ss) i j l h = read_rises (suc k) ss i j l h
