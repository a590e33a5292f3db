-- Reading goes over what the lines say: a sound line leaves its value or extent, and the first that is refused ends it.
-- Both ways by recursion on the lines, with the values and extents so far.
use Rattle.std.specs.Prelude.{Err, None, Ok, Option, Result, Some}
use Prim.Native.Nat.{ℕ, suc, ◌+◌, ◌≤◌, ◌<◌}
use native.Mathlib.Omega.{arith}
use mathlib.Core.List.{List, [], ◌∷◌, ◌++◌, append_assoc, append-nil}
use mathlib.Core.Bool.{false}
use mathlib.Core.Path.{◌≡◌, refl, sym, ap, subst, ◌∙◌}
use lib.ListN.{length, length-append}
use lib.Dec.{leb, ltb}
use borrow.Author.Tests.{lt-ltb, le-ltb, ltb-true, ltb-false}
use Rattle.text.specs.Ranges.{within}
use Rattle.text.specs.Sector.{bytes_of, largest}
use Rattle.text.proofs.Flat.{by_test, pick_all}
use Rattle.lines.specs.Record.{most, at_line, bare, refusal, Verdict}
use Rattle.lines.specs.Line.{line_of}
use Rattle.descriptor.specs.Read.{Read, answer, set_of, summed, sizes_from, checked, by_line, read_lines}
use Rattle.theorems.specs.Statements.{place_after, sayings, extents_in, read_from, refuses, RefusedWith}
use Rattle.lines.specs.declared.line.Said.TheVariants.{Nothing, Extent, Set}
use Rattle.lines.specs.declared.record.Refusal.{Refusal}
use Rattle.lines.specs.declared.record.VmdkDesc.{VmdkDesc}
use Rattle.lines.specs.declared.record.ReadExtent.{ReadExtent}
use Rattle.lines.specs.declared.record.VmdkParsedExtent.{VmdkParsedExtent}
use Rattle.lines.specs.declared.line.Said.{Said}
use Rattle.text.specs.declared.sector.Bytes.{Bytes}
use Rattle.lines.specs.declared.record.Fault.{Fault}
use Rattle.lines.specs.declared.record.Fault.TheVariants.{SumTooLarge, TooManyExtents}
use Rattle.lines.specs.Fault.{refusal_number}
use Rattle.theorems.proofs.RefusalNumbers.{line_number}

-- ---- after the lines
-- what is refused is refused with a number from m on
abbrev pub From : ℕ → Verdict → Type 0
From m (Ok tt) = Unit {0}
From m (Err r) = m ≤ refusal_number r.fault

from_sum : (k sum : ℕ) (b : Option Bytes) (go : ℕ → Verdict) → ((s : ℕ) → From 18 (go s)) → From 18 (summed k sum b go)
from_sum k sum (Some b) go g = pick_all (From 18) (leb (sum + b.0) largest) (go (sum + b.0)) (refusal SumTooLarge k) (g (sum + b.0)) (omega arith)
from_sum k sum None go g = omega arith

pub from_sizes : (sum : ℕ) (xs : List ReadExtent) → From 18 (sizes_from sum xs)
unfolding sizes_from
from_sizes sum [] = tt
from_sizes sum (x ∷ xs) = from_sum x.line sum (bytes_of x.extent.sectors) (λ s. sizes_from s xs) (λ s. from_sizes s xs)

pub from_answer : (v : Verdict) (d : VmdkDesc) (xs : List ReadExtent) → (answer v d xs).verdict ≡ v
from_answer (Ok tt) d xs = refl
from_answer (Err r) d xs = refl

pub from_more : (v : Verdict) → From 18 v → From 17 v
from_more (Ok tt) h = tt
from_more (Err r) h = omega arith

from_checked : (d : VmdkDesc) (xs : List ReadExtent) → From 17 (checked d xs).verdict
unfolding checked
from_checked d xs =
    by_test (within 1 3 d.version)
    (λ e. rw (e, from_answer (sizes_from 0 xs) d xs) (from_more (sizes_from 0 xs) (from_sizes 0 xs)))
    (λ e. rw e (omega arith))

-- ---- sound lines
-- the values after what some lines say
unfoldable pub set_all : VmdkDesc → List (Result Said Fault) → VmdkDesc
set_all d [] = d
set_all d (Ok (Set v) ∷ ss) = set_all (set_of d v) ss
set_all d ((Ok Nothing) ∷ ss) = set_all d ss
set_all d (Ok (Extent x) ∷ ss) = set_all d ss
set_all d (Err n ∷ ss) = set_all d ss

-- each line says one thing
pub sayings_length : (p : ℕ) (ls : List (List ℕ)) → length (sayings p ls) ≡ length ls
unfolding sayings
sayings_length p [] = refl
sayings_length p (l ∷ ls) = ap suc (sayings_length (p + length l + 1) ls)

pub extents_cons : (s : Result Said Fault) (ss : List (Result Said Fault)) → extents_in (s ∷ ss) ≡ extents_in (s ∷ []) ++ extents_in ss
unfolding extents_in
extents_cons (Ok Nothing) ss = refl
extents_cons (Ok (Set v)) ss = refl
extents_cons (Ok (Extent x)) ss = refl
extents_cons (Err n) ss = refl

pub extents_more : (s : Result Said Fault) (ss : List (Result Said Fault)) → length (extents_in (s ∷ ss)) ≡ length (extents_in (s ∷ [])) + length (extents_in ss)
extents_more s ss = rw (extents_cons s ss, length-append)

-- with their lines they are as many, and the same
pub read_bare : (k : ℕ) (ss : List (Result Said Fault)) → bare (read_from k ss) ≡ extents_in ss
unfolding read_from extents_in bare
read_bare k [] = refl
read_bare k (Ok (Extent x) ∷ ss) = ap (λ (xs : List VmdkParsedExtent). x ∷ xs) (read_bare (suc k) ss)
read_bare k ((Ok Nothing) ∷ ss) = read_bare (suc k) ss
read_bare k (Ok (Set v) ∷ ss) = read_bare (suc k) ss
read_bare k (Err n ∷ ss) = read_bare (suc k) ss

pub bare_length : (xs : List ReadExtent) → length (bare xs) ≡ length xs
unfolding bare
bare_length [] = refl
bare_length (x ∷ xs) = ap suc (bare_length xs)

pub read_length : (k : ℕ) (ss : List (Result Said Fault)) → length (read_from k ss) ≡ length (extents_in ss)
read_length k ss = sym (bare_length (read_from k ss)) ∙ ap length (read_bare k ss)

refuses_cons : (s : Result Said Fault) (ss : List (Result Said Fault)) → refuses (s ∷ []) ≡ false → refuses (s ∷ ss) ≡ refuses ss
unfolding refuses
refuses_cons (Ok Nothing) ss h = refl
refuses_cons (Ok (Set v)) ss h = refl
refuses_cons (Ok (Extent x)) ss h = refl
refuses_cons (Err n) ss h = let z : ◌≡◌ {A = ℕ} 0 1 = cc in absurd (omega arith)

-- one sound line leaves its value or extent
passed_one : (k : ℕ) (d : VmdkDesc) (xs : List ReadExtent) (s : Result Said Fault) (ss : List (Result Said Fault)) (go : VmdkDesc → List ReadExtent → Read) → refuses (s ∷ ss) ≡ false → length xs + length (extents_in (s ∷ ss)) ≤ most → {r : Read} → (refuses ss ≡ false → (d' : VmdkDesc) (xs' : List ReadExtent) → set_all d' ss ≡ set_all d (s ∷ ss) → xs' ++ read_from (suc k) ss ≡ xs ++ read_from k (s ∷ ss) → go d' xs' ≡ r) → by_line k s d xs go ≡ r
unfolding refuses extents_in read_from set_all
passed_one k d xs (Ok Nothing) ss go h f g = g h d xs refl refl
passed_one k d xs (Ok (Set v)) ss go h f g = g h (set_of d v) xs refl refl
passed_one k d xs (Ok (Extent x)) ss go h f g =
    let l : length xs < most = omega arith in
    rw (lt-ltb (length xs) most l) (g h d (xs ++ (at_line k x ∷ [])) refl (append_assoc xs (at_line k x ∷ []) (read_from (suc k) ss)))
passed_one k d xs (Err n) ss go h f g = let z : ◌≡◌ {A = ℕ} 0 1 = cc in absurd (omega arith)

-- the lines after some sound ones are read after their values and extents
pub passed : (k p : ℕ) (d : VmdkDesc) (xs : List ReadExtent) (before ls : List (List ℕ)) → refuses (sayings p before) ≡ false → length xs + length (extents_in (sayings p before)) ≤ most → read_lines k p d xs (before ++ ls) ≡ read_lines (k + length before) (place_after p before) (set_all d (sayings p before)) (xs ++ read_from k (sayings p before)) ls
unfolding read_lines sayings place_after set_all extents_in read_from
passed k p d xs [] ls h f = let q : k + 0 ≡ k = omega arith in rw (q, append-nil)
passed k p d xs (l ∷ before) ls h f =
    let s : Result Said Fault = line_of p l in
    let ss : List (Result Said Fault) = sayings (p + length l + 1) before in
    let q : suc k + length before ≡ k + suc (length before) = omega arith in
    passed_one k d xs s ss (λ d xs. read_lines (suc k) (p + length l + 1) d xs (before ++ ls)) h f
    (λ h' d' xs' a b.
    let u : length xs' + length (extents_in ss) ≤ most = omega (arith, simp length-append at (ap length b), read_length (suc k) ss, read_length k (s ∷ ss)) in
    passed (suc k) (p + length l + 1) d' xs' before ls h' u ∙ rw (q, a, b))

-- ---- the first line that is refused
-- of the lines from number k on, after so many extents, line j is the first that is refused, for the fault n
pub record Stops (k p count : ℕ) (ls : List (List ℕ)) (n : Fault) (j : ℕ) : Type 0 where
  pub before : List (List ℕ)
  pub line : List ℕ
  pub after : List (List ℕ)
  pub lines : ls ≡ before ++ line ∷ after
  pub number : j ≡ k + length before
  pub none : refuses (sayings p before) ≡ false
  pub few : count + length (extents_in (sayings p before)) ≤ most
  pub refused : RefusedWith n (count + length (extents_in (sayings p before))) (line_of (place_after p before) line)

stops_here : (k p count : ℕ) (l : List ℕ) (ls : List (List ℕ)) (n : Fault) → count ≤ most → RefusedWith n (count + 0) (line_of p l) → Stops k p count (l ∷ ls) n k
unfolding sayings extents_in refuses place_after
stops_here k p count l ls n h r =
    record { before = []; line = l; after = ls; lines = refl; number = omega arith; none = refl; few = omega arith; refused = r }

stops_later : (k p count : ℕ) (l : List ℕ) (ls : List (List ℕ)) (n : Fault) (j count' : ℕ) → refuses (line_of p l ∷ []) ≡ false → count + length (extents_in (line_of p l ∷ [])) ≡ count' → Stops (suc k) (p + length l + 1) count' ls n j → Stops k p count (l ∷ ls) n j
unfolding sayings place_after
stops_later k p count l ls n j count' a b s =
    let ss : List (Result Said Fault) = sayings (p + length l + 1) s.before in
    let q : count' + length (extents_in ss) ≡ count + length (extents_in (line_of p l ∷ ss)) = omega (arith, extents_more (line_of p l) ss) in
    record {
      before = l ∷ s.before;
      line = s.line;
      after = s.after;
      lines = rw s.lines;
      number = let i = s.number in omega arith;
      none = rw (refuses_cons (line_of p l) ss a) s.none;
      few = rw (← q) s.few;
      refused = rw (← q) s.refused;
    }

pub never : (n : Fault) (j : ℕ) (m : Fault) (i : ℕ) → refusal m i ≡ refusal n j → (m ≡ n) × (i ≡ j)
never n j m i e = let q : ◌≡◌ {A = Refusal} (record { fault = m; second = i }) (record { fault = n; second = j }) = cc in (ap (λ (r : Refusal). r.fault) q, ap (λ (r : Refusal). r.second) q)

after_lines : (d : VmdkDesc) (xs : List ReadExtent) (n : Fault) (j : ℕ) → refusal_number n ≤ 16 → (checked d xs).verdict ≡ refusal n j → ⊥
after_lines d xs n j h e = let g : 17 ≤ refusal_number n = subst (From 17) e (from_checked d xs) in omega arith

module _ (k p : ℕ) (l : List ℕ) (ls : List (List ℕ)) (n : Fault) (j : ℕ) where
  -- by what the line says, if the rest is found to stop
  stops_by : (d : VmdkDesc) (xs : List ReadExtent) (s : Result Said Fault) → line_of p l ≡ s → length xs ≤ most → refusal_number n ≤ 16 → ((d : VmdkDesc) (xs : List ReadExtent) → length xs ≤ most → (read_lines (suc k) (p + length l + 1) d xs ls).verdict ≡ refusal n j → Stops (suc k) (p + length l + 1) (length xs) ls n j) → (by_line k s d xs (λ d xs. read_lines (suc k) (p + length l + 1) d xs ls)).verdict ≡ refusal n j → Stops k p (length xs) (l ∷ ls) n j
  unfolding refuses extents_in
  stops_by d xs (Ok Nothing) q h m g e = stops_later k p (length xs) l ls n j (length xs) (rw q) (rw q (omega arith)) (g d xs h e)
  stops_by d xs (Ok (Set v)) q h m g e = stops_later k p (length xs) l ls n j (length xs) (rw q) (rw q (omega arith)) (g (set_of d v) xs h e)
  stops_by d xs (Err i) q h m g e =
      let r = never n j i k e in
      rw (← r.1) (stops_here k p (length xs) l ls n h (rw q r.0))
  stops_by d xs (Ok (Extent x)) q h m g e =
      by_test (ltb (length xs) most)
      (λ f. let w = ltb-true (length xs) most f in
      let u : length (xs ++ (at_line k x ∷ [])) ≤ most = rw length-append (omega arith) in
      let c : length xs + length (extents_in (line_of p l ∷ [])) ≡ length (xs ++ (at_line k x ∷ [])) = rw (q, length-append) in
      stops_later k p (length xs) l ls n j (length (xs ++ (at_line k x ∷ []))) (rw q) c (g d (xs ++ (at_line k x ∷ [])) u (rw f at e)))
      (λ f. let w = ltb-false (length xs) most f in
      let r = never n j TooManyExtents k (rw f at e) in
      rw (← r.1) (stops_here k p (length xs) l ls n h (rw q (sym r.0, omega arith))))

-- if reading refuses with a number up to 16, a line is the first that is refused
pub stopped : (k p : ℕ) (d : VmdkDesc) (xs : List ReadExtent) (ls : List (List ℕ)) (n : Fault) (j : ℕ) → length xs ≤ most → refusal_number n ≤ 16 → (read_lines k p d xs ls).verdict ≡ refusal n j → Stops k p (length xs) ls n j
unfolding read_lines
stopped k p d xs [] n j h m e = absurd (after_lines d xs n j m e)
stopped k p d xs (l ∷ ls) n j h m e =
    stops_by k p l ls n j d xs (line_of p l) refl h m (λ d xs g f. stopped (suc k) (p + length l + 1) d xs ls n j g m f) e

-- what a line says that is refused, so ends reading
ends_by : (k : ℕ) (d : VmdkDesc) (xs : List ReadExtent) (go : VmdkDesc → List ReadExtent → Read) (n : Fault) (s : Result Said Fault) → RefusedWith n (length xs) s → (by_line k s d xs go).verdict ≡ refusal n k
ends_by k d xs go n (Ok Nothing) r = absurd r
ends_by k d xs go n (Ok (Set v)) r = absurd r
ends_by k d xs go n (Err m) r = rw r
ends_by k d xs go n (Ok (Extent x)) r = let h : most ≤ length xs = omega arith in rw (le-ltb (length xs) most h, r.0)

stop_line : (k p : ℕ) (d : VmdkDesc) (xs : List ReadExtent) (n : Fault) (l : List ℕ) (ls : List (List ℕ)) → RefusedWith n (length xs) (line_of p l) → (read_lines k p d xs (l ∷ ls)).verdict ≡ refusal n k
unfolding read_lines
stop_line k p d xs n l ls r = ends_by k d xs (λ d xs. read_lines (suc k) (p + length l + 1) d xs ls) n (line_of p l) r

-- the first line that is refused ends reading
pub stops : (k p : ℕ) (d : VmdkDesc) (xs : List ReadExtent) (ls : List (List ℕ)) (n : Fault) (j : ℕ) → Stops k p (length xs) ls n j → (read_lines k p d xs ls).verdict ≡ refusal n j
stops k p d xs ls n j s =
    let ys : List ReadExtent = read_from k (sayings p s.before) in
    let e : read_lines k p d xs ls ≡ read_lines (k + length s.before) (place_after p s.before) (set_all d (sayings p s.before)) (xs ++ ys) (s.line ∷ s.after) =
    rw s.lines (passed k p d xs s.before (s.line ∷ s.after) s.none s.few) in
    rw (e, s.number) (stop_line (k + length s.before) (place_after p s.before) (set_all d (sayings p s.before)) (xs ++ ys) n s.line s.after (rw (length-append, read_length k (sayings p s.before)) s.refused))

-- ---- reading that no line ends
nothing_left : (k p : ℕ) (d : VmdkDesc) (xs : List ReadExtent) → read_lines k p d xs [] ≡ checked d xs
unfolding read_lines
nothing_left k p d xs = refl

nothing_said : (xs : List ReadExtent) → length xs ≤ most → (refuses [] ≡ false) × (length xs + length (extents_in []) ≤ most)
unfolding refuses extents_in
nothing_said xs h = (refl, omega arith)

module _ (k p : ℕ) (l : List ℕ) where
  abbrev Lasts : List ReadExtent → List (Result Said Fault) → Type 0
  Lasts xs ss = (refuses ss ≡ false) × (length xs + length (extents_in ss) ≤ most)

  lasts_by : (d : VmdkDesc) (xs : List ReadExtent) (s : Result Said Fault) → line_of p l ≡ s → (ss : List (Result Said Fault)) (go : VmdkDesc → List ReadExtent → Read) → length xs ≤ most → ((d : VmdkDesc) (xs : List ReadExtent) → length xs ≤ most → From 17 (go d xs).verdict → Lasts xs ss) → From 17 (by_line k s d xs go).verdict → Lasts xs (s ∷ ss)
  unfolding refuses extents_in
  lasts_by d xs (Ok Nothing) q ss go h g f = g d xs h f
  lasts_by d xs (Ok (Set v)) q ss go h g f = g (set_of d v) xs h f
  lasts_by d xs (Err n) q ss go h g f = absurd (omega (arith, line_number p l n q))
  lasts_by d xs (Ok (Extent x)) q ss go h g f =
      by_test (ltb (length xs) most)
      (λ e. let w = ltb-true (length xs) most e in
      let u : length (xs ++ (at_line k x ∷ [])) ≤ most = rw length-append (omega arith) in
      let r = g d (xs ++ (at_line k x ∷ [])) u (rw e at f) in
      (r.0, omega (arith, simp length-append at r.1)))
      (λ e. let z : 17 ≤ 16 = rw e at f in absurd (omega arith))

-- if it is accepted, or refused with a number from 17 on, every line is sound
pub all_sound : (k p : ℕ) (d : VmdkDesc) (xs : List ReadExtent) (ls : List (List ℕ)) → length xs ≤ most → From 17 (read_lines k p d xs ls).verdict → (refuses (sayings p ls) ≡ false) × (length xs + length (extents_in (sayings p ls)) ≤ most)
unfolding read_lines sayings
all_sound k p d xs [] h f = nothing_said xs h
all_sound k p d xs (l ∷ ls) h f =
    lasts_by k p l d xs (line_of p l) refl (sayings (p + length l + 1) ls) (λ d xs. read_lines (suc k) (p + length l + 1) d xs ls) h (λ d xs g e. all_sound (suc k) (p + length l + 1) d xs ls g e) f

-- and the values and extents of all lines are checked
pub after_all : (k p : ℕ) (d : VmdkDesc) (xs : List ReadExtent) (ls : List (List ℕ)) → refuses (sayings p ls) ≡ false → length xs + length (extents_in (sayings p ls)) ≤ most → read_lines k p d xs ls ≡ checked (set_all d (sayings p ls)) (xs ++ read_from k (sayings p ls))
after_all k p d xs ls h f = ap (read_lines k p d xs) (sym (append-nil ls)) ∙ passed k p d xs ls [] h f ∙ nothing_left (k + length ls) (place_after p ls) (set_all d (sayings p ls)) (xs ++ read_from k (sayings p ls))
