-- Reading, line by line: what the line at a place says decides, and after it what the lines behind it say. The sizes of the extents so far decide by their sum or their first refusal.
-- Assumes nothing.
use Prim.Native.Nat.{ℕ, suc, ◌+◌, ◌-◌, ◌≤◌, ◌<◌}
use native.Mathlib.Omega.{arith}
use native.Mathlib.Numerals.{add-one}
use mathlib.Core.List.{List, [], ◌∷◌, ◌++◌, append-nil, append_assoc}
use mathlib.Core.Bool.{Bool, true, false}
use mathlib.Core.Path.{◌≡◌, refl, sym, ap, ◌∙◌, subst}
use lib.ListN.{length, take, drop, set, length-take, length-set}
use lib.Seq.{take-suc-set, take-nil}
use lib.Dec.{leb, ltb}
use borrow.Author.Tests.{lt-ltb, le-ltb, ltb-false}
use Rattle.std.specs.Prelude.{Result, Ok, Err, None, Option, Some}
use Rattle.text.specs.Ranges.{within}
use Rattle.text.specs.Find.{line_end, begins}
use Rattle.text.specs.Lines.{lines_of}
use Rattle.text.specs.Sector.{bytes_of, largest}
use Rattle.text.specs.inside.Places.{lines_at}
use Rattle.text.proofs.Flat.{by_test}
use Rattle.lines.specs.Line.{said_at}
use Rattle.lines.specs.Record.{most, most_bytes, at_line, no_desc, over, refusal_at, Verdict}
use Rattle.lines.specs.declared.line.Setting.{Setting}
use Rattle.lines.specs.declared.line.Said.TheVariants.{Nothing, Extent, Set}
use Rattle.lines.specs.declared.record.Refusal.{Refusal}
use Rattle.lines.specs.declared.record.VmdkDesc.{VmdkDesc}
use Rattle.lines.specs.declared.record.ReadExtent.{ReadExtent}
use Rattle.lines.specs.declared.record.VmdkParsedExtent.{VmdkParsedExtent}
use Rattle.lines.specs.declared.record.Record.{Record}
use Rattle.lines.proofs.Lines.{said_is}
use Rattle.lines.proofs.Overs.{over_so_far, over_next}
use Rattle.descriptor.specs.Read.{Read, least_bytes, sparse, answer, refused_read, set_of, summed, sizes_from, checked, by_line, before_lines, read_lines, read_of}
use Rattle.descriptor.specs.Into.{then_said, said_before, stored_of, read_into}
use Rattle.lines.specs.declared.line.Said.{Said}
use Rattle.text.specs.declared.sector.Bytes.{Bytes}
use Rattle.lines.specs.declared.record.Fault.{Fault}
use Rattle.lines.specs.declared.record.Fault.TheVariants.{TooManyExtents}
use Rattle.descriptor.specs.inside.Reading.{told, bytes_checked, sized_by, sized_of, checked_of, head_by, head_of, with_extents}
use Rattle.descriptor.proofs.Steps.{left_lines, more_within, none_left, lines_are, after_line, line_room, line_count}
use Rattle.descriptor.proofs.Intos.{refused_none}

none : {C : Type 0} → false ≡ true → C
none e = let z : ◌≡◌ {A = ℕ} 0 1 = cc in absurd (omega arith)

-- ---- the sizes, one after the other
-- the first refusal counts
abbrev then_by : Result ℕ Refusal → (ℕ → Verdict) → Verdict
then_by (Ok sum) go = go sum
then_by (Err k) go = Err k

-- the sizes of some extents decide, with the extents after them
abbrev pub Sums : List ReadExtent → Result ℕ Refusal → Type 0
Sums xs z = (ys : List ReadExtent) → sizes_from 0 (xs ++ ys) ≡ then_by z (λ sum. sizes_from sum ys)

sized_then : (k sum : ℕ) (c : Option Bytes) (go : ℕ → Verdict) → summed k sum c go ≡ then_by (sized_by k sum c) go
sized_then k sum None go = refl
sized_then k sum (Some b) go = by_test (leb (sum + b.0) largest) (λ e. rw e) (λ e. rw e)

sums_next : (z : Result ℕ Refusal) (k : ℕ) (x : VmdkParsedExtent) (ys : List ReadExtent) → then_by z (λ sum. sizes_from sum (at_line k x ∷ ys)) ≡ then_by (sized_of z k x.sectors) (λ sum. sizes_from sum ys)
unfolding sizes_from
sums_next (Ok sum) k x ys = sized_then k sum (bytes_of x.sectors) (λ s. sizes_from s ys)
sums_next (Err r) k x ys = refl

sums_more : (xs : List ReadExtent) (z : Result ℕ Refusal) (k : ℕ) (x : VmdkParsedExtent) → Sums xs z → Sums (xs ++ (at_line k x ∷ [])) (sized_of z k x.sectors)
sums_more xs z k x h ys = ap (sizes_from 0) (append_assoc xs (at_line k x ∷ []) ys) ∙ h (at_line k x ∷ ys) ∙ sums_next z k x ys

pub sums_none : Sums [] (Ok 0)
sums_none ys = refl

then_sound : (z : Result ℕ Refusal) → then_by z (λ sum. sizes_from sum []) ≡ then_by z (λ sum. (Ok tt))
unfolding sizes_from
then_sound (Ok sum) = refl
then_sound (Err k) = refl

sums_all : (xs : List ReadExtent) (z : Result ℕ Refusal) → Sums xs z → sizes_from 0 xs ≡ then_by z (λ sum. (Ok tt))
sums_all xs z h = ap (sizes_from 0) (sym (append-nil xs)) ∙ h [] ∙ then_sound z

-- ---- a line
-- what a line says, from what is told of it
told_said : (s : Result Said Fault) (k : ℕ) {x : Said} {r : Result Said Refusal} → r ≡ told s k → r ≡ Ok x → Ok x ≡ s
told_said (Ok y) k {x} e q = let g : ◌≡◌ {A = Result Said Refusal} (Ok y) (Ok x) = sym e ∙ q in let h : x ≡ y = cc in ap Ok h
told_said (Err f) k {x} e q = let g : ◌≡◌ {A = Result Said Refusal} (Err (refusal_at f k)) (Ok x) = sym e ∙ q in let z : ◌≡◌ {A = ℕ} 0 1 = cc in absurd (omega arith)

pub told_as : {s said : Result Said Fault} (k : ℕ) {x y : Said} {r : Result Said Refusal} → s ≡ said → r ≡ told s k → r ≡ Ok y → y ≡ x → Ok x ≡ said
told_as {s} k v e q p = ap Ok (sym p) ∙ told_said s k e q ∙ v

-- and its refusal
told_refused : (s : Result Said Fault) (k : ℕ) {x : Refusal} {r : Result Said Refusal} → r ≡ told s k → r ≡ Err x → (a : Fault) × (Err a ≡ s) × (x ≡ refusal_at a k)
told_refused (Ok y) k {x} e q = let g : ◌≡◌ {A = Result Said Refusal} (Ok y) (Err x) = sym e ∙ q in let z : ◌≡◌ {A = ℕ} 0 1 = cc in absurd (omega arith)
told_refused (Err f) k {x} e q = let g : ◌≡◌ {A = Result Said Refusal} (Err (refusal_at f k)) (Err x) = sym e ∙ q in (f, refl, cc)

-- ---- before the lines
-- what the bytes before the lines decide, of whatever is made of the lines
abbrev Begun : {A : Type 0} → Result (Unit {0}) Refusal → (Fault → A) → A → A → Type 0
Begun (Ok u) refused lines whole = whole ≡ lines
Begun (Err k) refused lines whole = (whole ≡ refused k.fault) × (k.second ≡ 0)

begun : {A : Type 0} (t : List ℕ) (refused : Fault → A) (lines : A) → Begun (bytes_checked t) refused lines (before_lines t refused lines)
begun t refused lines =
    by_test (ltb (length t) least_bytes) (λ e. rw e (refl, refl))
    (λ e. rw e (by_test (ltb most_bytes (length t)) (λ f. rw f (refl, refl))
    (λ f. rw f (by_test (begins t sparse) (λ g. rw g (refl, refl)) (λ g. rw g refl)))))

abbrev Small : List ℕ → Result (Unit {0}) Refusal → Type 0
Small t (Ok u) = length t ≤ most_bytes
Small t (Err k) = Unit {0}

small : (t : List ℕ) → Small t (bytes_checked t)
small t =
    by_test (ltb (length t) least_bytes) (λ e. rw e tt)
    (λ e. rw e (by_test (ltb most_bytes (length t)) (λ f. rw f tt)
    (λ f. rw f (by_test (begins t sparse) (λ g. rw g tt) (λ g. rw g (ltb-false most_bytes (length t) f))))))

-- the lines are within the most bytes
small_is : (t : List ℕ) {u : Unit {0}} → Ok u ≡ bytes_checked t → length t ≤ most_bytes
small_is t e = subst (Small t) (sym e) (small t)

-- ---- what is answered and left
-- what is answered from the lines at a place on, after some values and extents
unfoldable pub answer_from : List ℕ → Bool → ℕ → ℕ → VmdkDesc → List ReadExtent → Result (VmdkDesc × ℕ) Refusal
answer_from t more at line d xs = head_of (read_lines (line + 1) at d xs (left_lines t more at))

-- what is left, with n extents so far in the first places
unfoldable pub left_from : List ℕ → Bool → ℕ → ℕ → ℕ → Record → Record
left_from t more at line n z = with_extents (take n z.extents ++ take (most - n) (said_before (line + 1) at (left_lines t more at))) z

module _ (t : List ℕ) where
  pub begin_answer : {u : Unit {0}} → Ok u ≡ bytes_checked t → head_of (read_of t) ≡ answer_from t true 0 0 no_desc []
  unfolding read_of answer_from left_lines lines_at
  begin_answer e = ap head_of (subst (λ (b : Result (Unit {0}) Refusal). Begun b (λ n. refused_read n 0) (read_lines 1 0 no_desc [] (lines_of t)) (read_of t)) (sym e) (begun t (λ n. refused_read n 0) (read_lines 1 0 no_desc [] (lines_of t))))

  pub begin_left : (z : Record) {u : Unit {0}} → Ok u ≡ bytes_checked t → with_extents (stored_of t) z ≡ left_from t true 0 0 0 z
  unfolding stored_of left_from left_lines lines_at
  begin_left z e = ap (λ (xs : List ReadExtent). with_extents xs z) (subst (λ (b : Result (Unit {0}) Refusal). Begun b (λ n. []) (take most (said_before 1 0 (lines_of t))) (stored_of t)) (sym e) (begun t (λ n. []) (take most (said_before 1 0 (lines_of t)))))

  module _ {k : Refusal} (e : Err k ≡ bytes_checked t) where
    pub first_answer : Err k ≡ head_of (read_of t)
    unfolding read_of head_of
    first_answer =
        let h = subst (λ (b : Result (Unit {0}) Refusal). Begun b (λ n. refused_read n 0) (read_lines 1 0 no_desc [] (lines_of t)) (read_of t)) (sym e) (begun t (λ n. refused_read n 0) (read_lines 1 0 no_desc [] (lines_of t))) in
        rw (h.0, ← h.1)

    pub first_left : (z : Record) → z ≡ with_extents (stored_of t) z
    unfolding stored_of over
    first_left z =
        let h = subst (λ (b : Result (Unit {0}) Refusal). Begun b (λ n. []) (take most (said_before 1 0 (lines_of t))) (stored_of t)) (sym e) (begun t (λ n. []) (take most (said_before 1 0 (lines_of t)))) in
        rw h.0

-- what is known before a line, if one is left, with n extents in the first places of the record z: what was left when reading began has become what is left from here on
pub record Stands (t : List ℕ) (first z : Record) (more : Bool) (at line : ℕ) (d : VmdkDesc) (n : ℕ) (sizes : Result ℕ Refusal) : Type 0 where
  pub answer : head_of (read_of t) ≡ answer_from t more at line d (take n z.extents)
  pub left : with_extents (stored_of t) first ≡ left_from t more at line n z
  pub sums : Sums (take n z.extents) sizes
  pub room : n ≤ length z.extents
  pub within : more ≡ true → at ≤ length t
  pub counted : line ≤ at
  pub small : length t ≤ most_bytes

-- what is answered and left at a refusal
abbrev pub Stops : List ℕ → Record → Record → Refusal → Type 0
Stops t first z k = (Err k ≡ head_of (read_of t)) × (z ≡ with_extents (stored_of t) first)

-- nothing more is stored
pub left_none : (xs : List ReadExtent) (z : Record) (n : ℕ) → n ≤ length z.extents → xs ≡ [] → with_extents (take n z.extents ++ xs) z ≡ z
left_none xs z n h e = rw e (ap (λ (ys : List ReadExtent). record { desc = z.desc; count = z.count; extents = ys }) (over_so_far z.extents n h))

-- before the first line
pub begin_stands : (t : List ℕ) (z : Record) {u : Unit {0}} {d : VmdkDesc} → Ok u ≡ bytes_checked t → d ≡ no_desc → Stands t z z true 0 0 d 0 (Ok 0)
begin_stands t z e p = rw p (record {
  answer = begin_answer t e;
  left = begin_left t z e;
  sums = sums_none;
  room = omega arith;
  within = λ _. omega arith;
  counted = omega arith;
  small = small_is t e;
})

-- a line, with what it says
module _ {t : List ℕ} {first z : Record} {more : Bool} {at line : ℕ} {d : VmdkDesc} {n : ℕ} {sizes : Result ℕ Refusal} (h : Stands t first z more at line d n sizes) (m : more ≡ true) {e : ℕ} (q : e ≡ line_end t at) where
  abbrev rest : List (List ℕ)
  rest = left_lines t (ltb e (length t)) (e + 1)

  abbrev said : Result Said Fault
  said = said_at at (take (e - at) (drop at t))

  line_answer : (xs : List ReadExtent) → answer_from t more at line d xs ≡ head_of (by_line (line + 1) said d xs (λ d xs. read_lines (line + 1 + 1) (e + 1) d xs rest))
  unfolding answer_from read_lines
  line_answer xs = rw (lines_are t at m h.within q, said_is at (take (e - at) (drop at t)) (line_room t at m h.within q h.small), after_line t at m h.within q, add-one (line + 1))

  line_left : said_before (line + 1) at (left_lines t more at) ≡ then_said (line + 1) said (said_before (line + 1 + 1) (e + 1) rest)
  unfolding said_before
  line_left = rw (lines_are t at m h.within q, said_is at (take (e - at) (drop at t)) (line_room t at m h.within q h.small), after_line t at m h.within q, add-one (line + 1))

  -- one that says no extent, after which the values are d'
  passed : (d' : VmdkDesc) → ((xs : List ReadExtent) → answer_from t more at line d xs ≡ answer_from t (ltb e (length t)) (e + 1) (line + 1) d' xs)
      → said_before (line + 1) at (left_lines t more at) ≡ said_before (line + 1 + 1) (e + 1) rest → line + 1 ≤ e + 1
      → Stands t first z (ltb e (length t)) (e + 1) (line + 1) d' n sizes
  unfolding left_from
  passed d' a l c = record {
    answer = h.answer ∙ a (take n z.extents);
    left = h.left ∙ ap (λ (xs : List ReadExtent). with_extents (take n z.extents ++ take (most - n) xs) z) l;
    sums = h.sums;
    room = h.room;
    within = λ g. more_within t e g;
    counted = c;
    small = h.small;
  }

  -- one that stops the reading
  stopped : (k : Refusal) → ((xs : List ReadExtent) → xs ≡ take n z.extents → answer_from t more at line d xs ≡ Err k)
      → take (most - n) (said_before (line + 1) at (left_lines t more at)) ≡ [] → Stops t first z k
  unfolding left_from
  stopped k a l = (sym (h.answer ∙ a (take n z.extents) refl), sym (h.left ∙ left_none _ z n h.room l))

  count : line + 1 ≤ e + 1
  count = line_count t at m h.within q line h.counted

  pub turn_nothing : (Ok Nothing) ≡ said → Stands t first z (ltb e (length t)) (e + 1) (line + 1) d n sizes
  unfolding answer_from
  turn_nothing k = passed d (λ xs. line_answer xs ∙ rw (← k)) (line_left ∙ rw (← k)) count

  pub turn_set : {w : Setting} {d' : VmdkDesc} → Ok (Set w) ≡ said → d' ≡ set_of d w → Stands t first z (ltb e (length t)) (e + 1) (line + 1) d' n sizes
  unfolding answer_from
  turn_set {w} k p = rw p (passed (set_of d w) (λ xs. line_answer xs ∙ rw (← k)) (line_left ∙ rw (← k)) count)

  stop_at : {a : Fault} → Err a ≡ said → Stops t first z (record { fault = a; second = line + 1 })
  unfolding head_of
  stop_at {a} k = stopped (record { fault = a; second = line + 1 }) (λ xs _. line_answer xs ∙ rw (← k)) (ap (take (most - n)) (line_left ∙ rw (← k)) ∙ take-nil {A = ReadExtent} (most - n))

  pub stop_refused : {s : Result Said Fault} {x : Refusal} {r : Result Said Refusal} → s ≡ said → r ≡ told s (line + 1) → r ≡ Err x → Stops t first z x
  stop_refused {s} v e q = let w = told_refused s (line + 1) e q in rw w.2 (stop_at (w.1 ∙ v))

  module _ {x : VmdkParsedExtent} (k : Ok (Extent x) ≡ said) where
    pub stop_full : most ≤ n → Stops t first z (record { fault = TooManyExtents; second = line + 1 })
    unfolding head_of
    stop_full f =
        let long : length (take n z.extents) ≡ n = length-take n z.extents ∙ omega (arith, h.room) in
        let no_room : most - n ≡ 0 = omega arith in
        stopped (record { fault = TooManyExtents; second = line + 1 }) (λ xs g. line_answer xs ∙ rw (← k, g, long, le-ltb n most f)) (ap (λ (j : ℕ). take j (said_before (line + 1) at (left_lines t more at))) no_room)

    pub turn_extent : {sizes' : Result ℕ Refusal} → n < most → n < length z.extents → sizes' ≡ sized_of sizes (line + 1) x.sectors
        → Stands t first (record { desc = z.desc; count = z.count; extents = set z.extents n (at_line (line + 1) x) }) (ltb e (length t)) (e + 1) (line + 1) d (n + 1) sizes'
    unfolding answer_from left_from
    turn_extent f g p =
        let y = at_line (line + 1) x in
        let long : length (take n z.extents) ≡ n = length-take n z.extents ∙ omega (arith, h.room) in
        let front : take (n + 1) (set z.extents n y) ≡ take n z.extents ++ (y ∷ []) = ap (λ (j : ℕ). take j (set z.extents n y)) (add-one n) ∙ take-suc-set z.extents n y g in
        let room : most - n ≡ suc (most - (n + 1)) = omega (arith, f) in
        let behind = said_before (line + 1 + 1) (e + 1) rest in
        let here : take (most - n) (said_before (line + 1) at (left_lines t more at)) ≡ y ∷ take (most - (n + 1)) behind = ap (take (most - n)) (line_left ∙ rw (← k)) ∙ ap (λ (j : ℕ). take j (y ∷ behind)) room in
        record {
          answer = h.answer ∙ line_answer (take n z.extents) ∙ rw (← k, long, lt-ltb n most f, front);
          left = h.left ∙ rw here (ap (λ (xs : List ReadExtent). record { desc = z.desc; count = z.count; extents = xs }) (sym (over_next z.extents (take (most - (n + 1)) behind) n y g)));
          sums = rw (p, front) (sums_more (take n z.extents) sizes (line + 1) x h.sums);
          room = omega (arith, g, length-set z.extents n y);
          within = λ g. more_within t e g;
          counted = count;
          small = h.small;
        }

-- what is answered at the end, by the version and the sizes
abbrev told_by : Result ℕ Refusal → VmdkDesc → ℕ → Result (VmdkDesc × ℕ) Refusal
told_by (Ok sum) d n = Ok (d, n)
told_by (Err k) d n = Err k

told_sizes : (z : Result ℕ Refusal) (d : VmdkDesc) (xs : List ReadExtent) → head_of (answer (then_by z (λ sum. (Ok tt))) d xs) ≡ told_by z d (length xs)
unfolding head_of
told_sizes (Ok sum) d xs = refl
told_sizes (Err k) d xs = refl

checked_told : (d : VmdkDesc) (xs : List ReadExtent) (z : Result ℕ Refusal) → Sums xs z → head_of (checked d xs) ≡ told_by (checked_of d.version z) d (length xs)
unfolding checked head_of
checked_told d xs z h = by_test (within 1 3 d.version) (λ e. rw (e, sums_all xs z h) (told_sizes z d xs)) (λ e. rw e)

-- after the last line
module _ {t : List ℕ} {first z : Record} {more : Bool} {at line : ℕ} {d : VmdkDesc} {n : ℕ} {sizes : Result ℕ Refusal} (h : Stands t first z more at line d n sizes) (m : more ≡ false) where
  end_left : z ≡ with_extents (stored_of t) first
  unfolding left_from said_before
  end_left = sym (h.left ∙ left_none _ z n h.room (rw (none_left t at m) (take-nil {A = ReadExtent} (most - n))))

  end_answer : head_of (read_of t) ≡ told_by (checked_of d.version sizes) d n
  unfolding answer_from read_lines
  end_answer =
      let long : length (take n z.extents) ≡ n = length-take n z.extents ∙ omega (arith, h.room) in
      h.answer ∙ rw (none_left t at m) (checked_told d (take n z.extents) sizes h.sums ∙ ap (told_by (checked_of d.version sizes) d) long)

  pub end_refused : {k : Refusal} → Err k ≡ checked_of d.version sizes → Stops t first z k
  end_refused k = (sym (end_answer ∙ rw (← k)), end_left)

  pub end_sound : {sum : ℕ} → Ok sum ≡ checked_of d.version sizes → (Ok (d, n) ≡ head_of (read_of t)) × (z ≡ with_extents (stored_of t) first)
  end_sound k = (sym (end_answer ∙ rw (← k)), end_left)

-- ---- the whole
-- what is answered tells the verdict, the values and the count
abbrev Tells : Result (VmdkDesc × ℕ) Refusal → Read → Type 0
Tells (Ok (d, n)) r = (r.verdict ≡ (Ok tt)) × ((r.descriptor.desc ≡ d) × (r.descriptor.count ≡ n))
Tells (Err k) r = r.verdict ≡ Err k

by_tells : (v : Verdict) (r : Read) → r.verdict ≡ v → Tells (head_by v r.descriptor) r
by_tells (Ok tt) r e = (e, (refl, refl))
by_tells (Err k) r e = e

tells : (r : Read) → Tells (head_of r) r
unfolding head_of
tells r = by_tells r.verdict r refl

-- with the head written, the record is the one that is left
module _ (t : List ℕ) (z : Record) {into : Record} (p : into ≡ with_extents (stored_of t) z) where
  pub sound_left : {d : VmdkDesc} {n : ℕ} → Ok (d, n) ≡ head_of (read_of t) → ((Ok tt) ≡ (read_of t).verdict) × (record { desc = d; count = n; extents = into.extents } ≡ read_into t z)
  unfolding read_into
  sound_left {d} {n} e =
      let h = subst (λ (a : Result (VmdkDesc × ℕ) Refusal). Tells a (read_of t)) (sym e) (tells (read_of t)) in
      (sym h.0, rw (p, h.1.0, h.1.1))

  pub refused_left : {k : Refusal} → Err k ≡ head_of (read_of t) → (Err k ≡ (read_of t).verdict) × (record { desc = no_desc; count = 0; extents = into.extents } ≡ read_into t z)
  unfolding read_into
  refused_left {k} e =
      let h = subst (λ (a : Result (VmdkDesc × ℕ) Refusal). Tells a (read_of t)) (sym e) (tells (read_of t)) in
      let empty = refused_none t k h in
      (sym h, rw (p, empty))
