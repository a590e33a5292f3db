-- Reading and building go over the extents with the same running sum, and stop at the first that is over; building looks at the file starts too.
-- So both are one scan, which is told by the sum of the sizes before an extent: sums only grow.
use Rattle.std.specs.Prelude.{Err, Ok, Option, Some, None}
use Prim.Native.Nat.{ℕ, zero, suc, ◌+◌, ◌*◌, ◌≤◌, ◌<◌}
use native.Mathlib.Omega.{arith}
use mathlib.Core.List.{List, [], ◌∷◌}
use mathlib.Core.Logic.{◌↔◌, ◌⊎◌, inl, inr}
use mathlib.Core.Bool.{Bool, true, false}
use mathlib.Core.Path.{◌≡◌, refl, sym, ap, subst, ◌∙◌}
use lib.ListN.{length, take, get_or}
use lib.Dec.{leb}
use borrow.Author.Tests.{le-leb, lt-leb, leb-true, leb-false}
use Rattle.text.specs.Lines.{lines_of}
use Rattle.text.specs.Ranges.{pick, within}
use Rattle.text.specs.Sector.{sector_size, largest, bytes_of}
use Rattle.text.proofs.Flat.{by_test}
use Rattle.lines.specs.Alike.{AllAlike}
use Rattle.lines.specs.Record.{most, no_extent, no_read, no_desc, read_in, bare, counted, refusal, Verdict}
use Rattle.descriptor.specs.Read.{Read, sizes_from, checked, read_of}
use Rattle.lines.specs.declared.record.ReadExtent.{ReadExtent}
use Rattle.lines.specs.declared.record.Record.{Record}
use Rattle.lines.specs.declared.record.VmdkParsedExtent.{VmdkParsedExtent}
use Rattle.lines.specs.declared.record.VmdkParsedStorage.{VmdkParsedStorage}
use Rattle.lines.specs.declared.record.VmdkParsedStorage.TheVariants.{NoAccess, Zero, Flat}
use Rattle.tables.specs.declared.table.Source.{Source}
use Rattle.tables.specs.declared.table.Row.{Row}
use Rattle.lines.specs.declared.record.Fault.TheVariants.{SizeTooLarge, SumTooLarge, FileStartTooLarge, CountTooLarge}
use Rattle.lines.specs.Fault.{refusal_number}
use Rattle.lines.specs.declared.record.Fault.{Fault}
use Rattle.tables.specs.Build.{Rows, rows, refused, in_source, before, rows_from, built, build_of}
use Rattle.maps.specs.Place.{bytes_in, size_of}
use Rattle.theorems.specs.Statements.{ByLine, place_after, sayings_of, extents_in, read_from, last_version}
use Rattle.theorems.specs.Over.{SoundLines, SizeOver, SumOver, StartFits, FlatOver, StartOver, FirstOver, OverAt, over_nth, StartsFit, OverIn}
use Rattle.theorems.proofs.Sayings.{From, from_answer, from_more, set_all, read_bare, read_length, never}
use Rattle.theorems.proofs.Verdicts.{late, lines_sound, lines_checked, accepted_lines, accepted_checked, accepted_read, accepted_extents}
use Rattle.theorems.proofs.BeforeLines.{by_bytes}
use Rattle.theorems.proofs.SaidLines.{Says, says_in, said_line}
use Rattle.theorems.proofs.Versions.{version_set, last_refused}

-- what an extent can have above 2^64-1, and the fault of the refusal
pub data Excess : Type 0 where
  size_over : Excess
  sum_over : Excess
  start_over : Excess

abbrev pub excess_fault : Excess → Fault
excess_fault size_over = SizeTooLarge
excess_fault sum_over = SumTooLarge
excess_fault start_over = FileStartTooLarge

abbrev pub OverBy : Excess → ℕ → VmdkParsedExtent → Type 0
OverBy size_over = SizeOver
OverBy sum_over = SumOver
OverBy start_over = StartOver

-- the fault tells which
abbrev excess_of : Fault → Excess
excess_of n = pick (leb (refusal_number n) 18) size_over (pick (leb (refusal_number n) 19) sum_over start_over)

number_tells : (e : Excess) → excess_of (excess_fault e) ≡ e
number_tells size_over = refl
number_tells sum_over = refl
number_tells start_over = refl

excess_in : (e : Excess) → (18 ≤ refusal_number (excess_fault e)) × (refusal_number (excess_fault e) ≤ 20)
excess_in size_over = omega arith
excess_in sum_over = omega arith
excess_in start_over = omega arith

-- ---- one extent, where a test says of its source whether the file start fits
module _ (test : VmdkParsedStorage → Bool) where
  abbrev pub OverIf : Excess → ℕ → VmdkParsedExtent → Type 0
  OverIf size_over s x = SizeOver s x
  OverIf sum_over s x = SumOver s x
  OverIf start_over s x = (s + bytes_in x ≤ largest) × (test x.storage ≡ false)

  abbrev one : ℕ → ℕ → VmdkParsedExtent → Verdict → Verdict
  one k s x go =
      pick (leb (bytes_in x) largest) (pick (leb (s + bytes_in x) largest) (pick (test x.storage) go (refusal FileStartTooLarge k)) (refusal SumTooLarge k)) (refusal SizeTooLarge k)

  one_over : (e : Excess) (k s : ℕ) (x : VmdkParsedExtent) (go : Verdict) → OverIf e s x → one k s x go ≡ refusal (excess_fault e) k
  one_over size_over k s x go h = rw (lt-leb _ _ h)
  one_over sum_over k s x go h = rw (le-leb _ _ h.0, lt-leb _ _ h.1)
  one_over start_over k s x go h = let a : bytes_in x ≤ largest = omega arith in rw (le-leb _ _ a, le-leb _ _ h.0, h.1)

  one_fits : (k s : ℕ) (x : VmdkParsedExtent) (go : Verdict) → s + bytes_in x ≤ largest → test x.storage ≡ true → one k s x go ≡ go
  one_fits k s x go h t = let a : bytes_in x ≤ largest = omega arith in rw (le-leb _ _ a, le-leb _ _ h, t)

  -- it is over, or it fits
  one_way : {C : Type 0} (s : ℕ) (x : VmdkParsedExtent) → ((e : Excess) → OverIf e s x → C) → (s + bytes_in x ≤ largest → test x.storage ≡ true → C) → C
  one_way s x f g =
      by_test (leb (bytes_in x) largest)
      (λ a. by_test (leb (s + bytes_in x) largest)
      (λ b. by_test (test x.storage) (λ c. g (leb-true _ _ b) c) (λ c. f start_over (leb-true _ _ b, c)))
      (λ b. f sum_over (leb-true _ _ a, leb-false _ _ b)))
      (λ a. f size_over (leb-false _ _ a))

  -- ---- extent by extent
  unfoldable pub scan : ℕ → List ReadExtent → Verdict
  scan s [] = (Ok tt)
  scan s (x ∷ xs) = one x.line s x.extent (scan (s + bytes_in x.extent) xs)

  abbrev pub Kept : List VmdkParsedExtent → Type 0
  Kept [] = Unit {0}
  Kept (x ∷ xs) = (test x.storage ≡ true) × Kept xs

  -- of some extents, after so many bytes, one that is said by line j is the first that is over
  record Found (s : ℕ) (xs : List ReadExtent) (n : Fault) (j : ℕ) : Type 0 where
    excess : Excess
    nth : ℕ
    number : excess_fault excess ≡ n
    line : (get_or xs nth no_read).line ≡ j
    below : nth < length (bare xs)
    before : s + size_of (take nth (bare xs)) ≤ largest
    kept : Kept (take nth (bare xs))
    over : OverIf excess (s + size_of (take nth (bare xs))) (get_or (bare xs) nth no_extent)

  module _ (s : ℕ) (x : ReadExtent) (xs : List ReadExtent) where
    abbrev y : VmdkParsedExtent
    y = x.extent

    abbrev go : Verdict
    go = scan (s + bytes_in y) xs

    found_here : (n : Fault) (j : ℕ) (e : Excess) → s ≤ largest → OverIf e s y → refusal (excess_fault e) x.line ≡ refusal n j → Found s (x ∷ xs) n j
    unfolding size_of bare
    found_here n j e h o q =
        let z : s + 0 ≡ s = omega arith in
        let r = never n j (excess_fault e) x.line q in
        record { excess = e; nth = 0; number = r.0; line = r.1; below = omega arith; before = omega arith; kept = tt; over = rw z o }

    found_later : (n : Fault) (j : ℕ) → test y.storage ≡ true → Found (s + bytes_in y) xs n j → Found s (x ∷ xs) n j
    unfolding size_of bare
    found_later n j t f =
        let z : s + bytes_in y + size_of (take f.nth (bare xs)) ≡ s + (bytes_in y + size_of (take f.nth (bare xs))) = omega arith in
        record {
          excess = f.excess;
          nth = suc f.nth;
          number = f.number;
          line = f.line;
          below = omega (arith, f.below);
          before = omega (arith, f.before);
          kept = (t, f.kept);
          over = rw z at f.over;
        }

  scan_out : (s : ℕ) (xs : List ReadExtent) (n : Fault) (j : ℕ) → s ≤ largest → scan s xs ≡ refusal n j → Found s xs n j
  unfolding scan
  scan_out s [] n j h q = let z : ◌≡◌ {A = ℕ} 0 1 = cc in absurd (omega arith)
  scan_out s (x ∷ xs) n j h q =
      let y : VmdkParsedExtent = x.extent in
      one_way s y
      (λ e o. found_here s x xs n j e h o (sym (one_over e x.line s y (go s x xs) o) ∙ q))
      (λ f t. found_later s x xs n j t (scan_out (s + bytes_in y) xs n j f (sym (one_fits x.line s y (go s x xs) f t) ∙ q)))

  scan_in : (s : ℕ) (xs : List ReadExtent) (i : ℕ) (e : Excess) → i < length (bare xs) → s + size_of (take i (bare xs)) ≤ largest → Kept (take i (bare xs)) → OverIf e (s + size_of (take i (bare xs))) (get_or (bare xs) i no_extent) → scan s xs ≡ refusal (excess_fault e) (get_or xs i no_read).line
  unfolding scan size_of bare
  scan_in s [] i e b h t o = absurd (omega arith)
  scan_in s (x ∷ xs) zero e b h t o =
      let z : s + 0 ≡ s = omega arith in
      one_over e x.line s x.extent (go s x xs) (rw z at o)
  scan_in s (x ∷ xs) (suc i) e b h t o =
      let y : VmdkParsedExtent = x.extent in
      let z : s + bytes_in y + size_of (take i (bare xs)) ≡ s + (bytes_in y + size_of (take i (bare xs))) = omega arith in
      one_fits x.line s y (go s x xs) (omega arith) t.0
      ∙ scan_in (s + bytes_in y) xs i e (omega arith) (omega arith) t.1 (rw z o)

  -- the first that is over is said by line k
  pub scan_first : (xs : List ReadExtent) (e : Excess) (k : ℕ) → (scan 0 xs ≡ refusal (excess_fault e) k) ↔ ((i : ℕ) × ((get_or xs i no_read).line ≡ k) × Kept (take i (bare xs)) × FirstOver (OverIf e) (bare xs) i)
  scan_first xs e k = (
    λ q. let f = scan_out 0 xs (excess_fault e) k (omega arith) q in
        let c : f.excess ≡ e = sym (number_tells f.excess) ∙ ap excess_of f.number ∙ number_tells e in
        let z : 0 + size_of (take f.nth (bare xs)) ≡ size_of (take f.nth (bare xs)) = omega arith in
        (f.nth, f.line, f.kept, record { below = f.below; before = omega (arith, f.before); over = subst (λ (e : Excess). OverIf e (size_of (take f.nth (bare xs))) (get_or (bare xs) f.nth no_extent)) c (rw z at f.over) }),
    λ w. let f = w.3 in
        let z : 0 + size_of (take w.0 (bare xs)) ≡ size_of (take w.0 (bare xs)) = omega arith in
        scan_in 0 xs w.0 e f.below (omega (arith, f.before)) w.2 (rw z f.over) ∙ rw w.1,
  )

  -- none is over
  scan_sound : (s : ℕ) (xs : List ReadExtent) → s ≤ largest → (scan s xs ≡ (Ok tt)) ↔ ((s + size_of (bare xs) ≤ largest) × Kept (bare xs))
  unfolding scan size_of bare
  scan_sound s [] h = (λ q. (omega arith, tt), λ w. refl)
  scan_sound s (x ∷ xs) h =
      let y : VmdkParsedExtent = x.extent in
      let k : ℕ = x.line in
      let on : Verdict = go s x xs in (
        λ q. one_way s y
            (λ e o. let g : refusal (excess_fault e) k ≡ (Ok tt) = sym (one_over e k s y on o) ∙ q in let z : ◌≡◌ {A = ℕ} 0 1 = cc in absurd (omega arith))
            (λ f t. let w = (scan_sound (s + bytes_in y) xs f).0 (sym (one_fits k s y on f t) ∙ q) in (omega (arith, w.0), (t, w.1))),
        λ w. let f : s + bytes_in y ≤ largest = omega (arith, w.0) in
            one_fits k s y on f w.1.0 ∙ (scan_sound (s + bytes_in y) xs f).1 (omega (arith, w.0), w.1.1),
      )

  pub scan_none : (xs : List ReadExtent) → (scan 0 xs ≡ (Ok tt)) ↔ ((size_of (bare xs) ≤ largest) × Kept (bare xs))
  scan_none xs =
      let f = scan_sound 0 xs (omega arith) in
      (λ q. let w = f.0 q in (omega (arith, w.0), w.1), λ w. f.1 (omega (arith, w.0), w.1))

over_map : {O P : ℕ → VmdkParsedExtent → Type 0} (xs : List VmdkParsedExtent) (i : ℕ) → ((s : ℕ) (x : VmdkParsedExtent) → O s x → P s x) → FirstOver O xs i → FirstOver P xs i
over_map xs i g f = record { below = f.below; before = f.before; over = g (size_of (take i xs)) (get_or xs i no_extent) f.over }

-- ---- reading: the file starts are not looked at
abbrev unread : VmdkParsedStorage → Bool
unread st = true

sizes_scan : (s : ℕ) (xs : List ReadExtent) → sizes_from s xs ≡ scan unread s xs
unfolding sizes_from scan bytes_of
sizes_scan s [] = refl
sizes_scan s (x ∷ xs) =
    by_test (leb (bytes_in x.extent) largest) (λ a. rw (a, sizes_scan (s + bytes_in x.extent) xs)) (λ a. rw a)

unread_kept : (xs : List VmdkParsedExtent) → Kept unread xs
unread_kept [] = tt
unread_kept (x ∷ xs) = (refl, unread_kept xs)

sizes_first : (xs : List ReadExtent) (e : Excess) (k : ℕ) → (sizes_from 0 xs ≡ refusal (excess_fault e) k) ↔ ((i : ℕ) × ((get_or xs i no_read).line ≡ k) × FirstOver (OverIf unread e) (bare xs) i)
sizes_first xs e k = (
  λ q. let w = (scan_first unread xs e k).0 (sym (sizes_scan 0 xs) ∙ q) in (w.0, w.1, w.3),
  λ w. sizes_scan 0 xs ∙ (scan_first unread xs e k).1 (w.0, w.1, unread_kept (take w.0 (bare xs)), w.2),
)

sizes_none : (xs : List ReadExtent) → (sizes_from 0 xs ≡ (Ok tt)) ↔ (size_of (bare xs) ≤ largest)
sizes_none xs = (
  λ q. ((scan_none unread xs).0 (sym (sizes_scan 0 xs) ∙ q)).0,
  λ h. sizes_scan 0 xs ∙ (scan_none unread xs).1 (h, unread_kept (bare xs)),
)

-- ---- building: they are
abbrev fits : VmdkParsedStorage → Bool
fits NoAccess = true
fits (Zero a) = true
fits (Flat a name s) = leb (s.0 * sector_size) largest

fits_true : (st : VmdkParsedStorage) → (fits st ≡ true) ↔ StartFits st
fits_true NoAccess = (λ e. tt, λ h. refl)
fits_true (Zero a) = (λ e. tt, λ h. refl)
fits_true (Flat a name s) = (λ e. leb-true _ _ e, λ h. le-leb _ _ h)

fits_false : (st : VmdkParsedStorage) → (fits st ≡ false) ↔ FlatOver st
fits_false NoAccess = (λ e. let z : ◌≡◌ {A = ℕ} 0 1 = cc in omega arith, λ h. absurd h)
fits_false (Zero a) = (λ e. let z : ◌≡◌ {A = ℕ} 0 1 = cc in omega arith, λ h. absurd h)
fits_false (Flat a name s) = (λ e. leb-false _ _ e, λ h. lt-leb _ _ h)

fits_kept : (xs : List VmdkParsedExtent) → Kept fits xs ↔ StartsFit xs
fits_kept [] = (λ k. tt, λ k. tt)
fits_kept (x ∷ xs) = (
  λ k. ((fits_true x.storage).0 k.0, (fits_kept xs).0 k.1),
  λ k. ((fits_true x.storage).1 k.0, (fits_kept xs).1 k.1),
)

-- what is told of the rows
abbrev told : Rows → Verdict
told r = (built r).verdict

told_before : (r : Row) (more : Rows) → told (before r more) ≡ told more
told_before r (rows rs n) = refl
told_before r (refused n k) = refl

told_source : (st : VmdkParsedStorage) (k : ℕ) (go : Source → Rows) (v : Verdict) → ((source : Source) → told (go source) ≡ v) → told (in_source st (refused FileStartTooLarge k) go) ≡ pick (fits st) v (refusal FileStartTooLarge k)
unfolding bytes_of
told_source NoAccess k go v h = h _
told_source (Zero a) k go v h = h _
told_source (Flat a name s) k go v h =
    by_test (leb (s.0 * sector_size) largest) (λ e. rw e (h _)) (λ e. rw e)

rows_scan : (s : ℕ) (xs : List ReadExtent) → told (rows_from s xs) ≡ scan fits s xs
unfolding rows_from scan bytes_of
rows_scan s [] = refl
rows_scan s (x ∷ xs) =
    let y : VmdkParsedExtent = x.extent in
    by_test (leb (bytes_in y) largest)
    (λ a. by_test (leb (s + bytes_in y) largest)
    (λ b. rw (a, b) (told_source y.storage x.line _ (scan fits (s + bytes_in y) xs) (λ source. told_before _ (rows_from (s + bytes_in y) xs) ∙ rows_scan (s + bytes_in y) xs)))
    (λ b. rw (a, b)))
    (λ a. rw a)

-- ---- reading a descriptor and building a record
-- what is left to be checked of a descriptor whose lines are sound and whose version is good
module _ (d : List ℕ) where
  -- the extents that the lines say, without their lines and with them
  abbrev said : List VmdkParsedExtent
  said = extents_in (sayings_of d)

  abbrev read : List ReadExtent
  read = read_from 1 (sayings_of d)

  lines_sizes : SoundLines d → (read_of d).verdict ≡ sizes_from 0 read
  unfolding checked
  lines_sizes w =
      let v : within 1 3 (set_all no_desc (sayings_of d)).version ≡ true = rw (version_set no_desc (sayings_of d)) w.2 in
      ap (λ (x : Read). x.verdict) (lines_checked d w.0 w.1) ∙ rw v (from_answer (sizes_from 0 read) (set_all no_desc (sayings_of d)) read)

  -- so it is if it is accepted, or refused with a number from 18 on
  sound_lines : From 18 (read_of d).verdict → ByLine d → SoundLines d
  sound_lines f b =
      let a = lines_sound d b (from_more (read_of d).verdict f) in (
        b,
        a,
        by_test (within 1 3 (last_version (sayings_of d))) (λ e. e)
            (λ e. let g : 18 ≤ 17 = subst (From 18) ((last_refused d 0).1 (b, a, e, refl)) f in absurd (omega arith)),
      )

  -- a line's extent that is the first that is over, as it is found among the extents and as it is stated
  over_found : (Over : ℕ → VmdkParsedExtent → Type 0) (k i : ℕ) → (get_or read i no_read).line ≡ k → FirstOver Over said i → (o : OverAt Over d k) × (over_nth d o ≡ i)
  over_found Over k i l f =
      let s = says_in 0 (lines_of d) i f.below in (
        record {
          before = s.before;
          line = s.line;
          place = place_after 0 s.before;
          there = record { after = s.after; lines = s.lines; place = refl; number = sym l ∙ said_line (lines_of d) i s };
          extent = s.extent;
          says = s.says;
          first = rw s.nth f;
        },
        s.nth,
      )

  over_line : (Over : ℕ → VmdkParsedExtent → Type 0) (k : ℕ) (o : OverAt Over d k) → (get_or read (over_nth d o) no_read).line ≡ k
  over_line Over k o =
      let s : Says 0 (lines_of d) (over_nth d o) = record { before = o.before; line = o.line; after = o.there.after; lines = o.there.lines; extent = o.extent; says = rw (← o.there.place) o.says; nth = refl } in
      said_line (lines_of d) (over_nth d o) s ∙ sym o.there.number

  pub read_over : (e : Excess) (k : ℕ) → ((read_of d).verdict ≡ refusal (excess_fault e) k) ↔ (SoundLines d × OverAt (OverIf unread e) d k)
  read_over e k = (
    λ q. let h = excess_in e in
        let w = sound_lines (rw q h.0) (late d (excess_fault e) k (omega arith) q) in
        let f = (sizes_first read e k).0 (sym (lines_sizes w) ∙ q) in
        (w, (over_found (OverIf unread e) k f.0 f.1 (rw (read_bare 1 (sayings_of d)) at f.2)).0),
    λ w. let o = w.1 in
        lines_sizes w.0 ∙ (sizes_first read e k).1 (over_nth d o, over_line (OverIf unread e) k o, rw (read_bare 1 (sayings_of d)) o.first),
  )

  -- no other number is answered
  after_few : (n : Fault) (k : ℕ) → 18 ≤ refusal_number n → (read_of d).verdict ≡ refusal n k → refusal_number n ≤ 19
  after_few n k h q =
      let w = sound_lines (rw q h) (late d n k (omega arith) q) in
      let f = scan_out unread 0 read n k (omega arith) (sym (sizes_scan 0 read) ∙ sym (lines_sizes w) ∙ q) in
      few f.excess _ _ f.number f.over
    where
      few : (e : Excess) (s : ℕ) (x : VmdkParsedExtent) → excess_fault e ≡ n → OverIf unread e s x → refusal_number n ≤ 19
      few size_over s x z o = omega (arith, ap refusal_number z)
      few sum_over s x z o = omega (arith, ap refusal_number z)
      few start_over s x z o = let g : true ≡ false = o.1 in let y : ◌≡◌ {A = ℕ} 0 1 = cc in absurd (omega arith)

  pub read_few : (n : Fault) (k : ℕ) → (read_of d).verdict ≡ refusal n k → (1 ≤ refusal_number n) × (refusal_number n ≤ 19)
  read_few n k q =
      by_test (leb (refusal_number n) 3)
      (λ e. by_bytes d n k (leb-true _ _ e) q (λ z y h. omega (arith, ap refusal_number z)) (λ z y h. omega (arith, ap refusal_number z)) (λ z y a b c. omega (arith, ap refusal_number z)))
      (λ e. let m = refusal_number n in
      let h = leb-false m 3 e in
      by_test (leb m 17) (λ f. let g = leb-true m 17 f in omega arith)
      (λ f. let g = leb-false m 17 f in (omega arith, after_few n k (omega arith) q)))

  pub read_sound : ((read_of d).verdict ≡ (Ok tt)) ↔ (SoundLines d × (size_of said ≤ largest))
  read_sound = (
    λ q. let w = sound_lines (rw q tt) (accepted_lines d q).0 in (w, rw (read_bare 1 (sayings_of d)) at ((sizes_none read).0 (sym (lines_sizes w) ∙ q))),
    λ w. lines_sizes w.0 ∙ (sizes_none read).1 (rw (read_bare 1 (sayings_of d)) w.1),
  )

module _ (r : Record) where
  build_by : {C : Type 0} → (r.count ≤ most → (build_of r).verdict ≡ scan fits 0 (read_in r) → C) → (most < r.count → (build_of r).verdict ≡ refusal CountTooLarge 0 → C) → C
  unfolding build_of
  build_by f g =
      by_test (leb r.count most) (λ e. f (leb-true _ _ e) (rw e (rows_scan 0 (read_in r)))) (λ e. g (leb-false _ _ e) (rw e))

  pub build_over : (e : Excess) (k : ℕ) → ((build_of r).verdict ≡ refusal (excess_fault e) k) ↔ ((r.count ≤ most) × OverIn (OverBy e) r k)
  build_over e k = build_by
      (λ c b. (
        λ q. let w = (scan_first fits (read_in r) e k).0 (sym b ∙ q) in (c, record { nth = w.0; line = w.1; starts = (fits_kept (take w.0 (counted r))).0 w.2; first = over_map (counted r) w.0 (by_fits e) w.3 }),
        λ w. let o = w.1 in b ∙ (scan_first fits (read_in r) e k).1 (o.nth, o.line, (fits_kept (take o.nth (counted r))).1 o.starts, over_map (counted r) o.nth (fits_by e) o.first),
      ))
      (λ c b. (
        λ q. absurd (omega (arith, excess_in e, ap refusal_number (never (excess_fault e) k CountTooLarge 0 (sym b ∙ q)).0)),
        λ w. let h = w.0 in absurd (omega arith),
      ))
    where
      by_fits : (e : Excess) (s : ℕ) (x : VmdkParsedExtent) → OverIf fits e s x → OverBy e s x
      by_fits size_over s x h = h
      by_fits sum_over s x h = h
      by_fits start_over s x h = (h.0, (fits_false x.storage).0 h.1)

      fits_by : (e : Excess) (s : ℕ) (x : VmdkParsedExtent) → OverBy e s x → OverIf fits e s x
      fits_by size_over s x h = h
      fits_by sum_over s x h = h
      fits_by start_over s x h = (h.0, (fits_false x.storage).1 h.1)

  pub build_sound : ((build_of r).verdict ≡ (Ok tt)) ↔ ((r.count ≤ most) × (size_of (counted r) ≤ largest) × StartsFit (counted r))
  build_sound = build_by
      (λ c b. (
        λ q. let w = (scan_none fits (read_in r)).0 (sym b ∙ q) in (c, w.0, (fits_kept (counted r)).0 w.1),
        λ w. b ∙ (scan_none fits (read_in r)).1 (w.1, (fits_kept (counted r)).1 w.2),
      ))
      (λ c b. (
        λ q. let g : refusal CountTooLarge 0 ≡ (Ok tt) = sym b ∙ q in let z : ◌≡◌ {A = ℕ} 0 1 = cc in absurd (omega arith),
        λ w. let h = w.0 in absurd (omega arith),
      ))

  pub build_few : (n : Fault) (k : ℕ) → (build_of r).verdict ≡ refusal n k → ((18 ≤ refusal_number n) × (refusal_number n ≤ 20)) ⊎ (n ≡ CountTooLarge)
  build_few n k q = build_by
      (λ c b. let f = scan_out fits 0 (read_in r) n k (omega arith) (sym b ∙ q) in inl (omega (arith, excess_in f.excess, ap refusal_number f.number)))
      (λ c b. inr (sym (never n k CountTooLarge 0 (sym b ∙ q)).0))

  pub build_counted : (k : ℕ) → ((build_of r).verdict ≡ refusal CountTooLarge k) ↔ ((most < r.count) × (k ≡ 0))
  build_counted k = build_by
      (λ c b. (
        λ q. let f = scan_out fits 0 (read_in r) CountTooLarge k (omega arith) (sym b ∙ q) in absurd (omega (arith, excess_in f.excess, ap refusal_number f.number)),
        λ w. let h = w.0 in absurd (omega arith),
      ))
      (λ c b. (λ q. (c, sym (never CountTooLarge k CountTooLarge 0 (sym b ∙ q)).1), λ w. rw w.1 b))

-- ---- 20, of a descriptor that reads
pub text_start : (d : List ℕ) (k : ℕ) → (read_of d).verdict ≡ (Ok tt) → ((build_of (read_of d).descriptor).verdict ≡ refusal FileStartTooLarge k) ↔ ((o : OverAt StartOver d k) × StartsFit (take (over_nth d o) (extents_in (sayings_of d))))
text_start d k a = (
  λ q. let o = ((build_over r start_over k).0 q).1 in
      let w = over_found d StartOver k o.nth (sym (ap (λ (ys : List ReadExtent). (get_or ys o.nth no_read).line) lined) ∙ o.line) (rw said at o.first) in
      (w.0, rw w.1 (rw said at o.starts)),
  λ w. let o = w.0 in
      let n = over_nth d o in
      (build_over r start_over k).1 (few, record { nth = n; line = ap (λ (ys : List ReadExtent). (get_or ys n no_read).line) lined ∙ over_line d StartOver k o; starts = rw said w.1; first = rw said o.first }),
)
  where
    r : Record
    r = (read_of d).descriptor

    lined : read_in (read_of d).descriptor ≡ read_from 1 (sayings_of d)
    lined = accepted_read d a

    said : counted (read_of d).descriptor ≡ extents_in (sayings_of d)
    said = accepted_extents d a

    few : (read_of d).descriptor.count ≤ most
    few = omega (arith, ap (λ (x : Record). x.count) (accepted_checked d a).1, read_length 1 (sayings_of d), (accepted_lines d a).1.1)

-- ---- a refusal's fault depends on no line
-- a refusal's fault, if there is one
abbrev pub fault_in : Verdict → Option Fault
fault_in (Ok tt) = None
fault_in (Err x) = Some x.fault

module _ (test : VmdkParsedStorage → Bool) where
  one_number : (k j s : ℕ) (x : VmdkParsedExtent) (go on : Verdict) → fault_in go ≡ fault_in on → fault_in (one test k s x go) ≡ fault_in (one test j s x on)
  one_number k j s x go on h =
      one_way test s x
      (λ e o. rw (one_over test e k s x go o, one_over test e j s x on o))
      (λ f t. rw (one_fits test k s x go f t, one_fits test j s x on f t) h)

  scan_number : (s : ℕ) (xs ys : List ReadExtent) → AllAlike xs ys → fault_in (scan test s xs) ≡ fault_in (scan test s ys)
  unfolding scan
  scan_number s [] [] h = refl
  scan_number s (x ∷ xs) (y ∷ ys) h = rw h.0 (one_number x.line y.line s y.extent _ _ (scan_number (s + bytes_in y.extent) xs ys h.1))
  scan_number s [] (y ∷ ys) h = absurd h
  scan_number s (x ∷ xs) [] h = absurd h

pub build_number : (r s : Record) → r.count ≡ s.count → AllAlike (read_in r) (read_in s) → fault_in (build_of r).verdict ≡ fault_in (build_of s).verdict
build_number r s n h =
    build_by r
    (λ c b. build_by s (λ e f. rw (b, f) (scan_number fits 0 (read_in r) (read_in s) h)) (λ e f. absurd (omega (arith, c, e, n))))
    (λ c b. build_by s (λ e f. absurd (omega (arith, c, e, n))) (λ e f. rw (b, f)))
