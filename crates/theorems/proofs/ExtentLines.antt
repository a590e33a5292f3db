-- An extent line says an extent only by the way on which each word was read, so the words have the extent's values.
-- Its `"` are characters of their own: the cuts there leave sound texts, and the first word after them is that of the text alone.
use Rattle.std.specs.Prelude.{Err, None, Ok, Option, Result, Some}
use Prim.Native.Nat.{ℕ, ◌+◌, ◌-◌, ◌≤◌, ◌<◌}
use native.Mathlib.Omega.{arith}
use mathlib.Core.List.{List, [], ◌∷◌, ◌++◌, append_assoc}
use mathlib.Core.Bool.{Bool, true, false}
use mathlib.Core.Logic.{inl, inr}
use mathlib.Core.Path.{◌≡◌, refl, sym, ap, subst, ◌∙◌}
use lib.ListN.{length, take, drop, replicate, length-append, length-replicate}
use lib.Dec.{ltb}
use lib.Seq.{take_all, take-append_seam, drop-append-add, drop-drop, drop_at}
use borrow.Author.Tests.{eq-eqb, ltb-true}
use Rattle.text.specs.Ranges.{pick}
use Rattle.text.specs.Blank.{blank}
use Rattle.text.specs.Find.{find_from, find_at, same}
use Rattle.text.specs.Lines.{count}
use Rattle.text.specs.Text.{text_at, sound, trim_of, trimmed, word_of, end_codes, word_codes}
use Rattle.theorems.specs.Unicode.{scalars, encode_all}
use Rattle.text.specs.Sector.{sectors_of}
use Rattle.text.specs.declared.sector.Sectors.{Sectors}
use Rattle.text.proofs.Flat.{by_test, pair_parts, ok_parts}
use Rattle.text.proofs.Trims.{trim_wrong}
use Rattle.text.proofs.Finds.{same_is}
use Rattle.text.proofs.Bounds.{trim_within}
use Rattle.theorems.proofs.Spellings.{word_none_codes, word_some_codes}
use Rattle.text.specs.Ascii.{ascii}
use Rattle.lines.specs.Kept.{kept_of}
use Rattle.lines.specs.Extent.{part, counted_word, second_word, second_of, third_word, third_of, three_words, file_name_of, start_word, file_start_of, flat_from, flat_by, flat_line, no_access_by, no_access_line, by_third, by_second, extent_line}
use Rattle.lines.specs.Line.{key_line, access_word, access_line, first_blank, skipped, text_line, trimmed_line, line_of}
use Rattle.theorems.specs.Statements.{NextWord, Quotes, text_in, FileIn, access_text, ExtentIn}
use Rattle.theorems.specs.LineWords.{IsAccess, CountedLine, FlatLine}
use Rattle.theorems.specs.GivenWhen.{LineFault, sector_count, third_missing, third_other, no_quote as Fault·no-quote, one_quote as Fault·one-quote, not_three_words, file_start, line_fault, When}
use Rattle.lines.specs.declared.extent.Third.{Third}
use Rattle.lines.specs.declared.extent.Third.TheVariants.{Zero, Flat}
use Rattle.lines.specs.declared.line.Said.TheVariants.{Nothing, Extent, Set}
use Rattle.lines.specs.declared.line.AccessWord.{AccessWord}
use Rattle.lines.specs.declared.line.AccessWord.TheVariants.{NoAccess, RdOnly, RW}
use Rattle.lines.specs.declared.record.Text.{Text}
use Rattle.lines.specs.declared.record.VmdkAccessType.{VmdkAccessType}
use Rattle.lines.specs.declared.record.VmdkAccessType.TheVariants.{RdOnly as ReadOnly, RW as ReadWrite}
use Rattle.lines.specs.declared.record.VmdkParsedExtent.{VmdkParsedExtent}
use Rattle.lines.specs.declared.record.VmdkParsedStorage.TheVariants.{Flat as File}
use Rattle.lines.specs.declared.line.Said.{Said}
use Rattle.lines.specs.declared.record.Fault.{Fault}
use Rattle.lines.specs.declared.record.Fault.TheVariants.{NotUtf8, NoQuote, OneQuote, NotThreeWords, SectorCount, NoType, OtherType}
use Rattle.lines.specs.Fault.{refusal_number}
use Rattle.theorems.proofs.RefusalNumbers.{OfKey, key_keys, four}
use Rattle.theorems.proofs.Trimming.{Trimming, trim_parts, encode_append, encode_cut, scalars_split, cut_at, second_there, blanks_free, count_append, count_cut, find_none, find_behind}
use Rattle.theorems.proofs.LinePlaces.{Lies, part_lies, kept_is}

-- the trimmed line t has the fault that is refused with n
abbrev pub Given : List ℕ → Fault → Type 0
Given t n = (f : LineFault) × (line_fault f ≡ n) × When f t

-- ---- the words
count_is : (v : List ℕ) (b : ℕ) (c : Option Sectors) → sectors_of v ≡ c → {s : Sectors} {e : ℕ} → counted_word c b ≡ Some (s, e) → (b ≡ e) × (sectors_of v ≡ Some s)
count_is v b (Some n) q {s} {e} h = let k = pair_parts h in (k.1, q ∙ ap Some k.0)
count_is v b None q h = let z : ◌≡◌ {A = ℕ} 0 1 = cc in absurd (omega arith)

count_bad : (b : ℕ) (c : Option Sectors) → counted_word c b ≡ None → c ≡ None
count_bad b (Some n) h = let z : ◌≡◌ {A = ℕ} 0 1 = cc in absurd (omega arith)
count_bad b None h = refl

second_is : (t : List ℕ) (at : ℕ) (w : Option (ℕ × ℕ)) → word_of t at ≡ w → {s : Sectors} {e : ℕ} → second_word t w ≡ Some (s, e) → (v : List ℕ) × NextWord t at v e × (sectors_of v ≡ Some s)
second_is t at (Some (a, b)) q h =
    let r = count_is (part t a b) b (sectors_of (part t a b)) refl h in
    (part t a b, (a, q ∙ ap (λ z. Some (a, z)) r.0, ap (part t a) (sym r.0)), r.1)
second_is t at None q h = let z : ◌≡◌ {A = ℕ} 0 1 = cc in absurd (omega arith)

second_bad : (t : List ℕ) (at : ℕ) (w : Option (ℕ × ℕ)) → word_of t at ≡ w → (word_of t at ≡ None → ⊥) → second_word t w ≡ None → (v : List ℕ) × (e : ℕ) × NextWord t at v e × (sectors_of v ≡ None)
second_bad t at (Some (a, b)) q n h = (part t a b, b, (a, q, refl), count_bad b (sectors_of (part t a b)) h)
second_bad t at None q n h = absurd (n q)

third_zero : (t : List ℕ) (at : ℕ) (w : Option (ℕ × ℕ)) → word_of t at ≡ w → third_word t w ≡ Ok Zero → (e : ℕ) × NextWord t at (ascii "ZERO") e
third_zero t at (Some (a, b)) q h =
    by_test (same (part t a b) (ascii "ZERO")) (λ e. (b, (a, q, same_is (part t a b) (ascii "ZERO") e)))
    (λ e. by_test (same (part t a b) (ascii "FLAT"))
    (λ f. let g : Ok Flat ≡ Ok Zero = rw (e, f) at h in let z : ◌≡◌ {A = ℕ} 0 1 = cc in absurd (omega arith))
    (λ f. let g : Err OtherType ≡ Ok Zero = rw (e, f) at h in let z : ◌≡◌ {A = ℕ} 0 1 = cc in absurd (omega arith)))
third_zero t at None q h = let z : ◌≡◌ {A = ℕ} 0 1 = cc in absurd (omega arith)

third_flat : (t : List ℕ) (at : ℕ) (w : Option (ℕ × ℕ)) → word_of t at ≡ w → third_word t w ≡ Ok Flat → (e : ℕ) × NextWord t at (ascii "FLAT") e
third_flat t at (Some (a, b)) q h =
    by_test (same (part t a b) (ascii "ZERO"))
    (λ e. let g : Ok Zero ≡ Ok Flat = rw e at h in let z : ◌≡◌ {A = ℕ} 0 1 = cc in absurd (omega arith))
    (λ e. by_test (same (part t a b) (ascii "FLAT")) (λ f. (b, (a, q, same_is (part t a b) (ascii "FLAT") f)))
    (λ f. let g : Err OtherType ≡ Ok Flat = rw (e, f) at h in let z : ◌≡◌ {A = ℕ} 0 1 = cc in absurd (omega arith)))
third_flat t at None q h = let z : ◌≡◌ {A = ℕ} 0 1 = cc in absurd (omega arith)

third_none : (t : List ℕ) (w : Option (ℕ × ℕ)) → third_word t w ≡ Err NoType → w ≡ None
third_none t (Some (a, b)) h =
    by_test (same (part t a b) (ascii "ZERO"))
    (λ e. let g : Ok Zero ≡ Err NoType = rw e at h in let z : ◌≡◌ {A = ℕ} 0 1 = cc in absurd (omega arith))
    (λ e. by_test (same (part t a b) (ascii "FLAT"))
    (λ f. let g : Ok Flat ≡ Err NoType = rw (e, f) at h in let z : ◌≡◌ {A = ℕ} 0 1 = cc in absurd (omega arith))
    (λ f. let g : Err OtherType ≡ Err NoType = rw (e, f) at h in let z : ◌≡◌ {A = ℕ} 0 1 = cc in absurd (omega arith)))
third_none t None h = refl

same_self : (k : List ℕ) → same k k ≡ true
unfolding same
same_self [] = refl
same_self (b ∷ k) = rw (eq-eqb b b refl, same_self k)

-- other bytes
pub differs : (v k : List ℕ) → same v k ≡ false → v ≡ k → ⊥
differs v k e q =
    let g : true ≡ false = sym (same_self k) ∙ ap (λ (x : List ℕ). same x k) (sym q) ∙ e in
    let z : ◌≡◌ {A = ℕ} 0 1 = cc in
    omega arith

third_odd : (t : List ℕ) (at : ℕ) (w : Option (ℕ × ℕ)) → word_of t at ≡ w → third_word t w ≡ Err OtherType → (v : List ℕ) × (e : ℕ) × NextWord t at v e × (v ≡ ascii "ZERO" → ⊥) × (v ≡ ascii "FLAT" → ⊥)
third_odd t at (Some (a, b)) q h =
    by_test (same (part t a b) (ascii "ZERO"))
    (λ e. let g : Ok Zero ≡ Err OtherType = rw e at h in let z : ◌≡◌ {A = ℕ} 0 1 = cc in absurd (omega arith))
    (λ e. by_test (same (part t a b) (ascii "FLAT"))
    (λ f. let g : Ok Flat ≡ Err OtherType = rw (e, f) at h in let z : ◌≡◌ {A = ℕ} 0 1 = cc in absurd (omega arith))
    (λ f. (part t a b, b, (a, q, refl), differs (part t a b) (ascii "ZERO") e, differs (part t a b) (ascii "FLAT") f)))
third_odd t at None q h = let z : ◌≡◌ {A = ℕ} 0 1 = cc in absurd (omega arith)

-- it is refused for one of two faults
third_by : {C : Type 0} (t : List ℕ) (w : Option (ℕ × ℕ)) (n : Fault) → third_word t w ≡ Err n → (n ≡ NoType → C) → (n ≡ OtherType → C) → C
third_by t (Some (a, b)) n h f g =
    by_test (same (part t a b) (ascii "ZERO"))
    (λ e. let k : Ok Zero ≡ Err n = rw e at h in let z : ◌≡◌ {A = ℕ} 0 1 = cc in absurd (omega arith))
    (λ e. by_test (same (part t a b) (ascii "FLAT"))
    (λ d. let k : Ok Flat ≡ Err n = rw (e, d) at h in let z : ◌≡◌ {A = ℕ} 0 1 = cc in absurd (omega arith))
    (λ d. let k : Err OtherType ≡ Err n = rw (e, d) at h in g cc))
third_by t None n h f g = f cc

-- the word before the first blank is the access's
module _ (w : List ℕ) where
  abbrev Access : Option AccessWord → Type 0
  Access (Some NoAccess) = w ≡ ascii "NOACCESS"
  Access (Some RdOnly) = w ≡ ascii "RDONLY"
  Access (Some RW) = w ≡ ascii "RW"
  Access None = Unit {0}

  access_is : Access (access_word w)
  unfolding access_word
  access_is =
      by_test (same w (ascii "RW")) (λ e. rw e (same_is w (ascii "RW") e))
      (λ e. by_test (same w (ascii "RDONLY")) (λ f. rw (e, f) (same_is w (ascii "RDONLY") f))
      (λ f. by_test (same w (ascii "NOACCESS")) (λ g. rw (e, f, g) (same_is w (ascii "NOACCESS") g)) (λ g. rw (e, f, g) tt)))

-- the first word after a place, of a text that is sound from there on, is that of the rest alone
abbrev start_codes : List ℕ → Option Sectors
start_codes [] = Some (record { 0 = 0 })
start_codes (c ∷ cs) = sectors_of (encode_all (c ∷ cs))

start_some : (ws : List ℕ) (v : List ℕ) → (ws ≡ [] → ⊥) → v ≡ encode_all ws → sectors_of v ≡ start_codes ws
start_some [] v h e = absurd (h refl)
start_some (c ∷ ws) v h e = ap sectors_of e

start_by : (t : List ℕ) (at : ℕ) (cs : List ℕ) → scalars cs ≡ true → drop at t ≡ encode_all cs → (w : Option (ℕ × ℕ)) → word_of t at ≡ w → start_word t w ≡ start_codes (word_codes cs)
start_by t at cs s e (Some (a, b)) q =
    start_some (word_codes cs) (part t a b)
    (λ n. let g : Some (a, b) ≡ None = sym q ∙ (word_none_codes t at cs s e).1 n in let z : ◌≡◌ {A = ℕ} 0 1 = cc in absurd (omega arith))
    (word_some_codes t at cs s e q)
start_by t at cs s e None q = rw ((word_none_codes t at cs s e).0 q)

pub start_rest : (t : List ℕ) (at : ℕ) (cs : List ℕ) → scalars cs ≡ true → drop at t ≡ encode_all cs → file_start_of t at ≡ file_start_of (encode_all cs) 0
unfolding file_start_of
start_rest t at cs s e =
    start_by t at cs s e (word_of t at) refl ∙ sym (start_by (encode_all cs) 0 cs s refl (word_of (encode_all cs) 0) refl)

start_bad : (t : List ℕ) (at : ℕ) (w : Option (ℕ × ℕ)) → word_of t at ≡ w → start_word t w ≡ None → (v : List ℕ) × (e : ℕ) × NextWord t at v e × (sectors_of v ≡ None)
start_bad t at (Some (a, b)) q h = (part t a b, b, (a, q, refl), h)
start_bad t at None q h = let z : ◌≡◌ {A = ℕ} 0 1 = cc in absurd (omega arith)

bad_start : (t : List ℕ) → file_start_of t 0 ≡ None → (v : List ℕ) × (e : ℕ) × NextWord t 0 v e × (sectors_of v ≡ None)
unfolding file_start_of
bad_start t h = start_bad t 0 (word_of t 0) refl h

-- ---- the quotes
-- where they are found in a text that is cut there, and what lies between
module _ (t a m r : List ℕ) (q : Quotes t a m r) where
  abbrev pub opens : ℕ
  opens = length a

  abbrev pub closes : ℕ
  closes = length a + 1 + length m

  after_first : drop (opens + 1) t ≡ m ++ 0x22 ∷ r
  after_first = rw (q.whole, drop-append-add a (0x22 ∷ (m ++ 0x22 ∷ r)) 1)

  pub find_first : find_at 0x22 t 0 ≡ Some opens
  unfolding find_at
  find_first = let z : 0 + length a ≡ length a = omega arith in rw q.whole (find_behind 0x22 0 a (m ++ 0x22 ∷ r) q.first ∙ ap Some z)

  pub find_second : find_at 0x22 t (opens + 1) ≡ Some closes
  unfolding find_at
  find_second = rw after_first (find_behind 0x22 (opens + 1) m r q.second)

  pub before_first : take opens t ≡ a
  before_first = rw q.whole (take-append_seam a (0x22 ∷ (m ++ 0x22 ∷ r)))

  pub between : part t (opens + 1) closes ≡ m
  between = let z : closes - (opens + 1) ≡ length m = omega arith in rw (z, after_first) (take-append_seam m (0x22 ∷ r))

  pub after_second : drop (closes + 1) t ≡ r
  after_second =
      let z : opens + 1 + (length m + 1) ≡ closes + 1 = omega arith in
      rw (← z, ← drop-drop (length m + 1) (opens + 1) t, after_first) (drop-append-add m (0x22 ∷ r) 1)

  within : (opens + 1 ≤ closes) × (closes ≤ length t)
  within = rw q.whole (simp length-append (omega arith))

-- what is found in a text with no quote, with one, and with two
module _ (p : ℕ) (t : List ℕ) where
  pub no_quote : count 0x22 t ≡ 0 → file_name_of p t ≡ Err NoQuote
  unfolding file_name_of find_at
  no_quote n = rw (find_none 0x22 0 t n)

  pub one_quote : (a r : List ℕ) → t ≡ a ++ 0x22 ∷ r → count 0x22 a ≡ 0 → count 0x22 r ≡ 0 → file_name_of p t ≡ Err OneQuote
  unfolding file_name_of find_at
  one_quote a r q n m =
      let e : drop (0 + length a + 1) t ≡ r = let z : 0 + length a + 1 ≡ length a + 1 = omega arith in rw (z, q) (drop-append-add a (0x22 ∷ r) 1) in
      let f : find_from 0x22 0 t ≡ Some (0 + length a) = rw q (find_behind 0x22 0 a r n) in
      rw (f, e, find_none 0x22 (0 + length a + 1) r m)

  pub two_quotes : (a m r : List ℕ) (q : Quotes t a m r) → file_name_of p t ≡ pick (three_words a) (Ok (kept_of (p + (opens t a m r q + 1)) m, closes t a m r q + 1)) (Err NotThreeWords)
  unfolding file_name_of
  two_quotes a m r q = rw (find_first t a m r q, find_second t a m r q, before_first t a m r q, between t a m r q)

-- a sound text has no quote, one, or two
module _ (t ms : List ℕ) (s : scalars ms ≡ true) (e : t ≡ encode_all ms) where
  pub quotes_by : {C : Type 0} → (count 0x22 t ≡ 0 → C) → ((a r : List ℕ) → t ≡ a ++ 0x22 ∷ r → count 0x22 a ≡ 0 → count 0x22 r ≡ 0 → C) → ((a m ks : List ℕ) → Quotes t a m (encode_all ks) → scalars ks ≡ true → C) → C
  quotes_by f g h =
      cut_at 0x22 (omega arith) ms
      (λ n. f (rw e n))
      (λ xs bs q n. let w : t ≡ encode_all xs ++ 0x22 ∷ encode_all bs = rw (e, q) (encode_cut 0x22 (omega arith) xs bs) in
      let s₁ = scalars_split xs (0x22 ∷ bs) (rw q at s) in
      cut_at 0x22 (omega arith) bs
      (λ n₂. g (encode_all xs) (encode_all bs) w n n₂)
      (λ ys ks q₂ n₂.
      let s₂ = scalars_split ((0x22 ∷ ys) ++ (0x22 ∷ [])) ks (rw append_assoc (rw q₂ at s₁.1)) in
      h (encode_all xs) (encode_all ys) ks (record { whole = rw (w, q₂, encode_cut 0x22 (omega arith) ys ks); first = n; second = n₂ }) s₂.1))

-- the file that a trimmed line names
module _ (d : List ℕ) (p : ℕ) (t : List ℕ) (lies : Lies d p t) where
  file_by : (a m ks : List ℕ) → Quotes t a m (encode_all ks) → scalars ks ≡ true → {name : Text} {after : ℕ} {c : Option Sectors} → file_name_of p t ≡ Ok (name, after) → file_start_of t after ≡ c → FileIn d t name c
  file_by a m ks q s {name} {after} {c} h k =
      let i : ℕ = opens t a m (encode_all ks) q in
      let j : ℕ = closes t a m (encode_all ks) q in
      let g : ◌≡◌ {A = Result (Text × ℕ) Fault} (pick (three_words a) (Ok (kept_of (p + (i + 1)) m, j + 1)) (Err NotThreeWords)) (Ok (name, after)) = sym (two_quotes p t a m (encode_all ks) q) ∙ h in
      by_test (three_words a)
      (λ w. let g₂ : ◌≡◌ {A = Result (Text × ℕ) Fault} (Ok (kept_of (p + (i + 1)) m, j + 1)) (Ok (name, after)) = rw w at g in
      let u = ok_parts g₂ in
      let n : kept_of (p + (i + 1)) m ≡ name = u.0 in
      let f : j + 1 ≡ after = u.1 in
      let v = within t a m (encode_all ks) q in
      let l : Lies d (p + (i + 1)) m = rw (between t a m (encode_all ks) q) at (part_lies d p t lies (i + 1) j v.0 v.1) in
      record {
        before = a;
        middle = m;
        after = encode_all ks;
        quotes = q;
        words = w;
        named = rw (← n) (kept_is d (p + (i + 1)) m l);
        starts = sym (start_rest t (j + 1) ks s (after_second t a m (encode_all ks) q)) ∙ ap (file_start_of t) f ∙ k;
      })
      (λ w. let g₂ : ◌≡◌ {A = Result (Text × ℕ) Fault} (Err NotThreeWords) (Ok (name, after)) = rw w at g in let z : ◌≡◌ {A = ℕ} 0 1 = cc in absurd (omega arith))

  file_in : (ms : List ℕ) → scalars ms ≡ true → t ≡ encode_all ms → {name : Text} {after : ℕ} {c : Option Sectors} → file_name_of p t ≡ Ok (name, after) → file_start_of t after ≡ c → FileIn d t name c
  file_in ms s e {name} {after} h k =
      quotes_by t ms s e
      (λ n. let g : Err NoQuote ≡ Ok (name, after) = sym (no_quote p t n) ∙ h in let z : ◌≡◌ {A = ℕ} 0 1 = cc in absurd (omega arith))
      (λ a r q n m. let g : Err OneQuote ≡ Ok (name, after) = sym (one_quote p t a r q n m) ∙ h in let z : ◌≡◌ {A = ℕ} 0 1 = cc in absurd (omega arith))
      (λ a m ks q z. file_by a m ks q z h k)

-- the fault of a FLAT line whose name is refused
module _ (p : ℕ) (t ms : List ℕ) (s : scalars ms ≡ true) (e : t ≡ encode_all ms) (a : VmdkAccessType) (c : Sectors) (line : FlatLine t a c) where
  name_given : (n : Fault) → file_name_of p t ≡ Err n → Given t n
  name_given n h =
      quotes_by t ms s e
      (λ k. let g : Err NoQuote ≡ Err n = sym (no_quote p t k) ∙ h in (Fault·no-quote, cc, (a, c, line, k)))
      (λ b r q k m. let g : Err OneQuote ≡ Err n = sym (one_quote p t b r q k m) ∙ h in (Fault·one-quote, cc, (a, c, line, rw q (count_cut 0x22 b r ∙ rw (k, m)))))
      (λ b m ks q z. by_test (three_words b)
      (λ w. let g : Ok (_, _) ≡ Err n = rw w at (sym (two_quotes p t b m (encode_all ks) q) ∙ h) in let y : ◌≡◌ {A = ℕ} 0 1 = cc in absurd (omega arith))
      (λ w. let g : Err NotThreeWords ≡ Err n = rw w at (sym (two_quotes p t b m (encode_all ks) q) ∙ h) in
      (not_three_words, cc, (a, c, line, b, m, encode_all ks, q, w))))

-- ---- the line
-- an extent that is said is that of the words of the trimmed line t, and a refusal of an extent line has a fault of them
module _ (d t : List ℕ) where
  abbrev Fine : Result Said Fault → Type 0
  Fine (Ok (Extent x)) = ExtentIn d t x
  Fine (Ok Nothing) = Unit {0}
  Fine (Ok (Set v)) = Unit {0}
  Fine (Err n) = 5 ≤ refusal_number n → refusal_number n ≤ 11 → Given t n

  fine_key : (s : Result Said Fault) → OfKey s → Fine s
  fine_key (Ok (Extent x)) h = absurd h
  fine_key (Ok Nothing) h = tt
  fine_key (Ok (Set v)) h = tt
  fine_key (Err n) h = λ a b. absurd (omega arith)

  fine_pick : (b : Bool) (r s : Result Said Fault) → (b ≡ true → Fine r) → Fine s → Fine (pick b r s)
  fine_pick true r s f g = f refl
  fine_pick false r s f g = g

-- a line with a blank, before which an access stands
module _ (d : List ℕ) (p : ℕ) (t ms : List ℕ) (lies : Lies d p t) (s : scalars ms ≡ true) (e : t ≡ encode_all ms) (b : first_blank t < length t) (there : word_of t (first_blank t) ≡ None → ⊥) where
  no_count : (access : List ℕ) → take (first_blank t) t ≡ access → IsAccess access → second_word t (word_of t (first_blank t)) ≡ None → (n : Fault) → SectorCount ≡ n → Given t n
  no_count access k i q n f =
      let w = second_bad t (first_blank t) (word_of t (first_blank t)) refl there q in
      (sector_count, f, (access, w.0, w.1, record { blank = b; first = k; word = w.2 }, i, w.3))

  locked_by : (n : Option (Sectors × ℕ)) → second_of t (first_blank t) ≡ n → take (first_blank t) t ≡ ascii "NOACCESS" → Fine d t (no_access_by n)
  unfolding second_of
  locked_by (Some (c, end)) q k =
      let w = second_is t (first_blank t) (word_of t (first_blank t)) refl q in
      record { blank = b; second = w.0; end = end; word = w.1; sectors = w.2; source = k }
  locked_by None q k = λ f g. no_count (ascii "NOACCESS") k (inr refl) q SectorCount refl

  module _ (a : VmdkAccessType) (k : take (first_blank t) t ≡ access_text a) (c : Sectors) (end : ℕ) (w : (v : List ℕ) × NextWord t (first_blank t) v end × (sectors_of v ≡ Some c)) where
    abbrev counted_line : CountedLine t a c end
    counted_line = record { second = w.0; line = record { blank = b; first = k; word = w.1 }; sectors = w.2 }

    abbrev flat_line_lem : ((e : ℕ) × NextWord t end (ascii "FLAT") e) → FlatLine t a c
    flat_line_lem g = record { end = end; line = counted_line; third_end = g.0; third = g.1 }

    file_from : (name : Text) (after : ℕ) → file_name_of p t ≡ Ok (name, after) → ((e : ℕ) × NextWord t end (ascii "FLAT") e) → (n : Option Sectors) → file_start_of t after ≡ n → Fine d t (flat_from n a c (λ start. File a name start))
    file_from name after f g (Some start) h =
        record { blank = b; second = w.0; end = end; word = w.1; sectors = w.2; source = (k, g, file_in d p t lies ms s e f h) }
    file_from name after f g None h =
        λ y z. let i = file_in d p t lies ms s e f h in
        let v = bad_start i.after i.starts in
        (file_start, refl, (a, c, flat_line_lem g, i.before, i.middle, i.after, i.quotes, i.words, v.0, v.1, v.2, v.3))

    file_fine : (f : Result (Text × ℕ) Fault) → file_name_of p t ≡ f → ((e : ℕ) × NextWord t end (ascii "FLAT") e) → Fine d t (flat_by f a c t)
    file_fine (Ok (name, after)) f g = file_from name after f g (file_start_of t after) refl
    file_fine (Err n) f g = λ y z. name_given p t ms s e a c (flat_line_lem g) n f

    third_fine : (n : Result Third Fault) → third_of t end ≡ n → Fine d t (by_third n a c p t)
    unfolding third_of flat_line
    third_fine (Ok Zero) q =
        record { blank = b; second = w.0; end = end; word = w.1; sectors = w.2; source = (k, third_zero t end (word_of t end) refl q) }
    third_fine (Ok Flat) q = file_fine (file_name_of p t) refl (third_flat t end (word_of t end) refl q)
    third_fine (Err n) q =
        λ y z. third_by t (word_of t end) n q
        (λ f. (third_missing, sym f, (a, c, end, counted_line, third_none t (word_of t end) (rw f at q))))
        (λ f. let v = third_odd t end (word_of t end) refl (rw f at q) in
        (third_other, sym f, (a, c, end, counted_line, v.0, v.1, v.2, v.3, v.4)))

  second_fine : (a : VmdkAccessType) → take (first_blank t) t ≡ access_text a → (n : Option (Sectors × ℕ)) → second_of t (first_blank t) ≡ n → Fine d t (by_second n a p t)
  unfolding second_of
  second_fine a k (Some (c, end)) q =
      third_fine a k c end (second_is t (first_blank t) (word_of t (first_blank t)) refl q) (third_of t end) refl
  second_fine a k None q = λ f g. no_count (access_text a) k (inl (a, refl)) q SectorCount refl

  access_fine : (w : Option AccessWord) → Access (take (first_blank t) t) w → Fine d t (access_line w p t (first_blank t))
  unfolding access_line no_access_line extent_line
  access_fine (Some NoAccess) k = locked_by (second_of t (first_blank t)) refl k
  access_fine (Some RdOnly) k = second_fine ReadOnly k (second_of t (first_blank t)) refl
  access_fine (Some RW) k = second_fine ReadWrite k (second_of t (first_blank t)) refl
  access_fine None k = fine_key d t (key_line p t) (key_keys p t)

text_fine : (d : List ℕ) (p : ℕ) (t ms : List ℕ) → Lies d p t → scalars ms ≡ true → end_codes ms ≡ ms → t ≡ encode_all ms → Fine d t (text_line p t)
unfolding text_line
text_fine d p t ms l s f e =
    fine_pick d t (skipped t) (Ok Nothing) _ (λ h. tt)
    (fine_pick d t (ltb (first_blank t) (length t)) (access_line (access_word (take (first_blank t) t)) p t (first_blank t)) (key_line p t)
    (λ h. let b = ltb-true (first_blank t) (length t) h in
    access_fine d p t ms l s e b (second_there ms t s f e b) (access_word (take (first_blank t) t)) (access_is (take (first_blank t) t)))
    (fine_key d t (key_line p t) (key_keys p t)))

-- what a range leaves, if trimming does not refuse the line
pub range_is : (l : List ℕ) {a e : ℕ} → trim_of l ≡ Some (a, e) → part l a e ≡ trimmed l
unfolding trimmed
range_is l q = rw q

pub range_text : (l : List ℕ) {a e : ℕ} → trim_of l ≡ Some (a, e) → sound (text_at l 0) ≡ true
range_text l {a} {e} q =
    by_test (sound (text_at l 0)) (λ h. h)
    (λ h. let g : Some (a, e) ≡ None = sym q ∙ (trim_wrong l).1 h in let z : ◌≡◌ {A = ℕ} 0 1 = cc in absurd (omega arith))

pub range_sound : (l : List ℕ) {a e : ℕ} → trim_of l ≡ Some (a, e) → Trimming l
range_sound l q = trim_parts l (range_text l q)

line_fine : (d : List ℕ) (p : ℕ) (l : List ℕ) → Lies d p l → (r : Option (ℕ × ℕ)) → trim_of l ≡ r → Fine d (trimmed l) (trimmed_line p l r)
line_fine d p l i (Some (a, e)) q =
    let w = trim_within l q in
    let c = range_sound l q in
    let s = scalars_split c.middle c.back (scalars_split c.front (c.middle ++ c.back) c.all_scalars).1 in
    rw (← range_is l q) (text_fine d (p + a) (part l a e) c.middle (part_lies d p l i a e w.0 w.1) s.0 c.shut (range_is l q ∙ c.left))
line_fine d p l i None q = λ a b. absurd (omega arith)

-- wherever a line is said to lie, there are bytes in which it does
pub behind : (p : ℕ) (l : List ℕ) → Lies (replicate p 0 ++ l) p l
behind p l = rw (drop_at (replicate p 0) l p (length-replicate p 0)) (take_all (length l) l (omega arith))

-- a line that is refused with a number of an extent line has its fault
pub extent_given : (p : ℕ) (l : List ℕ) (n : Fault) → 5 ≤ refusal_number n → refusal_number n ≤ 11 → line_of p l ≡ Err n → Given (trimmed l) n
unfolding line_of
extent_given p l n a b h =
    subst (Fine (replicate p 0 ++ l) (trimmed l)) h (line_fine (replicate p 0 ++ l) p l (behind p l) (trim_of l) refl) a b

-- a line that says an extent is its extent line
pub extent_says : (d : List ℕ) (p : ℕ) (l : List ℕ) (x : VmdkParsedExtent) → Lies d p l → line_of p l ≡ Ok (Extent x) → ExtentIn d (trimmed l) x
unfolding line_of
extent_says d p l x i h = subst (Fine d (trimmed l)) h (line_fine d p l i (trim_of l) refl)

quote_blank : blank 0x22 ≡ false
unfolding blank
quote_blank = refl

-- the first two quotes of a line are those of what trimming leaves of it
pub quotes_line : (l before middle after : List ℕ) → sound (text_at l 0) ≡ true → Quotes (trimmed l) before middle after → (front back : List ℕ) × Quotes l (front ++ before) middle (after ++ back) × ((a e : ℕ) → trim_of l ≡ Some (a, e) → a ≡ length front)
quotes_line l before middle after h q =
    let c = trim_parts l h in
    let some : 0 < length (trimmed l) = rw q.whole (simp length-append (omega arith)) in
    let f : List ℕ = encode_all c.front in
    let b : List ℕ = encode_all c.back in
    let e : l ≡ f ++ (trimmed l ++ b) = c.whole ∙ rw (encode_append c.front (c.middle ++ c.back), encode_append c.middle c.back, c.left) in (
      f,
      b,
      record {
        whole = e ∙ rw q.whole (simp append_assoc);
        first = count_append 0x22 f before (blanks_free 0x22 (omega arith) c.front quote_blank c.blanks.0) q.first;
        second = q.second;
      },
      λ a e k. c.place some k,
    )

-- a line that says an extent is sound
said_sound : (p : ℕ) (l : List ℕ) {x : VmdkParsedExtent} → line_of p l ≡ Ok (Extent x) → sound (text_at l 0) ≡ true
said_sound p l {x} h =
    by_test (sound (text_at l 0)) (λ e. e)
    (λ e. let g : Err NotUtf8 ≡ Ok (Extent x) = sym ((four p l).1 e) ∙ h in let z : ◌≡◌ {A = ℕ} 0 1 = cc in absurd (omega arith))

-- the text between the first two quotes of a line that says a FLAT extent, trimmed, is the file's name
pub file_named : (d : List ℕ) (p : ℕ) (l : List ℕ) (s : Sectors) (a : VmdkAccessType) (name : Text) (start : Sectors) → Lies d p l → line_of p l ≡ Ok (Extent (record { sectors = s; storage = File a name start })) → (before middle after : List ℕ) × Quotes l before middle after × (text_in d name ≡ trimmed middle)
file_named d p l s a name start i h =
    let f = (extent_says d p l (record { sectors = s; storage = File a name start }) i h).source.2 in
    let q = quotes_line l f.before f.middle f.after (said_sound p l h) f.quotes in
    (q.0 ++ f.before, f.middle, f.after ++ q.1, q.2, f.named)
