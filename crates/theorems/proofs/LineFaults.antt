-- The words of a line fix each test that reading makes of it, one after the other, and so what it says.
-- With the other way (ExtentLines and KeyLines) a line is refused with a number exactly if it has the number's fault, and says an extent exactly if its words are that extent's.
use Rattle.std.specs.Prelude.{Err, None, Ok, Option, Result, Some}
use Prim.Native.Nat.{ℕ, zero, suc, ◌+◌, ◌≤◌, ◌<◌}
use native.Mathlib.Omega.{arith}
use mathlib.Core.List.{List, [], ◌∷◌, ◌++◌}
use mathlib.Core.Logic.{◌↔◌, inl, inr}
use mathlib.Core.Bool.{true, false}
use mathlib.Core.Path.{◌≡◌, refl, sym, ap, subst, ◌∙◌}
use lib.ListN.{length, take, length-append}
use lib.Seq.{take-nil}
use lib.Dec.{eqb, leb}
use borrow.Author.Tests.{ne_eqb, lt-ltb, leb-true, leb-false}
use Rattle.text.specs.Ascii.{ascii}
use Rattle.text.specs.Ranges.{pick}
use Rattle.text.specs.Find.{same}
use Rattle.text.specs.Lines.{count}
use Rattle.text.specs.Number.{number_of}
use Rattle.text.specs.Sector.{sectors_of, largest}
use Rattle.text.specs.Text.{trim_of, trimmed, word_of}
use Rattle.theorems.specs.Unicode.{scalars, encode_all}
use Rattle.text.specs.declared.sector.Sectors.{Sectors}
use Rattle.text.proofs.Flat.{by_test}
use Rattle.lines.specs.Record.{most, no_text, refusal}
use Rattle.descriptor.specs.Read.{read_of}
use Rattle.lines.specs.Kept.{kept_of}
use Rattle.lines.specs.Extent.{counted_word, second_of, third_of, file_name_of, file_start_of, flat_by, flat_line, no_access_by, no_access_line, by_third, by_second, extent_line}
use Rattle.lines.specs.Line.{version_of, geometry_line, geometry_of, version_limit, value_of, access_word, access_line, first_blank, skipped, text_line, line_of}
use Rattle.keys.specs.declared.key.Geometry.{Geometry}
use Rattle.lines.specs.declared.extent.Third.{Third}
use Rattle.lines.specs.declared.extent.Third.TheVariants.{Zero, Flat}
use Rattle.lines.specs.declared.line.Said.TheVariants.{Nothing, Extent, Set}
use Rattle.lines.specs.declared.record.Text.{Text}
use Rattle.lines.specs.declared.record.VmdkAccessType.{VmdkAccessType}
use Rattle.lines.specs.declared.record.VmdkAccessType.TheVariants.{RdOnly as ReadOnly, RW as ReadWrite}
use Rattle.lines.specs.declared.record.VmdkParsedExtent.{VmdkParsedExtent}
use Rattle.lines.specs.declared.record.VmdkParsedStorage.{VmdkParsedStorage}
use Rattle.lines.specs.declared.record.VmdkParsedStorage.TheVariants.{NoAccess, Zero as Zeros, Flat as File}
use Rattle.lines.specs.declared.line.Said.{Said}
use Rattle.lines.specs.declared.record.Fault.{Fault}
use Rattle.lines.specs.declared.record.Fault.TheVariants.{SectorCount, VersionNumber, ParentHint, GeometryNumber, OtherKey, TooManyExtents, NoType, OtherType}
use Rattle.lines.specs.Fault.{refusal_number}
use Rattle.theorems.specs.Statements.{ByLine, RefusedWith, NextWord, Quotes, access_text, ExtentIn}
use Rattle.theorems.specs.LineWords.{IsAccess, AccessLine, CountedLine, FlatLine, NameAt, version, geometry, key_text, hint_key, UnknownKey, KeyLine, unquoted}
use Rattle.theorems.specs.GivenWhen.{LineFault, sector_count, third_missing, third_other, no_quote, one_quote, not_three_words, file_start, version_number, parent_hint, geometry_number, unknown_key, line_fault, When, FirstFault, OneMore}
use Rattle.theorems.proofs.LinePlaces.{Lies}
use Rattle.theorems.proofs.RefusalNumbers.{line_number}
use Rattle.theorems.proofs.Verdicts.{line_refused}
use Rattle.theorems.proofs.ExtentLines.{Given, extent_given, extent_says, start_rest, closes, find_first, find_second, before_first, between, after_second, no_quote as find-no-quote, one_quote as find-one-quote, two_quotes, quotes_by, quotes_line, range_is, range_text, range_sound}
use Rattle.theorems.proofs.Trimming.{scalars_split, count_cut}
use Rattle.theorems.proofs.KeyLines.{other, key_line_says, count_split, item_key_lem, hint_key_lem, unknown_is, key_given}

-- ---- the words of an extent line
-- a line that starts with another byte than `#` is not skipped
starts_read : (n : ℕ) (t : List ℕ) (b : ℕ) (r : List ℕ) → take n t ≡ b ∷ r → eqb b 0x23 ≡ false → skipped t ≡ false
starts_read n [] b r q e = let g : [] ≡ b ∷ r = sym (take-nil n) ∙ q in let z : ◌≡◌ {A = ℕ} 0 1 = cc in absurd (omega arith)
starts_read zero (x ∷ t) b r q e = let z : ◌≡◌ {A = ℕ} 0 1 = cc in absurd (omega arith)
starts_read (suc n) (x ∷ t) b r q e =
    let g : x ≡ b = cc in rw (ne_eqb (length (x ∷ t)) 0 (omega arith), g) e

module _ (p : ℕ) (t : List ℕ) (b : first_blank t < length t) where
  open_line : (a : VmdkAccessType) → take (first_blank t) t ≡ access_text a → text_line p t ≡ by_second (second_of t (first_blank t)) a p t
  unfolding text_line access_word same access_line extent_line
  open_line ReadOnly k = rw (starts_read (first_blank t) t _ _ k refl, lt-ltb _ _ b, k)
  open_line ReadWrite k = rw (starts_read (first_blank t) t _ _ k refl, lt-ltb _ _ b, k)

  locked_line : take (first_blank t) t ≡ ascii "NOACCESS" → text_line p t ≡ no_access_by (second_of t (first_blank t))
  unfolding text_line access_word same access_line no_access_line
  locked_line k = rw (starts_read (first_blank t) t _ _ k refl, lt-ltb _ _ b, k)

second_due : (t : List ℕ) (at : ℕ) (second : List ℕ) (end : ℕ) (c : Option Sectors) → NextWord t at second end → sectors_of second ≡ c → second_of t at ≡ counted_word c end
unfolding second_of
second_due t at second end c w e = rw (w.1, w.2, e)

third_none_due : (t : List ℕ) (at : ℕ) → word_of t at ≡ None → third_of t at ≡ Err NoType
unfolding third_of
third_none_due t at e = rw e

-- what a third word is
abbrev third : List ℕ → Result Third Fault
third w = pick (same w (ascii "ZERO")) (Ok Zero) (pick (same w (ascii "FLAT")) (Ok Flat) (Err OtherType))

third_due : (t : List ℕ) (at : ℕ) (w : List ℕ) (e : ℕ) → NextWord t at w e → third_of t at ≡ third w
unfolding third_of
third_due t at w e n = rw (n.1, n.2)

module _ (p : ℕ) (t : List ℕ) (a : VmdkAccessType) (s : Sectors) where
  counted_due : (end : ℕ) → CountedLine t a s end → text_line p t ≡ by_third (third_of t end) a s p t
  counted_due end c =
      open_line p t c.line.blank a c.line.first ∙ rw (second_due t (first_blank t) c.second end (Some s) c.line.word c.sectors)

  flat_due : FlatLine t a s → text_line p t ≡ flat_by (file_name_of p t) a s t
  unfolding flat_line same
  flat_due f = counted_due f.end f.line ∙ rw (third_due t f.end (ascii "FLAT") f.third_end f.third)

-- ---- the quotes
here_is : {i j : ℕ} → Some i ≡ Some j → i ≡ j
here_is e = cc

-- a text is cut at its first two quotes in one way
quotes_same : (t a m r a₂ m₂ r₂ : List ℕ) → Quotes t a m r → Quotes t a₂ m₂ r₂ → (a ≡ a₂) × (m ≡ m₂) × (r ≡ r₂)
quotes_same t a m r a₂ m₂ r₂ q u =
    let o : length a ≡ length a₂ = here_is (sym (find_first t a m r q) ∙ find_first t a₂ m₂ r₂ u) in
    let c : length a + 1 + length m ≡ length a₂ + 1 + length m₂ = here_is (sym (find_second t a m r q) ∙ rw o (find_second t a₂ m₂ r₂ u)) in (
      sym (before_first t a m r q) ∙ rw o (before_first t a₂ m₂ r₂ u),
      sym (between t a m r q) ∙ rw (c, o) (between t a₂ m₂ r₂ u),
      sym (after_second t a m r q) ∙ rw c (after_second t a₂ m₂ r₂ u),
    )

quotes_two : (t a m r : List ℕ) → Quotes t a m r → 2 ≤ count 0x22 t
quotes_two t a m r q =
    rw (q.whole, count_cut 0x22 a (m ++ 0x22 ∷ r), count_cut 0x22 m r) (omega arith)

-- in a sound text the first word behind them is that of the text after them
module _ (t ms : List ℕ) (sc : scalars ms ≡ true) (e : t ≡ encode_all ms) where
  start_after : (a m r : List ℕ) (q : Quotes t a m r) → file_start_of t (closes t a m r q + 1) ≡ file_start_of r 0
  start_after a m r q =
      let n = quotes_two t a m r q in
      quotes_by t ms sc e
      (λ z. absurd (omega arith))
      (λ b c u z y. absurd (omega (arith, ap (count 0x22) u, count_cut 0x22 b c)))
      (λ b c ks u z. let w = quotes_same t a m r b c (encode_all ks) q u in
      rw w.2 (start_rest t (closes t a m r q + 1) ks z (after_second t a m r q ∙ w.2)))

start_word : (t word : List ℕ) (e : ℕ) (c : Option Sectors) → NextWord t 0 word e → sectors_of word ≡ c → file_start_of t 0 ≡ c
unfolding file_start_of
start_word t word e c n q = rw (n.1, n.2, q)

-- ---- a line's fault gives its number
module _ (p : ℕ) (t : List ℕ) where
  no_count_due : (access second : List ℕ) (end : ℕ) → AccessLine t access second end → IsAccess access → sectors_of second ≡ None → text_line p t ≡ Err SectorCount
  no_count_due access second end l (inl i) q =
      open_line p t l.blank i.0 (l.first ∙ i.1) ∙ rw (second_due t (first_blank t) second end None l.word q)
  no_count_due access second end l (inr i) q =
      locked_line p t l.blank (l.first ∙ i) ∙ rw (second_due t (first_blank t) second end None l.word q)

  version_due : (value : List ℕ) → KeyLine t (key_text version) value → number_of version_limit value ≡ None → text_line p t ≡ Err VersionNumber
  unfolding value_of version_of
  version_due value k q = key_line_says p t (key_text version) value k ∙ rw (item_key_lem version, k.says, q)

  geometry_due : (g : Geometry) (value : List ℕ) → KeyLine t (key_text (geometry g)) value → number_of largest (unquoted value) ≡ None → text_line p t ≡ Err GeometryNumber
  unfolding value_of geometry_line geometry_of
  geometry_due g value k q = key_line_says p t (key_text (geometry g)) value k ∙ rw (item_key_lem (geometry g), k.says, q)

  hint_due : (value : List ℕ) → KeyLine t hint_key value → text_line p t ≡ Err ParentHint
  unfolding value_of
  hint_due value k = key_line_says p t hint_key value k ∙ rw hint_key_lem

  unknown_due : (key value : List ℕ) → KeyLine t key value → UnknownKey key → text_line p t ≡ Err OtherKey
  unfolding value_of
  unknown_due key value k u = key_line_says p t key value k ∙ rw (unknown_is key u)

module _ (p : ℕ) (t ms : List ℕ) (sc : scalars ms ≡ true) (e : t ≡ encode_all ms) where
  when_due : (f : LineFault) → When f t → text_line p t ≡ Err (line_fault f)
  when_due sector_count w = no_count_due p t w.0 w.1 w.2 w.3 w.4 w.5
  when_due third_missing w = counted_due p t w.0 w.1 w.2 w.3 ∙ rw (third_none_due t w.2 w.4)
  when_due third_other w =
      counted_due p t w.0 w.1 w.2 w.3
      ∙ rw (third_due t w.2 w.4 w.5 w.6, other w.4 (ascii "ZERO") w.7, other w.4 (ascii "FLAT") w.8)
  when_due no_quote w = flat_due p t w.0 w.1 w.2 ∙ rw (find-no-quote p t w.3)
  when_due one_quote w =
      let c = count_split 0x22 0 t w.3 in
      flat_due p t w.0 w.1 w.2 ∙ rw (find-one-quote p t c.0 c.1 c.2 c.3 c.4)
  when_due not_three_words w = flat_due p t w.0 w.1 w.2 ∙ rw (two_quotes p t w.3 w.4 w.5 w.6, w.7)
  when_due file_start w =
      flat_due p t w.0 w.1 w.2
      ∙ rw (two_quotes p t w.3 w.4 w.5 w.6, w.7, start_after t ms sc e w.3 w.4 w.5 w.6, start_word w.5 w.8 w.9 None w.10 w.11)
  when_due version_number w = version_due p t w.0 w.1 w.2
  when_due parent_hint w = hint_due p t w.0 w.1
  when_due geometry_number w = geometry_due p t w.0 w.1 w.2 w.3
  when_due unknown_key w = unknown_due p t w.0 w.1 w.2 w.3

-- a line with a fault is not empty
pub key_some : (t key value : List ℕ) → KeyLine t key value → 0 < length t
key_some t key value k = rw (k.whole, length-append k.before (0x3D ∷ k.after)) (omega arith)

when_some : (f : LineFault) (t : List ℕ) → When f t → 0 < length t
when_some sector_count t w = let b = w.3.blank in omega arith
when_some third_missing t w = let b = w.3.line.blank in omega arith
when_some third_other t w = let b = w.3.line.blank in omega arith
when_some no_quote t w = let b = w.2.line.line.blank in omega arith
when_some one_quote t w = let b = w.2.line.line.blank in omega arith
when_some not_three_words t w = let b = w.2.line.line.blank in omega arith
when_some file_start t w = let b = w.2.line.line.blank in omega arith
when_some version_number t w = key_some t _ w.0 w.1
when_some parent_hint t w = key_some t _ w.0 w.1
when_some geometry_number t w = key_some t _ w.1 w.2
when_some unknown_key t w = key_some t w.0 w.1 w.2

-- ---- of a line
-- a line that trimming leaves something of says what that says, where it lies
module _ (p : ℕ) (l : List ℕ) where
  nothing_left : trim_of l ≡ None → trimmed l ≡ []
  unfolding trimmed
  nothing_left q = rw q

  pub says_by : {C : Type 0} (r : Option (ℕ × ℕ)) → trim_of l ≡ r → 0 < length (trimmed l) → ((a e : ℕ) (ms : List ℕ) → trim_of l ≡ Some (a, e) → scalars ms ≡ true → trimmed l ≡ encode_all ms → line_of p l ≡ text_line (p + a) (trimmed l) → C) → C
  unfolding line_of
  says_by (Some (a, e)) q h g =
      let c = range_sound l q in
      let s = scalars_split c.middle c.back (scalars_split c.front (c.middle ++ c.back) c.all_scalars).1 in
      g a e c.middle q s.0 c.left (rw q (ap (text_line (p + a)) (range_is l q)))
  says_by None q h g = absurd (omega (arith, ap length (nothing_left q)))

  fault_due : (f : LineFault) → When f (trimmed l) → line_of p l ≡ Err (line_fault f)
  fault_due f w = says_by (trim_of l) refl (when_some f (trimmed l) w) (λ a e ms q s u k. k ∙ when_due (p + a) (trimmed l) ms s u f w)

-- what it is refused with tells the fault
abbrev fault_of : Fault → LineFault
fault_of n =
    pick (leb (refusal_number n) 5) sector_count (pick (leb (refusal_number n) 6) third_missing (pick (leb (refusal_number n) 7) third_other (pick (leb (refusal_number n) 8) no_quote (pick (leb (refusal_number n) 9) one_quote (pick (leb (refusal_number n) 10) not_three_words (pick (leb (refusal_number n) 11) file_start (pick (leb (refusal_number n) 12) version_number (pick (leb (refusal_number n) 13) parent_hint (pick (leb (refusal_number n) 14) geometry_number unknown_key)))))))))

number_tells : (f : LineFault) → fault_of (line_fault f) ≡ f
number_tells sector_count = refl
number_tells third_missing = refl
number_tells third_other = refl
number_tells no_quote = refl
number_tells one_quote = refl
number_tells not_three_words = refl
number_tells file_start = refl
number_tells version_number = refl
number_tells parent_hint = refl
number_tells geometry_number = refl
number_tells unknown_key = refl

pub number_in : (f : LineFault) → (5 ≤ refusal_number (line_fault f)) × (refusal_number (line_fault f) ≤ 15)
number_in sector_count = omega arith
number_in third_missing = omega arith
number_in third_other = omega arith
number_in no_quote = omega arith
number_in one_quote = omega arith
number_in not_three_words = omega arith
number_in file_start = omega arith
number_in version_number = omega arith
number_in parent_hint = omega arith
number_in geometry_number = omega arith
number_in unknown_key = omega arith

given_is : (f : LineFault) (t : List ℕ) → Given t (line_fault f) → When f t
given_is f t g =
    subst (λ (f : LineFault). When f t) (sym (number_tells g.0) ∙ ap fault_of g.1 ∙ number_tells f) g.2

-- a line is refused with a fault's number exactly if it has the fault
pub line_given : (p : ℕ) (l : List ℕ) (f : LineFault) → (line_of p l ≡ Err (line_fault f)) ↔ When f (trimmed l)
line_given p l f = (
  λ h. let n = number_in f in
      given_is f (trimmed l)
      (by_test (leb (refusal_number (line_fault f)) 11)
      (λ b. extent_given p l (line_fault f) n.0 (leb-true _ _ b) h)
      (λ b. let c = leb-false (refusal_number (line_fault f)) 11 b in key_given p l (line_fault f) (omega arith) h)),
  fault_due p l f,
)

-- ---- an extent
-- what a trimmed line with the words of an extent says; a name is kept where the line has it
module _ (d : List ℕ) (p : ℕ) (t ms : List ℕ) (sc : scalars ms ≡ true) (e : t ≡ encode_all ms) (s : Sectors) where
  abbrev of : VmdkParsedStorage → VmdkParsedExtent
  of st = record { sectors = s; storage = st }

  locked_due : ExtentIn d t (of NoAccess) → text_line p t ≡ Ok (Extent (of NoAccess))
  locked_due x =
      locked_line p t x.blank x.source ∙ rw (second_due t (first_blank t) x.second x.end (Some s) x.word x.sectors)

  zero_due : (a : VmdkAccessType) → ExtentIn d t (of (Zeros a)) → text_line p t ≡ Ok (Extent (of (Zeros a)))
  unfolding same
  zero_due a x =
      counted_due p t a s x.end (record { second = x.second; line = record { blank = x.blank; first = x.source.0; word = x.word }; sectors = x.sectors })
      ∙ rw (third_due t x.end (ascii "ZERO") x.source.1.0 x.source.1.1)

  file_due : (a : VmdkAccessType) (name : Text) (start : Sectors) (x : ExtentIn d t (of (File a name start))) → text_line p t ≡ Ok (Extent (of (File a (kept_of (p + (length x.source.2.before + 1)) x.source.2.middle) start)))
  file_due a name start x =
      let f = x.source.2 in
      flat_due p t a s
      (record {
        end = x.end;
        line = record { second = x.second; line = record { blank = x.blank; first = x.source.0; word = x.word }; sectors = x.sectors };
        third_end = x.source.1.0;
        third = x.source.1.1;
      })
      ∙ rw (two_quotes p t f.before f.middle f.after f.quotes, f.words, start_after t ms sc e f.before f.middle f.after f.quotes, f.starts)

-- the name of what is said
abbrev name_in : VmdkParsedStorage → Text
name_in NoAccess = no_text
name_in (Zeros a) = no_text
name_in (File a name start) = name

abbrev name_of : Result Said Fault → Text
name_of (Ok (Extent x)) = name_in x.storage
name_of (Ok Nothing) = no_text
name_of (Ok (Set v)) = no_text
name_of (Err n) = no_text

module _ (d : List ℕ) (p : ℕ) (l : List ℕ) (i : Lies d p l) (s : Sectors) where
  extent_some : (st : VmdkParsedStorage) → ExtentIn d (trimmed l) (record { sectors = s; storage = st }) → 0 < length (trimmed l)
  extent_some st x = let b = x.blank in omega arith

  -- with the name's place
  file_line : (a : VmdkAccessType) (name : Text) (start : Sectors) (x : ExtentIn d (trimmed l) (record { sectors = s; storage = File a name start })) → (before middle after : List ℕ) × Quotes l before middle after × (line_of p l ≡ Ok (Extent (record { sectors = s; storage = File a (kept_of (p + (length before + 1)) middle) start })))
  file_line a name start x = says_by p l (trim_of l) refl (extent_some (File a name start) x) (λ b e ms q sc u k.
      let f = x.source.2 in
      let w = quotes_line l f.before f.middle f.after (range_text l q) f.quotes in
      let z : p + b + (length f.before + 1) ≡ p + (length (w.0 ++ f.before) + 1) = omega (arith, w.3 b e q, length-append w.0 f.before) in
      (w.0 ++ f.before, f.middle, f.after ++ w.1, w.2, k ∙ file_due d (p + b) (trimmed l) ms sc u s a name start x ∙ rw z))

  extent_both : (st : VmdkParsedStorage) → (line_of p l ≡ Ok (Extent (record { sectors = s; storage = st }))) ↔ (ExtentIn d (trimmed l) (record { sectors = s; storage = st }) × NameAt p l st)
  extent_both NoAccess = (
    λ h. (extent_says d p l _ i h, tt),
    λ w. says_by p l (trim_of l) refl (extent_some NoAccess w.0) (λ b e ms q sc u k. k ∙ locked_due d (p + b) (trimmed l) ms sc u s w.0),
  )
  extent_both (Zeros a) = (
    λ h. (extent_says d p l _ i h, tt),
    λ w. says_by p l (trim_of l) refl (extent_some (Zeros a) w.0) (λ b e ms q sc u k. k ∙ zero_due d (p + b) (trimmed l) ms sc u s a w.0),
  )
  extent_both (File a name start) = (
    λ h. let x = extent_says d p l _ i h in
        let w = file_line a name start x in
        (x, (w.0, w.1, w.2, w.3, ap name_of (sym h ∙ w.4))),
    λ v. let w = file_line a name start v.0 in
        let n = v.1 in
        let c = quotes_same l n.0 n.1 n.2 w.0 w.1 w.2 n.3 w.3 in
        w.4 ∙ rw (← c.0, ← c.1, ← n.4),
  )

pub extent_exactly : (d : List ℕ) (p : ℕ) (l : List ℕ) → Lies d p l → (x : VmdkParsedExtent) → (line_of p l ≡ Ok (Extent x)) ↔ (ExtentIn d (trimmed l) x × NameAt p l x.storage)
extent_exactly d p l i x = extent_both d p l i x.sectors x.storage

-- ---- of a descriptor
-- the first line that is refused with a fault's number has it, and only then
module _ (d : List ℕ) (f : LineFault) (k : ℕ) where
  refused_is : (p : ℕ) (l : List ℕ) (extents : ℕ) (s : Result Said Fault) → line_of p l ≡ s → RefusedWith (line_fault f) extents s → line_of p l ≡ Err (line_fault f)
  refused_is p l extents (Ok Nothing) e r = absurd r
  refused_is p l extents (Ok (Set v)) e r = absurd r
  refused_is p l extents (Ok (Extent x)) e r = absurd (omega (arith, ap refusal_number r.0, number_in f))
  refused_is p l extents (Err m) e r = e ∙ ap Err r

  pub fault_first : ((read_of d).verdict ≡ refusal (line_fault f) k) ↔ (ByLine d × FirstFault d f k)
  fault_first =
      let n = number_in f in
      let g = line_refused d (line_fault f) k (omega arith) (omega arith) in (
        λ h. let w = g.0 h in
            let r = w.1.1 in (
              w.0,
              record {
                before = r.before;
                line = w.1.0;
                place = r.place;
                at = r.line;
                sound = r.sound;
                fault = (line_given r.place w.1.0 f).0 (refused_is r.place w.1.0 _ (line_of r.place w.1.0) refl r.refused);
              },
            ),
        λ w. let r = w.1 in
            g.1 (w.0, (r.line, record { before = r.before; place = r.place; line = r.at; sound = r.sound; refused = rw ((line_given r.place r.line f).1 r.fault) })),
      )

-- 16 is no line's own number
module _ (d : List ℕ) (k : ℕ) where
  one_more : (p : ℕ) (l : List ℕ) (extents : ℕ) (s : Result Said Fault) → line_of p l ≡ s → RefusedWith TooManyExtents extents s → (extents ≡ most) × ((x : VmdkParsedExtent) × (line_of p l ≡ Ok (Extent x)))
  one_more p l extents (Ok Nothing) e r = absurd r
  one_more p l extents (Ok (Set v)) e r = absurd r
  one_more p l extents (Ok (Extent x)) e r = (r.1, (x, e))
  one_more p l extents (Err m) e r = absurd (omega (arith, line_number p l m e, ap refusal_number r))

  pub extents_full : ((read_of d).verdict ≡ refusal TooManyExtents k) ↔ (ByLine d × OneMore d k)
  extents_full =
      let g = line_refused d TooManyExtents k (omega arith) (omega arith) in (
        λ h. let w = g.0 h in
            let r = w.1.1 in
            let o = one_more r.place w.1.0 _ (line_of r.place w.1.0) refl r.refused in
            (w.0, record { before = r.before; line = w.1.0; place = r.place; at = r.line; sound = r.sound; full = o.0; extent = o.1.0; says = o.1.1 }),
        λ w. let r = w.1 in
            g.1 (w.0, (r.line, record { before = r.before; place = r.place; line = r.at; sound = r.sound; refused = rw r.says (refl, r.full) })),
      )
