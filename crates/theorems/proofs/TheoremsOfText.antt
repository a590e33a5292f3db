-- What the text layer promises, in the words of the rules: start here. Each theorem is about the definitions of specs/, which the
-- contracts of src/ name, and is proved by citing the laws of its subject.
use Rattle.std.specs.Prelude.{None, Some}
use Prim.Native.Nat.{ℕ, suc, ◌-◌, ◌*◌, ◌≤◌, ◌<◌}
use native.Mathlib.Omega.{arith}
use mathlib.Core.List.{List, [], ◌∷◌, ◌++◌}
use mathlib.Core.Logic.{◌↔◌, inl, inr}
use mathlib.Core.Bool.{true, false}
use mathlib.Core.Path.{◌≡◌, refl, sym, ap, subst, ◌∙◌}
use lib.ListN.{length, take, drop, length-drop, length-append}
use borrow.Author.Tests.{le-leb}
use Rattle.text.specs.Utf8.{char_at}
use Rattle.theorems.specs.Tiling.{All}
use Rattle.theorems.specs.Unicode.{encode, Stands, scalars, encode_all}
use Rattle.text.specs.Text.{text_at, sound, trim_of, trimmed, word_of, trim_codes, word_codes}
use Rattle.text.specs.inside.Codes.{codes}
use Rattle.text.specs.Blank.{white_space, blank}
use Rattle.text.specs.Lines.{lines_of, count, join_lines}
use Rattle.text.specs.Number.{all_digits, value, digits_of, digits_at, sign_of, number_of, Numeral, zeros}
use Rattle.text.specs.Find.{strip_of, part_of}
use Rattle.text.specs.Sector.{bytes_of}
use Rattle.text.specs.declared.utf8.Char.TheVariants.{Scalar, Bad, End}
use Rattle.text.specs.declared.sector.Sectors.{Sectors}
use Rattle.text.proofs.Chars.{char_end}
use Rattle.text.proofs.Texts.{Fit, fit}
use Rattle.theorems.proofs.Encodings.{read_encoding, stands_read, none_stands}
use Rattle.theorems.proofs.Sequences.{sound_cut, sound_join}
use Rattle.text.proofs.Trims.{trim_wrong}
use Rattle.theorems.proofs.Spellings.{trimmed_codes, word_none_codes, word_some_codes}
use Rattle.text.proofs.Finds.{strip_between}
use Rattle.text.proofs.Sectors.{bytes_rule, bytes_large}
use Rattle.text.proofs.Lines.{Whole, lines_count, lines_join, lines_whole}
use Rattle.text.proofs.Numerals.{number_out, number_in, zeros_value, zeros_digits}

whole_each : (ls : List (List ℕ)) → Whole ls → All (λ (l : List ℕ). count 0x0A l ≡ 0) ls
whole_each [] w = tt
whole_each (l ∷ ls) w = (w.0, whole_each ls w.1)

-- ---- UTF-8
-- The step at a place answers a character c of n bytes exactly if the encoding of the scalar value c stands there, and it has n bytes.
pub step_scalar : (t : List ℕ) (at c n : ℕ) → (char_at t at ≡ Scalar c n) ↔ ((n ≡ length (encode c)) × Stands c (drop at t))
unfolding char_at
step_scalar t at c n =
    (λ e. read_encoding (drop at t) e, λ s. stands_read c (drop at t) s.1 ∙ ap (Scalar c) (sym s.0))

-- Where a byte is left, the step refuses exactly if no scalar value's encoding stands there.
pub step_bad : (t : List ℕ) (at : ℕ) → at < length t → (char_at t at ≡ Bad) ↔ ((c : ℕ) → Stands c (drop at t) → ⊥)
unfolding char_at
step_bad t at h = (
  λ e c s. let g : Bad ≡ Scalar c (length (encode c)) = sym e ∙ stands_read c (drop at t) s in let z : ◌≡◌ {A = ℕ} 0 1 = cc in absurd (omega arith),
  λ n. none_stands (drop at t) (simp length-drop (omega arith)) n,
)

-- The step answers that the text is at its end exactly where no byte is left.
pub step_end : (t : List ℕ) (at : ℕ) → (char_at t at ≡ End) ↔ (length t ≤ at)
unfolding char_at
step_end t at = (
  λ e. let f : length (drop at t) ≤ 0 = subst (Fit (length (drop at t))) e (fit (drop at t)) in omega (arith, rw length-drop at f),
  λ h. sym (char_end t at h),
)

-- A text is accepted exactly if it is a concatenation of encodings of scalar values ..
pub accepted : (t : List ℕ) → (sound (text_at t 0) ≡ true) ↔ ((cs : List ℕ) × (scalars cs ≡ true) × (encode_all cs ≡ t))
accepted t =
    (λ s. let h = sound_cut t s in (codes (text_at t 0), h.0, h.1), λ w. rw (← w.2) (sound_join w.0 w.1).0)

-- .. and in one way only.
pub one_way : (cs ds : List ℕ) → scalars cs ≡ true → scalars ds ≡ true → encode_all cs ≡ encode_all ds → cs ≡ ds
one_way cs ds s r e =
    sym (sound_join cs s).1 ∙ ap (λ (t : List ℕ). codes (text_at t 0)) e ∙ (sound_join ds r).1

-- ---- blanks
-- There are 25 blanks.
pub blanks_count : length white_space ≡ 25
blanks_count = refl

-- U+001C to 001F, 180E, 200B, 2060 and FEFF are none.
pub never_blank : All (λ (c : ℕ). blank c ≡ false) (0x1C ∷ 0x1D ∷ 0x1E ∷ 0x1F ∷ 0x180E ∷ 0x200B ∷ 0x2060 ∷ 0xFEFF ∷ [])
unfolding blank
never_blank = (refl, (refl, (refl, (refl, (refl, (refl, (refl, (refl, tt))))))))

-- ---- trimming and words
-- Trimming refuses a text exactly if it is not accepted as UTF-8.
pub trim_refuses : (t : List ℕ) → (trim_of t ≡ None) ↔ (sound (text_at t 0) ≡ false)
trim_refuses t = trim_wrong t

-- It leaves the text without the blanks at both ends.
pub trimming : (cs : List ℕ) → scalars cs ≡ true → trimmed (encode_all cs) ≡ encode_all (trim_codes cs)
trimming cs s = trimmed_codes cs s

-- The next word from a place is what stands past the blanks there and up to a blank; there is none if nothing stands there.
pub next_word : (t : List ℕ) (at : ℕ) (cs : List ℕ) → scalars cs ≡ true → drop at t ≡ encode_all cs → ((word_of t at ≡ None) ↔ (word_codes cs ≡ [])) × ((a e : ℕ) → word_of t at ≡ Some (a, e) → take (e - a) (drop a t) ≡ encode_all (word_codes cs))
next_word t at cs s e = (word_none_codes t at cs s e, λ a b h. word_some_codes t at cs s e h)

-- ---- lines
-- The lines are the parts between bytes 0A: joined by them they are the text, none of them holds one, and they are one more than there are.
pub lines : (t : List ℕ) → (join_lines (lines_of t) ≡ t) × All (λ (l : List ℕ). count 0x0A l ≡ 0) (lines_of t) × (length (lines_of t) ≡ suc (count 0x0A t))
lines t = (lines_join t, whole_each (lines_of t) (lines_whole t), lines_count t)

-- ---- numbers
-- A text is a number exactly if it is one optional `+` and one or more digits, whose value is within the limit.
pub number_rule : (limit v : ℕ) (t : List ℕ) → (number_of limit t ≡ Some v) ↔ ((ds : List ℕ) × Numeral ds t × (value ds ≡ v) × (v ≤ limit))
number_rule limit v t =
    (number_out limit t, λ w. number_in limit w.0 t w.1 ∙ rw (w.2, le-leb v limit w.3))

-- Any count of zeros may stand before the digits, with the sign and without.
pub leading_zeros : (n limit : ℕ) (ds : List ℕ) → 0 < length ds → all_digits ds ≡ true → value ds ≤ limit → (number_of limit (zeros n ++ ds) ≡ Some (value ds)) × (number_of limit (0x2B ∷ zeros n ++ ds) ≡ Some (value ds))
leading_zeros n limit ds h d v =
    let l : 0 < length (zeros n ++ ds) = rw length-append (omega arith) in
    let e = zeros_digits n ds ∙ d in
    let q = zeros_value n ds in (
      (number_rule limit (value ds) (zeros n ++ ds)).1 (zeros n ++ ds, (l, e, inl refl), q, v),
      (number_rule limit (value ds) (0x2B ∷ zeros n ++ ds)).1 (zeros n ++ ds, (l, e, inr refl), q, v),
    )

-- The empty text, `+` and `-0` are no numbers.
pub no_numbers : (limit : ℕ) → (number_of limit [] ≡ None) × (number_of limit (0x2B ∷ []) ≡ None) × (number_of limit (0x2D ∷ 0x30 ∷ []) ≡ None)
unfolding number_of digits_at digits_of sign_of all_digits
no_numbers limit = (refl, refl, refl)

-- ---- quotes
-- Quotes at both ends are stripped.
pub quotes : (l : List ℕ) → part_of (0x22 ∷ (l ++ 0x22 ∷ [])) (strip_of (0x22 ∷ (l ++ 0x22 ∷ []))) ≡ l
quotes l = strip_between l

-- A lone quote stays.
pub lone_quote : part_of (0x22 ∷ []) (strip_of (0x22 ∷ [])) ≡ 0x22 ∷ []
unfolding strip_of
lone_quote = refl

-- ---- sectors
-- So many sectors have b bytes exactly if that is 512 times as many, and within 2^64-1; else they are too large.
pub sector_bytes : (s : Sectors) (b : ℕ) → (bytes_of s ≡ Some (record { 0 = b })) ↔ ((s.0 * 512 ≡ b) × (b ≤ 18446744073709551615))
sector_bytes s b = bytes_rule s b

pub sector_large : (s : Sectors) → (bytes_of s ≡ None) ↔ (18446744073709551615 < s.0 * 512)
sector_large s = bytes_large s
