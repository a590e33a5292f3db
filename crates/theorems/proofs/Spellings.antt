-- Trimming, runs and words of a text on its code points alone: the places are the lengths of the encodings before them.
-- So what is cut out between two places is the encodings of the code points between, by recursion on those.
use Rattle.std.specs.Prelude.{None, Some}
use Prim.Native.Nat.{ℕ, ◌+◌, ◌-◌, ◌<◌}
use native.Mathlib.Omega.{arith}
use mathlib.Core.List.{List, [], ◌∷◌, ◌++◌, append_assoc}
use mathlib.Core.Logic.{◌↔◌}
use mathlib.Core.Bool.{Bool, true, false}
use mathlib.Core.Path.{◌≡◌, refl, sym, ap, ◌∙◌}
use lib.ListN.{length, take, drop, length-append}
use lib.Dec.{leb, eqb}
use lib.Seq.{take-append-add, take-append_seam, drop-append_seam, drop-drop}
use borrow.Author.Tests.{eqb-true, eq-eqb}
use Rattle.text.specs.Ranges.{pick}
use Rattle.text.specs.Blank.{blank}
use Rattle.text.specs.Text.{text_at, alike, drop_blanks, last_end, range_of, trim_text, trim_of, cut, trimmed, run_text, run_of, word_in, word_of, run_codes, past_codes, all_blank, end_codes, trim_codes, word_codes}
use Rattle.theorems.specs.Unicode.{scalar, encode, scalars, encode_all}
use Rattle.text.proofs.Flat.{by_test, pair_parts}
use Rattle.theorems.proofs.Sequences.{spell, spelled, spell_sound}

-- how many bytes the encodings of cs have
abbrev width : List ℕ → ℕ
width cs = length (encode_all cs)

width_cons : (c : ℕ) (cs : List ℕ) → width (c ∷ cs) ≡ length (encode c) + width cs
unfolding encode_all
width_cons c cs = length-append (encode c) (encode_all cs)

width_nil : width [] ≡ 0
unfolding encode_all
width_nil = refl

-- ---- runs
-- a run of characters ends behind the encodings of its code points
run_spelled : (w : Bool) (p : ℕ) (cs : List ℕ) → run_text w p (spell p cs) ≡ p + width (run_codes w cs)
unfolding spell run_text run_codes
run_spelled w p [] = omega (arith, width_nil)
run_spelled w p (c ∷ cs) =
    by_test (alike (blank c) w)
    (λ e. rw (e, run_spelled w (p + length (encode c)) cs) (omega (arith, width_cons c (run_codes w cs))))
    (λ e. rw e (omega (arith, width_nil)))

-- the encodings are those of a run and those after it
pub encode_run : (w : Bool) (cs : List ℕ) → encode_all cs ≡ encode_all (run_codes w cs) ++ encode_all (past_codes w cs)
unfolding encode_all run_codes past_codes
encode_run w [] = refl
encode_run w (c ∷ cs) =
    by_test (alike (blank c) w)
    (λ e. rw (e, append_assoc (encode c) (encode_all (run_codes w cs)) (encode_all (past_codes w cs)), ← encode_run w cs))
    (λ e. rw e)

-- what is left behind a run
past_run : (w : Bool) (cs : List ℕ) → drop (0 + width (run_codes w cs)) (encode_all cs) ≡ encode_all (past_codes w cs)
past_run w cs =
    let q : 0 + width (run_codes w cs) ≡ width (run_codes w cs) = omega arith in
    rw (q, encode_run w cs, drop-append_seam (encode_all (run_codes w cs)) (encode_all (past_codes w cs)))

-- ---- trimming
-- past the blanks in front
drop_spelled : (p : ℕ) (cs : List ℕ) → drop_blanks (spell p cs) ≡ spell (p + width (run_codes true cs)) (past_codes true cs)
unfolding spell drop_blanks run_codes past_codes
drop_spelled p [] = refl
drop_spelled p (c ∷ cs) =
    by_test (blank c)
    (λ e. let q : p + length (encode c) + width (run_codes true cs) ≡ p + width (c ∷ run_codes true cs) = omega (arith, width_cons c (run_codes true cs)) in
    rw (e, drop_spelled (p + length (encode c)) cs, q))
    (λ e. let q : p + width [] ≡ p = omega (arith, width_nil) in rw (e, q))

pub end_blank : (cs : List ℕ) → all_blank cs ≡ true → end_codes cs ≡ []
unfolding end_codes
end_blank [] e = refl
end_blank (c ∷ cs) e = rw e

all_done : (l p : ℕ) → l ≡ pick (all_blank []) l (p + width (end_codes []))
unfolding all_blank
all_done l p = refl

-- the end of the last character that is no blank, of one character more
last_cons : (l p c : ℕ) (cs : List ℕ) → pick (all_blank cs) (pick (blank c) l (p + length (encode c))) (p + length (encode c) + width (end_codes cs)) ≡ pick (all_blank (c ∷ cs)) l (p + width (end_codes (c ∷ cs)))
unfolding all_blank end_codes
last_cons l p c cs =
    let q : p + length (encode c) + width (end_codes cs) ≡ p + width (c ∷ end_codes cs) = omega (arith, width_cons c (end_codes cs)) in
    by_test (all_blank cs)
    (λ f. by_test (blank c)
    (λ e. rw (e, f))
    (λ e. let z : width (end_codes cs) ≡ 0 = rw (end_blank cs f) width_nil in
    let q₂ : p + length (encode c) ≡ p + width (c ∷ end_codes cs) = omega arith in
    rw (e, f, q₂)))
    (λ f. by_test (blank c) (λ e. rw (e, f, q)) (λ e. rw (e, f, q)))

last_spelled : (l p : ℕ) (cs : List ℕ) → last_end l (spell p cs) ≡ pick (all_blank cs) l (p + width (end_codes cs))
unfolding spell last_end
last_spelled l p [] = all_done l p
last_spelled l p (c ∷ cs) = last_spelled (pick (blank c) l (p + length (encode c))) (p + length (encode c)) cs ∙ last_cons l p c cs

-- the range of characters of which the first is no blank
range_spelled : (p c : ℕ) (cs : List ℕ) → blank c ≡ false → range_of (spell p (c ∷ cs)) ≡ Some (p, p + width (end_codes (c ∷ cs)))
unfolding spell all_blank
range_spelled p c cs e =
    ap (λ z. Some (p, z)) (last_spelled (p + length (encode c)) (p + length (encode c)) cs ∙ (rw e at (last_cons 0 p c cs)))

-- the first, if there is one, is no blank
abbrev pub Open : List ℕ → Type 0
Open [] = Unit {0}
Open (c ∷ cs) = blank c ≡ false

pub past_open : (cs : List ℕ) → Open (past_codes true cs)
unfolding past_codes
past_open [] = tt
past_open (c ∷ cs) = by_test (blank c) (λ e. rw e (past_open cs)) (λ e. rw e e)

take_end : (cs : List ℕ) → take (width (end_codes cs)) (encode_all cs) ≡ encode_all (end_codes cs)
unfolding end_codes encode_all
take_end [] = refl
take_end (c ∷ cs) =
    by_test (all_blank (c ∷ cs))
    (λ e. rw e)
    (λ e. rw (e, length-append (encode c) (encode_all (end_codes cs)), take-append-add (encode c) (encode_all cs) (width (end_codes cs)), take_end cs))

none : (t : List ℕ) (p : ℕ) → cut t (range_of (spell p [])) ≡ encode_all (end_codes [])
unfolding spell end_codes encode_all
none t p = refl

cut_spelled : (t : List ℕ) (p : ℕ) (cs : List ℕ) → Open cs → drop p t ≡ encode_all cs → cut t (range_of (spell p cs)) ≡ encode_all (end_codes cs)
cut_spelled t p [] o e = none t p
cut_spelled t p (c ∷ cs) o e =
    let q : p + width (end_codes (c ∷ cs)) - p ≡ width (end_codes (c ∷ cs)) = omega arith in
    rw (range_spelled p c cs o, q, e, take_end (c ∷ cs))

-- trimming leaves the encodings of the code points without the blanks at both ends
pub trimmed_codes : (cs : List ℕ) → scalars cs ≡ true → trimmed (encode_all cs) ≡ encode_all (trim_codes cs)
unfolding trimmed trim_of trim_text text_at
trimmed_codes cs s =
    rw (spelled cs 0 s, spell_sound 0 cs, drop_spelled 0 cs)
    (cut_spelled (encode_all cs) (0 + width (run_codes true cs)) (past_codes true cs) (past_open cs) (past_run true cs))

-- and what it leaves begins behind the blanks in front, if it leaves anything
range_place : (p : ℕ) (cs : List ℕ) → Open cs → 0 < width (end_codes cs) → {a e : ℕ} → range_of (spell p cs) ≡ Some (a, e) → a ≡ p
range_place p [] o h q = absurd (omega (arith, ap width (end_blank [] (unfold all_blank in refl)), width_nil))
range_place p (c ∷ cs) o h {a} {e} q =
    let g : Some (p, p + width (end_codes (c ∷ cs))) ≡ Some (a, e) = sym (range_spelled p c cs o) ∙ q in sym (pair_parts g).0

pub trim_place : (cs : List ℕ) → scalars cs ≡ true → 0 < length (encode_all (trim_codes cs)) → {a e : ℕ} → trim_of (encode_all cs) ≡ Some (a, e) → a ≡ width (run_codes true cs)
unfolding trim_of trim_text text_at
trim_place cs s h q =
    let z : 0 + width (run_codes true cs) ≡ width (run_codes true cs) = omega arith in
    range_place (0 + width (run_codes true cs)) (past_codes true cs) (past_open cs) h (rw (spelled cs 0 s, spell_sound 0 cs, drop_spelled 0 cs) at q) ∙ z

-- ---- words
scalars_tail : (c : ℕ) (cs : List ℕ) → scalars (c ∷ cs) ≡ true → scalars cs ≡ true
unfolding scalars
scalars_tail c cs s =
    by_test (scalar c) (λ e. rw e at s)
    (λ e. let g : false ≡ true = rw e at s in let z : ◌≡◌ {A = ℕ} 0 1 = cc in absurd (omega arith))

pub past_scalars : (w : Bool) (cs : List ℕ) → scalars cs ≡ true → scalars (past_codes w cs) ≡ true
unfolding past_codes scalars
past_scalars w [] s = refl
past_scalars w (c ∷ cs) s =
    by_test (alike (blank c) w)
    (λ e. rw e (past_scalars w cs (scalars_tail c cs s)))
    (λ e. rw e s)

pub encode_some : (c : ℕ) → 0 < length (encode c)
unfolding encode
encode_some c =
    by_test (leb c 0x7F) (λ e. rw e (omega arith))
    (λ e. by_test (leb c 0x7FF) (λ f. rw (e, f) (omega arith))
    (λ f. by_test (leb c 0xFFFF) (λ g. rw (e, f, g) (omega arith)) (λ g. rw (e, f, g) (omega arith))))

width_zero : (cs : List ℕ) → width cs ≡ 0 → cs ≡ []
width_zero [] h = refl
width_zero (c ∷ cs) h = absurd (omega (arith, width_cons c cs, encode_some c))

-- a text that goes on from a place with the encodings of scalar values
module _ (t : List ℕ) (at : ℕ) (cs : List ℕ) (s : scalars cs ≡ true) (e : drop at t ≡ encode_all cs) where
  pub run_codes_lem : (w : Bool) → run_of w t at ≡ at + width (run_codes w cs)
  unfolding run_of text_at
  run_codes_lem w = rw (e, spelled cs at s) (run_spelled w at cs)

  pub run_past : (w : Bool) → drop (at + width (run_codes w cs)) t ≡ encode_all (past_codes w cs)
  run_past w = rw (← drop-drop (width (run_codes w cs)) at t, e, encode_run w cs) (drop-append_seam (encode_all (run_codes w cs)) (encode_all (past_codes w cs)))

module _ (t : List ℕ) (at : ℕ) (cs : List ℕ) (s : scalars cs ≡ true) (e : drop at t ≡ encode_all cs) where
  abbrev start : ℕ
  start = at + width (run_codes true cs)

  word_at : word_of t at ≡ word_in start (start + width (word_codes cs))
  unfolding word_of
  word_at =
      rw (run_codes_lem t at cs s e true, run_codes_lem t start (past_codes true cs) (past_scalars true cs s) (run_past t at cs s e true) false)

  -- there is none exactly if only blanks are left in front of the end
  pub word_none_codes : (word_of t at ≡ None) ↔ (word_codes cs ≡ [])
  word_none_codes = (
    λ h. by_test (eqb start (start + width (word_codes cs)))
        (λ f. width_zero (word_codes cs) (omega (arith, eqb-true start (start + width (word_codes cs)) f)))
        (λ f. let g : Some (start, start + width (word_codes cs)) ≡ None = sym (rw f at word_at) ∙ h in let z : ◌≡◌ {A = ℕ} 0 1 = cc in absurd (omega arith)),
    λ h. let z : width (word_codes cs) ≡ 0 = rw h width_nil in
        rw (word_at, eq-eqb start (start + width (word_codes cs)) (omega arith)),
  )

  -- what is cut out is its encodings
  pub word_some_codes : {a b : ℕ} → word_of t at ≡ Some (a, b) → take (b - a) (drop a t) ≡ encode_all (word_codes cs)
  word_some_codes {a} {b} h =
      by_test (eqb start (start + width (word_codes cs)))
      (λ f. let g : None ≡ Some (a, b) = sym (rw f at word_at) ∙ h in let z : ◌≡◌ {A = ℕ} 0 1 = cc in absurd (omega arith))
      (λ f. let g : Some (start, start + width (word_codes cs)) ≡ Some (a, b) = sym (rw f at word_at) ∙ h in
      let k = pair_parts g in
      let p : start ≡ a = k.0 in
      let q : start + width (word_codes cs) ≡ b = k.1 in
      let n : start + width (word_codes cs) - start ≡ width (word_codes cs) = omega arith in
      rw (← q, ← p, n, run_past t at cs s e true, encode_run false (past_codes true cs))
      (take-append_seam (encode_all (word_codes cs)) (encode_all (past_codes false (past_codes true cs)))))
