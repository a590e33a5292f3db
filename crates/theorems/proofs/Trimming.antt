-- What trimming takes away is blanks, so blanks that are put before or behind a text change nothing of what it leaves.
-- A byte of ASCII stands in a sound text only as a character of its own, so a cut there leaves sound texts, and no blank holds it.
use Rattle.std.specs.Prelude.{None, Some}
use Prim.Native.Nat.{ℕ, suc, ◌+◌, ◌/◌, ◌≤◌, ◌<◌}
use native.Mathlib.Omega.{arith}
use mathlib.Core.List.{List, [], ◌∷◌, ◌++◌, append_assoc}
use mathlib.Core.Bool.{Bool, true, false}
use mathlib.Core.Path.{◌≡◌, refl, sym, ap, ◌∙◌}
use lib.ListN.{length, drop, length-append}
use lib.Dec.{leb, eqb}
use borrow.Author.Tests.{eq-eqb, ne_eqb, eqb-true, le-leb, leb-false}
use Rattle.text.specs.Ranges.{pick}
use Rattle.text.specs.Blank.{blank}
use Rattle.text.specs.Find.{find_from}
use Rattle.text.specs.Lines.{count}
use Rattle.text.specs.Text.{alike, text_at, sound, trim_of, trimmed, run_of, word_of, run_codes, past_codes, all_blank, end_codes, trim_codes, word_codes}
use Rattle.text.specs.inside.Codes.{codes}
use Rattle.theorems.specs.Unicode.{scalar, encode, trailing, scalars, encode_all}
use Rattle.text.proofs.Flat.{by_test}
use Rattle.theorems.proofs.Sequences.{sound_cut}
use Rattle.theorems.proofs.Spellings.{end_blank, Open, past_open, trimmed_codes, trim_place, encode_run, past_scalars, encode_some, run_codes_lem, run_past as codes-past, word_none_codes}

-- ---- the code points of a text, and those that trimming takes away
pub encode_append : (xs bs : List ℕ) → encode_all (xs ++ bs) ≡ encode_all xs ++ encode_all bs
unfolding encode_all
encode_append [] bs = refl
encode_append (x ∷ xs) bs = rw (encode_append xs bs, append_assoc (encode x) (encode_all xs) (encode_all bs))

pub scalars_split : (xs bs : List ℕ) → scalars (xs ++ bs) ≡ true → (scalars xs ≡ true) × (scalars bs ≡ true)
unfolding scalars
scalars_split [] bs s = (refl, s)
scalars_split (x ∷ xs) bs s =
    by_test (scalar x) (λ e. rw e (scalars_split xs bs (rw e at s)))
    (λ e. let g : false ≡ true = rw e at s in let z : ◌≡◌ {A = ℕ} 0 1 = cc in absurd (omega arith))

run_past : (w : Bool) (cs : List ℕ) → run_codes w cs ++ past_codes w cs ≡ cs
unfolding run_codes past_codes
run_past w [] = refl
run_past w (c ∷ cs) = by_test (alike (blank c) w) (λ e. rw (e, run_past w cs)) (λ e. rw e)

run_blank : (cs : List ℕ) → all_blank (run_codes true cs) ≡ true
unfolding run_codes all_blank
run_blank [] = refl
run_blank (c ∷ cs) = by_test (blank c) (λ e. rw (e, e, run_blank cs)) (λ e. rw e)

-- the blanks at the end
tail_codes : List ℕ → List ℕ
tail_codes [] = []
tail_codes (c ∷ cs) = pick (all_blank (c ∷ cs)) (c ∷ cs) (tail_codes cs)

end_tail : (cs : List ℕ) → end_codes cs ++ tail_codes cs ≡ cs
unfolding end_codes tail_codes
end_tail [] = refl
end_tail (c ∷ cs) = by_test (all_blank (c ∷ cs)) (λ e. rw e) (λ e. rw (e, end_tail cs))

nothing_blank : all_blank [] ≡ true
unfolding all_blank
nothing_blank = refl

tail_blank : (cs : List ℕ) → all_blank (tail_codes cs) ≡ true
unfolding tail_codes
tail_blank [] = nothing_blank
tail_blank (c ∷ cs) = by_test (all_blank (c ∷ cs)) (λ e. rw e e) (λ e. rw e (tail_blank cs))

blank_append : (cs bs : List ℕ) → all_blank bs ≡ true → all_blank (cs ++ bs) ≡ all_blank cs
unfolding all_blank
blank_append [] bs h = h
blank_append (c ∷ cs) bs h = rw (blank_append cs bs h)

past_blank : (cs : List ℕ) → all_blank cs ≡ true → past_codes true cs ≡ []
unfolding past_codes all_blank
past_blank [] h = refl
past_blank (c ∷ cs) h =
    by_test (blank c) (λ e. rw e (past_blank cs (rw e at h)))
    (λ e. let g : false ≡ true = rw e at h in let z : ◌≡◌ {A = ℕ} 0 1 = cc in absurd (omega arith))

front_codes : (fs cs : List ℕ) → all_blank fs ≡ true → past_codes true (fs ++ cs) ≡ past_codes true cs
unfolding past_codes all_blank
front_codes [] cs h = refl
front_codes (f ∷ fs) cs h =
    by_test (blank f) (λ e. rw e (front_codes fs cs (rw e at h)))
    (λ e. let g : false ≡ true = rw e at h in let z : ◌≡◌ {A = ℕ} 0 1 = cc in absurd (omega arith))

end_cons : (c : ℕ) (cs bs : List ℕ) → all_blank bs ≡ true → end_codes (cs ++ bs) ≡ end_codes cs → end_codes (c ∷ cs ++ bs) ≡ end_codes (c ∷ cs)
unfolding end_codes
end_cons c cs bs h e = rw (blank_append (c ∷ cs) bs h, e)

end_append : (cs bs : List ℕ) → all_blank bs ≡ true → end_codes (cs ++ bs) ≡ end_codes cs
end_append [] bs h = end_blank bs h ∙ sym (end_blank [] nothing_blank)
end_append (c ∷ cs) bs h = end_cons c cs bs h (end_append cs bs h)

back_codes : (cs bs : List ℕ) → all_blank bs ≡ true → trim_codes (cs ++ bs) ≡ trim_codes cs
unfolding past_codes
back_codes [] bs h = rw (past_blank bs h)
back_codes (c ∷ cs) bs h =
    by_test (blank c) (λ e. rw e (back_codes cs bs h)) (λ e. rw e (end_append (c ∷ cs) bs h))

-- with the first, if it is no blank, the rest is trimmed at its end
end_firm : (c : ℕ) (cs : List ℕ) → blank c ≡ false → end_codes (c ∷ cs) ≡ c ∷ end_codes cs
unfolding end_codes all_blank
end_firm c cs h = rw h

firm_end : (cs : List ℕ) → Open cs → Open (end_codes cs)
firm_end [] h = rw (end_blank [] nothing_blank) tt
firm_end (c ∷ cs) h = rw (end_firm c cs h) h

-- nothing is left to take away at the end
end_twice : (cs : List ℕ) → end_codes (end_codes cs) ≡ end_codes cs
unfolding end_codes all_blank
end_twice [] = refl
end_twice (c ∷ cs) =
    let q : all_blank (end_codes cs) ≡ all_blank cs = sym (blank_append (end_codes cs) (tail_codes cs) (tail_blank cs)) ∙ ap all_blank (end_tail cs) in
    by_test (all_blank (c ∷ cs)) (λ e. rw e) (λ e. rw (e, q, e, end_twice cs))

-- ---- blanks before a text, and behind it
-- a text's code points, with the blanks at both ends apart
pub record Trimming (t : List ℕ) : Type 0 where
  pub front : List ℕ
  pub middle : List ℕ
  pub back : List ℕ
  pub blanks : (all_blank front ≡ true) × (all_blank back ≡ true)
  pub all_scalars : scalars (front ++ (middle ++ back)) ≡ true
  pub whole : t ≡ encode_all (front ++ (middle ++ back))
  pub left : trimmed t ≡ encode_all middle
  pub firm : Open middle
  pub shut : end_codes middle ≡ middle
  pub place : 0 < length (trimmed t) → {a e : ℕ} → trim_of t ≡ Some (a, e) → a ≡ length (encode_all front)

pub trim_parts : (t : List ℕ) → sound (text_at t 0) ≡ true → Trimming t
trim_parts t h =
    let cs : List ℕ = codes (text_at t 0) in
    let s = sound_cut t h in
    let q : run_codes true cs ++ (trim_codes cs ++ tail_codes (past_codes true cs)) ≡ cs = rw (end_tail (past_codes true cs)) (run_past true cs) in
    record {
      front = run_codes true cs;
      middle = trim_codes cs;
      back = tail_codes (past_codes true cs);
      blanks = (run_blank cs, tail_blank (past_codes true cs));
      all_scalars = rw q s.0;
      whole = rw (q, s.1);
      left = ap trimmed (sym s.1) ∙ trimmed_codes cs s.0;
      firm = firm_end (past_codes true cs) (past_open cs);
      shut = end_twice (past_codes true cs);
      place = λ h k. trim_place cs s.0 (rw (← trimmed_codes cs s.0, s.1) h) (ap trim_of s.1 ∙ k);
    }

pub trim_front : (fs cs : List ℕ) → scalars (fs ++ cs) ≡ true → all_blank fs ≡ true → trimmed (encode_all (fs ++ cs)) ≡ trimmed (encode_all cs)
trim_front fs cs s h =
    trimmed_codes (fs ++ cs) s ∙ rw (front_codes fs cs h) (sym (trimmed_codes cs (scalars_split fs cs s).1))

pub trim_back : (cs bs : List ℕ) → scalars (cs ++ bs) ≡ true → all_blank bs ≡ true → trimmed (encode_all (cs ++ bs)) ≡ trimmed (encode_all cs)
trim_back cs bs s h =
    trimmed_codes (cs ++ bs) s ∙ rw (back_codes cs bs h) (sym (trimmed_codes cs (scalars_split cs bs s).0))

nothing_trimmed : trimmed (encode_all []) ≡ []
unfolding past_codes end_codes encode_all scalars
nothing_trimmed = trimmed_codes [] refl

-- trimming keeps a first character that is no blank
trim_firm : (c : ℕ) (cs : List ℕ) → blank c ≡ false → scalars (c ∷ cs) ≡ true → trimmed (encode_all (c ∷ cs)) ≡ encode c ++ encode_all (end_codes cs)
unfolding past_codes encode_all
trim_firm c cs h s = trimmed_codes (c ∷ cs) s ∙ rw (h, end_firm c cs h)

head_same : (k x y : List ℕ) {b : ℕ} {r : List ℕ} → 0 < length k → k ++ x ≡ b ∷ r → (q : List ℕ) × (k ++ y ≡ b ∷ q)
head_same [] x y h e = absurd (omega arith)
head_same (a ∷ k) x y {b} {r} h e = let f : a ≡ b = cc in (k ++ y, rw f)

-- so a text starts as what trimming leaves of a part in front of it
pub first_byte : (cs ds : List ℕ) {b : ℕ} {r : List ℕ} → Open (cs ++ ds) → scalars cs ≡ true → trimmed (encode_all cs) ≡ b ∷ r → (q : List ℕ) × (encode_all (cs ++ ds) ≡ b ∷ q)
unfolding encode_all
first_byte [] ds {b} {r} f s e = let g : [] ≡ b ∷ r = sym nothing_trimmed ∙ e in let z : ◌≡◌ {A = ℕ} 0 1 = cc in absurd (omega arith)
first_byte (c ∷ cs) ds f s e =
    head_same (encode c) (encode_all (end_codes cs)) (encode_all (cs ++ ds)) (encode_some c) (sym (trim_firm c cs f s) ∙ e)

-- ---- the second word
-- only blanks are left where there is no word
none_blank : (cs : List ℕ) → word_codes cs ≡ [] → all_blank cs ≡ true
unfolding run_codes past_codes all_blank
none_blank [] h = refl
none_blank (c ∷ cs) h =
    by_test (blank c) (λ e. rw e (none_blank cs (rw e at h)))
    (λ e. let g : c ∷ run_codes false cs ≡ [] = rw (e, e) at h in let z : ◌≡◌ {A = ℕ} 0 1 = cc in absurd (omega arith))

no_width : (n : ℕ) (rest : List ℕ) → length rest ≡ 0 → n + length (encode_all rest) ≡ n
unfolding encode_all
no_width n [] z = omega arith
no_width n (c ∷ rest) z = absurd (omega arith)

-- a text that does not end in a blank has a word behind its first blank
pub second_there : (ms t : List ℕ) → scalars ms ≡ true → end_codes ms ≡ ms → t ≡ encode_all ms → run_of false t 0 < length t → word_of t (run_of false t 0) ≡ None → ⊥
second_there ms t s f e h n =
    let e₂ : drop 0 t ≡ encode_all ms = e in
    let run : List ℕ = run_codes false ms in
    let rest : List ℕ = past_codes false ms in
    let at = run_codes_lem t 0 ms s e₂ false in
    let b = none_blank rest ((word_none_codes t (0 + length (encode_all run)) rest (past_scalars false ms s) (codes-past t 0 ms s e₂ false)).0 (rw at at n)) in
    let q : ms ≡ end_codes run = sym f ∙ ap end_codes (sym (run_past false ms)) ∙ end_append run rest b in
    let l₁ : length run + length rest ≡ length ms = sym (length-append run rest) ∙ ap length (run_past false ms) in
    let l₂ : length (end_codes run) + length (tail_codes run) ≡ length run = sym (length-append (end_codes run) (tail_codes run)) ∙ ap length (end_tail run) in
    let z : length rest ≡ 0 = omega (arith, ap length q) in
    let w : length t ≡ length (encode_all run) = ap length (e ∙ encode_run false ms) ∙ length-append (encode_all run) (encode_all rest) ∙ no_width (length (encode_all run)) rest z in
    omega arith

-- ---- a byte of ASCII in a sound text
module _ (b : ℕ) (low : b ≤ 0x7F) where
  encode_low : encode b ≡ b ∷ []
  unfolding encode
  encode_low = rw (le-leb b 0x7F low)

  -- a cut there is one of the encodings
  pub encode_cut : (xs bs : List ℕ) → encode_all (xs ++ b ∷ bs) ≡ encode_all xs ++ b ∷ encode_all bs
  unfolding encode_all
  encode_cut [] bs = rw encode_low
  encode_cut (x ∷ xs) bs = rw (encode_cut xs bs, append_assoc (encode x) (encode_all xs) (b ∷ encode_all bs))

  -- the encoding of another character does not hold it
  other_count : (c : ℕ) (r : List ℕ) → eqb c b ≡ false → count b (encode c ++ r) ≡ count b r
  unfolding encode count
  other_count c r h =
      by_test (leb c 0x7F) (λ e. rw (e, h))
      (λ e. let x = leb-false c 0x7F e in
      let t₁ : b < trailing c = omega arith in
      let t₂ : b < trailing (c / 64) = omega arith in
      let t₃ : b < trailing (c / 4096) = omega arith in
      by_test (leb c 0x7FF) (λ f. rw (e, f, ne_eqb (0xC0 + c / 64) b (omega arith), ne_eqb (trailing c) b (omega arith)))
      (λ f. by_test (leb c 0xFFFF)
      (λ g. rw (e, f, g, ne_eqb (0xE0 + c / 4096) b (omega arith), ne_eqb (trailing (c / 64)) b (omega arith), ne_eqb (trailing c) b (omega arith)))
      (λ g. rw (e, f, g, ne_eqb (0xF0 + c / 262144) b (omega arith), ne_eqb (trailing (c / 4096)) b (omega arith), ne_eqb (trailing (c / 64)) b (omega arith), ne_eqb (trailing c) b (omega arith)))))

  -- no blank holds it, if it is none
  pub blanks_free : (cs : List ℕ) → blank b ≡ false → all_blank cs ≡ true → count b (encode_all cs) ≡ 0
  unfolding encode_all all_blank count
  blanks_free [] n h = refl
  blanks_free (c ∷ cs) n h =
      by_test (blank c)
      (λ e. by_test (eqb c b)
      (λ f. let q : c ≡ b = eqb-true c b f in let g : true ≡ false = sym e ∙ ap blank q ∙ n in let z : ◌≡◌ {A = ℕ} 0 1 = cc in absurd (omega arith))
      (λ f. other_count c (encode_all cs) f ∙ blanks_free cs n (rw e at h)))
      (λ e. let g : false ≡ true = rw e at h in let z : ◌≡◌ {A = ℕ} 0 1 = cc in absurd (omega arith))

  -- code points hold it, and are cut at the first, or their encodings do not
  pub cut_at : {C : Type 0} (cs : List ℕ) → (count b (encode_all cs) ≡ 0 → C) → ((xs bs : List ℕ) → cs ≡ xs ++ b ∷ bs → count b (encode_all xs) ≡ 0 → C) → C
  unfolding encode_all count
  cut_at [] f g = f refl
  cut_at (c ∷ cs) f g =
      by_test (eqb c b)
      (λ e. let q : c ≡ b = eqb-true c b e in g [] cs (rw q) refl)
      (λ e. cut_at cs (λ h. f (other_count c (encode_all cs) e ∙ h)) (λ xs bs q h. g (c ∷ xs) bs (rw q) (other_count c (encode_all xs) e ∙ h)))

-- ---- finding a byte behind bytes that are others
pub count_append : (b : ℕ) (l r : List ℕ) → count b l ≡ 0 → count b r ≡ 0 → count b (l ++ r) ≡ 0
unfolding count
count_append b [] r h k = k
count_append b (x ∷ l) r h k =
    by_test (eqb x b) (λ e. let g : suc (count b l) ≡ 0 = rw e at h in absurd (omega arith))
    (λ e. rw e (count_append b l r (rw e at h) k))

pub count_cut : (b : ℕ) (l r : List ℕ) → count b (l ++ b ∷ r) ≡ suc (count b l + count b r)
unfolding count
count_cut b [] r = let z : 0 + count b r ≡ count b r = omega arith in rw (eq-eqb b b refl, z)
count_cut b (x ∷ l) r =
    by_test (eqb x b) (λ e. rw (e, count_cut b l r) (omega arith)) (λ e. rw (e, count_cut b l r))

pub find_none : (b p : ℕ) (l : List ℕ) → count b l ≡ 0 → find_from b p l ≡ None
unfolding find_from count
find_none b p [] h = refl
find_none b p (x ∷ r) h =
    by_test (eqb x b) (λ e. let g : suc (count b r) ≡ 0 = rw e at h in absurd (omega arith))
    (λ e. rw e (find_none b (suc p) r (rw e at h)))

pub find_behind : (b p : ℕ) (l r : List ℕ) → count b l ≡ 0 → find_from b p (l ++ b ∷ r) ≡ Some (p + length l)
unfolding find_from count
find_behind b p [] r h = let q : p ≡ p + 0 = omega arith in rw (eq-eqb b b refl, ← q)
find_behind b p (x ∷ l) r h =
    by_test (eqb x b) (λ e. let g : suc (count b l) ≡ 0 = rw e at h in absurd (omega arith))
    (λ e. let q : suc p + length l ≡ p + suc (length l) = omega arith in rw e (find_behind b (suc p) l r (rw e at h) ∙ ap Some q))
