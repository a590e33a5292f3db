-- The characters of a text are read one after the other, each step an encoding, so what is read is the text's one cut into encodings.
-- Forth by recursion on the bytes, with those of a character still to be passed over; back by recursion on the code points.
use Prim.Native.Nat.{ℕ, zero, suc, ◌+◌, ◌-◌, ◌≤◌, ◌<◌}
use native.Mathlib.Omega.{arith}
use mathlib.Core.List.{List, [], ◌∷◌, ◌++◌}
use mathlib.Core.Bool.{true, false}
use mathlib.Core.Path.{◌≡◌, refl, sym, ap, subst, ◌∙◌}
use lib.ListN.{length, drop}
use lib.Seq.{drop-nil, drop-append_seam}
use Rattle.text.specs.Utf8.{char_of}
use Rattle.text.specs.Text.{Text, done, char, put, text_from, text_at, sound}
use Rattle.text.specs.inside.Codes.{codes}
use Rattle.theorems.specs.Unicode.{scalar, encode, scalars, encode_all}
use Rattle.text.specs.declared.utf8.Char.{Char}
use Rattle.text.specs.declared.utf8.Char.TheVariants.{Scalar, Bad, End}
use Rattle.text.proofs.Flat.{by_test}
use Rattle.text.proofs.Texts.{Fit, fit, after}
use Rattle.theorems.proofs.Encodings.{read_encoding, encoding_read, begins_split}

-- if all of x is sound, its code points are scalar values, and the bytes l their encodings
abbrev Cut : Text → List ℕ → Type 0
Cut x l = sound x ≡ true → (scalars (codes x) ≡ true) × (encode_all (codes x) ≡ l)

cut_put : (p b : ℕ) (r : List ℕ) (x : Char) → char_of (b ∷ r) ≡ x → ((k : ℕ) → k ≤ length r → Cut (text_from (suc p) k r) (drop k r)) → Cut (put p x (λ k. text_from (suc p) k r)) (b ∷ r)
unfolding sound codes scalars encode_all
cut_put p b r (Scalar c zero) e g s = let f : (0 < 0) × (0 ≤ length (b ∷ r)) = subst (Fit (length (b ∷ r))) e (fit (b ∷ r)) in absurd (omega arith)
cut_put p b r (Scalar c (suc w)) e g s =
    let f : (0 < suc w) × (suc w ≤ length (b ∷ r)) = subst (Fit (length (b ∷ r))) e (fit (b ∷ r)) in
    let q = read_encoding (b ∷ r) e in
    let n : suc w - 1 ≡ w = omega arith in
    let h = g w (omega arith) (rw n at s) in
    let m : b ∷ r ≡ encode c ++ drop w r = begins_split (b ∷ r) (encode c) q.1.1 ∙ ap (λ (n : ℕ). encode c ++ drop n (b ∷ r)) (sym q.0) in
    rw n (rw q.1.0 h.0, rw h.1 (sym m))
cut_put p b r Bad e g s = let z : ◌≡◌ {A = ℕ} 0 1 = cc in absurd (omega arith)
cut_put p b r End e g s = let f : length (b ∷ r) ≤ 0 = subst (Fit (length (b ∷ r))) e (fit (b ∷ r)) in absurd (omega arith)

cuts : (p k : ℕ) (l : List ℕ) → k ≤ length l → Cut (text_from p k l) (drop k l)
unfolding text_from codes scalars encode_all
cuts p k [] h = rw drop-nil (λ s. (refl, refl))
cuts p (suc k) (b ∷ r) h = cuts (suc p) k r (omega arith)
cuts p zero (b ∷ r) h = cut_put p b r (char_of (b ∷ r)) refl (λ k m. cuts (suc p) k r m)

-- a sound text is the encodings of its code points, which are scalar values
pub sound_cut : (t : List ℕ) → Cut (text_at t 0) t
unfolding text_at
sound_cut t = cuts 0 0 t (omega arith)

wide : (c : ℕ) (l : List ℕ) → scalar c ≡ true → (0 < length (encode c)) × (length (encode c) ≤ length (encode c ++ l))
wide c l s = subst (Fit (length (encode c ++ l))) (encoding_read c l s) (fit (encode c ++ l))

-- the characters of the encodings of cs, from the place p on
unfoldable pub spell : ℕ → List ℕ → Text
spell p [] = done
spell p (c ∷ cs) = char p (p + length (encode c)) c (spell (p + length (encode c)) cs)

nothing : (p : ℕ) → text_from p 0 [] ≡ done
unfolding text_from
nothing p = refl

-- encodings of scalar values are read as those values
pub spelled : (cs : List ℕ) (p : ℕ) → scalars cs ≡ true → text_from p 0 (encode_all cs) ≡ spell p cs
unfolding scalars encode_all spell
spelled [] p s = nothing p
spelled (c ∷ cs) p s =
    by_test (scalar c)
    (λ e. let n : ℕ = length (encode c) in
    let m = after p (encode c ++ encode_all cs) c n (sym (encoding_read c (encode_all cs) e)) (wide c (encode_all cs) e) in
    rw (m, drop-append_seam (encode c) (encode_all cs), spelled cs (p + n) (rw e at s)))
    (λ e. let g : false ≡ true = rw e at s in let z : ◌≡◌ {A = ℕ} 0 1 = cc in absurd (omega arith))

pub spell_sound : (p : ℕ) (cs : List ℕ) → sound (spell p cs) ≡ true
unfolding spell sound
spell_sound p [] = refl
spell_sound p (c ∷ cs) = spell_sound (p + length (encode c)) cs

spell_codes : (p : ℕ) (cs : List ℕ) → codes (spell p cs) ≡ cs
unfolding spell codes
spell_codes p [] = refl
spell_codes p (c ∷ cs) = rw (spell_codes (p + length (encode c)) cs)

-- the encodings of scalar values are a sound text, whose code points they are
pub sound_join : (cs : List ℕ) → scalars cs ≡ true → (sound (text_at (encode_all cs) 0) ≡ true) × (codes (text_at (encode_all cs) 0) ≡ cs)
unfolding text_at
sound_join cs s = rw (spelled cs 0 s) (spell_sound 0 cs, spell_codes 0 cs)
