-- A line passes or answers by its text before the first `=`, if it is UTF-8; one that is not answers no.
-- So probing says yes exactly if the first line that does not pass says a version from 1 to 3.
use Rattle.std.specs.Prelude.{None, Option, Some}
use Prim.Native.Nat.{ℕ, ◌≤◌}
use native.Mathlib.Omega.{arith}
use mathlib.Core.List.{List, [], ◌∷◌, ◌++◌}
use mathlib.Core.Logic.{◌↔◌, ◌⊎◌, inl, inr}
use mathlib.Core.Bool.{true, false}
use mathlib.Core.Path.{◌≡◌, refl, ap, ◌∙◌}
use lib.ListN.{length}
use lib.Dec.{leb, ltb}
use borrow.Author.Tests.{le-ltb, ltb-false, leb-true}
use Rattle.text.specs.Ascii.{ascii}
use Rattle.text.specs.Find.{find_at, same, begins}
use Rattle.text.specs.Lines.{count, lines_of}
use Rattle.text.specs.Number.{number_of}
use Rattle.text.specs.Ranges.{pick}
use Rattle.text.specs.Text.{text_at, sound, trim_of, trimmed}
use Rattle.text.proofs.Finds.{same_is}
use Rattle.text.proofs.Flat.{by_test, within_in}
use Rattle.text.proofs.Trims.{trim_wrong}
use Rattle.lines.specs.Line.{version_limit}
use Rattle.lines.specs.Record.{most_bytes}
use Rattle.descriptor.specs.Read.{least_bytes, sparse}
use Rattle.probing.specs.Probe.{verdict_of, probe_key, probe_line, probe_lines, probe_of}
use Rattle.theorems.specs.Probing.{VersionLine, PassedOver, OneToThree, FirstSays}
use Rattle.theorems.specs.Tiling.{All}
use Rattle.theorems.proofs.KeyLines.{cut_by}
use Rattle.theorems.proofs.Versions.{key_probed, key_passed}

-- ---- one line
text_probed : (l : List ℕ) (r : Option (ℕ × ℕ)) → trim_of l ≡ r → sound (text_at l 0) ≡ true → probe_line l ≡ probe_key l (find_at 0x3D l 0)
unfolding probe_line
text_probed l (Some (a, e)) q s = rw q
text_probed l None q s =
    let f : sound (text_at l 0) ≡ false = (trim_wrong l).0 q in let z : ◌≡◌ {A = ℕ} 0 1 = cc in absurd (omega arith)

no_text : (l : List ℕ) → sound (text_at l 0) ≡ false → probe_line l ≡ Some false
unfolding probe_line
no_text l f = rw ((trim_wrong l).1 f)

version_answers : (l rest : List ℕ) → VersionLine l rest → probe_key l (find_at 0x3D l 0) ≡ Some (verdict_of (number_of version_limit (trimmed rest)))
unfolding same
version_answers l rest v = key_probed l v.before rest v.whole v.first ∙ rw v.key

version_probed : (l rest : List ℕ) → sound (text_at l 0) ≡ true → VersionLine l rest → probe_line l ≡ Some (verdict_of (number_of version_limit (trimmed rest)))
version_probed l rest s v = text_probed l (trim_of l) refl s ∙ version_answers l rest v

passes : (l : List ℕ) → probe_key l (find_at 0x3D l 0) ≡ None → (rest : List ℕ) → VersionLine l rest → ⊥
passes l e rest v = let a = version_answers l rest v in let z : ◌≡◌ {A = ℕ} 0 1 = cc in absurd (omega arith)

-- a line that is UTF-8 has the key `version`, or passes
by_key : {C : Type 0} (l : List ℕ) → ((rest : List ℕ) → VersionLine l rest → C) → (probe_key l (find_at 0x3D l 0) ≡ None → C) → C
by_key l f g =
    cut_by 0x3D l (count 0x3D l) refl
    (λ n. g (key_passed l n))
    (λ a r e n. by_test (same (trimmed a) (ascii "version"))
    (λ k. f r (record { before = a; whole = e; first = n; key = same_is (trimmed a) (ascii "version") k }))
    (λ k. g (key_probed l a r e n ∙ rw k)))

passed_probed : (l : List ℕ) → PassedOver l → probe_line l ≡ None
passed_probed l p = by_key l (λ rest v. absurd (p.1 rest v)) (λ e. text_probed l (trim_of l) refl p.0 ∙ e)

-- ---- a number 1 to 3
one_to_three : (m : Option ℕ) → verdict_of m ≡ true → (n : ℕ) × (m ≡ Some n) × (1 ≤ n) × (n ≤ 3)
one_to_three (Some v) h =
    by_test (leb 1 v)
    (λ e. let g : leb v 3 ≡ true = rw e at h in (v, refl, leb-true 1 v e, leb-true v 3 g))
    (λ e. let g : false ≡ true = rw e at h in let z : ◌≡◌ {A = ℕ} 0 1 = cc in absurd (omega arith))
one_to_three None h = let z : ◌≡◌ {A = ℕ} 0 1 = cc in absurd (omega arith)

says_yes : (rest : List ℕ) → OneToThree rest → verdict_of (number_of version_limit (trimmed rest)) ≡ true
says_yes rest w = rw w.1 (within_in 1 3 w.0 w.2 w.3)

-- ---- line by line
lines_say : (ls : List (List ℕ)) → probe_lines ls ≡ true → FirstSays ls
unfolding probe_lines
lines_say [] h = let z : ◌≡◌ {A = ℕ} 0 1 = cc in absurd (omega arith)
lines_say (l ∷ ls) h = by_test (sound (text_at l 0)) (λ s. by_key l (says s) (λ e. over s e (lines_say ls (rw (text_probed l (trim_of l) refl s ∙ e) at h)))) none
  where
    says : sound (text_at l 0) ≡ true → (rest : List ℕ) → VersionLine l rest → FirstSays (l ∷ ls)
    says s rest v =
        record {
          before = [];
          line = l;
          after = ls;
          lines = refl;
          passed = tt;
          text = s;
          rest = rest;
          version = v;
          says = one_to_three (number_of version_limit (trimmed rest)) (rw (version_probed l rest s v) at h);
        }

    over : sound (text_at l 0) ≡ true → probe_key l (find_at 0x3D l 0) ≡ None → FirstSays ls → FirstSays (l ∷ ls)
    over s e w =
        record {
          before = l ∷ w.before;
          line = w.line;
          after = w.after;
          lines = ap (λ (r : List (List ℕ)). l ∷ r) w.lines;
          passed = ((s, passes l e), w.passed);
          text = w.text;
          rest = w.rest;
          version = w.version;
          says = w.says;
        }

    none : sound (text_at l 0) ≡ false → FirstSays (l ∷ ls)
    none f = let g : false ≡ true = rw (no_text l f) at h in let z : ◌≡◌ {A = ℕ} 0 1 = cc in absurd (omega arith)

said_yes : (before : List (List ℕ)) (l : List ℕ) (after : List (List ℕ)) → All PassedOver before → probe_line l ≡ Some true → probe_lines (before ++ l ∷ after) ≡ true
unfolding probe_lines
said_yes [] l after p e = rw e
said_yes (b ∷ bs) l after p e = rw (passed_probed b p.0) (said_yes bs l after p.1 e)

lines_yes : (ls : List (List ℕ)) → FirstSays ls → probe_lines ls ≡ true
lines_yes ls w =
    rw w.lines (said_yes w.before w.line w.after w.passed (version_probed w.line w.rest w.text w.version ∙ ap Some (says_yes w.rest w.says)))

-- ---- the whole descriptor
abbrev Yes : List ℕ → Type 0
Yes d = (least_bytes ≤ length d) × (length d ≤ most_bytes) × ((begins d sparse ≡ true) ⊎ FirstSays (lines_of d))

pub probe_yes : (d : List ℕ) → (probe_of d ≡ true) ↔ Yes d
unfolding probe_of
probe_yes d = (to, from)
  where
    to : probe_of d ≡ true → Yes d
    to h =
        by_test (ltb (length d) least_bytes)
        (λ e. let g : false ≡ true = rw e at h in let z : ◌≡◌ {A = ℕ} 0 1 = cc in absurd (omega arith))
        (λ e. by_test (ltb most_bytes (length d))
        (λ f. let g : false ≡ true = rw (e, f) at h in let z : ◌≡◌ {A = ℕ} 0 1 = cc in absurd (omega arith))
        (λ f. (ltb-false _ _ e, ltb-false _ _ f, by_test (begins d sparse) (λ s. inl s) (λ s. inr (lines_say (lines_of d) (rw (e, f, s) at h))))))

    sort : (begins d sparse ≡ true) ⊎ FirstSays (lines_of d) → pick (begins d sparse) true (probe_lines (lines_of d)) ≡ true
    sort (inl s) = rw s
    sort (inr w) = by_test (begins d sparse) (λ s. rw s) (λ s. rw s (lines_yes (lines_of d) w))

    from : Yes d → probe_of d ≡ true
    from y = rw (le-ltb (length d) least_bytes y.0, le-ltb most_bytes (length d) y.1) (sort y.2)
