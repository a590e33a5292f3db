-- Probing at a place of a descriptor, by the line there: what is left to probe decides the whole.
-- Assumes nothing.
use Rattle.std.specs.Prelude.{None, Option, Some}
use Prim.Native.Nat.{ℕ, ◌+◌, ◌-◌, ◌≤◌, ◌<◌}
use native.Mathlib.Omega.{arith}
use mathlib.Core.List.{List, [], ◌∷◌}
use mathlib.Core.Bool.{Bool, true, false}
use mathlib.Core.Path.{◌≡◌, refl, sym, ◌∙◌}
use lib.ListN.{length, take, drop}
use lib.Dec.{ltb}
use borrow.Author.Rules.{rules}
use borrow.Author.Tests.{lt-ltb, le-ltb}
use Rattle.text.specs.Ranges.{pick}
use Rattle.text.specs.Text.{text_from, text_at, sound, drop_blanks, trim_text, trim_of}
use Rattle.text.specs.Find.{find_from, find_at, line_end}
use Rattle.text.specs.inside.Places.{lines_at}
use Rattle.text.specs.Lines.{lines_of}
use Rattle.text.proofs.Finds.{found_within}
use Rattle.text.proofs.Parts.{take_count}
use Rattle.text.proofs.Lines.{line_within, line_step}
use Rattle.probing.specs.Probe.{probe_key, probe_line, first_answer, probe_lines}
use Rattle.probing.specs.inside.Places.{probe_at}

pub key_take : (i : ℕ) (l : List ℕ) → i < length l → i ≡ length (take i l)
key_take i l h = take_count i l (omega arith)

-- an empty line is passed over
pub probe_empty : (l : List ℕ) → length l ≡ 0 → None ≡ probe_line l
unfolding probe_line probe_key trim_of trim_text text_at text_from sound drop_blanks find_at find_from
probe_empty [] h = refl
probe_empty (b ∷ r) h = absurd (omega arith)

pub found_below : (b : ℕ) (t : List ℕ) (at : ℕ) {i : ℕ} {f : Option ℕ} → f ≡ find_at b t at → f ≡ Some i → i < length t
found_below b t at e q = (found_within b t at (sym e ∙ q)).1

-- Rules of `probe_lines`
pick_lines : (b : Bool) (t : List ℕ) (at : ℕ) → probe_lines (pick b (lines_at t at) []) ≡ pick b (probe_at t at) false
unfolding probe_at probe_lines
pick_lines true t at = refl
pick_lines false t at = refl

module _ (t : List ℕ) (at : ℕ) {e : ℕ} (h : at ≤ length t) (q : e ≡ line_end t at) where
  pub ends_after : at ≤ e
  ends_after = rw q (line_within t at h).0

  pub ends_within : e ≤ length t
  ends_within = rw q (line_within t at h).1

  pub next_less : e < length t → length t - (e + 1) < length t - at
  next_less k = omega (arith, ends_after)

  module _ {whole : Bool} {p : Option Bool} (i : whole ≡ probe_at t at) (r : p ≡ probe_line (take (e - at) (drop at t))) where
    step : whole ≡ first_answer p (pick (ltb e (length t)) (probe_at t (e + 1)) false)
    unfolding probe_at probe_lines
    step = rw (i, line_step t at h, ← q, ← r, pick_lines (ltb e (length t)) t (e + 1))

    pub stop_answer : {b : Bool} → p ≡ Some b → b ≡ whole
    stop_answer m = rw (step, m)

    pub stop_end : p ≡ None → length t ≤ e → false ≡ whole
    stop_end m k = rw (step, m, le-ltb _ _ k)

    pub go_on : p ≡ None → e < length t → whole ≡ probe_at t (e + 1)
    go_on m k = rw (step, m, lt-ltb _ _ k)

pub ruleset probing = (ends_after, ends_within, next_less, stop_answer, stop_end, go_on, rules)

-- probing from the start is probing the lines
pub probe_start : (t : List ℕ) → probe_at t 0 ≡ probe_lines (lines_of t)
unfolding probe_at lines_at
probe_start t = refl
