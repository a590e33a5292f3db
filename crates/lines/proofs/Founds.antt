-- A byte that was found: its place, and what stands after it, lie within the text.
-- Assumes nothing.
use Rattle.std.specs.Prelude.{Option, Some}
use Prim.Native.Nat.{ℕ, ◌+◌, ◌^◌, ◌≤◌, ◌<◌}
use native.Mathlib.Omega.{arith}
use mathlib.Core.List.{List}
use mathlib.Core.Path.{◌≡◌, sym, ◌∙◌}
use lib.ListN.{length, take}
use mir.Syntax.{w64}
use mir.Val.{Fits}
use borrow.Author.Rules.{rules}
use Rattle.text.specs.Find.{find_at}
use Rattle.text.proofs.Finds.{found_within}
use Rattle.text.proofs.Parts.{take_count, part_rest}

module _ (b : ℕ) (t : List ℕ) (at : ℕ) {f : Option ℕ} {i : ℕ} (e : f ≡ find_at b t at) (q : f ≡ Some i) where
  pub found_after : at ≤ i
  found_after = (found_within b t at (sym e ∙ q)).0

  pub found_end : i ≤ length t
  found_end = let h = found_within b t at (sym e ∙ q) in omega arith

  pub found_past : i + 1 ≤ length t
  found_past = let h = found_within b t at (sym e ∙ q) in omega arith

  pub found_next : length t < 2 ^ 64 → Fits w64 (i + 1)
  found_next h = let g = found_within b t at (sym e ∙ q) in omega arith

  pub found_take : i ≡ length (take i t)
  found_take = take_count i t found_end

pub ruleset founds = (found_after, found_end, found_past, found_next, found_take, part_rest, rules)
