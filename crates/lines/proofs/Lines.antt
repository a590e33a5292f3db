-- A line: where its words end, that an empty one says nothing, and that the version's number is small.
-- Assumes nothing.
use Rattle.std.specs.Prelude.{Ok, Option, Some}
use Prim.Native.Nat.{ℕ, ◌+◌, ◌≤◌}
use native.Mathlib.Omega.{arith}
use mathlib.Core.List.{List, [], ◌∷◌}
use mathlib.Core.Bool.{false}
use mathlib.Core.Path.{◌≡◌, refl, sym, ◌∙◌}
use lib.ListN.{length, take}
use mir.Syntax.{w32}
use mir.Val.{Fits}
use borrow.Author.Tests.{le-leb}
use Rattle.text.specs.Number.{number_of}
use Rattle.text.specs.Text.{text_from, text_at, sound, drop_blanks, trim_text, trim_of, run_of}
use Rattle.text.proofs.Bounds.{run_within}
use Rattle.text.proofs.Numerals.{number_out}
use Rattle.text.proofs.Parts.{take_count}
use Rattle.lines.specs.Record.{most_bytes}
use Rattle.lines.specs.Line.{version_limit, text_line, line_of, said_at}
use Rattle.lines.specs.declared.line.Said.TheVariants.{Nothing}

-- the version fits its place
pub version_fits : (t : List ℕ) {n : Option ℕ} {x : ℕ} → n ≡ number_of version_limit t → n ≡ Some x → Fits w32 x
version_fits t m q = let h = number_out version_limit t (sym m ∙ q) in omega arith

-- the first word's end is a length
pub run_take : (t : List ℕ) {end : ℕ} → end ≡ run_of false t 0 → end ≡ length (take end t)
run_take t {end} e = let h = run_within false t 0 in take_count end t (omega arith)

-- an empty line says nothing
pub line_empty : (p : ℕ) (l : List ℕ) → length l ≡ 0 → (Ok Nothing) ≡ line_of p l
unfolding line_of trim_of trim_text text_at text_from sound drop_blanks text_line
line_empty p [] h = refl
line_empty p (b ∷ r) h = absurd (omega arith)

-- a line within a descriptor says what its text says
pub said_is : (p : ℕ) (l : List ℕ) → p + length l ≤ most_bytes → said_at p l ≡ line_of p l
unfolding said_at
said_is p l h = rw (le-leb (p + length l) most_bytes h)
