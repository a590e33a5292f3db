-- `blank::is_blank` meets its contract: the number is a key, or lies in a range of which every number is a blank,
-- or in a range of which no number but for keys is one.
use native.Mathlib.Omega.{arith}
use mathlib.Core.Path.{◌≡◌, refl}
use mathlib.Core.Bool.{true}
use mathlib.Core.List.{List, [], ◌∷◌}
use Prim.Native.Nat.{ℕ}
use Rattle.text.specs.Blank.{blank}
use Rattle.text.proofs.Flat.{at_key}
use Rattle.text.proofs.Blanks.{not_blank, all_blank}
use Rattle.text.proofs.blank.is_blank.Goals as goal

abbrev keys : List ℕ
keys = 0x20 ∷ 0x85 ∷ 0xA0 ∷ 0x1680 ∷ 0x202F ∷ 0x205F ∷ 0x3000 ∷ []

pub returns-in_default : goal.returns-in_default
returns-in_default c = not_blank 0x00 0x08 [] _ (omega arith) (omega arith) (λ x. x) tt

pub returns-in_default-2 : goal.returns-in_default-2
returns-in_default-2 c = not_blank 0x0E 0x1FFF keys _ (omega arith) (omega arith) (grind arith) tt

pub returns-in_default-3 : goal.returns-in_default-3
returns-in_default-3 c = not_blank 0x200B 0x2027 [] _ (omega arith) (omega arith) (λ x. x) tt

pub returns-in_default-4 : goal.returns-in_default-4
returns-in_default-4 c = not_blank 0x202A 0xFFFFFFFF keys _ (omega arith) (omega arith) (grind arith) tt

pub returns-in-32 : goal.returns-in-32
unfolding blank
returns-in-32 c = at_key (λ (n : ℕ). true ≡ blank n) keys _ (refl, (refl, (refl, (refl, (refl, (refl, (refl, tt))))))) c.in-32.in-32-own.keys1

pub returns-in-32-2 : goal.returns-in-32-2
returns-in-32-2 c = all_blank 0x09 4 _ tt (omega arith) (omega arith)

pub returns-in-32-3 : goal.returns-in-32-3
returns-in-32-3 c = all_blank 0x2000 10 _ tt (omega arith) (omega arith)

pub returns-in-32-4 : goal.returns-in-32-4
returns-in-32-4 c = all_blank 0x2028 1 _ tt (omega arith) (omega arith)
