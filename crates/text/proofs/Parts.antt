-- The lists that parts of a slice hold: `&s[k..]` is what is left after k, and `&s[..k]` has k elements.
-- Both by the length of what `drop` and `take` leave.
use Prim.Native.Nat.{ℕ, ◌-◌, ◌≤◌}
use native.Mathlib.Omega.{arith}
use mathlib.Core.List.{List}
use mathlib.Core.Path.{◌≡◌}
use lib.ListN.{length, take, drop, length-take, length-drop}
use lib.Seq.{take_all}

-- `&s[k..]`
pub part_rest : (k : ℕ) (l : List ℕ) → take (length l - k) (drop k l) ≡ drop k l
part_rest k l = take_all (length l - k) (drop k l) (simp length-drop (omega arith))

-- `&s[..k]`
pub take_count : (k : ℕ) (l : List ℕ) → k ≤ length l → k ≡ length (take k l)
take_count k l h = simp length-take (omega arith)
