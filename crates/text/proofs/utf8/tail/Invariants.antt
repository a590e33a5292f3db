-- `utf8::tail` meets its contract. The invariant: the character from the first byte is the character from the index, with the bits so far.
use Prim.Native.Nat.{◌+◌, ◌-◌, ◌<◌}
use mathlib.Core.Path.{◌≡◌}
use Rattle.text.specs.Utf8.{tail_of}
use Rattle.text.specs.inside.Places.{cap, tail_at}
use Rattle.text.proofs.utf8.tail.Given as goal

abbrev pub invariant-loop-x : goal.invariant-loop-x
invariant-loop-x l =
    (l.code < cap (l.n - l.x-index)) × (tail_of l.n l.initial.lo l.initial.hi l.initial.code (l.n + 1) l.t ≡ tail_at l.t l.x-index (l.n - l.x-index) l.lo l.hi l.code (l.n + 1))
