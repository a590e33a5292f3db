-- `put` meets its contract. The invariant: the text's bytes before the one at hand are put, and `next` is the place after them. A turn puts one more.
-- Assumes nothing.
use lib.ListN.{take}
use Rattle.puts.specs.Put.{Put}
use Rattle.puts.proofs.put.put.Given as goal

abbrev pub invariant-loop-b : goal.invariant-loop-b
invariant-loop-b l = Put l.initial.out l.at (take l.b-index l.s) l.next l.out
