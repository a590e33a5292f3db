-- Continuing a walk after More, at the position given and with the length still left, and what the parts come to when they are joined.
use Rattle.std.specs.Prelude.{ℕ, ◌+◌, ◌-◌, ◌≤◌, ◌<◌, min, List, [], ◌∷◌, ◌++◌, ◌≡◌, length, leb, Err, Ok, Result}
use Rattle.text.specs.Ranges.{pick}
use Rattle.lines.specs.Record.{most}
use Rattle.tables.specs.declared.table.Table.{Table}
use Rattle.tables.specs.declared.table.Stop.TheVariants.{Done, More}
use Rattle.tables.specs.declared.table.Stop.{Stop}
use Rattle.lines.specs.declared.record.Fault.{Fault}
use Rattle.lines.specs.declared.record.Fault.TheVariants.{CountTooLarge}
use Rattle.maps.specs.Walk.{Walk, ends, walk_from, walk_of}
use Rattle.theorems.specs.Tiling.{All}

-- a part that stopped, and after More the parts that follow it: the pieces joined, the last one's stop and position, and the rows looked at added up
abbrev pub go_on : Walk → Result Stop Fault → Walk → Walk
go_on w (Ok Done) next = w
go_on w (Ok More) next =
    record { pieces = w.pieces ++ next.pieces; stop = next.stop; position = next.position; looked = w.looked + next.looked }
go_on w (Err number) next = w

-- walks into one list after the other, of so many places each: the first, and the others
unfoldable pub parts_of : ℕ → List ℕ → Table → ℕ → ℕ → Walk
parts_of n [] t pos left = walk_of t n pos left
parts_of n (m ∷ ns) t pos left =
    let w : Walk = walk_of t n pos left in go_on w w.stop (parts_of m ns t w.position (left - (w.position - pos)))

-- how many places they have together, of which a walk uses at most `most` in each list
unfoldable pub places_in : ℕ → List ℕ → ℕ
places_in n [] = min n most
places_in n (m ∷ ns) = min n most + places_in m ns

-- one long walk: a walk whose list has so many places, without the limit of `most` pieces
abbrev pub long_walk : Table → ℕ → ℕ → ℕ → Walk
long_walk t places pos left = pick (leb t.count most) (walk_from places t pos left) (ends (Err CountTooLarge) pos 0)

-- Continuing after More, of any table, for any way of cutting
pub record Continues (t : Table) (n : ℕ) (ns : List ℕ) (pos left : ℕ) : Type 0 where
  -- the parts joined are one long walk with as many places as they have together: its pieces, its stop, its position and its sum
  pub joins : parts_of n ns t pos left ≡ long_walk t (places_in n ns) pos left
  -- which is one call, if these are at most `most`
  pub one_call : places_in n ns ≤ most → long_walk t (places_in n ns) pos left ≡ walk_of t (places_in n ns) pos left
  -- more than `most` places are enough to end otherwise than with More
  pub enough : most < places_in n ns → (parts_of n ns t pos left).stop ≡ (Ok More) → ⊥
  -- which one more than `most` lists of at least one place have
  pub lists_enough : All (λ (k : ℕ). 0 < k) (n ∷ ns) → most ≤ length ns → (parts_of n ns t pos left).stop ≡ (Ok More) → ⊥
  -- and once it has ended so, the list is the one that a single walk writes, given `most` places
  pub whole_list : ((parts_of n ns t pos left).stop ≡ (Ok More) → ⊥) → (places : ℕ) → most ≤ places → (parts_of n ns t pos left).pieces ≡ (walk_of t places pos left).pieces

-- On a built table `most` places are enough, and stop, position and sum of the single walk are the last part's, the last part's, and the parts' added up, too
pub record ContinuesWhole (t : Table) (n : ℕ) (ns : List ℕ) (pos left : ℕ) : Type 0 where
  pub enough : most ≤ places_in n ns → (parts_of n ns t pos left).stop ≡ (Ok More) → ⊥
  pub whole : ((parts_of n ns t pos left).stop ≡ (Ok More) → ⊥) → (places : ℕ) → most ≤ places → parts_of n ns t pos left ≡ walk_of t places pos left
