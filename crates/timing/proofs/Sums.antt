-- What a loop's sum is from any round on: the round takes one off the front of those that are left. What is read and built depends on the descriptor alone, whatever the record that is lent held.
-- Assumes nothing.
use Rattle.std.proofs.Common.{◌≡◌, ℕ, suc, ◌+◌, ◌-◌, ◌<◌, ◌≤◌, ◌%◌, Bool, true, false, List, [], ◌∷◌, length, take, drop, sym, refl, ap, ◌∙◌, arith, length-append}
use Rattle.std.specs.List.{fold}
use Rattle.lines.specs.Record.{most, over}
use Rattle.lines.specs.declared.record.Record.{Record}
use Rattle.lines.proofs.Overs.{over_first}
use Rattle.descriptor.specs.Read.{read_of}
use Rattle.descriptor.specs.Into.{read_into}
use Rattle.descriptor.proofs.Intos.{into_count, into_read}
use Rattle.tables.specs.Build.{no_table, build_of}
use Rattle.tables.specs.Into.{build_into}
use Rattle.tables.specs.declared.table.Table.{Table}
use Rattle.tables.specs.declared.table.Piece.{Piece}
use Rattle.tables.proofs.Into.{into_size, build_same, into_same}
use Rattle.maps.specs.Map.{map_of}
use Rattle.maps.specs.Walk.{Walk, walk_of, listed}
use Rattle.timing.specs.Sum.{fold_of}
use Rattle.timing.specs.Read.{value_of, size_of, reads_sum, table_in}
use Rattle.timing.specs.Map.{asked, mapping_in, next_of, map_sum}
use Rattle.timing.specs.Walk.{piece_in, pieces_in, after_window, walk_sum}

-- ---- a record and a table that are lent
module _ (d : List ℕ) (r : Record) (t : Table) where
  pub lent_size : value_of (read_of d).verdict (build_of (read_into d r)).verdict (build_into (read_into d r) t).size.0 ≡ size_of d
  unfolding size_of
  lent_size = rw (into_size (read_into d r) t, build_same (read_into d r) (read_of d).descriptor (into_count d r) (into_read d r))

  pub lent_table : build_into (read_into d r) t ≡ build_into (read_of d).descriptor t
  lent_table = into_same (read_into d r) (read_of d).descriptor t (into_count d r) (into_read d r)

pub table_is : (d : List ℕ) → build_into (read_of d).descriptor no_table ≡ table_in d
unfolding table_in
table_is d = refl

-- ---- the rounds that are left
left : (n i : ℕ) → i < n → n - i ≡ suc (n - (i + 1))
left n i l = omega arith

none : (n i : ℕ) → n ≤ i → n - i ≡ 0
none n i l = omega arith

module _ (v s : ℕ) where
  reads_suc : (n : ℕ) → reads_sum (suc n) v s ≡ reads_sum n v (fold_of s v)
  unfolding reads_sum
  reads_suc n = refl

  pub reads_next : (n i : ℕ) → i < n → reads_sum (n - (i + 1)) v (fold_of s v) ≡ reads_sum (n - i) v s
  reads_next n i l = sym (rw (left n i l) (reads_suc (n - (i + 1))))

  pub reads_done : (n i : ℕ) → n ≤ i → reads_sum (n - i) v s ≡ s
  unfolding reads_sum
  reads_done n i l = rw (none n i l)

module _ (a : Bool) (t : Table) (o s : ℕ) where
  map_suc : (n : ℕ) → map_sum a (suc n) t o s ≡ map_sum a n t (next_of a o) (mapping_in s (map_of t o asked))
  unfolding map_sum
  map_suc n = refl

  pub map_next : (n i : ℕ) → i < n → map_sum a (n - (i + 1)) t (next_of a o) (mapping_in s (map_of t o asked)) ≡ map_sum a (n - i) t o s
  map_next n i l = sym (rw (left n i l) (map_suc (n - (i + 1))))

  pub map_done : (n i : ℕ) → n ≤ i → map_sum a (n - i) t o s ≡ s
  unfolding map_sum
  map_done n i l = rw (none n i l)

pub low_next : (a : Bool) (o : ℕ) → next_of a o < 2147483648
low_next true o = omega arith
low_next false o = omega arith

module _ (t : Table) (window at s : ℕ) where
  walk_suc : (n : ℕ) → walk_sum (suc n) t window at s ≡ walk_sum n t window (after_window at window) (pieces_in s (walk_of t most at window).pieces)
  unfolding walk_sum
  walk_suc n = refl

  pub walk_next : (n i : ℕ) → i < n → walk_sum (n - (i + 1)) t window (after_window at window) (pieces_in s (walk_of t most at window).pieces) ≡ walk_sum (n - i) t window at s
  walk_next n i l = sym (rw (left n i l) (walk_suc (n - (i + 1))))

  pub walk_done : (n i : ℕ) → n ≤ i → walk_sum (n - i) t window at s ≡ s
  unfolding walk_sum
  walk_done n i l = rw (none n i l)

pub window_end : (at window : ℕ) → (at + window) % 18446744073709551616 % 2147483648 ≡ after_window at window
window_end at window = omega arith

-- ---- the pieces of a walk
pub folded : (s : ℕ) (ps : List Piece) → pieces_in s ps ≡ fold piece_in s ps
unfolding pieces_in
folded s [] = refl
folded s (p ∷ ps) = folded (piece_in s p) ps

-- what a walk wrote stands at the front of the list
pub written_fits : (w : Walk) (ys : List Piece) → length w.pieces ≤ length (listed w ys)
unfolding over
written_fits w ys = omega (arith, length-append w.pieces (drop (length w.pieces) ys))

written : (w : Walk) (ys : List Piece) → take (length w.pieces) (listed w ys) ≡ w.pieces
written w ys = over_first w.pieces ys

pub written_long : (w : Walk) (ys : List Piece) → length w.pieces ≡ length (take (length w.pieces) (listed w ys))
written_long w ys = sym (ap length (written w ys))

-- adding as many pieces as a walk wrote adds just them
pub tour_adds : (t : Table) (window at s : ℕ) (ys : List Piece) → length ys ≡ most
    → pieces_in s (take (length (walk_of t (length ys) at window).pieces) (listed (walk_of t (length ys) at window) ys)) ≡ pieces_in s (walk_of t most at window).pieces
tour_adds t window at s ys long = ap (pieces_in s) (written (walk_of t (length ys) at window) ys) ∙ ap (λ (n : ℕ). pieces_in s (walk_of t n at window).pieces) long
