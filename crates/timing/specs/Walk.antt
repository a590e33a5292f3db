-- The sum over many walks of one table, window after window, with every piece that they wrote.
use Rattle.std.specs.Prelude.{ℕ, zero, suc, ◌+◌, ◌%◌, List, [], ◌∷◌}
use Rattle.lines.specs.Record.{most}
use Rattle.tables.specs.declared.table.Table.{Table}
use Rattle.tables.specs.declared.table.Piece.{Piece}
use Rattle.maps.specs.Walk.{walk_of}
use Rattle.timing.specs.Sum.{fold_of}

-- the sum with a piece in it: where it starts on the disk, its run, and where it starts in its file
abbrev pub piece_in : ℕ → Piece → ℕ
piece_in s p = fold_of (fold_of (fold_of s p.start) p.run) p.file_offset

-- the sum with some pieces in it, one after the other
unfoldable pub pieces_in : ℕ → List Piece → ℕ
pieces_in s [] = s
pieces_in s (p ∷ ps) = pieces_in (piece_in s p) ps

-- where the next window starts, below 2^31
abbrev pub after_window : ℕ → ℕ → ℕ
after_window at window = (at + window) % 2147483648

-- n walks from a position on, with `most` places, added to a sum
unfoldable pub walk_sum : ℕ → Table → ℕ → ℕ → ℕ → ℕ
walk_sum zero t window at s = s
walk_sum (suc n) t window at s = walk_sum n t window (after_window at window) (pieces_in s (walk_of t most at window).pieces)
