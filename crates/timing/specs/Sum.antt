-- A sum over answers: each new value counts once, and what was there three times, so that the order counts.
use Rattle.std.specs.Prelude.{ℕ, ◌+◌, ◌*◌, ◌%◌, ◌^◌}

-- the sum with one more value in it
abbrev pub fold_of : ℕ → ℕ → ℕ
fold_of s v = (s * 3 + v) % 2 ^ 64
