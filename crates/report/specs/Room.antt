-- The room that an answer takes. Each name stands in the input once and is written once at most, and so is each row or piece.
use Rattle.std.specs.Prelude.{ℕ}

-- the most bytes of a row's or a piece's line without its name
abbrev pub row_most : ℕ
row_most = 100

-- the most bytes of the other lines: those before the rows, that of a mapping, or that after the pieces
abbrev pub head_most : ℕ
head_most = 200

-- the bytes that the program has for an answer
abbrev pub room : ℕ
room = 172032
