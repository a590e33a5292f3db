-- Finding a byte, telling two lists apart, and what stands between quotes.
use Rattle.std.specs.Prelude.{ℕ, suc, ◌-◌, List, [], ◌∷◌, Bool, true, false, length, get_or, take, drop, leb, eqb, None, Option, Some}
use Rattle.text.specs.Ranges.{pick}

-- the first place of b in bytes that start at p
unfoldable pub find_from : ℕ → ℕ → List ℕ → Option ℕ
find_from b p [] = None
find_from b p (x ∷ r) = pick (eqb x b) (Some p) (find_from b (suc p) r)

-- the first place of b in t from the place at
unfoldable pub find_at : ℕ → List ℕ → ℕ → Option ℕ
find_at b t at = find_from b at (drop at t)

-- the place found, or n
abbrev pub end_by : ℕ → Option ℕ → ℕ
end_by n (Some i) = i
end_by n None = n

-- where the line that holds the place at ends: at the next 0A, or with the text
unfoldable pub line_end : List ℕ → ℕ → ℕ
line_end t at = end_by (length t) (find_at 0x0A t at)

-- the same bytes
unfoldable pub same : List ℕ → List ℕ → Bool
same [] [] = true
same [] (y ∷ s) = false
same (x ∷ r) [] = false
same (x ∷ r) (y ∷ s) = pick (eqb x y) (same r s) false

-- the first bytes of a list are those of another
unfoldable pub begins : List ℕ → List ℕ → Bool
begins t [] = true
begins [] (y ∷ s) = false
begins (x ∷ r) (y ∷ s) = pick (eqb x y) (begins r s) false

-- starts and ends with a quote, and has at least two bytes
abbrev pub quoted : List ℕ → Bool
quoted t =
    pick (leb 2 (length t)) (pick (eqb (get_or t 0 0) 0x22) (eqb (get_or t (length t - 1) 0) 0x22) false) false

-- the part of a text within its quotes, or all of it where it is not in quotes
unfoldable pub strip_of : List ℕ → ℕ × ℕ
strip_of t = pick (quoted t) (1, length t - 1) (0, length t)

-- the bytes of a part
abbrev pub part_of : List ℕ → ℕ × ℕ → List ℕ
part_of t p = take (p.1 - p.0) (drop p.0 t)
