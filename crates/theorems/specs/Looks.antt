-- What halving finds, and how many rows it looks at.
use Rattle.std.specs.Prelude.{ℕ, ◌^◌, ◌<◌, ◌≤◌, true, ◌≡◌}
use Rattle.lines.specs.Record.{most}
use Rattle.tables.specs.declared.table.Table.{Table}
use Rattle.maps.specs.Map.{Search, found, nowhere, holds, search_of, map_of}
use Rattle.theorems.specs.Rows.{row_at, OneRow}

-- how many rows a search looked at
abbrev pub looks : Search → ℕ
looks (found i n) = n
looks (nowhere n) = n

-- Halving finds the one row that holds the offset.
pub record Finds (t : Table) (o : ℕ) : Type 0 where
  pub one : OneRow t o
  pub looked : ℕ
  pub search : search_of t o ≡ found one.row looked

-- The count of rows looked at, of any table, hand-made ones too.
pub record FewLooks (t : Table) (o asked : ℕ) : Type 0 where
  -- it is that of the search
  pub steps : t.count ≤ most → o < t.size.0 → (map_of t o asked).looked ≡ looks (search_of t o)
  -- 0 for refusal 23 or when the offset is at or past the size
  pub refused : most < t.count → (map_of t o asked).looked ≡ 0
  pub end : t.size.0 ≤ o → (map_of t o asked).looked ≡ 0
  -- at most 11
  pub eleven : (map_of t o asked).looked ≤ 11
  -- for n rows at most k, whenever n < 2 ^ k: for n at least 1 the least such k is 1 + the whole part of log2 n
  pub log : (k : ℕ) → t.count < 2 ^ k → (map_of t o asked).looked ≤ k
  -- a row that is found is one of the table's, and holds the offset
  pub found_row : (i n : ℕ) → search_of t o ≡ found i n → (i < t.count) × (holds (row_at t i) o ≡ true)
