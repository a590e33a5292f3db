-- How the code goes through a search: its end, with the looks that came before, and as a struct.
use Rattle.std.specs.Prelude.{ℕ, ◌+◌, List, get_or, Some, None}
use Rattle.tables.specs.declared.table.Row.{Row}
use Rattle.tables.specs.Build.{no_row}
use Rattle.maps.specs.declared.halving.Found.{Found}
use Rattle.maps.specs.Map.{Search, found, nowhere}

-- a search's end, with k looks before it
abbrev pub upon : ℕ → Search → Search
upon k (found i n) = found i (k + n)
upon k (nowhere n) = nowhere (k + n)

-- a search's end as a struct, with the row that it ended at
abbrev pub found_of : List Row → Search → Found
found_of rows (found i n) = record { row = Some (i, get_or rows i no_row); looked = n }
found_of rows (nowhere n) = record { row = None; looked = n }
