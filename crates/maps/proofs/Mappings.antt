-- The rules of the functions that map: one for each way through each of them. Each holds because the code's tests are the definition's, read as numbers.
-- Assumes nothing.
use Prim.Native.Nat.{ℕ, ◌+◌, ◌-◌, ◌^◌, ◌≤◌, ◌<◌, min}
use native.Mathlib.Omega.{arith}
use mathlib.Core.Path.{◌≡◌, refl, sym, ◌∙◌, ap, subst}
use mathlib.Core.Bool.{Bool}
use mathlib.Core.List.{List}
use lib.ListN.{get_or}
use borrow.Author.Tests.{le-leb, lt-leb}
use Rattle.std.specs.Prelude.{Option, Some, None, Ok}
use Rattle.lines.specs.Record.{most}
use Rattle.text.specs.Sector.{largest}
use Rattle.text.specs.declared.sector.Bytes.{Bytes}
use Rattle.lines.specs.declared.record.Text.{Text}
use Rattle.lines.specs.declared.record.VmdkAccessType.{VmdkAccessType}
use Rattle.tables.specs.declared.table.Row.{Row}
use Rattle.tables.specs.declared.table.Table.{Table}
use Rattle.tables.specs.declared.table.Source.{Source}
use Rattle.tables.specs.declared.table.Source.TheVariants.{NoAccess, Zero as Zeros, Flat}
use Rattle.tables.specs.declared.table.ShallowMapping.TheVariants.{Zero, Raw}
use Rattle.tables.specs.declared.table.Mapping.{Mapping}
use Rattle.tables.specs.Build.{no_row}
use Rattle.maps.specs.declared.halving.Found.{Found}
use Rattle.lines.specs.declared.record.Fault.TheVariants.{Inaccessible, OffsetTooLarge, CountTooLarge}
use Rattle.maps.specs.Map.{Search, found, nowhere, writable, sourced, ended, refused, in_row, search_of, map_of}
use Rattle.maps.specs.inside.Halving.{found_of}
use Rattle.maps.proofs.Halves.{Finds, search_finds}

module _ (s : Source) (i within run n : ℕ) where
  pub source_locked : {r : Mapping} → s ≡ NoAccess → r ≡ refused Inaccessible n → r ≡ sourced s i within run n
  unfolding sourced
  source_locked e q = rw (e, q)

  pub source_zero : {a : VmdkAccessType} → s ≡ Zeros a → record { mapping = Ok (Zero i); run = run; looked = n } ≡ sourced s i within run n
  unfolding sourced
  source_zero e = rw e

  pub source_far : {a : VmdkAccessType} {b : Bytes} {name : Text} {z : ℕ} {r : Mapping} → s ≡ Flat a b name → z ≡ b.0 → (z + within < 2 ^ 64 → ⊥) → r ≡ refused OffsetTooLarge n → r ≡ sourced s i within run n
  unfolding sourced
  source_far {a} {b} {name} e k l q = let g : largest < b.0 + within = omega arith in rw (e, lt-leb _ _ g, q)

  pub source_flat : {a : VmdkAccessType} {b : Bytes} {name : Text} {z end : ℕ} {w : Bool} → s ≡ Flat a b name → z ≡ b.0 → (z + within < 2 ^ 64) × (end ≡ z + within) → w ≡ writable a → record { mapping = Ok (Raw i end w); run = run; looked = n } ≡ sourced s i within run n
  unfolding sourced
  source_flat {a} {b} {name} e k l q = let g : b.0 + within ≤ largest = omega (arith, k, l.0) in rw (e, le-leb _ _ g, q, l.1, k)

-- the mapping that a row gives, or none
abbrev by_row : Table → ℕ → ℕ → Option (ℕ × Row) → ℕ → Mapping
by_row t o asked None n = ended n
by_row t o asked (Some (i, r)) n = sourced r.source i (o - r.start.0) (min asked (min (t.size.0 - o) (r.end.0 - o))) n

in_row_is : (t : Table) (o asked : ℕ) (s : Search) → by_row t o asked (found_of t.rows s).row (found_of t.rows s).looked ≡ in_row t o asked s
unfolding in_row
in_row_is t o asked (found i n) = refl
in_row_is t o asked (nowhere n) = refl

-- of a row that a search ended at: it holds the offset, and is the one at its number, which is one of those that count
abbrev Ends : List Row → ℕ → ℕ → Option (ℕ × Row) → Type 0
Ends rows o bound None = Unit {0}
Ends rows o bound (Some (i, r)) = (((r.start.0 ≤ o) × (o < r.end.0)) × (i < bound)) × (r ≡ get_or rows i no_row)

finds_ends : (rows : List Row) (o bound : ℕ) (s : Search) → Finds rows o bound s → Ends rows o bound (found_of rows s).row
finds_ends rows o bound (found i n) f = (f, refl)
finds_ends rows o bound (nowhere n) f = tt

pub row_ends : (t : Table) (o : ℕ) {h : Found} {i : ℕ} {r : Row} → h ≡ found_of t.rows (search_of t o) → h.row ≡ Some (i, r) → (((r.start.0 ≤ o) × (o < r.end.0)) × (i < t.count)) × (r ≡ get_or t.rows i no_row)
row_ends t o e f =
    subst (Ends t.rows o t.count) (sym (ap (λ (z : Found). z.row) e) ∙ f) (finds_ends t.rows o t.count (search_of t o) (search_finds t o))

-- the ways through `get_mapping`
module _ (t : Table) (o asked : ℕ) where
  pub map_many : {m : Mapping} → most < t.count → m ≡ refused CountTooLarge 0 → m ≡ map_of t o asked
  unfolding map_of
  map_many a q = rw (lt-leb _ _ a, q)

  pub map_late : {m : Mapping} → t.count ≤ most → t.size.0 ≤ o → m ≡ ended 0 → m ≡ map_of t o asked
  unfolding map_of
  map_late a b q = rw (le-leb _ _ a, le-leb _ _ b, q)

  module _ {h : Found} (e : h ≡ found_of t.rows (search_of t o)) where
    map_hit : t.count ≤ most → o < t.size.0 → by_row t o asked h.row h.looked ≡ map_of t o asked
    unfolding map_of
    map_hit a b = rw (le-leb _ _ a, lt-leb _ _ b, e) (in_row_is t o asked (search_of t o))

    pub map_none : {m : Mapping} → t.count ≤ most → o < t.size.0 → h.row ≡ None → m ≡ ended h.looked → m ≡ map_of t o asked
    map_none a b n q = q ∙ ap (λ (z : Option (ℕ × Row)). by_row t o asked z h.looked) (sym n) ∙ map_hit a b

    module _ {i : ℕ} {w : Row} (f : h.row ≡ Some (i, w)) where
      pub map_row : {start end run : ℕ} {m : Mapping} → t.count ≤ most → o < t.size.0 → start ≡ w.start.0 → end ≡ w.end.0
          → run ≡ min asked (min (t.size.0 - o) (end - o)) → m ≡ sourced w.source i (o - start) run h.looked → m ≡ map_of t o asked
      map_row a b s z r q = rw (s, r, z) at q ∙ ap (λ (z : Option (ℕ × Row)). by_row t o asked z h.looked) (sym f) ∙ map_hit a b
