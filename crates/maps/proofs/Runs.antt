-- What every mapping keeps to: its run is at most the length asked and at most what the disk has from the offset on, since it is the least of them, and it looks at no more rows than there are, since a look leaves a narrower window; and a piece has at least one byte, since its row holds the offset.
-- Assumes nothing.
use Rattle.std.specs.Prelude.{Err, Ok, Result}
use Prim.Native.Nat.{ℕ, zero, suc, ◌+◌, ◌-◌, ◌<◌, ◌≤◌, min}
use native.Mathlib.Omega.{arith}
use mathlib.Core.Path.{◌≡◌}
use mathlib.Core.List.{List}
use lib.Dec.{ltb, leb}
use lib.ListN.{get_or}
use borrow.Author.Tests.{leb-true, leb-false}
use Rattle.text.specs.Ranges.{pick}
use Rattle.text.specs.Sector.{largest}
use Rattle.lines.specs.Record.{most}
use Rattle.tables.specs.declared.table.Row.{Row}
use Rattle.tables.specs.declared.table.Source.{Source}
use Rattle.tables.specs.declared.table.Source.TheVariants.{NoAccess, Zero, Flat}
use Rattle.tables.specs.declared.table.Table.{Table}
use Rattle.tables.specs.declared.table.ShallowMapping.TheVariants.{Eof, Zero as Zeros, Raw}
use Rattle.tables.specs.declared.table.Mapping.{Mapping}
use Rattle.tables.specs.declared.table.ShallowMapping.{ShallowMapping}
use Rattle.lines.specs.declared.record.Fault.{Fault}
use Rattle.lines.specs.declared.record.Fault.TheVariants.{CountTooLarge}
use Rattle.tables.specs.Build.{no_row}
use Rattle.maps.specs.Map.{Search, found, nowhere, looked, holds, middle, decide, halve, sourced, ended, refused, in_row, search_of, map_of}
use Rattle.maps.proofs.Halves.{pick_elim, Finds, halve_finds}

-- at most n rows were looked at
abbrev Looks : ℕ → Search → Type 0
Looks n (found i k) = k ≤ n
Looks n (nowhere k) = k ≤ n

looks_more : (n : ℕ) (s : Search) → Looks n s → Looks (suc n) (looked s)
looks_more n (found i k) h = omega arith
looks_more n (nowhere k) h = omega arith

-- a search looks at no more rows than its window has
halve_looks : (w : ℕ) (rows : List Row) (lo hi o : ℕ) → Looks w (halve w rows lo hi o)
unfolding halve
halve_looks zero rows lo hi o = omega arith
halve_looks (suc w) rows lo hi o =
    let r : Row = get_or rows (middle lo hi) no_row in
    let upper : Search = halve w rows (suc (middle lo hi)) hi o in
    let lower : Search = halve w rows lo (middle lo hi) o in
    let side : Search = pick (leb r.end.0 o) upper lower in
    pick_elim (Looks (suc w)) (ltb lo hi) (decide r lo (middle lo hi) hi o (λ l h. halve w rows l h o)) (nowhere 0)
    (λ _. pick_elim (Looks (suc w)) (holds r o) (found (middle lo hi) 1) (looked side) (λ _. omega arith)
    (λ _. looks_more w side (pick_elim (Looks w) (leb r.end.0 o) upper lower (λ _. halve_looks w rows (suc (middle lo hi)) hi o) (λ _. halve_looks w rows lo (middle lo hi) o))))
    (λ _. omega arith)

-- a mapping of length asked at an offset of a disk of a size, which looks at no more than n rows
abbrev Modest : ℕ → ℕ → ℕ → ℕ → Mapping → Type 0
Modest n size o asked m = (m.run ≤ asked) × ((m.run ≤ size - o) × (m.looked ≤ n))

sourced_modest : (s : Source) (n size end o asked i within k : ℕ) → k ≤ n → Modest n size o asked (sourced s i within (min asked (min (size - o) (end - o))) k)
unfolding sourced
sourced_modest NoAccess n size end o asked i within k h = (omega arith, (omega arith, h))
sourced_modest (Zero a) n size end o asked i within k h = (omega arith, (omega arith, h))
sourced_modest (Flat a b name) n size end o asked i within k h = pick_elim (Modest n size o asked) (leb (b.0 + within) largest) _ _ (λ _. (omega arith, (omega arith, h))) (λ _. (omega arith, (omega arith, h)))

row_modest : (t : Table) (n o asked : ℕ) (s : Search) → Looks n s → Modest n t.size.0 o asked (in_row t o asked s)
unfolding in_row
row_modest t n o asked (found i k) h = sourced_modest (get_or t.rows i no_row).source n t.size.0 (get_or t.rows i no_row).end.0 o asked i (o - (get_or t.rows i no_row).start.0) k h
row_modest t n o asked (nowhere k) h = (omega arith, (omega arith, h))

pub map_modest : (t : Table) (o asked : ℕ) → Modest most t.size.0 o asked (map_of t o asked)
unfolding map_of search_of
map_modest t o asked =
    pick_elim (Modest most t.size.0 o asked) (leb t.count most) (pick (leb t.size.0 o) (ended 0) (in_row t o asked (halve t.count t.rows 0 t.count o))) (refused CountTooLarge 0)
    (λ e. pick_elim (Modest most t.size.0 o asked) (leb t.size.0 o) (ended 0) (in_row t o asked (halve t.count t.rows 0 t.count o)) (λ _. (omega arith, (omega arith, omega arith)))
    (λ _. wider (in_row t o asked (halve t.count t.rows 0 t.count o)) (leb-true t.count most e) (row_modest t t.count o asked (halve t.count t.rows 0 t.count o) (halve_looks t.count t.rows 0 t.count o))))
    (λ _. (omega arith, (omega arith, omega arith)))
  where
    wider : (m : Mapping) → t.count ≤ most → Modest t.count t.size.0 o asked m → Modest most t.size.0 o asked m
    wider m h g = (g.0, (g.1.0, omega (arith, h, g.1.1)))

pub keeps_modest : (t : Table) (o asked : ℕ) {m : Mapping} → m ≡ map_of t o asked → Modest most t.size.0 o asked m
keeps_modest t o asked e = rw e (map_modest t o asked)

-- a piece has at least one byte
abbrev pub Some : Result ShallowMapping Fault → ℕ → Type 0
Some (Ok Eof) run = Unit {0}
Some (Ok (Zeros i)) run = 0 < run
Some (Ok (Raw i at w)) run = 0 < run
Some (Err number) run = Unit {0}

sourced_some : (s : Source) (i within run k : ℕ) → 0 < run → Some (sourced s i within run k).mapping (sourced s i within run k).run
unfolding sourced
sourced_some NoAccess i within run k h = tt
sourced_some (Zero a) i within run k h = h
sourced_some (Flat a b name) i within run k h = pick_elim (λ (m : Mapping). Some m.mapping m.run) (leb (b.0 + within) largest) _ _ (λ _. h) (λ _. tt)

row_some : (t : Table) (o asked bound : ℕ) (s : Search) → Finds t.rows o bound s → 0 < asked → o < t.size.0 → Some (in_row t o asked s).mapping (in_row t o asked s).run
unfolding in_row
row_some t o asked bound (found i k) f a l =
    let r : Row = get_or t.rows i no_row in
    sourced_some r.source i (o - r.start.0) (min asked (min (t.size.0 - o) (r.end.0 - o))) k (least asked t.size.0 r.end.0 a l f.0.1)
  where
    least : (asked size end : ℕ) → 0 < asked → o < size → o < end → 0 < min asked (min (size - o) (end - o))
    least asked size end a l e = omega arith
row_some t o asked bound (nowhere k) f a l = tt

-- where some length is asked, what is found has at least one byte: the row holds the offset, which is below the size
pub map_some : (t : Table) (o asked : ℕ) → 0 < asked → Some (map_of t o asked).mapping (map_of t o asked).run
unfolding map_of search_of
map_some t o asked a =
    let s : Search = halve t.count t.rows 0 t.count o in
    pick_elim (λ (m : Mapping). Some m.mapping m.run) (leb t.count most) (pick (leb t.size.0 o) (ended 0) (in_row t o asked s)) (refused CountTooLarge 0)
    (λ _. pick_elim (λ (m : Mapping). Some m.mapping m.run) (leb t.size.0 o) (ended 0) (in_row t o asked s) (λ _. tt)
    (λ e. row_some t o asked t.count s (halve_finds t.count t.rows 0 t.count o t.count (omega arith)) a (leb-false t.size.0 o e)))
    (λ _. tt)
