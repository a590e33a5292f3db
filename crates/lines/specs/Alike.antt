-- Equality of extents and of records, lines aside. Places past the count do not matter.
use Rattle.std.specs.Prelude.{List, [], ◌∷◌, ◌≡◌}
use Rattle.lines.specs.declared.record.ReadExtent.{ReadExtent}
use Rattle.lines.specs.declared.record.Record.{Record}
use Rattle.lines.specs.Record.{read_in}

-- Extents that are alike: all but the lines agree.
abbrev pub AlikeExtents : ReadExtent → ReadExtent → Type 0
AlikeExtents x y = x.extent ≡ y.extent

-- lists of extents that are alike, one by one
abbrev pub AllAlike : List ReadExtent → List ReadExtent → Type 0
AllAlike [] [] = Unit {0}
AllAlike (x ∷ xs) (y ∷ ys) = AlikeExtents x y × AllAlike xs ys
AllAlike [] (y ∷ ys) = ⊥
AllAlike (x ∷ xs) [] = ⊥

-- Records that are alike: they agree in their values and in count, and each extent that they count is alike.
pub record AlikeRecords (r s : Record) : Type 0 where
  pub desc : r.desc ≡ s.desc
  pub count : r.count ≡ s.count
  pub extents : AllAlike (read_in r) (read_in s)
