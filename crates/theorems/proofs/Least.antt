-- No tiling by single-extent ranges is shorter than the pieces: a range that goes on past a piece's last byte holds bytes of two extents.
-- So each range ends at or before the end of the piece in which it begins, and there are at least as many ranges as pieces.
-- Assumes nothing.
use Prim.Native.Nat.{ℕ, suc, ◌+◌, ◌-◌, ◌<◌, ◌≤◌}
use native.Mathlib.Omega.{arith}
use mathlib.Core.List.{List, [], ◌∷◌}
use mathlib.Core.Option.{some}
use mathlib.Core.Path.{◌≡◌, refl, sym, ap, ◌∙◌, subst}
use mathlib.Core.Logic.{◌↔◌}
use lib.ListN.{length}
use Rattle.lines.specs.declared.record.VmdkParsedExtent.{VmdkParsedExtent}
use Rattle.tables.specs.declared.table.Piece.{Piece}
use Rattle.tables.specs.declared.table.PieceSource.{PieceSource}
use Rattle.tables.specs.declared.table.PieceSource.TheVariants.{Zero as Zeros, Raw as File}
use Rattle.maps.specs.Place.{place_of}
use Rattle.theorems.specs.Tiling.{rows_of, Rise, Placed, All, Follow, source_at, Range, Chain, number_of, InOne}
use Rattle.theorems.proofs.Orders.{three_ways}

follow_up : (a : ℕ) (ps : List Piece) (b : ℕ) → Follow a ps b → a ≤ b
follow_up a [] b h = omega arith
follow_up a (p ∷ ps) b h = omega (arith, follow_up (a + p.run) ps b h.2)

pub follow_none : (a : ℕ) (ps : List Piece) (b : ℕ) → Follow a ps b → ps ≡ [] ↔ b ≡ a
follow_none a [] b h = (λ e. sym h, λ e. refl)
follow_none a (p ∷ ps) b h =
    (λ e. let z : ◌≡◌ {A = ℕ} 0 1 = cc in absurd (omega arith), λ e. absurd (omega (arith, follow_up (a + p.run) ps b h.2)))

number_at : (s : PieceSource) (i at : ℕ) (w : _) (d : ℕ) → number_of (source_at s i at w d) ≡ some i
number_at Zeros i at w d = refl
number_at File i at w d = refl

module _ (xs : List VmdkParsedExtent) where
  number_of_lem : (p : Piece) (o : ℕ) → Placed xs p → p.start ≤ o → o < p.start + p.run → number_of (place_of xs o) ≡ some p.row
  number_of_lem p o h a b =
      let e : p.start + (o - p.start) ≡ o = omega arith in
      ap (λ (k : ℕ). number_of (place_of xs k)) (sym e) ∙ ap number_of (h (o - p.start) (omega arith)) ∙ number_at p.source p.row p.file_offset p.writable (o - p.start)

  -- a range that begins in one piece and goes on into the next holds bytes of two extents
  two_extents : (p p₂ : Piece) (r : Range) → Placed xs p → Placed xs p₂ → p.start ≤ r.from → r.from < p.start + p.run → p₂.start ≡ p.start + p.run → 0 < p₂.run → p.start + p.run < r.upto → p.row < p₂.row → InOne xs r → ⊥
  two_extents p p₂ r h g a b c d e l one =
      let n₁ = number_of_lem p (p.start + p.run - 1) h (omega arith) (omega arith) in
      let n₂ = number_of_lem p₂ (p.start + p.run) g (omega arith) (omega arith) in
      let same = one (p.start + p.run - 1) (p.start + p.run) (omega arith) (omega arith) (omega arith) e in
      let q : p.row ≡ p₂.row = cc (n₁, n₂, same) in
      omega arith

  least_from : (rs : List Range) (p : Piece) (ps : List Piece) (a to : ℕ) → p.start ≤ a → a < p.start + p.run → Follow (p.start + p.run) ps to → All (Placed xs) (p ∷ ps) → Rise p.row (rows_of (p ∷ ps)) → Chain a rs to → All (InOne xs) rs → suc (length ps) ≤ length rs
  least_from [] p ps a to h g f pl ri ch one = absurd (omega (arith, follow_up (p.start + p.run) ps to f))
  least_from (r ∷ rs) p [] a to h g f pl ri ch one = omega arith
  least_from (r ∷ rs) p (p₂ ∷ ps) a to h g f pl ri ch one =
      three_ways r.upto (p.start + p.run)
      (λ l. omega (arith, least_from rs p (p₂ ∷ ps) r.upto to (omega arith) l f pl ri ch.2 one.1))
      (λ e. let f₂ : Follow (p₂.start + p₂.run) ps to = subst (λ (k : ℕ). Follow (k + p₂.run) ps to) (sym f.0) f.2 in
      omega (arith, least_from rs p₂ ps r.upto to (omega arith) (omega arith) f₂ pl.1 (omega arith, ri.1.1) ch.2 one.1))
      (λ l. absurd (two_extents p p₂ r pl.0 pl.1.0 (omega arith) (omega arith) f.0 f.1 l ri.1.0 one.0))

  -- (e)
  pub least : (i : ℕ) (ps : List Piece) (a to : ℕ) → Follow a ps to → All (Placed xs) ps → Rise i (rows_of ps) → (rs : List Range) → Chain a rs to → All (InOne xs) rs → length ps ≤ length rs
  least i [] a to f pl ri rs ch one = omega arith
  least i (p ∷ ps) a to f pl ri rs ch one =
      let f₂ : Follow (p.start + p.run) ps to = subst (λ (k : ℕ). Follow (k + p.run) ps to) (sym f.0) f.2 in
      least_from rs p ps a to (omega arith) (omega arith) f₂ pl (omega arith, ri.1) ch one
