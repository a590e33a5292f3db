-- The first no-access byte lies after every byte that can be read, and not after any that is locked.
-- Every mapping looks at no more than 11 rows, so a walk looks at 11 for each piece, and at 11 more where it is refused.
-- Assumes nothing.
use Rattle.std.specs.Prelude.{Err, Ok, Result}
use Prim.Native.Nat.{ℕ, zero, suc, ◌+◌, ◌-◌, ◌*◌, ◌<◌, ◌≤◌, min, max}
use native.Mathlib.Omega.{arith}
use mathlib.Core.List.{List}
use mathlib.Core.Bool.{true, false}
use mathlib.Core.Path.{◌≡◌, subst}
use mathlib.Core.Logic.{◌⊎◌, inl, inr, ◌↔◌}
use lib.ListN.{length}
use lib.Dec.{eqb, leb}
use borrow.Author.Tests.{leb-true, leb-false, eqb-true, eqb-false}
use Rattle.lines.specs.declared.record.VmdkParsedExtent.{VmdkParsedExtent}
use Rattle.tables.specs.declared.table.Table.{Table}
use Rattle.tables.specs.declared.table.ShallowMapping.TheVariants.{Eof, Zero, Raw}
use Rattle.tables.specs.declared.table.Stop.TheVariants.{Done}
use Rattle.tables.specs.declared.table.ShallowMapping.{ShallowMapping}
use Rattle.tables.specs.declared.table.Stop.{Stop}
use Rattle.lines.specs.declared.record.Fault.{Fault}
use Rattle.lines.specs.declared.record.Fault.TheVariants.{Inaccessible}
use Rattle.maps.specs.Map.{map_of}
use Rattle.maps.specs.Place.{size_of, place_of}
use Rattle.maps.specs.Walk.{Walk, step, walk_from}
use Rattle.theorems.specs.Tiling.{is_locked, first_locked, no_access_from, FirstNoAccess, Meets}
use Rattle.text.proofs.Flat.{by_test}
use Rattle.theorems.proofs.Halving.{looked_eleven}
use Rattle.theorems.proofs.Routes.{over_or_on, walk_full, walk_step}
use Rattle.theorems.proofs.Tiles.{Why, Reached}

module _ (xs : List VmdkParsedExtent) where
  abbrev Free : ℕ → ℕ → Type 0
  Free from to = (o : ℕ) → from ≤ o → o < to → is_locked (place_of xs o) ≡ false

  two_tests : (o : ℕ) → is_locked (place_of xs o) ≡ true → is_locked (place_of xs o) ≡ false → ⊥
  two_tests o a b = let z : ◌≡◌ {A = ℕ} 0 1 = cc in omega arith

  first_after : (n at q : ℕ) → Free at q → q ≤ at + n → q ≤ first_locked xs n at
  unfolding first_locked
  first_after zero at q f h = omega arith
  first_after (suc n) at q f h =
      by_test (is_locked (place_of xs at))
      (λ e. rw e (by_test (leb q at) (λ g. leb-true _ _ g) (λ g. absurd (two_tests at e (f at (omega arith) (leb-false _ _ g))))))
      (λ e. rw e (first_after n (suc at) q (λ o a b. f o (omega arith) b) (omega arith)))

  first_upto : (n at q : ℕ) → at ≤ q → q < at + n → is_locked (place_of xs q) ≡ true → first_locked xs n at ≤ q
  unfolding first_locked
  first_upto zero at q h g l = absurd (omega arith)
  first_upto (suc n) at q h g l =
      by_test (is_locked (place_of xs at))
      (λ e. rw e h)
      (λ e. rw e (by_test (eqb at q)
      (λ k. absurd (two_tests q l (subst (λ (o : ℕ). is_locked (place_of xs o) ≡ false) (eqb-true at q k) e)))
      (λ k. let ne = eqb-false at q k in first_upto n (suc at) q (omega arith) (omega arith) l)))

  first_from : (n at : ℕ) → at ≤ first_locked xs n at
  unfolding first_locked
  first_from zero at = omega arith
  first_from (suc n) at = by_test (is_locked (place_of xs at)) (λ e. rw e (omega arith)) (λ e. rw e (omega (arith, first_from n (suc at))))

  first_free : (n at : ℕ) → Free at (first_locked xs n at)
  unfolding first_locked
  first_free zero at o a b = absurd (omega arith)
  first_free (suc n) at o a b =
      by_test (is_locked (place_of xs at))
      (λ e. let b₂ : o < at = rw e at b in absurd (omega arith))
      (λ e. by_test (eqb at o)
      (λ k. subst (λ (o : ℕ). is_locked (place_of xs o) ≡ false) (eqb-true at o k) e)
      (λ k. let ne = eqb-false at o k in first_free n (suc at) o (omega arith) (rw e at b)))

  first_there : (n at : ℕ) → (is_locked (place_of xs (first_locked xs n at)) ≡ true) ⊎ (first_locked xs n at ≡ at + n)
  unfolding first_locked
  first_there zero at = inr (omega arith)
  first_there (suc n) at =
      by_test (is_locked (place_of xs at)) (λ e. rw e (inl e)) (λ e. rw e (go (first_there n (suc at))))
    where
      go : (is_locked (place_of xs (first_locked xs n (suc at))) ≡ true) ⊎ (first_locked xs n (suc at) ≡ suc at + n) → (is_locked (place_of xs (first_locked xs n (suc at))) ≡ true) ⊎ (first_locked xs n (suc at) ≡ at + suc n)
      go (inl h) = inl h
      go (inr h) = inr (omega arith)

  -- what the first no-access byte is
  pub no_access_first : (start : ℕ) → FirstNoAccess xs start (no_access_from xs start)
  no_access_first start =
      record { from = first_from (size_of xs - start) start; before = first_free (size_of xs - start) start; there = go (first_there (size_of xs - start) start) }
    where
      go : (is_locked (place_of xs (no_access_from xs start)) ≡ true) ⊎ (no_access_from xs start ≡ start + (size_of xs - start)) → (is_locked (place_of xs (no_access_from xs start)) ≡ true) ⊎ (size_of xs ≤ no_access_from xs start)
      go (inl h) = inl h
      go (inr h) = inr (omega arith)

  -- the two ways in which a walk ends
  abbrev Ended : ℕ → ℕ → ℕ → Result Stop Fault → Type 0
  Ended start hi q s =
      ((s ≡ (Ok Done)) × (q ≡ max start (min hi (size_of xs)))) ⊎ ((s ≡ Err Inaccessible) × (q < min hi (size_of xs)) × (is_locked (place_of xs q) ≡ true))

  ended : (start hi q : ℕ) (s : Result Stop Fault) → Why 0 0 xs start hi s q → Ended start hi q s
  unfolding place_of
  ended start hi q s (inl e) = inl (e.0, omega arith)
  ended start hi q s (inr e) = let g : q - 0 ≡ q = omega arith in inr (e.0, omega arith, rw g at e.2)

  module _ (start hi q : ℕ) (s : Result Stop Fault) (r : Reached 0 0 xs start hi s q) where
    free : Free start q
    unfolding place_of
    free o a b = let e : o - 0 ≡ o = omega arith in rw e at (r.free o a b)

    -- (b)
    position_by : Ended start hi q s → q ≡ max start (min hi (min (size_of xs) (no_access_from xs start)))
    position_by (inl e) =
        let f = first_after (size_of xs - start) start q free (omega (arith, e.1)) in
        by_test (leb (min hi (size_of xs)) start)
        (λ g. let g₂ = leb-true (min hi (size_of xs)) start g in let m : min hi (min (size_of xs) (no_access_from xs start)) ≤ start = omega arith in omega (arith, e.1))
        (λ g. let g₂ = leb-false (min hi (size_of xs)) start g in
        let q₂ : q ≡ min hi (size_of xs) = omega (arith, e.1) in
        let m : min hi (min (size_of xs) (no_access_from xs start)) ≡ min hi (size_of xs) = omega arith in
        omega arith)
    position_by (inr e) =
        let a = first_after (size_of xs - start) start q free (omega (arith, e.1)) in
        let b = first_upto (size_of xs - start) start q r.up (omega (arith, e.1, r.up)) e.2 in
        let f : no_access_from xs start ≡ q = omega arith in
        rw f (omega (arith, r.up, e.1))

    pub position_is : q ≡ max start (min hi (min (size_of xs) (no_access_from xs start)))
    position_is = position_by (ended start hi q s r.why)

    -- (f)
    refused_by : Ended start hi q s → s ≡ Err Inaccessible ↔ Meets xs start hi
    refused_by (inl e) =
        (λ k. let z : ◌≡◌ {A = ℕ} 0 1 = cc in absurd (omega arith), λ m. absurd (two_tests m.0 m.3 (free m.0 m.1 (omega (arith, e.1, m.1, m.2)))))
    refused_by (inr e) = (λ k. (q, r.up, e.1, e.2), λ m. e.0)

    otherwise_by : Ended start hi q s → (s ≡ Err Inaccessible) ⊎ (s ≡ (Ok Done))
    otherwise_by (inl e) = inr e.0
    otherwise_by (inr e) = inl e.0

    pub refused_is : s ≡ Err Inaccessible ↔ Meets xs start hi
    refused_is = refused_by (ended start hi q s r.why)

    pub otherwise_is : (s ≡ Err Inaccessible) ⊎ (s ≡ (Ok Done))
    otherwise_is = otherwise_by (ended start hi q s r.why)

-- (g), of any table
abbrev pub Few : Walk → Type 0
Few w = w.looked ≤ 11 * length w.pieces + 11

few_step : (pos : ℕ) (m : Result ShallowMapping Fault) (run n : ℕ) (after : Walk) → n ≤ 11 → Few after → Few (step pos m run n after)
few_step pos (Ok Eof) run n after h f = omega arith
few_step pos (Err number) run n after h f = omega arith
few_step pos (Ok (Zero i)) run n after h f = omega arith
few_step pos (Ok (Raw i at w)) run n after h f = omega arith

pub walk_few : (room : ℕ) (t : Table) (pos left : ℕ) → Few (walk_from room t pos left)
walk_few zero t pos left =
    over_or_on t pos left (λ e. rw (e 0) (omega arith)) (λ c l. rw (walk_full t pos left c l) (omega arith))
walk_few (suc room) t pos left =
    over_or_on t pos left (λ e. rw (e (suc room)) (omega arith))
    (λ c l. let m = map_of t pos left in
    let w = walk_from room t (pos + m.run) (left - m.run) in
    rw (walk_step t pos left c l room) (few_step pos m.mapping m.run m.looked w (looked_eleven t pos left) (walk_few room t (pos + m.run) (left - m.run))))
