-- An extent shares a byte with a range exactly if the larger of their beginnings is below the smaller of their ends, and that byte has the extent's place.
-- Going along the extents, each adds its number if it does, so the numbers rise.
-- Assumes nothing.
use Prim.Native.Nat.{ℕ, suc, ◌+◌, ◌-◌, ◌<◌, ◌≤◌, min, max}
use native.Mathlib.Omega.{arith}
use mathlib.Core.List.Memᴰ
use mathlib.Core.List.{List, [], ◌∷◌, Memᴰ}
use mathlib.Core.Bool.{true, false}
use mathlib.Core.Option.{some}
use mathlib.Core.Path.{◌≡◌, refl, sym, ap, ◌∙◌}
use mathlib.Core.Logic.{⊎_elim}
use lib.Dec.{ltb}
use borrow.Author.Tests.{ltb-true, ltb-false, lt-ltb}
use Rattle.lines.specs.declared.record.VmdkParsedExtent.{VmdkParsedExtent}
use Rattle.lines.specs.declared.record.VmdkParsedStorage.{VmdkParsedStorage}
use Rattle.lines.specs.declared.record.VmdkParsedStorage.TheVariants.{NoAccess, Zero, Flat}
use Rattle.maps.specs.Place.{within, bytes_in, place_from, place_of, past}
use Rattle.theorems.specs.Tiling.{is_locked, readable, number_of, shares, met_from, met_by, ReadsIn, Rise, Met}
use Rattle.text.proofs.Flat.{by_test}
use Rattle.theorems.proofs.Routes.{place_here, place_next}
use Rattle.theorems.proofs.Tiles.{reads_free}

-- byte o of the extents that begin at a place and are numbered from k on, of extent i and not locked
abbrev Reads : ℕ → ℕ → List VmdkParsedExtent → ℕ → ℕ → ℕ → Type 0
Reads begin k xs i from to =
    (o : ℕ) × (from ≤ o) × (begin ≤ o) × (o < to) × (number_of (place_from k xs (o - begin)) ≡ some i) × (is_locked (place_from k xs (o - begin)) ≡ false)

number_within : (st : VmdkParsedStorage) (i o : ℕ) → number_of (within i st o) ≡ some i
number_within NoAccess i o = refl
number_within (Zero a) i o = refl
number_within (Flat a name start) i o = refl

free_reads : (st : VmdkParsedStorage) (i o : ℕ) → is_locked (within i st o) ≡ false → readable st ≡ true
free_reads NoAccess i o e = sym e
free_reads (Zero a) i o e = refl
free_reads (Flat a name start) i o e = refl

module _ (begin k : ℕ) (x : VmdkParsedExtent) (xs : List VmdkParsedExtent) (i from to : ℕ) where
  abbrev rest : List ℕ
  rest = met_from (begin + bytes_in x) (suc k) xs from to

  -- the list is the rest's, or has this extent before it
  met_by_lem : {C : Type 0} → (met_from begin k (x ∷ xs) from to ≡ rest → C) → (readable x.storage ≡ true → max begin from < min (begin + bytes_in x) to → met_from begin k (x ∷ xs) from to ≡ k ∷ rest → C) → C
  unfolding met_from
  met_by_lem f g =
      by_test (readable x.storage)
      (λ e. by_test (shares begin (begin + bytes_in x) from to)
      (λ h. g e (ltb-true _ _ h) (rw (e, h)))
      (λ h. f (rw (e, h))))
      (λ e. f (rw e))

  reads_next : Reads (begin + bytes_in x) (suc k) xs i from to → Reads begin k (x ∷ xs) i from to
  reads_next r =
      let e = place_next k x xs begin r.0 r.2 in (r.0, r.1, omega (arith, r.2), r.3, rw e r.4, rw e r.5)

  reads_here : readable x.storage ≡ true → max begin from < min (begin + bytes_in x) to → i ≡ k → Reads begin k (x ∷ xs) i from to
  reads_here e h q =
      let o = max begin from in
      let p = place_here k x xs begin o (omega arith) (omega arith) in
      (o, omega arith, omega arith, omega arith, rw (p, q) (number_within x.storage k (o - begin)), rw p (reads_free x.storage k (o - begin) e))

  mem_next : Memᴰ i rest → Memᴰ i (met_from begin k (x ∷ xs) from to)
  mem_next m = met_by_lem (λ e. rw e m) (λ r h e. rw e (Memᴰ.tail m))

  mem_here : (o : ℕ) → from ≤ o → begin ≤ o → o < to → o < begin + bytes_in x → is_locked (within k x.storage (o - begin)) ≡ false → i ≡ k → Memᴰ i (met_from begin k (x ∷ xs) from to)
  unfolding met_from
  mem_here o a b c d l q =
      let h : max begin from < min (begin + bytes_in x) to = omega arith in
      rw (free_reads x.storage k (o - begin) l, lt-ltb _ _ h) (Memᴰ.head q)

met_reads : (begin k : ℕ) (xs : List VmdkParsedExtent) (i from to : ℕ) → Memᴰ i (met_from begin k xs from to) → Reads begin k xs i from to
met_reads begin k [] i from to m = let m₂ : Memᴰ i [] = unfold met_from in m in absurd (Memᴰ.not-nil m₂)
met_reads begin k (x ∷ xs) i from to m =
    met_by_lem begin k x xs i from to
    (λ e. reads_next begin k x xs i from to (met_reads (begin + bytes_in x) (suc k) xs i from to (rw e at m)))
    (λ r h e. ⊎_elim (reads_here begin k x xs i from to r h)
    (λ t. reads_next begin k x xs i from to (met_reads (begin + bytes_in x) (suc k) xs i from to t))
    (Memᴰ.cases_cons (rw e at m)))

reads_met : (begin k : ℕ) (xs : List VmdkParsedExtent) (i from to : ℕ) → Reads begin k xs i from to → Memᴰ i (met_from begin k xs from to)
reads_met begin k [] i from to r =
    let e : number_of past ≡ some i = unfold place_from in r.4 in let z : ◌≡◌ {A = ℕ} 0 1 = cc in absurd (omega arith)
reads_met begin k (x ∷ xs) i from to r =
    let o = r.0 in
    by_test (ltb o (begin + bytes_in x))
    (λ h. let h₂ = ltb-true o (begin + bytes_in x) h in
    let p = place_here k x xs begin o r.2 h₂ in
    let q : some k ≡ some i = sym (number_within x.storage k (o - begin)) ∙ sym (ap number_of p) ∙ r.4 in
    let q₂ : i ≡ k = cc in
    mem_here begin k x xs i from to o r.1 r.2 r.3 h₂ (ap is_locked (sym p) ∙ r.5) q₂)
    (λ h. let h₂ = ltb-false o (begin + bytes_in x) h in
    let p = place_next k x xs begin o h₂ in
    mem_next begin k x xs i from to (reads_met (begin + bytes_in x) (suc k) xs i from to (o, r.1, h₂, r.3, ap number_of (sym p) ∙ r.4, ap is_locked (sym p) ∙ r.5)))

rise_lower : (i : ℕ) (ks : List ℕ) → Rise (suc i) ks → Rise i ks
rise_lower i [] h = tt
rise_lower i (k ∷ ks) h = (omega arith, h.1)

met_rise : (begin k : ℕ) (xs : List VmdkParsedExtent) (from to : ℕ) → Rise k (met_from begin k xs from to)
met_rise begin k [] from to = unfold met_from in tt
met_rise begin k (x ∷ xs) from to =
    let h = met_rise (begin + bytes_in x) (suc k) xs from to in
    met_by_lem begin k x xs k from to (λ e. rw e (rise_lower k (met_from (begin + bytes_in x) (suc k) xs from to) h)) (λ r g e. rw e (omega arith, h))

-- what the extents met are
pub met_is : (xs : List VmdkParsedExtent) (from to : ℕ) → Met xs from to (met_by xs from to)
unfolding met_by place_of
met_is xs from to =
    record {
      those = λ i. (λ m. to_bytes (met_reads 0 0 xs i from to m), λ r. reads_met 0 0 xs i from to (of_bytes r));
      order = met_rise 0 0 xs from to;
    }
  where
    to_bytes : {i : ℕ} → Reads 0 0 xs i from to → ReadsIn xs i from to
    to_bytes r = let e : r.0 - 0 ≡ r.0 = omega arith in (r.0, r.1, r.3, rw e at r.4, rw e at r.5)

    of_bytes : {i : ℕ} → ReadsIn xs i from to → Reads 0 0 xs i from to
    of_bytes r = let e : r.0 - 0 ≡ r.0 = omega arith in (r.0, r.1, omega arith, r.2, rw e r.3, rw e r.4)
