-- A line that is no extent line is cut at its first `=`, and the key decides what is said of the value.
-- So what it sets is held as its value means it, and what refuses it is a fault of key or value.
use Rattle.std.specs.Prelude.{Err, None, Ok, Option, Result, Some}
use Prim.Native.Nat.{ℕ, zero, suc, ◌+◌, ◌-◌, ◌≤◌, ◌<◌}
use native.Mathlib.Omega.{arith}
use mathlib.Core.List.{List, [], ◌∷◌, ◌++◌}
use mathlib.Core.Logic.{inl, inr}
use mathlib.Core.Bool.{true, false}
use mathlib.Core.Path.{◌≡◌, refl, sym, ap, subst, ◌∙◌}
use lib.ListN.{length, take, replicate, length-take, length-drop, length-append}
use lib.Dec.{eqb, leb, ltb}
use lib.Seq.{take_all, drop-append-add}
use borrow.Author.Tests.{eqb-true, eqb-false, ltb-true, ltb-false, leb-true}
use Rattle.text.specs.Ascii.{ascii}
use Rattle.text.specs.Find.{same, begins, quoted, strip_of}
use Rattle.text.specs.Lines.{count}
use Rattle.text.specs.Number.{number_of}
use Rattle.text.specs.Sector.{largest}
use Rattle.text.specs.Text.{trim_of, trimmed}
use Rattle.text.proofs.Flat.{by_test}
use Rattle.text.proofs.Finds.{same_is}
use Rattle.text.proofs.Bounds.{trim_within}
use Rattle.keys.specs.Key.{key_of, geometry_key}
use Rattle.keys.specs.declared.key.Key.{Key}
use Rattle.keys.specs.declared.key.Key.TheVariants.{Version, Cid, ParentCid, CreateType, ParentFileNameHint, Geometry as Geometry-as-Key, Ddb}
use Rattle.keys.specs.declared.key.Geometry.{Geometry}
use Rattle.keys.specs.declared.key.Geometry.TheVariants.{Sectors, Heads, Cylinders}
use Rattle.lines.specs.Kept.{kept_at, kept_of, unquoted_of}
use Rattle.lines.specs.Extent.{part, no_access_line, extent_line}
use Rattle.lines.specs.Line.{version_limit, version_by, version_of, geometry_of, geometry_by, geometry_line, value_of, key_line, access_word, access_line, first_blank, skipped, text_line, trimmed_line, line_of}
use Rattle.lines.specs.declared.line.Setting.{Setting}
use Rattle.lines.specs.declared.line.Setting.TheVariants.{Version as Is-as-Version, Cid as Is-as-Cid, ParentCid as Is-as-ParentCid, CreateType as Is-as-CreateType, Sectors as Is-as-Sectors, Heads as Is-as-Heads, Cylinders as Is-as-Cylinders}
use Rattle.lines.specs.declared.line.Said.TheVariants.{Nothing, Extent, Set}
use Rattle.lines.specs.declared.line.AccessWord.{AccessWord}
use Rattle.lines.specs.declared.line.AccessWord.TheVariants.{NoAccess, RdOnly, RW}
use Rattle.lines.specs.declared.record.VmdkAccessType.{VmdkAccessType}
use Rattle.lines.specs.declared.record.VmdkAccessType.TheVariants.{RdOnly as ReadOnly, RW as ReadWrite}
use Rattle.lines.specs.declared.line.Said.{Said}
use Rattle.lines.specs.declared.record.Fault.{Fault}
use Rattle.lines.specs.Fault.{refusal_number}
use Rattle.theorems.specs.Statements.{access_text}
use Rattle.theorems.specs.LineWords.{IsAccess, Item, version, cid, parent_cid, create_type, geometry, key_text, hint_key, UnknownKey, KeyLine, unquoted}
use Rattle.theorems.specs.GivenWhen.{version_number, parent_hint, geometry_number, unknown_key}
use Rattle.theorems.specs.Values.{Held, number, text, letters, meant, Holds}
use Rattle.theorems.proofs.RefusalNumbers.{OfExtent, extent_locked_line, extent_line_lem}
use Rattle.theorems.proofs.LinePlaces.{Lies, part_lies, kept_at_lem}
use Rattle.theorems.proofs.ExtentLines.{Given, differs, range_is, behind}
use Rattle.theorems.proofs.Versions.{v_access, key_said, key_silent}

-- ---- the keys
-- a text that is a key of this kind
abbrev pub KeyIs : List ℕ → Option Key → Type 0
KeyIs key (Some Version) = key ≡ key_text version
KeyIs key (Some Cid) = key ≡ key_text cid
KeyIs key (Some ParentCid) = key ≡ key_text parent_cid
KeyIs key (Some CreateType) = key ≡ key_text create_type
KeyIs key (Some ParentFileNameHint) = key ≡ hint_key
KeyIs key (Some (Geometry-as-Key g)) = key ≡ key_text (geometry g)
KeyIs key (Some Ddb) = Unit {0}
KeyIs key None = UnknownKey key

key_by : {C : Type 0} (key word : List ℕ) → (same key word ≡ true → key ≡ word → C) → (same key word ≡ false → (key ≡ word → ⊥) → C) → C
key_by key word f g = by_test (same key word) (λ e. f e (same_is key word e)) (λ e. g e (differs key word e))

-- a key that is none of the three is that of no geometry value
no_geometry : (key : List ℕ) → (key ≡ key_text (geometry Sectors) → ⊥) → (key ≡ key_text (geometry Heads) → ⊥) → (key ≡ key_text (geometry Cylinders) → ⊥) → (g : Geometry) → key ≡ key_text (geometry g) → ⊥
no_geometry key a b c Sectors = a
no_geometry key a b c Heads = b
no_geometry key a b c Cylinders = c

pub key_tells : (key : List ℕ) → KeyIs key (key_of key)
unfolding key_of geometry_key
key_tells key =
    key_by key (ascii "version") (λ e q. rw e q)
    (λ e₁ n₁. key_by key (ascii "CID") (λ e q. rw (e₁, e) q)
    (λ e₂ n₂. key_by key (ascii "parentCID") (λ e q. rw (e₁, e₂, e) q)
    (λ e₃ n₃. key_by key (ascii "createType") (λ e q. rw (e₁, e₂, e₃, e) q)
    (λ e₄ n₄. key_by key (ascii "parentFileNameHint") (λ e q. rw (e₁, e₂, e₃, e₄, e) q)
    (λ e₅ n₅. key_by key (ascii "ddb.geometry.sectors") (λ e q. rw (e₁, e₂, e₃, e₄, e₅, e) q)
    (λ e₆ n₆. key_by key (ascii "ddb.geometry.heads") (λ e q. rw (e₁, e₂, e₃, e₄, e₅, e₆, e) q)
    (λ e₇ n₇. key_by key (ascii "ddb.geometry.cylinders") (λ e q. rw (e₁, e₂, e₃, e₄, e₅, e₆, e₇, e) q)
    (λ e₈ n₈. by_test (begins key (ascii "ddb.")) (λ e. rw (e₁, e₂, e₃, e₄, e₅, e₆, e₇, e₈, e) tt)
    (λ e. rw (e₁, e₂, e₃, e₄, e₅, e₆, e₇, e₈, e)
    (elim [ version ↦ n₁ | cid ↦ n₂ | parent_cid ↦ n₃ | create_type ↦ n₄ | geometry g ↦ no_geometry key n₆ n₇ n₈ g ], n₅, e))))))))))

-- the key of an item
abbrev pub item_key : Item → Option Key
item_key version = Some Version
item_key cid = Some Cid
item_key parent_cid = Some ParentCid
item_key create_type = Some CreateType
item_key (geometry g) = Some (Geometry-as-Key g)

pub item_key_lem : (i : Item) → key_of (key_text i) ≡ item_key i
unfolding key_of geometry_key same
item_key_lem version = refl
item_key_lem cid = refl
item_key_lem parent_cid = refl
item_key_lem create_type = refl
item_key_lem (geometry Sectors) = refl
item_key_lem (geometry Heads) = refl
item_key_lem (geometry Cylinders) = refl

pub hint_key_lem : key_of hint_key ≡ Some ParentFileNameHint
unfolding key_of same
hint_key_lem = refl

pub other : (key word : List ℕ) → (key ≡ word → ⊥) → same key word ≡ false
other key word n = key_by key word (λ e q. absurd (n q)) (λ e m. e)

pub unknown_is : (key : List ℕ) → UnknownKey key → key_of key ≡ None
unfolding key_of geometry_key
unknown_is key u =
    rw (other key (ascii "version") (u.0 version), other key (ascii "CID") (u.0 cid), other key (ascii "parentCID") (u.0 parent_cid), other key (ascii "createType") (u.0 create_type), other key (ascii "parentFileNameHint") u.1, other key (ascii "ddb.geometry.sectors") (u.0 (geometry Sectors)), other key (ascii "ddb.geometry.heads") (u.0 (geometry Heads)), other key (ascii "ddb.geometry.cylinders") (u.0 (geometry Cylinders)), u.2)

-- ---- an access word
pub access_of : (a : VmdkAccessType) → access_word (access_text a) ≡ None → ⊥
unfolding access_word same
access_of ReadOnly e = let z : ◌≡◌ {A = ℕ} 0 1 = cc in omega arith
access_of ReadWrite e = let z : ◌≡◌ {A = ℕ} 0 1 = cc in omega arith

locked_of : access_word (ascii "NOACCESS") ≡ None → ⊥
unfolding access_word same
locked_of e = let z : ◌≡◌ {A = ℕ} 0 1 = cc in omega arith

not_access : (w : List ℕ) → access_word w ≡ None → IsAccess w → ⊥
not_access w e (inl i) = access_of i.0 (ap access_word (sym i.1) ∙ e)
not_access w e (inr q) = locked_of (ap access_word (sym q) ∙ e)

other_access : (w : List ℕ) → (IsAccess w → ⊥) → access_word w ≡ None
unfolding access_word
other_access w n =
    rw (other w (ascii "RW") (λ q. n (inl (ReadWrite, q))), other w (ascii "RDONLY") (λ q. n (inl (ReadOnly, q))), other w (ascii "NOACCESS") (λ q. n (inr q)))

-- ---- the line, by its key
-- what it says
module _ (p : ℕ) (t key value : List ℕ) (k : KeyLine t key value) where
  no_access_line_lem : text_line p t ≡ key_line p t
  unfolding text_line
  no_access_line_lem =
      by_test (ltb (first_blank t) (length t))
      (λ e. rw (k.read, e, other_access (take (first_blank t) t) (k.no_extent (ltb-true _ _ e))) (v_access p t (first_blank t)))
      (λ e. rw (k.read, e))

  pub key_line_says : text_line p t ≡ value_of (key_of key) (p + (length k.before + 1)) k.after
  key_line_says = no_access_line_lem ∙ key_said t k.before k.after k.whole k.first p ∙ rw k.named

-- how it comes to be cut
pub count_split : (b n : ℕ) (l : List ℕ) → count b l ≡ suc n → (a r : List ℕ) × (l ≡ a ++ b ∷ r) × (count b a ≡ 0) × (count b r ≡ n)
unfolding count
count_split b n [] h = absurd (omega arith)
count_split b n (x ∷ l) h =
    by_test (eqb x b)
    (λ e. let g : suc (count b l) ≡ suc n = rw e at h in let q = eqb-true x b e in ([], l, rw q, refl, omega arith))
    (λ e. let w = count_split b n l (rw e at h) in (x ∷ w.0, w.1, ap (λ (r : List ℕ). x ∷ r) w.2, rw e w.3, w.4))

pub cut_by : {C : Type 0} (b : ℕ) (l : List ℕ) (n : ℕ) → count b l ≡ n → (count b l ≡ 0 → C) → ((a r : List ℕ) → l ≡ a ++ b ∷ r → count b a ≡ 0 → C) → C
cut_by b l zero e f g = f e
cut_by b l (suc n) e f g = let w = count_split b n l e in g w.0 w.1 w.2 w.3

-- ---- what is set
abbrev pub item_of : Setting → Item
item_of (Is-as-Version v) = version
item_of (Is-as-Cid x) = cid
item_of (Is-as-ParentCid x) = parent_cid
item_of (Is-as-CreateType x) = create_type
item_of (Is-as-Sectors n) = geometry Sectors
item_of (Is-as-Heads n) = geometry Heads
item_of (Is-as-Cylinders n) = geometry Cylinders

abbrev pub held_of : Setting → Held
held_of (Is-as-Version v) = number v
held_of (Is-as-Cid x) = text x
held_of (Is-as-ParentCid x) = text x
held_of (Is-as-CreateType x) = text x
held_of (Is-as-Sectors n) = number n
held_of (Is-as-Heads n) = number n
held_of (Is-as-Cylinders n) = number n

-- a text that is kept has its bytes and its length, and an empty one lies at 0
kept_long : (p a e : ℕ) → a ≤ e → ((kept_at p a e).length ≡ e - a) × ((kept_at p a e).length ≡ 0 → (kept_at p a e).place ≡ 0)
unfolding kept_at
kept_long p a e h =
    by_test (eqb a e)
    (λ f. let g = eqb-true a e f in rw f (omega arith, λ z. refl))
    (λ f. let g = eqb-false a e f in rw f (refl, λ z. absurd (omega arith)))

module _ (d : List ℕ) (p : ℕ) (v : List ℕ) (i : Lies d p v) where
  kept_part : (a e : ℕ) → a ≤ e → e ≤ length v → Holds d (text (kept_at p a e)) (letters (part v a e))
  kept_part a e h k =
      let w = kept_long p a e h in
      let q : length (part v a e) ≡ e - a = simp (length-take, length-drop) (omega arith) in
      (kept_at_lem d p v i a e h k, w.0 ∙ sym q, w.1)

  kept_by : (r : Option (ℕ × ℕ)) → trim_of v ≡ r → Holds d (text (kept_of p v)) (letters (trimmed v))
  unfolding kept_of trimmed
  kept_by (Some (a, e)) q = let w = trim_within v q in rw q (kept_part a e w.0 w.1)
  kept_by None q = rw q (refl, refl, λ z. refl)

strip_within : (t : List ℕ) → ((strip_of t).0 ≤ (strip_of t).1) × ((strip_of t).1 ≤ length t)
unfolding strip_of
strip_within t =
    by_test (quoted t)
    (λ e. let h = long e in rw e (omega arith, omega arith))
    (λ e. rw e (omega arith, omega arith))
  where
    long : quoted t ≡ true → 2 ≤ length t
    long e =
        by_test (leb 2 (length t)) (λ f. leb-true _ _ f)
        (λ f. let g : false ≡ true = rw f at e in let z : ◌≡◌ {A = ℕ} 0 1 = cc in absurd (omega arith))

module _ (d : List ℕ) (p : ℕ) (v : List ℕ) (i : Lies d p v) where
  unquoted_by : (r : Option (ℕ × ℕ)) → trim_of v ≡ r → Holds d (text (unquoted_of p v)) (letters (unquoted (trimmed v)))
  unfolding unquoted_of trimmed
  unquoted_by (Some (a, e)) q =
      let w = trim_within v q in
      let s = strip_within (part v a e) in
      rw q (kept_part d (p + a) (part v a e) (part_lies d p v i a e w.0 w.1) (strip_of (part v a e)).0 (strip_of (part v a e)).1 s.0 s.1)
  unquoted_by None q = rw q (unfold strip_of in (refl, refl, λ z. refl))

-- what is set by a trimmed line t of d is what its value means, and a refusal of a line with a key has a fault of it
module _ (d t : List ℕ) where
  abbrev KeyFine : Result Said Fault → Type 0
  KeyFine (Err n) = 12 ≤ refusal_number n → Given t n
  KeyFine (Ok (Set v)) =
      (value : List ℕ) × KeyLine t (key_text (item_of v)) value × Holds d (held_of v) (meant (item_of v) value)
  KeyFine (Ok Nothing) = Unit {0}
  KeyFine (Ok (Extent x)) = Unit {0}

  fine_extent : (s : Result Said Fault) → OfExtent s → KeyFine s
  fine_extent (Err n) h = λ a. absurd (omega arith)
  fine_extent (Ok (Set v)) h = absurd h
  fine_extent (Ok Nothing) h = tt
  fine_extent (Ok (Extent x)) h = tt

module _ (d : List ℕ) (p : ℕ) (t : List ℕ) (lies : Lies d p t) where
  -- with a key
  module _ (key value : List ℕ) (k : KeyLine t key value) where
    abbrev from : ℕ
    from = length k.before + 1

    after_lies : Lies d (p + from) k.after
    after_lies =
        let n : length t ≡ length k.before + suc (length k.after) = ap length k.whole ∙ length-append k.before (0x3D ∷ k.after) in
        let q : part t from (length t) ≡ k.after = after_is n in
        rw q at (part_lies d p t lies from (length t) (omega arith) (omega arith))
      where
        after_is : length t ≡ length k.before + suc (length k.after) → part t from (length t) ≡ k.after
        after_is n =
            let z : length t - from ≡ length k.after = omega arith in
            rw (z, k.whole, drop-append-add k.before (0x3D ∷ k.after) 1) (take_all (length k.after) k.after (omega arith))

    renamed : {key₂ : List ℕ} → key ≡ key₂ → KeyLine t key₂ value
    renamed q = subst (λ (x : List ℕ). KeyLine t x value) q k

    version_fine : key ≡ key_text version → (n : Option ℕ) → number_of version_limit value ≡ n → KeyFine d t (version_by n)
    version_fine q (Some v) e = (value, renamed q, e)
    version_fine q None e = λ a. (version_number, refl, (value, renamed q, e))

    geometry_fine : (g : Geometry) → key ≡ key_text (geometry g) → (n : Option ℕ) → number_of largest (unquoted value) ≡ n → KeyFine d t (geometry_by g n)
    geometry_fine Sectors q (Some v) e = (value, renamed q, e)
    geometry_fine Heads q (Some v) e = (value, renamed q, e)
    geometry_fine Cylinders q (Some v) e = (value, renamed q, e)
    geometry_fine g q None e = λ a. (geometry_number, refl, (g, value, renamed q, e))

    kept_value : Holds d (text (kept_of (p + from) k.after)) (letters value)
    kept_value = rw (← k.says) (kept_by d (p + from) k.after after_lies (trim_of k.after) refl)

    unquoted_value : Holds d (text (unquoted_of (p + from) k.after)) (letters (unquoted value))
    unquoted_value = rw (← k.says) (unquoted_by d (p + from) k.after after_lies (trim_of k.after) refl)

    value_fine : (K : Option Key) → KeyIs key K → KeyFine d t (value_of K (p + from) k.after)
    unfolding value_of version_of geometry_line geometry_of
    value_fine (Some Version) q = version_fine q (number_of version_limit (trimmed k.after)) (ap (number_of version_limit) (sym k.says))
    value_fine (Some Cid) q = (value, renamed q, kept_value)
    value_fine (Some ParentCid) q = (value, renamed q, kept_value)
    value_fine (Some CreateType) q = (value, renamed q, unquoted_value)
    value_fine (Some ParentFileNameHint) q = λ a. (parent_hint, refl, (value, renamed q))
    value_fine (Some (Geometry-as-Key g)) q = geometry_fine g q (geometry_of k.after) (ap (λ (v : List ℕ). number_of largest (unquoted v)) (sym k.says))
    value_fine (Some Ddb) q = tt
    value_fine None q = λ a. (unknown_key, refl, (key, value, k, q))

  -- a line that is neither skipped nor an extent line
  key_fine : skipped t ≡ false → (first_blank t < length t → IsAccess (take (first_blank t) t) → ⊥) → KeyFine d t (key_line p t)
  key_fine s n =
      cut_by 0x3D t (count 0x3D t) refl
      (λ z. rw (key_silent t z p) tt)
      (λ a r q z. let k : KeyLine t (trimmed a) (trimmed r) = record { read = s; no_extent = n; before = a; after = r; whole = q; first = z; named = refl; says = refl } in
      rw (key_said t a r q z p) (value_fine (trimmed a) (trimmed r) k (key_of (trimmed a)) (key_tells (trimmed a))))

  access_fine : skipped t ≡ false → (w : Option AccessWord) → access_word (take (first_blank t) t) ≡ w → KeyFine d t (access_line w p t (first_blank t))
  unfolding access_line
  access_fine s (Some NoAccess) e = fine_extent d t (no_access_line t (first_blank t)) (extent_locked_line t (first_blank t))
  access_fine s (Some RdOnly) e = fine_extent d t (extent_line ReadOnly p t (first_blank t)) (extent_line_lem ReadOnly p t (first_blank t))
  access_fine s (Some RW) e = fine_extent d t (extent_line ReadWrite p t (first_blank t)) (extent_line_lem ReadWrite p t (first_blank t))
  access_fine s None e = key_fine s (λ b. not_access (take (first_blank t) t) e)

  text_fine : KeyFine d t (text_line p t)
  unfolding text_line
  text_fine =
      by_test (skipped t) (λ s. rw s tt)
      (λ s. by_test (ltb (first_blank t) (length t))
      (λ b. rw (s, b) (access_fine s (access_word (take (first_blank t) t)) refl))
      (λ b. let h = ltb-false (first_blank t) (length t) b in rw (s, b) (key_fine s (λ g i. omega arith))))

line_fine : (d : List ℕ) (p : ℕ) (l : List ℕ) → Lies d p l → (r : Option (ℕ × ℕ)) → trim_of l ≡ r → KeyFine d (trimmed l) (trimmed_line p l r)
line_fine d p l i (Some (a, e)) q =
    let w = trim_within l q in
    rw (← range_is l q) (text_fine d (p + a) (part l a e) (part_lies d p l i a e w.0 w.1))
line_fine d p l i None q = λ a. absurd (omega arith)

-- a line that is refused with a number of a key has its fault
pub key_given : (p : ℕ) (l : List ℕ) (n : Fault) → 12 ≤ refusal_number n → line_of p l ≡ Err n → Given (trimmed l) n
unfolding line_of
key_given p l n a h =
    subst (KeyFine (replicate p 0 ++ l) (trimmed l)) h (line_fine (replicate p 0 ++ l) p l (behind p l) (trim_of l) refl) a

-- a line that sets a value has its key, and sets what its value means
pub key_sets : (d : List ℕ) (p : ℕ) (l : List ℕ) (v : Setting) → Lies d p l → line_of p l ≡ Ok (Set v) → (value : List ℕ) × KeyLine (trimmed l) (key_text (item_of v)) value × Holds d (held_of v) (meant (item_of v) value)
unfolding line_of
key_sets d p l v i h = subst (KeyFine d (trimmed l)) h (line_fine d p l i (trim_of l) refl)
