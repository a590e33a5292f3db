-- A line sets one value and leaves the others, so after some lines each value is what the last line with its key set.
-- By recursion on the lines: what a later line sets stands, and else what this one does.
use Rattle.std.specs.Prelude.{Err, None, Ok, Option, Result, Some}
use Prim.Native.Nat.{ℕ, suc, ◌+◌}
use native.Mathlib.Omega.{arith}
use mathlib.Core.List.{List, [], ◌∷◌, ◌++◌}
use mathlib.Core.Logic.{◌⊎◌, inl, inr}
use mathlib.Core.Bool.{false}
use mathlib.Core.Path.{◌≡◌, refl, sym, ap, subst, ◌∙◌}
use lib.ListN.{length, get_or, set}
use lib.Seq.{get_or-set_other}
use lib.Dec.{eqb}
use borrow.Author.Tests.{eqb-true, eqb-false}
use Rattle.text.specs.Lines.{lines_of}
use Rattle.text.specs.Number.{number_of}
use Rattle.text.specs.Text.{trim_of, trimmed}
use Rattle.text.proofs.Flat.{by_test}
use Rattle.keys.specs.declared.key.Geometry.{Geometry}
use Rattle.keys.specs.declared.key.Geometry.TheVariants.{Sectors, Heads, Cylinders}
use Rattle.lines.specs.Record.{no_desc}
use Rattle.lines.specs.Line.{version_limit, version_by, version_of, geometry_by, geometry_line, geometry_of, value_of, line_of}
use Rattle.descriptor.specs.Read.{set_of, read_of}
use Rattle.lines.specs.declared.line.Setting.{Setting}
use Rattle.lines.specs.declared.line.Setting.TheVariants.{Version as Is-as-Version, Cid as Is-as-Cid, ParentCid as Is-as-ParentCid, CreateType as Is-as-CreateType, Sectors as Is-as-Sectors, Heads as Is-as-Heads, Cylinders as Is-as-Cylinders}
use Rattle.lines.specs.declared.line.Said.TheVariants.{Nothing, Extent, Set}
use Rattle.lines.specs.declared.record.VmdkDesc.{VmdkDesc}
use Rattle.lines.specs.declared.line.Said.{Said}
use Rattle.lines.specs.declared.record.Fault.{Fault}
use Rattle.lines.specs.declared.record.Fault.TheVariants.{VersionNumber, GeometryNumber}
use Rattle.theorems.specs.Statements.{LineAt, place_after, sayings, sayings_of, refuses}
use Rattle.theorems.specs.LineWords.{Item, version, cid, parent_cid, create_type, geometry, key_text, KeyLine}
use Rattle.theorems.specs.Values.{Held, number, text, held_in, start_of, meant, Holds, NoneHas, LastLine, LastSaid}
use Rattle.theorems.proofs.Sayings.{set_all}
use Rattle.theorems.proofs.Verdicts.{accepted_lines, accepted_checked}
use Rattle.theorems.proofs.LinePlaces.{lies}
use Rattle.theorems.proofs.Versions.{refuses_apart}
use Rattle.theorems.proofs.KeyLines.{item_of, held_of, item_key, item_key_lem, key_line_says, key_sets}
use Rattle.theorems.proofs.LineFaults.{key_some, says_by}

-- ---- one value is set
-- the values in a row, and which of them an item's is
abbrev rank : Item → ℕ
rank version = 0
rank cid = 1
rank parent_cid = 2
rank create_type = 3
rank (geometry Sectors) = 4
rank (geometry Heads) = 5
rank (geometry Cylinders) = 6

abbrev items : List Item
items = version ∷ cid ∷ parent_cid ∷ create_type ∷ geometry Sectors ∷ geometry Heads ∷ geometry Cylinders ∷ []

rank_tells : (i : Item) → get_or items (rank i) version ≡ i
rank_tells version = refl
rank_tells cid = refl
rank_tells parent_cid = refl
rank_tells create_type = refl
rank_tells (geometry Sectors) = refl
rank_tells (geometry Heads) = refl
rank_tells (geometry Cylinders) = refl

abbrev values : VmdkDesc → List Held
values r =
    number r.version ∷ text r.cid ∷ text r.parent_cid ∷ text r.create_type
    ∷ number r.sectors ∷ number r.heads ∷ number r.cylinders
    ∷ []

held_at : (r : VmdkDesc) (i : Item) → held_in r i ≡ get_or (values r) (rank i) (number 0)
held_at r version = refl
held_at r cid = refl
held_at r parent_cid = refl
held_at r create_type = refl
held_at r (geometry Sectors) = refl
held_at r (geometry Heads) = refl
held_at r (geometry Cylinders) = refl

set_values : (r : VmdkDesc) (v : Setting) → (values (set_of r v) ≡ set (values r) (rank (item_of v)) (held_of v)) × (held_in (set_of r v) (item_of v) ≡ held_of v)
unfolding set_of
set_values r (Is-as-Version n) = (refl, refl)
set_values r (Is-as-Cid x) = (refl, refl)
set_values r (Is-as-ParentCid x) = (refl, refl)
set_values r (Is-as-CreateType x) = (refl, refl)
set_values r (Is-as-Sectors n) = (refl, refl)
set_values r (Is-as-Heads n) = (refl, refl)
set_values r (Is-as-Cylinders n) = (refl, refl)

-- the setting is the item's, or leaves its value
set_by : {C : Type 0} (v : Setting) (i : Item) → (item_of v ≡ i → C) → ((item_of v ≡ i → ⊥) → ((r : VmdkDesc) → held_in (set_of r v) i ≡ held_in r i) → C) → C
set_by v i f g =
    by_test (eqb (rank i) (rank (item_of v)))
    (λ e. let q = eqb-true (rank i) (rank (item_of v)) e in
    f (sym (rank_tells (item_of v)) ∙ ap (λ (n : ℕ). get_or items n version) (sym q) ∙ rank_tells i))
    (λ e. let n = eqb-false (rank i) (rank (item_of v)) e in
    g (λ q. n (ap rank (sym q)))
    (λ r. held_at (set_of r v) i ∙ rw (set_values r v).0 (get_or-set_other (values r) (rank (item_of v)) (rank i) (held_of v) (number 0) n) ∙ sym (held_at r i)))

-- ---- a line with an item's key that is not refused sets it
abbrev Sets : Item → Result Said Fault → Type 0
Sets i s = (v : Setting) × (s ≡ Ok (Set v)) × (item_of v ≡ i)

refused_never : {C : Type 0} (n : Fault) → refuses (Err n ∷ []) ≡ false → C
unfolding refuses
refused_never n h = let z : ◌≡◌ {A = ℕ} 0 1 = cc in absurd (omega arith)

sets_version : (n : Option ℕ) → refuses (version_by n ∷ []) ≡ false → Sets version (version_by n)
sets_version (Some v) h = (Is-as-Version v, refl, refl)
sets_version None h = refused_never VersionNumber h

sets_geometry : (g : Geometry) (n : Option ℕ) → refuses (geometry_by g n ∷ []) ≡ false → Sets (geometry g) (geometry_by g n)
sets_geometry Sectors (Some v) h = (Is-as-Sectors v, refl, refl)
sets_geometry Heads (Some v) h = (Is-as-Heads v, refl, refl)
sets_geometry Cylinders (Some v) h = (Is-as-Cylinders v, refl, refl)
sets_geometry g None h = refused_never GeometryNumber h

sets_value : (i : Item) (p : ℕ) (v : List ℕ) → refuses (value_of (item_key i) p v ∷ []) ≡ false → Sets i (value_of (item_key i) p v)
unfolding value_of version_of geometry_line
sets_value version p v h = sets_version (number_of version_limit (trimmed v)) h
sets_value cid p v h = (_, refl, refl)
sets_value parent_cid p v h = (_, refl, refl)
sets_value create_type p v h = (_, refl, refl)
sets_value (geometry g) p v h = sets_geometry g (geometry_of v) h

sets_line : (p : ℕ) (l : List ℕ) (i : Item) (value : List ℕ) → refuses (line_of p l ∷ []) ≡ false → KeyLine (trimmed l) (key_text i) value → Sets i (line_of p l)
sets_line p l i value h k =
    says_by p l (trim_of l) refl (key_some (trimmed l) (key_text i) value k)
    (λ a e ms q s u w. let at : ℕ = p + a + (length k.before + 1) in
    let g : line_of p l ≡ value_of (item_key i) at k.after = w ∙ key_line_says (p + a) (trimmed l) (key_text i) value k ∙ rw (item_key_lem i) in
    rw g (sets_value i at k.after (rw g at h)))

-- ---- after some lines
-- of the lines from the place p on, the last that sets an item, to h
record Last (p : ℕ) (ls : List (List ℕ)) (i : Item) (h : Held) : Type 0 where
  before : List (List ℕ)
  line : List ℕ
  after : List (List ℕ)
  lines : ls ≡ before ++ line ∷ after
  setting : Setting
  sets : line_of (place_after p before) line ≡ Ok (Set setting)
  item : item_of setting ≡ i
  held : held_of setting ≡ h
  later : NoneHas (key_text i) after

-- the value after them, which was r's before
abbrev After : ℕ → List (List ℕ) → Item → VmdkDesc → Held → Type 0
After p ls i r h = (NoneHas (key_text i) ls × (h ≡ held_in r i)) ⊎ Last p ls i h

module _ (p : ℕ) (l : List ℕ) (ls : List (List ℕ)) (i : Item) where
  abbrev next : ℕ
  next = p + length l + 1

  shift : {h : Held} → Last next ls i h → Last p (l ∷ ls) i h
  unfolding place_after
  shift a =
      record {
        before = l ∷ a.before;
        line = a.line;
        after = a.after;
        lines = ap (λ (x : List (List ℕ)). l ∷ x) a.lines;
        setting = a.setting;
        sets = a.sets;
        item = a.item;
        held = a.held;
        later = a.later;
      }

  -- a line that leaves the item
  leaves : {h : Held} (r r₂ : VmdkDesc) → held_in r₂ i ≡ held_in r i → ((v : Setting) → line_of p l ≡ Ok (Set v) → item_of v ≡ i → ⊥) → refuses (line_of p l ∷ []) ≡ false → After next ls i r₂ h → After p (l ∷ ls) i r h
  leaves r r₂ q n f (inl a) =
      inl ((λ value k. let s = sets_line p l i value f k in n s.0 s.1 s.2, a.0), a.1 ∙ q)
  leaves r r₂ q n f (inr a) = inr (shift a)

  -- a line that sets it
  sets_it : {h : Held} (r : VmdkDesc) (v : Setting) → line_of p l ≡ Ok (Set v) → item_of v ≡ i → After next ls i (set_of r v) h → After p (l ∷ ls) i r h
  unfolding place_after
  sets_it r v e q (inl a) =
      inr (record {
        before = [];
        line = l;
        after = ls;
        lines = refl;
        setting = v;
        sets = e;
        item = q;
        held = sym (a.1 ∙ ap (held_in (set_of r v)) (sym q) ∙ (set_values r v).1);
        later = a.0;
      })
  sets_it r v e q (inr a) = inr (shift a)

  after_by : (r : VmdkDesc) (ss : List (Result Said Fault)) (s : Result Said Fault) → line_of p l ≡ s → refuses (s ∷ []) ≡ false → ((r : VmdkDesc) → After next ls i r (held_in (set_all r ss) i)) → After p (l ∷ ls) i r (held_in (set_all r (s ∷ ss)) i)
  unfolding set_all
  after_by r ss (Ok Nothing) e f g =
      leaves r r refl (λ v q n. let c : (Ok Nothing) ≡ Ok (Set v) = sym e ∙ q in let z : ◌≡◌ {A = ℕ} 0 1 = cc in omega arith) (rw e f) (g r)
  after_by r ss (Ok (Extent x)) e f g =
      leaves r r refl (λ v q n. let c : Ok (Extent x) ≡ Ok (Set v) = sym e ∙ q in let z : ◌≡◌ {A = ℕ} 0 1 = cc in omega arith) (rw e f) (g r)
  after_by r ss (Err m) e f g = refused_never m f
  after_by r ss (Ok (Set v)) e f g =
      set_by v i (λ q. sets_it r v e q (g (set_of r v)))
      (λ n q. leaves r (set_of r v) (q r) (λ w u k. let c : Ok (Set v) ≡ Ok (Set w) = sym e ∙ u in let y : v ≡ w = cc in n (ap item_of y ∙ k)) (rw e f) (g (set_of r v)))

after_lines : (p : ℕ) (ls : List (List ℕ)) (i : Item) (r : VmdkDesc) → refuses (sayings p ls) ≡ false → After p ls i r (held_in (set_all r (sayings p ls)) i)
unfolding sayings
after_lines p [] i r f = inl (tt, unfold set_all in refl)
after_lines p (l ∷ ls) i r f =
    let a = refuses_apart (line_of p l) (sayings (p + length l + 1) ls) f in
    after_by p l ls i r (sayings (p + length l + 1) ls) (line_of p l) refl a.0 (λ r. after_lines (p + length l + 1) ls i r a.1)

-- ---- of an accepted descriptor
start_is : (i : Item) → held_in no_desc i ≡ start_of i
start_is version = refl
start_is cid = refl
start_is parent_cid = refl
start_is create_type = refl
start_is (geometry Sectors) = refl
start_is (geometry Heads) = refl
start_is (geometry Cylinders) = refl

module _ (d : List ℕ) (i : Item) where
  last_line : (h : Held) → Last 0 (lines_of d) i h → LastLine d i h
  last_line h a =
      let at : LineAt d a.before a.line (place_after 0 a.before) (suc (length a.before)) = record { after = a.after; lines = a.lines; place = refl; number = refl } in
      let w = key_sets d (place_after 0 a.before) a.line a.setting (lies d a.before a.line (place_after 0 a.before) (suc (length a.before)) at) a.sets in
      record {
        before = a.before;
        line = a.line;
        place = place_after 0 a.before;
        k = suc (length a.before);
        at = at;
        value = w.0;
        has = subst (λ (i : Item). KeyLine (trimmed a.line) (key_text i) w.0) a.item w.1;
        says = subst (λ (h : Held). Holds d h (meant i w.0)) a.held (subst (λ (i : Item). Holds d (held_of a.setting) (meant i w.0)) a.item w.2);
        last = a.later;
      }

  last_by : (h : Held) → After 0 (lines_of d) i no_desc h → LastSaid d i h
  last_by h (inl a) = inl (a.0, a.1 ∙ start_is i)
  last_by h (inr a) = inr (last_line h a)

  -- its record holds, for each key, what the last line with it says
  pub last_held : (read_of d).verdict ≡ (Ok tt) → LastSaid d i (held_in (read_of d).descriptor.desc i)
  last_held e =
      rw (accepted_checked d e).1 (last_by (held_in (set_all no_desc (sayings_of d)) i) (after_lines 0 (lines_of d) i no_desc (accepted_lines d e).1.0))
