-- A line's first `=` is that of what trimming leaves of it, and blanks at the ends change neither its key nor its value once these are trimmed.
-- So on a line that is not refused probing answers by the version that reading sets, and passes over any other.
use Rattle.std.specs.Prelude.{Bool, Err, None, Ok, Option, Result, Some}
use Prim.Native.Nat.{ℕ, zero, suc, ◌+◌, ◌≤◌}
use native.Mathlib.Omega.{arith}
use mathlib.Core.List.{List, [], ◌∷◌, ◌++◌, append_assoc}
use mathlib.Core.Logic.{◌↔◌}
use mathlib.Core.Bool.{true, false}
use mathlib.Core.Path.{◌≡◌, refl, sym, ap, subst, ◌∙◌}
use lib.ListN.{length, take, drop}
use lib.Dec.{eqb, ltb}
use lib.Seq.{take-append_seam, drop-append-add}
use borrow.Author.Tests.{ne_eqb, le-ltb}
use Rattle.text.specs.Ranges.{pick, within}
use Rattle.text.specs.Blank.{blank}
use Rattle.text.specs.Find.{find_at, same, begins}
use Rattle.text.specs.Lines.{count, lines_of}
use Rattle.text.specs.Text.{trim_of, trimmed}
use Rattle.theorems.specs.Unicode.{scalars, encode_all}
use Rattle.text.specs.Number.{number_of}
use Rattle.text.proofs.Flat.{by_test, pick_all}
use Rattle.text.proofs.Finds.{same_is}
use Rattle.lines.specs.Record.{most_bytes, no_desc, refusal}
use Rattle.text.specs.Ascii.{ascii}
use Rattle.keys.specs.Key.{key_of, geometry_key}
use Rattle.lines.specs.Extent.{part, no_access_line, extent_line}
use Rattle.lines.specs.Line.{version_limit, version_by, version_of, geometry_of, geometry_by, geometry_line, value_of, key_line, access_word, access_line, first_blank, skipped, text_line, line_of}
use Rattle.descriptor.specs.Read.{Read, least_bytes, set_of, sizes_from, checked, read_of}
use Rattle.probing.specs.Probe.{verdict_of, probe_key, probe_line, first_answer, probe_lines, probe_of}
use Rattle.theorems.specs.Statements.{ByLine, sayings, sayings_of, refuses, AllSound, first_version, version_after, last_version, read_from}
use Rattle.keys.specs.declared.key.Key.{Key}
use Rattle.keys.specs.declared.key.Key.TheVariants.{Version, Cid, ParentCid, CreateType, ParentFileNameHint, Geometry as Geometry-as-Key, Ddb}
use Rattle.keys.specs.declared.key.Geometry.{Geometry}
use Rattle.keys.specs.declared.key.Geometry.TheVariants.{Sectors, Heads, Cylinders}
use Rattle.lines.specs.declared.line.Setting.TheVariants.{Version as Is-as-Version, Cid as Is-as-Cid, ParentCid as Is-as-ParentCid, CreateType as Is-as-CreateType, Sectors as Is-as-Sectors, Heads as Is-as-Heads, Cylinders as Is-as-Cylinders}
use Rattle.lines.specs.declared.line.Said.TheVariants.{Nothing, Extent, Set}
use Rattle.lines.specs.declared.line.AccessWord.{AccessWord}
use Rattle.lines.specs.declared.line.AccessWord.TheVariants.{NoAccess, RdOnly, RW}
use Rattle.lines.specs.declared.record.VmdkAccessType.TheVariants.{RdOnly as ReadOnly, RW as ReadWrite}
use Rattle.lines.specs.declared.record.VmdkDesc.{VmdkDesc}
use Rattle.lines.specs.declared.record.ReadExtent.{ReadExtent}
use Rattle.lines.specs.declared.line.Said.{Said}
use Rattle.lines.specs.declared.record.Fault.{Fault}
use Rattle.lines.specs.declared.record.Fault.TheVariants.{NotUtf8, OtherVersion}
use Rattle.theorems.proofs.RefusalNumbers.{OfExtent, extent_locked_line, extent_line_lem}
use Rattle.theorems.proofs.Trimming.{Trimming, trim_front, trim_back, first_byte, encode_append, encode_cut, scalars_split, cut_at, blanks_free, count_append, find_none, find_behind}
use Rattle.theorems.proofs.Sayings.{From, from_sizes, from_answer, set_all, never}
use Rattle.theorems.proofs.Verdicts.{late, lines_sound, lines_checked, accepted_lines, accepted_checked}
use Rattle.theorems.proofs.ExtentLines.{range_is, range_sound}

-- ---- what says no version
abbrev NoVersion : Result Said Fault → Type 0
NoVersion (Ok (Set (Is-as-Version v))) = ⊥
NoVersion (Ok (Set (Is-as-Cid x))) = Unit {0}
NoVersion (Ok (Set (Is-as-ParentCid x))) = Unit {0}
NoVersion (Ok (Set (Is-as-CreateType x))) = Unit {0}
NoVersion (Ok (Set (Is-as-Sectors n))) = Unit {0}
NoVersion (Ok (Set (Is-as-Heads n))) = Unit {0}
NoVersion (Ok (Set (Is-as-Cylinders n))) = Unit {0}
NoVersion (Ok Nothing) = Unit {0}
NoVersion (Ok (Extent x)) = Unit {0}
NoVersion (Err n) = Unit {0}

extent_no : (s : Result Said Fault) → OfExtent s → NoVersion s
extent_no (Ok Nothing) h = tt
extent_no (Ok (Set v)) h = absurd h
extent_no (Ok (Extent x)) h = tt
extent_no (Err n) h = tt

-- a key other than `version`
abbrev OtherKey : Option Key → Type 0
OtherKey (Some Version) = ⊥
OtherKey (Some Cid) = Unit {0}
OtherKey (Some ParentCid) = Unit {0}
OtherKey (Some CreateType) = Unit {0}
OtherKey (Some ParentFileNameHint) = Unit {0}
OtherKey (Some (Geometry-as-Key g)) = Unit {0}
OtherKey (Some Ddb) = Unit {0}
OtherKey None = Unit {0}

other_geometry : (k : List ℕ) → OtherKey (geometry_key k)
unfolding geometry_key
other_geometry k =
    pick_all OtherKey (same k (ascii "ddb.geometry.sectors")) (Some (Geometry-as-Key Sectors)) _ tt
    (pick_all OtherKey (same k (ascii "ddb.geometry.heads")) (Some (Geometry-as-Key Heads)) _ tt
    (pick_all OtherKey (same k (ascii "ddb.geometry.cylinders")) (Some (Geometry-as-Key Cylinders)) _ tt
    (pick_all OtherKey (begins k (ascii "ddb.")) (Some Ddb) None tt tt)))

other_key : (k : List ℕ) → same k (ascii "version") ≡ false → OtherKey (key_of k)
unfolding key_of
other_key k e =
    rw e (pick_all OtherKey (same k (ascii "CID")) (Some Cid) _ tt
    (pick_all OtherKey (same k (ascii "parentCID")) (Some ParentCid) _ tt
    (pick_all OtherKey (same k (ascii "createType")) (Some CreateType) _ tt
    (pick_all OtherKey (same k (ascii "parentFileNameHint")) (Some ParentFileNameHint) (geometry_key k) tt (other_geometry k)))))

version_key : (k : List ℕ) → same k (ascii "version") ≡ true → key_of k ≡ Some Version
unfolding key_of
version_key k e = rw e

no_geometry : (g : Geometry) (n : Option ℕ) → NoVersion (geometry_by g n)
no_geometry Sectors (Some v) = tt
no_geometry Heads (Some v) = tt
no_geometry Cylinders (Some v) = tt
no_geometry g None = tt

no_value : (k : Option Key) (p : ℕ) (v : List ℕ) → OtherKey k → NoVersion (value_of k p v)
unfolding value_of geometry_line
no_value (Some Version) p v h = absurd h
no_value (Some Cid) p v h = tt
no_value (Some ParentCid) p v h = tt
no_value (Some CreateType) p v h = tt
no_value (Some ParentFileNameHint) p v h = tt
no_value (Some (Geometry-as-Key g)) p v h = no_geometry g (geometry_of v)
no_value (Some Ddb) p v h = tt
no_value None p v h = tt

-- a trimmed line says no version if it says none as a line with a key
module _ (p : ℕ) (t : List ℕ) (k : NoVersion (key_line p t)) where
  no_access : (w : Option AccessWord) (end : ℕ) → NoVersion (access_line w p t end)
  unfolding access_line
  no_access (Some NoAccess) end = extent_no (no_access_line t end) (extent_locked_line t end)
  no_access (Some RdOnly) end = extent_no (extent_line ReadOnly p t end) (extent_line_lem ReadOnly p t end)
  no_access (Some RW) end = extent_no (extent_line ReadWrite p t end) (extent_line_lem ReadWrite p t end)
  no_access None end = k

  no_text : NoVersion (text_line p t)
  unfolding text_line
  no_text =
      pick_all NoVersion (skipped t) (Ok Nothing) _ tt
      (pick_all NoVersion (ltb (first_blank t) (length t)) (access_line (access_word (take (first_blank t) t)) p t (first_blank t)) (key_line p t)
      (no_access (access_word (take (first_blank t) t)) (first_blank t)) k)

-- ---- a line that starts with `v` is neither skipped nor an extent line
v_word : (n : ℕ) (r : List ℕ) → access_word (take n (0x76 ∷ r)) ≡ None
unfolding access_word same
v_word zero r = refl
v_word (suc n) r = refl

pub v_access : (p : ℕ) (t : List ℕ) (end : ℕ) → access_line None p t end ≡ key_line p t
unfolding access_line
v_access p t end = refl

v_line : (p : ℕ) (r : List ℕ) → text_line p (0x76 ∷ r) ≡ key_line p (0x76 ∷ r)
unfolding text_line
v_line p r =
    let t : List ℕ = 0x76 ∷ r in
    let n : eqb (length t) 0 ≡ false = ne_eqb (length t) 0 (omega arith) in
    by_test (ltb (first_blank t) (length t))
    (λ e. rw (n, e, v_word (first_blank t) r) (v_access p t (first_blank t)))
    (λ e. rw (n, e))

-- ---- one line
-- what probing finds on a line that says so and is not refused
abbrev pub probed_by : Result Said Fault → Option Bool
probed_by (Ok (Set (Is-as-Version v))) = Some (within 1 3 v)
probed_by (Ok (Set (Is-as-Cid x))) = None
probed_by (Ok (Set (Is-as-ParentCid x))) = None
probed_by (Ok (Set (Is-as-CreateType x))) = None
probed_by (Ok (Set (Is-as-Sectors n))) = None
probed_by (Ok (Set (Is-as-Heads n))) = None
probed_by (Ok (Set (Is-as-Cylinders n))) = None
probed_by (Ok Nothing) = None
probed_by (Ok (Extent x)) = None
probed_by (Err n) = None

no_probed : (s : Result Said Fault) → NoVersion s → None ≡ probed_by s
no_probed (Ok (Set (Is-as-Version v))) h = absurd h
no_probed (Ok (Set (Is-as-Cid x))) h = refl
no_probed (Ok (Set (Is-as-ParentCid x))) h = refl
no_probed (Ok (Set (Is-as-CreateType x))) h = refl
no_probed (Ok (Set (Is-as-Sectors n))) h = refl
no_probed (Ok (Set (Is-as-Heads n))) h = refl
no_probed (Ok (Set (Is-as-Cylinders n))) h = refl
no_probed (Ok Nothing) h = refl
no_probed (Ok (Extent x)) h = refl
no_probed (Err n) h = refl

version_probed : (n : Option ℕ) → refuses (version_by n ∷ []) ≡ false → Some (verdict_of n) ≡ probed_by (version_by n)
unfolding refuses
version_probed (Some v) h = refl
version_probed None h = let z : ◌≡◌ {A = ℕ} 0 1 = cc in absurd (omega arith)

version_said : (p : ℕ) (v : List ℕ) → value_of (Some Version) p v ≡ version_by (number_of version_limit (trimmed v))
unfolding value_of version_of
version_said p v = refl

equals_blank : blank 0x3D ≡ false
unfolding blank
equals_blank = refl

-- a text with its first `=` behind a
module _ (t a r : List ℕ) (e : t ≡ a ++ 0x3D ∷ r) (n : count 0x3D a ≡ 0) where
  equals_at : find_at 0x3D t 0 ≡ Some (length a)
  unfolding find_at
  equals_at = let z : 0 + length a ≡ length a = omega arith in rw e (find_behind 0x3D 0 a r n ∙ ap Some z)

  before_equals : take (length a) t ≡ a
  before_equals = rw e (take-append_seam a (0x3D ∷ r))

  after_equals : drop (length a + 1) t ≡ r
  after_equals = rw e (drop-append-add a (0x3D ∷ r) 1)

  pub key_said : (p : ℕ) → key_line p t ≡ value_of (key_of (trimmed a)) (p + (length a + 1)) r
  unfolding key_line
  key_said p = rw (equals_at, before_equals, after_equals)

  pub key_probed : probe_key t (find_at 0x3D t 0) ≡ pick (same (trimmed a) (ascii "version")) (Some (verdict_of (number_of version_limit (trimmed r)))) None
  unfolding probe_key
  key_probed = rw (equals_at, before_equals, after_equals)

-- a text without `=`
module _ (t : List ℕ) (n : count 0x3D t ≡ 0) where
  pub key_silent : (p : ℕ) → key_line p t ≡ (Ok Nothing)
  unfolding key_line find_at
  key_silent p = rw (find_none 0x3D 0 t n)

  pub key_passed : probe_key t (find_at 0x3D t 0) ≡ None
  unfolding probe_key find_at
  key_passed = rw (find_none 0x3D 0 t n)

-- a line l, of which trimming leaves t
module _ (p : ℕ) (l t : List ℕ) (c : Trimming l) (e : t ≡ encode_all c.middle) where
  abbrev By : Type 0
  By = refuses (text_line p t ∷ []) ≡ false → probe_key l (find_at 0x3D l 0) ≡ probed_by (text_line p t)

  free_ends : (count 0x3D (encode_all c.front) ≡ 0) × (count 0x3D (encode_all c.back) ≡ 0)
  free_ends = (
    blanks_free 0x3D (omega arith) c.front equals_blank c.blanks.0,
    blanks_free 0x3D (omega arith) c.back equals_blank c.blanks.1,
  )

  line_whole : l ≡ encode_all c.front ++ (encode_all c.middle ++ encode_all c.back)
  line_whole = c.whole ∙ encode_append c.front (c.middle ++ c.back) ∙ rw (encode_append c.middle c.back)

  without : count 0x3D (encode_all c.middle) ≡ 0 → By
  without n h =
      let m : count 0x3D l ≡ 0 = rw line_whole (count_append 0x3D (encode_all c.front) (encode_all c.middle ++ encode_all c.back) free_ends.0 (count_append 0x3D (encode_all c.middle) (encode_all c.back) n free_ends.1)) in
      key_passed l m ∙ no_probed (text_line p t) (no_text p t (rw (key_silent t (rw e n) p) tt))

  module _ (xs ys : List ℕ) (q : c.middle ≡ xs ++ 0x3D ∷ ys) (n : count 0x3D (encode_all xs) ≡ 0) where
    cut_text : t ≡ encode_all xs ++ 0x3D ∷ encode_all ys
    cut_text = rw (e, q) (encode_cut 0x3D (omega arith) xs ys)

    cut_line : l ≡ encode_all (c.front ++ xs) ++ 0x3D ∷ encode_all (ys ++ c.back)
    cut_line =
        line_whole ∙ rw (q, encode_cut 0x3D (omega arith) xs ys, encode_append c.front xs, encode_append ys c.back) (simp append_assoc)

    cut_free : count 0x3D (encode_all (c.front ++ xs)) ≡ 0
    cut_free = rw (encode_append c.front xs) (count_append 0x3D (encode_all c.front) (encode_all xs) free_ends.0 n)

    cut_scalars : (scalars (c.front ++ xs) ≡ true) × (scalars (ys ++ c.back) ≡ true) × (scalars xs ≡ true)
    cut_scalars =
        let f : c.front ++ (c.middle ++ c.back) ≡ c.front ++ xs ++ 0x3D ∷ (ys ++ c.back) = rw q (simp append_assoc) in
        let s = scalars_split (c.front ++ xs) (0x3D ∷ (ys ++ c.back)) (rw f at c.all_scalars) in
        (s.0, (scalars_split (0x3D ∷ []) (ys ++ c.back) s.1).1, (scalars_split c.front xs s.0).1)

    same_key : trimmed (encode_all (c.front ++ xs)) ≡ trimmed (encode_all xs)
    same_key = trim_front c.front xs cut_scalars.0 c.blanks.0

    same_value : trimmed (encode_all (ys ++ c.back)) ≡ trimmed (encode_all ys)
    same_value = trim_back ys c.back cut_scalars.1 c.blanks.1

    probed : probe_key l (find_at 0x3D l 0) ≡ pick (same (trimmed (encode_all xs)) (ascii "version")) (Some (verdict_of (number_of version_limit (trimmed (encode_all ys))))) None
    probed = key_probed l (encode_all (c.front ++ xs)) (encode_all (ys ++ c.back)) cut_line cut_free ∙ rw (same_key, same_value)

    said : key_line p t ≡ value_of (key_of (trimmed (encode_all xs))) (p + (length (encode_all xs) + 1)) (encode_all ys)
    said = key_said t (encode_all xs) (encode_all ys) cut_text n p

    -- with another key
    with_other : same (trimmed (encode_all xs)) (ascii "version") ≡ false → By
    with_other k h =
        let v : NoVersion (key_line p t) = rw said (no_value (key_of (trimmed (encode_all xs))) (p + (length (encode_all xs) + 1)) (encode_all ys) (other_key (trimmed (encode_all xs)) k)) in
        probed ∙ rw k (no_probed (text_line p t) (no_text p t v))

    -- with the key `version`
    with_version : same (trimmed (encode_all xs)) (ascii "version") ≡ true → By
    with_version k h =
        let w : Option ℕ = number_of version_limit (trimmed (encode_all ys)) in
        let f : trimmed (encode_all xs) ≡ ascii "version" = same_is (trimmed (encode_all xs)) (ascii "version") k in
        let g = first_byte xs (0x3D ∷ ys) (rw q at c.firm) cut_scalars.2 f in
        let v : t ≡ 0x76 ∷ g.0 = e ∙ ap encode_all q ∙ g.1 in
        let m : text_line p t ≡ version_by w = ap (text_line p) v ∙ v_line p g.0 ∙ ap (key_line p) (sym v) ∙ said ∙ rw (version_key (trimmed (encode_all xs)) k) (version_said (p + (length (encode_all xs) + 1)) (encode_all ys)) in
        probed ∙ rw (k, m) (version_probed w (rw m at h))

    with_key : By
    with_key = by_test (same (trimmed (encode_all xs)) (ascii "version")) with_version with_other

  by_key : By
  by_key = cut_at 0x3D (omega arith) c.middle without with_key

refuses_four : refuses (Err NotUtf8 ∷ []) ≡ false → ⊥
unfolding refuses
refuses_four h = let z : ◌≡◌ {A = ℕ} 0 1 = cc in omega arith

-- each of some lines that are not refused
pub refuses_apart : (s : Result Said Fault) (ss : List (Result Said Fault)) → refuses (s ∷ ss) ≡ false → (refuses (s ∷ []) ≡ false) × (refuses ss ≡ false)
unfolding refuses
refuses_apart (Ok Nothing) ss h = (refl, h)
refuses_apart (Ok (Set v)) ss h = (refl, h)
refuses_apart (Ok (Extent x)) ss h = (refl, h)
refuses_apart (Err n) ss h = let z : ◌≡◌ {A = ℕ} 0 1 = cc in absurd (omega arith)

-- what probing finds on a line that is not refused
line_probed : (p : ℕ) (l : List ℕ) (r : Option (ℕ × ℕ)) → trim_of l ≡ r → refuses (line_of p l ∷ []) ≡ false → probe_line l ≡ probed_by (line_of p l)
unfolding line_of probe_line
line_probed p l (Some (a, e)) q h =
    let c = range_sound l q in
    rw q (by_key (p + a) l (part l a e) c (range_is l q ∙ c.left) (rw q at h))
line_probed p l None q h = absurd (refuses_four (rw q at h))

-- ---- line by line
first_said : (s : Result Said Fault) (ss : List (Result Said Fault)) → first_answer (probed_by s) (within 1 3 (first_version ss)) ≡ within 1 3 (first_version (s ∷ ss))
unfolding first_version
first_said (Ok (Set (Is-as-Version v))) ss = refl
first_said (Ok (Set (Is-as-Cid x))) ss = refl
first_said (Ok (Set (Is-as-ParentCid x))) ss = refl
first_said (Ok (Set (Is-as-CreateType x))) ss = refl
first_said (Ok (Set (Is-as-Sectors n))) ss = refl
first_said (Ok (Set (Is-as-Heads n))) ss = refl
first_said (Ok (Set (Is-as-Cylinders n))) ss = refl
first_said (Ok Nothing) ss = refl
first_said (Ok (Extent x)) ss = refl
first_said (Err n) ss = refl

none_said : false ≡ within 1 3 (first_version [])
unfolding first_version
none_said = refl

-- if no line is refused, the first version decides
lines_probed : (p : ℕ) (ls : List (List ℕ)) → refuses (sayings p ls) ≡ false → probe_lines ls ≡ within 1 3 (first_version (sayings p ls))
unfolding probe_lines sayings
lines_probed p [] h = none_said
lines_probed p (l ∷ ls) h =
    let ss : List (Result Said Fault) = sayings (p + length l + 1) ls in
    let k = refuses_apart (line_of p l) ss h in
    rw (line_probed p l (trim_of l) refl k.0, lines_probed (p + length l + 1) ls k.1) (first_said (line_of p l) ss)

-- of a descriptor that is read by line
pub probe_first : (t : List ℕ) → ByLine t → refuses (sayings_of t) ≡ false → probe_of t ≡ within 1 3 (first_version (sayings_of t))
unfolding probe_of
probe_first t b h =
    rw (le-ltb (length t) least_bytes b.least, le-ltb most_bytes (length t) b.small, b.plain) (lines_probed 0 (lines_of t) h)

-- ---- with reading
-- the version after some lines is the last that they say
pub version_set : (d : VmdkDesc) (ss : List (Result Said Fault)) → (set_all d ss).version ≡ version_after d.version ss
unfolding set_all set_of version_after
version_set d [] = refl
version_set d (Ok (Set (Is-as-Version v)) ∷ ss) = version_set (set_of d (Is-as-Version v)) ss
version_set d (Ok (Set (Is-as-Cid x)) ∷ ss) = version_set (set_of d (Is-as-Cid x)) ss
version_set d (Ok (Set (Is-as-ParentCid x)) ∷ ss) = version_set (set_of d (Is-as-ParentCid x)) ss
version_set d (Ok (Set (Is-as-CreateType x)) ∷ ss) = version_set (set_of d (Is-as-CreateType x)) ss
version_set d (Ok (Set (Is-as-Sectors n)) ∷ ss) = version_set (set_of d (Is-as-Sectors n)) ss
version_set d (Ok (Set (Is-as-Heads n)) ∷ ss) = version_set (set_of d (Is-as-Heads n)) ss
version_set d (Ok (Set (Is-as-Cylinders n)) ∷ ss) = version_set (set_of d (Is-as-Cylinders n)) ss
version_set d ((Ok Nothing) ∷ ss) = version_set d ss
version_set d (Ok (Extent x) ∷ ss) = version_set d ss
version_set d (Err n ∷ ss) = version_set d ss

-- after the lines 17 is answered, with 0, exactly if the version is not 1 to 3
version_checked : (d : VmdkDesc) (xs : List ReadExtent) (k : ℕ) → ((checked d xs).verdict ≡ refusal OtherVersion k) ↔ ((within 1 3 d.version ≡ false) × (k ≡ 0))
unfolding checked
version_checked d xs k = (
  λ h. by_test (within 1 3 d.version)
      (λ e. let g : sizes_from 0 xs ≡ refusal OtherVersion k = sym (from_answer (sizes_from 0 xs) d xs) ∙ (rw e at h) in
      let f : 18 ≤ 17 = subst (From 18) g (from_sizes 0 xs) in
      absurd (omega arith))
      (λ e. (e, sym (never OtherVersion k OtherVersion 0 (rw e at h)).1)),
  λ w. rw (w.0, w.1),
)

module _ (t : List ℕ) where
  -- an accepted descriptor is probed by its first version
  pub probe_accepted : (read_of t).verdict ≡ (Ok tt) → probe_of t ≡ within 1 3 (first_version (sayings_of t))
  probe_accepted h = let a = accepted_lines t h in probe_first t a.0 a.1.0

  -- and its last version is 1 to 3
  pub last_accepted : (read_of t).verdict ≡ (Ok tt) → within 1 3 (last_version (sayings_of t)) ≡ true
  last_accepted h = rw (version_set no_desc (sayings_of t)) at (accepted_checked t h).0

  -- 17 is answered, with 0, exactly if every line is sound and the last version is not 1 to 3
  pub last_refused : (k : ℕ) → ((read_of t).verdict ≡ refusal OtherVersion k) ↔ (ByLine t × AllSound (sayings_of t) × (within 1 3 (last_version (sayings_of t)) ≡ false) × (k ≡ 0))
  last_refused k = (
    λ h. let b = late t OtherVersion k (omega arith) h in
        let f : 17 ≤ 17 = omega arith in
        let a = lines_sound t b (subst (From 17) (sym h) f) in
        let q = ap (λ (x : Read). x.verdict) (sym (lines_checked t b a)) ∙ h in
        let v = (version_checked (set_all no_desc (sayings_of t)) (read_from 1 (sayings_of t)) k).0 q in
        (b, a, rw (version_set no_desc (sayings_of t)) at v.0, v.1),
    λ w. rw (lines_checked t w.0 w.1)
        ((version_checked (set_all no_desc (sayings_of t)) (read_from 1 (sayings_of t)) k).1 (rw (version_set no_desc (sayings_of t)) w.2, w.3)),
  )

  -- 17, where probing says yes
  pub probe_refused : (((read_of t).verdict ≡ refusal OtherVersion 0) × (probe_of t ≡ true)) ↔ (ByLine t × AllSound (sayings_of t) × (within 1 3 (first_version (sayings_of t)) ≡ true) × (within 1 3 (last_version (sayings_of t)) ≡ false))
  probe_refused = (
    λ w. let a = (last_refused 0).0 w.0 in (a.0, a.1, sym (probe_first t a.0 a.1.0) ∙ w.1, a.2),
    λ w. ((last_refused 0).1 (w.0, w.1, w.3, refl), probe_first t w.0 w.1.0 ∙ w.2),
  )
