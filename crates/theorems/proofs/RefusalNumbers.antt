-- Each rule of a trimmed line that refuses it names its own number, 5 to 15, and none names 4.
-- So a line is refused with 4 exactly if trimming refuses it, which is if it is not UTF-8.
use Rattle.std.specs.Prelude.{Err, None, Ok, Option, Result, Some}
use Prim.Native.Nat.{ℕ, ◌+◌, ◌≤◌}
use native.Mathlib.Omega.{arith}
use mathlib.Core.List.{List}
use mathlib.Core.Logic.{◌↔◌}
use mathlib.Core.Bool.{false}
use mathlib.Core.Path.{◌≡◌, refl, subst}
use lib.ListN.{length, take, drop}
use lib.Dec.{ltb}
use Rattle.text.specs.Text.{text_at, sound, trim_of, trimmed, word_of}
use Rattle.text.specs.Find.{find_at, same}
use Rattle.text.specs.Number.{number_of}
use Rattle.text.specs.declared.sector.Sectors.{Sectors}
use Rattle.text.proofs.Trims.{trim_wrong}
use Rattle.text.proofs.Flat.{pick_all}
use Rattle.keys.specs.Key.{key_of}
use Rattle.lines.specs.Kept.{kept_of}
use Rattle.lines.specs.Extent.{part, second_of, third_of, three_words, between_quotes, after_quote, file_name_of, file_start_of, flat_from, flat_by, flat_line, no_access_by, no_access_line, by_third, by_second, extent_line, third_word}
use Rattle.lines.specs.Line.{version_limit, version_by, version_of, geometry_of, geometry_by, geometry_line, value_of, key_by, key_line, access_word, access_line, first_blank, skipped, text_line, trimmed_line, line_of}
use Rattle.keys.specs.declared.key.Key.{Key}
use Rattle.keys.specs.declared.key.Key.TheVariants.{Version, Cid, ParentCid, CreateType, ParentFileNameHint, Geometry as Geometry-as-Key, Ddb}
use Rattle.keys.specs.declared.key.Geometry.{Geometry}
use Rattle.lines.specs.declared.extent.Third.{Third}
use Rattle.lines.specs.declared.extent.Third.TheVariants.{Zero, Flat}
use Rattle.lines.specs.declared.line.Said.TheVariants.{Nothing, Extent, Set}
use Rattle.lines.specs.declared.line.AccessWord.{AccessWord}
use Rattle.lines.specs.declared.line.AccessWord.TheVariants.{NoAccess, RdOnly, RW}
use Rattle.lines.specs.declared.record.VmdkAccessType.{VmdkAccessType}
use Rattle.lines.specs.declared.record.VmdkAccessType.TheVariants.{RdOnly as ReadOnly, RW as ReadWrite}
use Rattle.lines.specs.declared.record.VmdkParsedStorage.{VmdkParsedStorage}
use Rattle.lines.specs.declared.line.Said.{Said}
use Rattle.lines.specs.declared.record.Text.{Text}
use Rattle.lines.specs.declared.record.Fault.{Fault}
use Rattle.lines.specs.declared.record.Fault.TheVariants.{NotUtf8, NotThreeWords, OtherType}
use Rattle.lines.specs.Fault.{refusal_number}
use Rattle.text.specs.Ascii.{ascii}

-- what a line with a key says: no extent, and its refusals are 12 to 15
abbrev pub OfKey : Result Said Fault → Type 0
OfKey (Ok Nothing) = Unit {0}
OfKey (Ok (Set v)) = Unit {0}
OfKey (Ok (Extent x)) = ⊥
OfKey (Err n) = (12 ≤ refusal_number n) × (refusal_number n ≤ 15)

-- what an extent line says: an extent, or a refusal 5 to 11
abbrev pub OfExtent : Result Said Fault → Type 0
OfExtent (Ok Nothing) = ⊥
OfExtent (Ok (Set v)) = ⊥
OfExtent (Ok (Extent x)) = Unit {0}
OfExtent (Err n) = (5 ≤ refusal_number n) × (refusal_number n ≤ 11)

-- ---- a line with a key
key_version : (n : Option ℕ) → OfKey (version_by n)
key_version (Some v) = tt
key_version None = omega arith

key_geometry : (g : Geometry) (n : Option ℕ) → OfKey (geometry_by g n)
key_geometry g (Some v) = tt
key_geometry g None = omega arith

key_value : (k : Option Key) (p : ℕ) (v : List ℕ) → OfKey (value_of k p v)
unfolding value_of version_of geometry_line
key_value (Some Version) p v = key_version (number_of version_limit (trimmed v))
key_value (Some Cid) p v = tt
key_value (Some ParentCid) p v = tt
key_value (Some CreateType) p v = tt
key_value (Some ParentFileNameHint) p v = omega arith
key_value (Some (Geometry-as-Key g)) p v = key_geometry g (geometry_of v)
key_value (Some Ddb) p v = tt
key_value None p v = omega arith

key_key : (p : ℕ) (t : List ℕ) (f : Option ℕ) → OfKey (key_by p t f)
key_key p t None = tt
key_key p t (Some i) = key_value (key_of (trimmed (take i t))) (p + (i + 1)) (drop (i + 1) t)

pub key_keys : (p : ℕ) (t : List ℕ) → OfKey (key_line p t)
unfolding key_line
key_keys p t = key_key p t (find_at 0x3D t 0)

-- ---- an extent line
abbrev LateName : Result (Text × ℕ) Fault → Type 0
LateName (Ok (x, e)) = Unit {0}
LateName (Err n) = (5 ≤ refusal_number n) × (refusal_number n ≤ 11)

late_between : (p : ℕ) (t : List ℕ) (i : ℕ) (f : Option ℕ) → LateName (between_quotes p t i f)
late_between p t i None = omega arith
late_between p t i (Some j) = pick_all LateName (three_words (take i t)) (Ok (kept_of (p + (i + 1)) (part t (i + 1) j), j + 1)) (Err NotThreeWords) tt (omega arith)

late_quote : (p : ℕ) (t : List ℕ) (f : Option ℕ) → LateName (after_quote p t f)
late_quote p t None = omega arith
late_quote p t (Some i) = late_between p t i (find_at 0x22 t (i + 1))

late_name : (p : ℕ) (t : List ℕ) → LateName (file_name_of p t)
unfolding file_name_of
late_name p t = late_quote p t (find_at 0x22 t 0)

extent_from : (c : Option Sectors) (a : VmdkAccessType) (s : Sectors) (file : Sectors → VmdkParsedStorage) → OfExtent (flat_from c a s file)
extent_from (Some start) a s file = tt
extent_from None a s file = omega arith

extent_by : (f : Result (Text × ℕ) Fault) (a : VmdkAccessType) (s : Sectors) (t : List ℕ) → LateName f → OfExtent (flat_by f a s t)
extent_by (Ok (name, after)) a s t h = extent_from (file_start_of t after) a s _
extent_by (Err n) a s t h = h

-- what the third word is refused for
abbrev LateType : Result Third Fault → Type 0
LateType (Ok k) = Unit {0}
LateType (Err f) = (5 ≤ refusal_number f) × (refusal_number f ≤ 11)

late_type : (t : List ℕ) (w : Option (ℕ × ℕ)) → LateType (third_word t w)
late_type t None = omega arith
late_type t (Some (a, e)) =
    pick_all LateType (same (part t a e) (ascii "ZERO")) (Ok Zero) _ tt
    (pick_all LateType (same (part t a e) (ascii "FLAT")) (Ok Flat) (Err OtherType) tt (omega arith))

late_third : (t : List ℕ) (end : ℕ) → LateType (third_of t end)
unfolding third_of
late_third t end = late_type t (word_of t end)

extent_third : (k : Result Third Fault) (a : VmdkAccessType) (s : Sectors) (p : ℕ) (t : List ℕ) → LateType k → OfExtent (by_third k a s p t)
unfolding flat_line
extent_third (Ok Zero) a s p t h = tt
extent_third (Ok Flat) a s p t h = extent_by (file_name_of p t) a s t (late_name p t)
extent_third (Err f) a s p t h = h

extent_second : (n : Option (Sectors × ℕ)) (a : VmdkAccessType) (p : ℕ) (t : List ℕ) → OfExtent (by_second n a p t)
extent_second (Some (s, e)) a p t = extent_third (third_of t e) a s p t (late_third t e)
extent_second None a p t = omega arith

extent_locked : (n : Option (Sectors × ℕ)) → OfExtent (no_access_by n)
extent_locked (Some (s, e)) = tt
extent_locked None = omega arith

pub extent_locked_line : (t : List ℕ) (end : ℕ) → OfExtent (no_access_line t end)
unfolding no_access_line
extent_locked_line t end = extent_locked (second_of t end)

pub extent_line_lem : (a : VmdkAccessType) (p : ℕ) (t : List ℕ) (end : ℕ) → OfExtent (extent_line a p t end)
unfolding extent_line
extent_line_lem a p t end = extent_second (second_of t end) a p t

-- ---- a line
-- what is refused is refused with a number from 5 to 15
abbrev Late : Result Said Fault → Type 0
Late (Ok Nothing) = Unit {0}
Late (Ok (Extent x)) = Unit {0}
Late (Ok (Set s)) = Unit {0}
Late (Err n) = (5 ≤ refusal_number n) × (refusal_number n ≤ 15)

late_of_key : (s : Result Said Fault) → OfKey s → Late s
late_of_key (Ok Nothing) h = tt
late_of_key (Ok (Set v)) h = tt
late_of_key (Ok (Extent x)) h = tt
late_of_key (Err n) h = omega arith

late_of_extent : (s : Result Said Fault) → OfExtent s → Late s
late_of_extent (Ok Nothing) h = tt
late_of_extent (Ok (Set v)) h = tt
late_of_extent (Ok (Extent x)) h = tt
late_of_extent (Err n) h = omega arith

late_access : (w : Option AccessWord) (p : ℕ) (t : List ℕ) (end : ℕ) → Late (access_line w p t end)
unfolding access_line
late_access (Some NoAccess) p t end = late_of_extent (no_access_line t end) (extent_locked_line t end)
late_access (Some RdOnly) p t end = late_of_extent (extent_line ReadOnly p t end) (extent_line_lem ReadOnly p t end)
late_access (Some RW) p t end = late_of_extent (extent_line ReadWrite p t end) (extent_line_lem ReadWrite p t end)
late_access None p t end = late_of_key (key_line p t) (key_keys p t)

late_line : (p : ℕ) (t : List ℕ) → Late (text_line p t)
unfolding text_line
late_line p t =
    pick_all Late (skipped t) (Ok Nothing) _ tt
    (pick_all Late (ltb (first_blank t) (length t)) (access_line (access_word (take (first_blank t) t)) p t (first_blank t)) (key_line p t)
    (late_access (access_word (take (first_blank t) t)) p t (first_blank t)) (late_of_key (key_line p t) (key_keys p t)))

late_trimmed : (p : ℕ) (l : List ℕ) (r : Option (ℕ × ℕ)) → trimmed_line p l r ≡ Err NotUtf8 → r ≡ None
late_trimmed p l (Some (a, e)) h = let g : (5 ≤ 4) × (4 ≤ 15) = subst Late h (late_line (p + a) (part l a e)) in absurd (omega arith)
late_trimmed p l None h = refl

line_late : (p : ℕ) (l : List ℕ) (r : Option (ℕ × ℕ)) (n : Fault) → trimmed_line p l r ≡ Err n → (4 ≤ refusal_number n) × (refusal_number n ≤ 15)
line_late p l (Some (a, e)) n h = let g : (5 ≤ refusal_number n) × (refusal_number n ≤ 15) = subst Late h (late_line (p + a) (part l a e)) in omega arith
line_late p l None n h = let q : NotUtf8 ≡ n = cc in rw (← q) (omega arith)

-- a line is refused with a number from 4 to 15
pub line_number : (p : ℕ) (l : List ℕ) (n : Fault) → line_of p l ≡ Err n → (4 ≤ refusal_number n) × (refusal_number n ≤ 15)
unfolding line_of
line_number p l n h = line_late p l (trim_of l) n h

-- a line is refused with 4 exactly if it is not UTF-8
pub four : (p : ℕ) (l : List ℕ) → (line_of p l ≡ Err NotUtf8) ↔ (sound (text_at l 0) ≡ false)
unfolding line_of
four p l = (λ h. (trim_wrong l).0 (late_trimmed p l (trim_of l) h), λ h. rw ((trim_wrong l).1 h))
