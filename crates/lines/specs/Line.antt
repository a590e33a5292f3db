-- A line: UTF-8, then trim; it says nothing, an extent, a value, or is refused.
use Rattle.std.specs.Prelude.{ℕ, ◌+◌, List, Bool, true, false, length, take, drop, get_or, eqb, leb, ltb, Err, None, Ok, Option, Result, Some}
use Rattle.text.specs.Ranges.{pick}
use Rattle.text.specs.Text.{trim_of, trimmed, run_of}
use Rattle.text.specs.Find.{find_at, same, strip_of}
use Rattle.text.specs.Number.{number_of}
use Rattle.text.specs.Sector.{largest}
use Rattle.text.specs.Ascii.{ascii}
use Rattle.lines.specs.Record.{most_bytes}
use Rattle.keys.specs.Key.{key_of}
use Rattle.lines.specs.Kept.{kept_of, unquoted_of}
use Rattle.lines.specs.Extent.{part, no_access_line, extent_line}
use Rattle.keys.specs.declared.key.Key.{Key}
use Rattle.keys.specs.declared.key.Key.TheVariants.{Version, Cid, ParentCid, CreateType, ParentFileNameHint, Geometry as Geometry-as-Key, Ddb}
use Rattle.keys.specs.declared.key.Geometry.{Geometry}
use Rattle.keys.specs.declared.key.Geometry.TheVariants.{Sectors, Heads, Cylinders}
use Rattle.lines.specs.declared.line.Setting.{Setting}
use Rattle.lines.specs.declared.line.Setting.TheVariants.{Version as Is-as-Version, Cid as Is-as-Cid, ParentCid as Is-as-ParentCid, CreateType as Is-as-CreateType, Sectors as Is-as-Sectors, Heads as Is-as-Heads, Cylinders as Is-as-Cylinders}
use Rattle.lines.specs.declared.line.Said.TheVariants.{Nothing, Set}
use Rattle.lines.specs.declared.line.AccessWord.{AccessWord}
use Rattle.lines.specs.declared.line.AccessWord.TheVariants.{NoAccess, RdOnly, RW}
use Rattle.lines.specs.declared.record.VmdkAccessType.TheVariants.{RdOnly as ReadOnly, RW as ReadWrite}
use Rattle.lines.specs.declared.line.Said.{Said}
use Rattle.lines.specs.declared.record.Fault.{Fault}
use Rattle.lines.specs.declared.record.Fault.TheVariants.{TooLong, NotUtf8, VersionNumber, ParentHint, GeometryNumber, OtherKey}

-- the version's limit, 2^32-1
abbrev pub version_limit : ℕ
version_limit = 4294967295

abbrev pub version_by : Option ℕ → Result Said Fault
version_by (Some v) = Ok (Set (Is-as-Version v))
version_by None = Err VersionNumber

-- `version`: a number, quotes not stripped
unfoldable pub version_of : List ℕ → Result Said Fault
version_of v = version_by (number_of version_limit (trimmed v))

abbrev pub within : List ℕ → ℕ × ℕ → List ℕ
within t p = part t p.0 p.1

-- `ddb.geometry.sectors`, `.heads`, `.cylinders`: quotes stripped, then a number with no second trim
unfoldable pub geometry_of : List ℕ → Option ℕ
geometry_of v = number_of largest (within (trimmed v) (strip_of (trimmed v)))

abbrev pub measure_of : Geometry → ℕ → Setting
measure_of Sectors v = Is-as-Sectors v
measure_of Heads v = Is-as-Heads v
measure_of Cylinders v = Is-as-Cylinders v

abbrev pub geometry_by : Geometry → Option ℕ → Result Said Fault
geometry_by g (Some v) = Ok (Set (measure_of g v))
geometry_by g None = Err GeometryNumber

unfoldable pub geometry_line : Geometry → List ℕ → Result Said Fault
geometry_line g v = geometry_by g (geometry_of v)

-- what a key says of its value, which lies at the place p of the descriptor; a text that is no key is refused
unfoldable pub value_of : Option Key → ℕ → List ℕ → Result Said Fault
value_of (Some Version) p v = version_of v
value_of (Some Cid) p v = Ok (Set (Is-as-Cid (kept_of p v)))
value_of (Some ParentCid) p v = Ok (Set (Is-as-ParentCid (kept_of p v)))
value_of (Some CreateType) p v = Ok (Set (Is-as-CreateType (unquoted_of p v)))
value_of (Some ParentFileNameHint) p v = Err ParentHint
value_of (Some (Geometry-as-Key g)) p v = geometry_line g v
value_of (Some Ddb) p v = (Ok Nothing)
value_of None p v = Err OtherKey

abbrev pub key_by : ℕ → List ℕ → Option ℕ → Result Said Fault
key_by p t None = (Ok Nothing)
key_by p t (Some i) = value_of (key_of (trimmed (take i t))) (p + (i + 1)) (drop (i + 1) t)

-- with no `=` the line is ignored; else trim the key before and the value after the first `=`
unfoldable pub key_line : ℕ → List ℕ → Result Said Fault
key_line p t = key_by p t (find_at 0x3D t 0)

-- RW, RDONLY or NOACCESS, if the word is one of them
unfoldable pub access_word : List ℕ → Option AccessWord
access_word w =
    pick (same w (ascii "RW")) (Some RW) (pick (same w (ascii "RDONLY")) (Some RdOnly) (pick (same w (ascii "NOACCESS")) (Some NoAccess) None))

-- by the text before the first blank, which is at a place
unfoldable pub access_line : Option AccessWord → ℕ → List ℕ → ℕ → Result Said Fault
access_line (Some NoAccess) p t end = no_access_line t end
access_line (Some RdOnly) p t end = extent_line ReadOnly p t end
access_line (Some RW) p t end = extent_line ReadWrite p t end
access_line None p t end = key_line p t

-- where the text before the first blank ends
abbrev pub first_blank : List ℕ → ℕ
first_blank t = run_of false t 0

-- an empty line or one starting with `#`
abbrev pub skipped : List ℕ → Bool
skipped t = pick (eqb (length t) 0) true (eqb (get_or t 0 0) 0x23)

-- a trimmed line, which lies at the place p
unfoldable pub text_line : ℕ → List ℕ → Result Said Fault
text_line p t =
    pick (skipped t) (Ok Nothing)
    (pick (ltb (first_blank t) (length t)) (access_line (access_word (take (first_blank t) t)) p t (first_blank t)) (key_line p t))

abbrev pub trimmed_line : ℕ → List ℕ → Option (ℕ × ℕ) → Result Said Fault
trimmed_line p l (Some (a, e)) = text_line (p + a) (part l a e)
trimmed_line p l None = Err NotUtf8

-- what a line says, which lies at the place p of the descriptor
unfoldable pub line_of : ℕ → List ℕ → Result Said Fault
line_of p l = trimmed_line p l (trim_of l)

-- the same at any place: a line that ends past the most bytes of a descriptor is refused
unfoldable pub said_at : ℕ → List ℕ → Result Said Fault
said_at p l = pick (leb (p + length l) most_bytes) (line_of p l) (Err TooLong)
