-- The keys of a descriptor, as they stand in its text.
use Rattle.std.specs.Prelude.{ℕ, List, None, Option, Some}
use Rattle.text.specs.Ascii.{ascii}
use Rattle.text.specs.Ranges.{pick}
use Rattle.text.specs.Find.{same, begins}
use Rattle.keys.specs.declared.key.Key.{Key}
use Rattle.keys.specs.declared.key.Key.TheVariants.{Version, Cid, ParentCid, CreateType, ParentFileNameHint, Geometry, Ddb}
use Rattle.keys.specs.declared.key.Geometry.TheVariants.{Sectors, Heads, Cylinders}

-- the disk database's: three are read, and any other key that starts `ddb.` is ignored
unfoldable pub geometry_key : List ℕ → Option Key
geometry_key k =
    pick (same k (ascii "ddb.geometry.sectors")) (Some (Geometry Sectors))
    (pick (same k (ascii "ddb.geometry.heads")) (Some (Geometry Heads))
    (pick (same k (ascii "ddb.geometry.cylinders")) (Some (Geometry Cylinders))
    (pick (begins k (ascii "ddb.")) (Some Ddb) None)))

-- which key a text is, if it is one
unfoldable pub key_of : List ℕ → Option Key
key_of k =
    pick (same k (ascii "version")) (Some Version)
    (pick (same k (ascii "CID")) (Some Cid)
    (pick (same k (ascii "parentCID")) (Some ParentCid)
    (pick (same k (ascii "createType")) (Some CreateType)
    (pick (same k (ascii "parentFileNameHint")) (Some ParentFileNameHint)
    (geometry_key k)))))
