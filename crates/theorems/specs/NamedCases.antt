-- A disk of two files, zeros and no access, and the places that its lines give to the bytes at the joints.
use Rattle.std.specs.Prelude.{ℕ, List, [], ◌∷◌, map, true, false}
use Rattle.text.specs.Ascii.{ascii}
use Rattle.text.specs.Lines.{join_lines}
use Rattle.theorems.specs.NamedPlaces.{NamedPlace, past, locked, zeros, file}

-- the lines of the descriptor; the second name stands between blanks, and behind it a third text in quotes
abbrev pub joined : List ℕ
joined =
    join_lines (map ascii ("version=1" ∷ "RW 1 FLAT \"reel a.vmdk\" 2" ∷ "RDONLY 0 FLAT \"c\"" ∷ "RDONLY 1 FLAT \" reel b.vmdk \" 0 \"a\"" ∷ "RW 1 ZERO" ∷ "NOACCESS 1" ∷ []))

-- a byte of the disk, and the place that is due
pub record Joint : Type 0 where
  pub byte : ℕ
  pub due : NamedPlace

abbrev lies : ℕ → NamedPlace → Joint
lies o q = record { byte = o; due = q }

-- the first and the last byte of each extent, and the first past the end
abbrev pub joints : List Joint
joints =
    lies 0 (file (ascii "reel a.vmdk") 1024 true)
    ∷ lies 511 (file (ascii "reel a.vmdk") 1535 true)
    ∷ lies 512 (file (ascii "reel b.vmdk") 0 false)
    ∷ lies 1023 (file (ascii "reel b.vmdk") 511 false)
    ∷ lies 1024 zeros
    ∷ lies 1535 zeros
    ∷ lies 1536 locked
    ∷ lies 2047 locked
    ∷ lies 2048 past
    ∷ []
