-- Sectors and bytes: a sector is 512 bytes, and a count of either is at most 2^64-1.
use Rattle.std.specs.Prelude.{ℕ, ◌*◌, List, leb, None, Option, Some}
use Rattle.text.specs.Ranges.{pick}
use Rattle.text.specs.Number.{number_of}
use Rattle.text.specs.declared.sector.Sectors.{Sectors}
use Rattle.text.specs.declared.sector.Bytes.{Bytes}

-- the bytes of one sector
abbrev pub sector_size : ℕ
sector_size = 512

-- the largest number of bytes, or of sectors, that is kept: 2^64-1
abbrev pub largest : ℕ
largest = 18446744073709551615

-- so many sectors
abbrev pub sectors_in : ℕ → Sectors
sectors_in n = record { 0 = n }

-- the bytes up to an offset
abbrev pub bytes_upto : ℕ → Bytes
bytes_upto offset = record { 0 = offset }

-- a number as a count of sectors
abbrev pub sectors_by : Option ℕ → Option Sectors
sectors_by (Some v) = Some (record { 0 = v })
sectors_by None = None

-- the sector count that a text is: a number up to 2^64-1
unfoldable pub sectors_of : List ℕ → Option Sectors
sectors_of t = sectors_by (number_of largest t)

-- the bytes that so many sectors have, if they are at most 2^64-1
unfoldable pub bytes_of : Sectors → Option Bytes
bytes_of s = pick (leb (s.0 * sector_size) largest) (Some (record { 0 = s.0 * sector_size })) None
