-- The White_Space property of the Unicode Standard (PropList.txt): the 25 code points that have it, one by one.
use Rattle.std.specs.Prelude.{ℕ, List, [], ◌∷◌, Bool, true, false, eqb}
use Rattle.text.specs.Ranges.{pick}

abbrev pub white_space : List ℕ
white_space =
    0x0009 ∷ 0x000A ∷ 0x000B ∷ 0x000C ∷ 0x000D
    ∷ 0x0020 ∷ 0x0085 ∷ 0x00A0 ∷ 0x1680
    ∷ 0x2000 ∷ 0x2001 ∷ 0x2002 ∷ 0x2003 ∷ 0x2004 ∷ 0x2005 ∷ 0x2006 ∷ 0x2007 ∷ 0x2008 ∷ 0x2009 ∷ 0x200A
    ∷ 0x2028 ∷ 0x2029 ∷ 0x202F ∷ 0x205F ∷ 0x3000
    ∷ []

-- x is one of a list of numbers
abbrev pub listed : ℕ → List ℕ → Bool
listed x [] = false
listed x (k ∷ ks) = pick (eqb x k) true (listed x ks)

-- a code point is a blank: it has the property White_Space
unfoldable pub blank : ℕ → Bool
blank c = listed c white_space
