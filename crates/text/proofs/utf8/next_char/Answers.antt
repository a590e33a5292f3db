use Rattle.text.proofs.Chars.{lead_bits, lead_count, char_tail}
use Rattle.text.proofs.utf8.next_char.Goals as goal

pub tail-requires : goal.tail-requires
tail-requires c =
    let b = lead_bits _ c.first_byte.ensures c.in-Some-first_byte.is in
    rw c.from.ensures (b, lead_count _ c.first_byte.ensures c.in-Some-first_byte.is)

pub returns-in-Some-first_byte : goal.returns-in-Some-first_byte
returns-in-Some-first_byte c =
    let s = c.in-Some.ensures.lookup.3 in
    char_tail _ _ s.0 (s.1 0) c.first_byte.ensures c.in-Some-first_byte.is (rw c.from.ensures at c.tail.ensures)
