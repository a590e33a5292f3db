-- `found_line` meets its contract. Each kind of mapping has its own words, and each is added by a function of its own. The definition goes by the
-- same cases. Assumes nothing.
use Rattle.map_lines.proofs.map.found_line.Goals as goal

pub returns-in-Eof : goal.returns-in-Eof
returns-in-Eof c = rw c.in-Eof.is c.field.ensures
