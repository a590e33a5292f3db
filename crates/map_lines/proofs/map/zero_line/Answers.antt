-- `zero_line` meets its contract. Two fields are added, and then the last one. They are the words of the definition. Assumes nothing.
use Rattle.phrases.proofs.Lines.{adds_field}
use Rattle.map_lines.proofs.map.zero_line.Goals as goal

pub returns : goal.returns
returns c = adds_field _ _ _ _ c.field.ensures (adds_field _ _ _ _ c.field-2.ensures c.field-3.ensures)
