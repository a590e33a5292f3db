-- `refused_mapping` meets its contract. The refusal's field is added, and then the last one. They are the words of the definition. Assumes nothing.
use Rattle.std.specs.Prelude.{◌≡◌}
use Rattle.lines.specs.Fault.{refusal_number}
use Rattle.phrases.proofs.Lines.{adds_field}
use Rattle.map_lines.proofs.map.refused_mapping.Goals as goal

pub returns : goal.returns
returns c = let e : c.from.result ≡ refusal_number c.args.fault = cc in rw (← e) (adds_field _ _ _ _ c.field.ensures c.field-2.ensures)
