-- `parse_descriptor_file` meets its contract. What reading the lines answers tells the verdict, the values and the count.
-- Assumes nothing.
use Rattle.descriptor.proofs.Turns.{sound_left, refused_left}
use Rattle.descriptor.proofs.read.parse_descriptor_file.Goals as goal

pub returns-in-Ok : goal.returns-in-Ok
returns-in-Ok c = sound_left c.args.d.now c.args.into.now c.put_lines.ensures.extents c.in-Ok.ensures.head

pub returns-in-Err : goal.returns-in-Err
returns-in-Err c = rw c.no_desc-into.ensures (refused_left c.args.d.now c.args.into.now c.put_lines.ensures.extents c.in-Err.ensures.head)
