-- `tables::build::build` meets its contract. What storing the rows answers tells the verdict, the size and the count.
-- Assumes nothing.
use Rattle.tables.proofs.Endings.{sound_left, refused_left}
use Rattle.tables.proofs.build.build.Goals as goal

pub returns-in-Ok : goal.returns-in-Ok
returns-in-Ok c = sound_left c.args.record.now c.args.into.now c.put_rows.ensures.rows c.in-Ok.ensures.size c.in-Ok.ensures.counted

pub returns-in-Err : goal.returns-in-Err
returns-in-Err c = rw c.upto-into.ensures (refused_left c.args.record.now c.args.into.now c.put_rows.ensures.rows c.in-Err.ensures.size)
