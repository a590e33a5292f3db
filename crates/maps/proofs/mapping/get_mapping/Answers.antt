-- The tests are the definition's, in its order.
use Rattle.std.proofs.Common.{arith}
use Rattle.maps.proofs.Mappings.{map_many, map_late}
use Rattle.maps.proofs.mapping.get_mapping.Goals as goal

pub returns-then-t-gt-MOST : goal.returns-then-t-gt-MOST
returns-then-t-gt-MOST c = map_many _ _ _ (omega arith) c.refuse.ensures

pub returns-then-offset : goal.returns-then-offset
returns-then-offset c = map_late _ _ _ (omega arith) (omega arith) c.end_of_file.ensures
