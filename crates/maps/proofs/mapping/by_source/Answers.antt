-- One rule for each source. A file offset above 2^64 - 1 is told by the sum, which is none there.
use Rattle.maps.proofs.Mappings.{source_locked, source_zero, source_far, source_flat}
use Rattle.maps.proofs.mapping.by_source.Goals as goal

pub returns-in-NoAccess : goal.returns-in-NoAccess
returns-in-NoAccess c = source_locked _ _ _ _ _ c.in-NoAccess.is c.refuse.ensures

pub returns-in-Zero : goal.returns-in-Zero
returns-in-Zero c = source_zero _ _ _ _ _ c.in-Zero.is

pub returns-in-None : goal.returns-in-None
returns-in-None c = source_far _ _ _ _ _ c.in-Flat.is c.offset.ensures c.in-None.ensures c.refuse-in-None.ensures

pub returns-in-Some : goal.returns-in-Some
returns-in-Some c = source_flat _ _ _ _ _ c.in-Flat.is c.offset.ensures c.in-Some.ensures c.may_write.ensures
