-- A row that the search ends at holds the offset.
use Rattle.std.proofs.Common.{◌≡◌, ◌-◌, arith}
use Rattle.std.specs.Prelude.{min}
use Rattle.maps.proofs.Mappings.{map_none, map_row, row_ends}
use Rattle.maps.proofs.mapping.find.Goals as goal

pub returns-in_default : goal.returns-in_default
returns-in_default c = map_none _ _ _ c.search-found.ensures c.requires.0 c.requires.1 c.in_default.is c.end_of_file.ensures

pub overflow_sub-offset : goal.overflow_sub-offset
overflow_sub-offset c = let f = row_ends c.args.t.now c.args.offset c.search-found.ensures c.in-Some.is in omega arith

pub overflow_sub-within : goal.overflow_sub-within
overflow_sub-within c = let f = row_ends c.args.t.now c.args.offset c.search-found.ensures c.in-Some.is in omega arith

pub returns : goal.returns
returns c =
    let run : c.min-run.result ≡ min c.args.max_length (min (c.args.t.now.size.0 - c.args.offset) (c.offset-2.result - c.args.offset)) = omega (arith, c.min-run.ensures, c.min-left.ensures, c.offset-size.ensures) in
    map_row _ _ _ c.search-found.ensures c.in-Some.is c.requires.0 c.requires.1 c.offset.ensures c.offset-2.ensures run c.by_source.ensures
