use Rattle.std.proofs.Common.{arith}
use Rattle.venue_build.proofs.PlaceRanges.{places_long}
use Rattle.venue_build.proofs.place_table.place_count.Goals as goal

pub overflow_add-result : goal.overflow_add-result
overflow_add-result c = let all = places_long c.args.features.now in omega arith

pub overflow_add-result-2 : goal.overflow_add-result-2
overflow_add-result-2 c = let all = places_long c.args.features.now in omega arith

pub overflow_add-result-3 : goal.overflow_add-result-3
overflow_add-result-3 c = let all = places_long c.args.features.now in omega arith

pub overflow_add-result-4 : goal.overflow_add-result-4
overflow_add-result-4 c = let all = places_long c.args.features.now in omega arith

pub returns : goal.returns
returns c = let all = places_long c.args.features.now in omega arith
