use Rattle.std.proofs.Common.{List, length, filter, arith, ap, sym, ◌∙◌, ◌-◌}
use Rattle.std.specs.Prelude.{slice_get}
use Rattle.venue_types.specs.declared.features.UnitRow.{UnitRow}
use Rattle.venue_build.specs.Placing.{can_walk}
use Rattle.venue_build.proofs.PlaceRanges.{at_amenity, at_anchor, at_occupant, at_opening, at_unit, none_behind, rest_of, places_long}
use Rattle.venue_build.proofs.place_table.feature_at.Goals as goal

pub returns-in-Some : goal.returns-in-Some
returns-in-Some c = at_amenity c.args.features.now c.args.n c.in-Some.row.now c.in-Some.ensures

pub overflow_sub-anchor : goal.overflow_sub-anchor
overflow_sub-anchor c = let past = none_behind c.args.features.now.amenities c.args.n c.in_default.ensures in omega arith

pub returns-in-Some-get : goal.returns-in-Some-get
returns-in-Some-get c =
    let features = c.args.features.now in
    at_anchor features c.args.n (c.args.n - c.len.result) c.in-Some-get.row.now (rest_of features.amenities c.args.n c.len.result c.in_default.ensures c.len.ensures) c.in-Some-get.ensures

pub overflow_sub-occupant : goal.overflow_sub-occupant
overflow_sub-occupant c = let past = none_behind c.args.features.now.anchors (c.args.n - c.len.result) c.in_default-get.ensures in omega arith

pub returns-in-Some-get-2 : goal.returns-in-Some-get-2
returns-in-Some-get-2 c =
    let features = c.args.features.now in
    let m = c.args.n - c.len.result in
    at_occupant features c.args.n m (m - c.len-2.result) c.in-Some-get-2.row.now (rest_of features.amenities c.args.n c.len.result c.in_default.ensures c.len.ensures)
    (rest_of features.anchors m c.len-2.result c.in_default-get.ensures c.len-2.ensures) c.in-Some-get-2.ensures

pub overflow_sub-opening : goal.overflow_sub-opening
overflow_sub-opening c = let past = none_behind c.args.features.now.occupants (c.args.n - c.len.result - c.len-2.result) c.in_default-get-2.ensures in omega arith

pub returns-in-Some-get-3 : goal.returns-in-Some-get-3
returns-in-Some-get-3 c =
    let features = c.args.features.now in
    let m = c.args.n - c.len.result in
    let k = m - c.len-2.result in
    at_opening features c.args.n m k (k - c.len-3.result) c.in-Some-get-3.row.now (rest_of features.amenities c.args.n c.len.result c.in_default.ensures c.len.ensures)
    (rest_of features.anchors m c.len-2.result c.in_default-get.ensures c.len-2.ensures) (rest_of features.occupants k c.len-3.result c.in_default-get-2.ensures c.len-3.ensures) c.in-Some-get-3.ensures

pub overflow_sub-unit : goal.overflow_sub-unit
overflow_sub-unit c = let past = none_behind c.args.features.now.openings (c.args.n - c.len.result - c.len-2.result - c.len-3.result) c.in_default-get-3.ensures in omega arith

pub unit_at-requires-clause-few : goal.unit_at-requires-clause-few
unit_at-requires-clause-few c =
    omega (arith, places_long c.args.features.now, c.requires.few, ap (λ (rows : List UnitRow). length (filter can_walk rows)) c.as_slice.ensures)

pub unit_at-requires-clause-there : goal.unit_at-requires-clause-there
unit_at-requires-clause-there c =
    let features = c.args.features.now in
    let m = c.args.n - c.len.result in
    let k = m - c.len-2.result in
    let j = k - c.len-3.result in
    let first = rest_of features.amenities c.args.n c.len.result c.in_default.ensures c.len.ensures in
    let second = rest_of features.anchors m c.len-2.result c.in_default-get.ensures c.len-2.ensures in
    let third = rest_of features.occupants k c.len-3.result c.in_default-get-2.ensures c.len-3.ensures in
    let fourth = rest_of features.openings j c.len-4.result c.in_default-get-3.ensures c.len-4.ensures in
    let all = places_long features in
    let there = c.requires.there in
    omega (arith, first, second, third, fourth, all, there, ap (λ (rows : List UnitRow). length (filter can_walk rows)) c.as_slice.ensures)

pub returns : goal.returns
returns c =
    let features = c.args.features.now in
    let m = c.args.n - c.len.result in
    let k = m - c.len-2.result in
    let j = k - c.len-3.result in
    let i = j - c.len-4.result in
    at_unit features c.args.n m k j i c.unit_at.result.now (rest_of features.amenities c.args.n c.len.result c.in_default.ensures c.len.ensures)
    (rest_of features.anchors m c.len-2.result c.in_default-get.ensures c.len-2.ensures) (rest_of features.occupants k c.len-3.result c.in_default-get-2.ensures c.len-3.ensures)
    (rest_of features.openings j c.len-4.result c.in_default-get-3.ensures c.len-4.ensures)
    (ap (λ (rows : List UnitRow). slice_get (filter can_walk rows) i) (sym c.as_slice.ensures) ∙ c.unit_at.ensures)
