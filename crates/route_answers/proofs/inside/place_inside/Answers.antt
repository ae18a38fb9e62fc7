use Rattle.std.proofs.Common.{List, filter, arith}
use Rattle.std.proofs.lemmas.Option.{slice_get_within}
use Rattle.link_graph.specs.Graphs.{network}
use Rattle.route_certificate.specs.declared.table.TableLink.{TableLink}
use Rattle.route_answers.specs.Passing.{link_row, passes_node}
use Rattle.route_answers.specs.Places.{IsFirstPlace}
use Rattle.route_answers.proofs.MarkedPlaces.{is_room}
use Rattle.route_answers.proofs.Numbers.{told}
use Rattle.route_answers.proofs.UnitPlaces.{inside, joined_place, ranks, unit_place}
use Rattle.route_answers.proofs.inside.place_inside.Goals as goal

pub pair_place-requires-clause-start : goal.pair_place-requires-clause-start
pair_place-requires-clause-start c =
    let graph = c.args.graph.now in
    let profile = c.args.profile.now in
    let link = c.args.link.now in
    let area = c.area.result.0 in
    let members = c.area.result.1.now in
    let table = c.area.result.2.now in
    let is_link = inside graph area members table link (c.requires.there (area, members, table) c.area.ensures.there) in
    let are = ranks c.network_parts_law.ensures graph profile area members table link c.passing_below-start.result c.passing_below-end.result c.area.ensures.area is_link c.requires.allowed c.passing_below-start.ensures c.passing_below-end.ensures in
    let within = slice_get_within (filter (passes_node (network graph) profile) members) c.passing_below-start.result link.from are.from in
    let count = c.passing_count-count.ensures.number in
    omega (arith, within, count)

pub pair_place-requires-clause-end : goal.pair_place-requires-clause-end
pair_place-requires-clause-end c =
    let graph = c.args.graph.now in
    let profile = c.args.profile.now in
    let link = c.args.link.now in
    let area = c.area.result.0 in
    let members = c.area.result.1.now in
    let table = c.area.result.2.now in
    let is_link = inside graph area members table link (c.requires.there (area, members, table) c.area.ensures.there) in
    let are = ranks c.network_parts_law.ensures graph profile area members table link c.passing_below-start.result c.passing_below-end.result c.area.ensures.area is_link c.requires.allowed c.passing_below-start.ensures c.passing_below-end.ensures in
    let within = slice_get_within (filter (passes_node (network graph) profile) members) c.passing_below-end.result link.to are.to in
    let count = c.passing_count-count.ensures.number in
    omega (arith, within, count)

pub joined_place-requires-clause-from : goal.joined_place-requires-clause-from
joined_place-requires-clause-from c = (inside c.args.graph.now c.area.result.0 c.area.result.1.now c.area.result.2.now c.args.link.now (c.requires.there _ c.area.ensures.there)).from

pub joined_place-requires-clause-to : goal.joined_place-requires-clause-to
joined_place-requires-clause-to c = (inside c.args.graph.now c.area.result.0 c.area.result.1.now c.area.result.2.now c.args.link.now (c.requires.there _ c.area.ensures.there)).to

pub returns-then-not-is_whole : goal.returns-then-not-is_whole
returns-then-not-is_whole c = λ listed there.
    let graph = c.args.graph.now in
    let profile = c.args.profile.now in
    let link = c.args.link.now in
    let area = c.area.result.0 in
    let members = c.area.result.1.now in
    let table = c.area.result.2.now in
    let is_link = inside graph area members table link (c.requires.there (area, members, table) c.area.ensures.there) in
    told graph profile c.args.w area members table listed (λ (rows : List TableLink). IsFirstPlace rows (link_row (network graph) link) c.joined_place.result) c.area.ensures.there there
    (joined_place c.network_parts_law.ensures graph profile area members table link c.joined_place.result c.area.ensures.area is_link c.requires.allowed c.joined_place.ensures)

pub returns : goal.returns
returns c = λ listed there.
    let graph = c.args.graph.now in
    let profile = c.args.profile.now in
    let link = c.args.link.now in
    let area = c.area.result.0 in
    let members = c.area.result.1.now in
    let table = c.area.result.2.now in
    let is_link = inside graph area members table link (c.requires.there (area, members, table) c.area.ensures.there) in
    let are = ranks c.network_parts_law.ensures graph profile area members table link c.passing_below-start.result c.passing_below-end.result c.area.ensures.area is_link c.requires.allowed c.passing_below-start.ensures c.passing_below-end.ensures in
    told graph profile c.args.w area members table listed (λ (rows : List TableLink). IsFirstPlace rows (link_row (network graph) link) c.pair_place.result) c.area.ensures.there there
    (unit_place c.network_parts_law.ensures graph profile area members table link c.passing_count-count.result c.passing_below-start.result c.passing_below-end.result c.pair_place.result c.area.ensures.area
    (c.is_whole.ensures.0 c.if-not-is_whole.false) is_link c.requires.allowed c.passing_count-count.ensures.number are c.pair_place.ensures.before c.pair_place.ensures.behind)

pub joined_place-requires-clause-room : goal.joined_place-requires-clause-room
joined_place-requires-clause-room c = is_room _ c.area.result.0 c.size.result c.area.ensures.area c.size.ensures.size c.in_ok-mask.ensures
