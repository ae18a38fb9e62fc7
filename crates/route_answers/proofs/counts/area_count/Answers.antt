use Rattle.std.proofs.Common.{◌≡◌, ℕ, List, ◌*◌, ◌-◌, length, filter, flat_map, arith, sym, ap, ◌∙◌}
use Rattle.std.proofs.lemmas.List.{take_all}
use Rattle.link_graph.specs.Graphs.{network}
use Rattle.route_answers.specs.Adding.{joined_passing}
use Rattle.route_answers.specs.Passing.{passes_node}
use Rattle.route_certificate.specs.declared.table.TableLink.{TableLink}
use Rattle.route_answers.proofs.Choosing.{closed_rows}
use Rattle.route_answers.proofs.MarkedPlaces.{is_room}
use Rattle.route_answers.proofs.Numbers.{crossed_count, joined_number, told}
use Rattle.route_answers.proofs.counts.area_count.Goals as goal

pub returns-then-not-may_cross : goal.returns-then-not-may_cross
returns-then-not-may_cross c = λ listed there.
    let graph = c.args.graph.now in
    let profile = c.args.profile.now in
    let area = c.area.result.0 in
    let members = c.area.result.1.now in
    let table = c.area.result.2.now in
    told graph profile c.args.w area members table listed (λ (rows : List TableLink). 0 ≡ length rows) c.area.ensures.there there
    (sym (ap (λ (rows : List TableLink). length rows) (closed_rows c.network_parts_law.ensures graph profile area members table c.area.ensures.area.barred (sym c.may_cross.ensures ∙ c.if-not-may_cross.true))))

pub returns-then-is_whole : goal.returns-then-is_whole
returns-then-is_whole c = λ listed there.
    let graph = c.args.graph.now in
    let profile = c.args.profile.now in
    let area = c.area.result.0 in
    let members = c.area.result.1.now in
    let table = c.area.result.2.now in
    let is = c.area.ensures.area in
    told graph profile c.args.w area members table listed (λ (rows : List TableLink). c.pairs.result ≡ length rows) c.area.ensures.there there
    (c.pairs.ensures ∙ ap (λ (n : ℕ). n * (n - 1)) c.passing_count.ensures.number
    ∙ sym (crossed_count c.network_parts_law.ensures graph profile area members table (is.whole (c.is_whole.ensures.0 c.if-is_whole.true)) is.barred (sym c.may_cross.ensures ∙ c.if-not-may_cross.false) is.rise))

pub returns-in_ok-mask : goal.returns-in_ok-mask
returns-in_ok-mask c = λ listed there.
    let graph = c.args.graph.now in
    let profile = c.args.profile.now in
    let area = c.area.result.0 in
    let members = c.area.result.1.now in
    let table = c.area.result.2.now in
    told graph profile c.args.w area members table listed (λ (rows : List TableLink). c.joined_count.result ≡ length rows) c.area.ensures.there there
    (c.joined_count.ensures.number
    ∙ ap (λ (some : List ℕ). length (flat_map (joined_passing graph profile members table) (filter (passes_node (network graph) profile) some))) (take_all (length members) members (omega arith))
    ∙ sym (joined_number c.network_parts_law.ensures graph profile area members table c.area.ensures.area.barred (sym c.may_cross.ensures ∙ c.if-not-may_cross.false)))

pub joined_count-requires-clause-room : goal.joined_count-requires-clause-room
joined_count-requires-clause-room c = is_room _ c.area.result.0 c.size.result c.area.ensures.area c.size.ensures.size c.in_ok-mask.ensures
