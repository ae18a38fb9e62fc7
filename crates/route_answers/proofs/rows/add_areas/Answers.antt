use Rattle.std.proofs.Common.{Bool, ◌≡◌, ℕ, ◌+◌, List, ◌++◌, length, take, flat_map, Some, sym, ap, ◌∙◌, subst, arith}
use Rattle.std.specs.Prelude.{slice_get}
use Rattle.std.proofs.lemmas.Option.{slice_get_within, get_or_from_slice_get}
use Rattle.venue_types.specs.declared.link.Link.{Link}
use Rattle.venue_types.specs.declared.settings.Profile.{Profile}
use Rattle.link_graph.specs.declared.areas.Area.{Area}
use Rattle.link_graph.specs.declared.graph.Graph.{Graph}
use Rattle.link_graph.specs.Areas.{areas, area_links}
use Rattle.link_graph.specs.Graphs.{network}
use Rattle.route_certificate.specs.declared.table.TableLink.{TableLink}
use Rattle.route_answers.specs.Adding.{Adds}
use Rattle.route_answers.specs.Passing.{rows_of}
use Rattle.route_answers.proofs.Choosing.{rows_joined}
use Rattle.route_answers.proofs.Gathering.{at_place, adds_none, adds_both, joined_more}
use Rattle.route_answers.proofs.rows.add_areas.Goals as goal

areas_more : (graph : Graph) (profile : Profile) (w : ℕ) (area : Area × List ℕ × List (List Bool)) (count : ℕ) (start old new : List TableLink) → slice_get (areas graph) w ≡ Some area
    → Adds count start old (rows_of (network graph) profile (flat_map (area_links graph) (take w (areas graph)))) → Adds count old new (rows_of (network graph) profile (area_links graph area))
    → Adds count start new (rows_of (network graph) profile (flat_map (area_links graph) (take (w + 1) (areas graph))))
areas_more graph profile w area count start old new there before added =
    let given = network graph in
    let f : Area × List ℕ × List (List Bool) → List Link = area_links graph in
    let front : List Link = flat_map f (take w (areas graph)) in
    let joined : flat_map f (take (w + 1) (areas graph)) ≡ front ++ f area =
    joined_more f (areas graph) w area (slice_get_within (areas graph) w area there)
    ∙ ap (λ (x : Area × List ℕ × List (List Bool)). front ++ f x) (get_or_from_slice_get (areas graph) w area area there) in
    subst (Adds count start new) (sym (ap (rows_of given profile) joined ∙ rows_joined given profile front (f area)))
    (adds_both count start old new (rows_of given profile front) (rows_of given profile (f area)) before added)

pub loop-w-init : goal.loop-w-init
unfolding rows_of
loop-w-init c = adds_none (length (network c.args.graph.now).nodes) c.args.rows.now.items

pub loop-w-preserved : goal.loop-w-preserved
loop-w-preserved c =
    let more = c.loop-w-test.true in
    let count = c.areas-w-end.ensures in
    let at = at_place (areas c.args.graph.now) c.loop-w.w (omega (arith, more, count)) in
    areas_more c.args.graph.now c.args.profile.now c.loop-w.w at.0 (length (network c.args.graph.now).nodes) c.args.rows.now.items c.loop-w.rows.items c.add_area.new.rows.items at.1 c.loop-w.invariant
    (c.in_ok-add_area.ensures at.0 at.1)
