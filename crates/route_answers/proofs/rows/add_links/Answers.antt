use Rattle.std.proofs.Common.{ℕ, List, ◌∷◌, [], ◌++◌, length, filter, map, get_or, Vec, Global, ◌∙◌, ap, subst, refl, sym}
use Rattle.std.specs.Prelude.{Contains}
use Rattle.std.proofs.lemmas.List.{take_all}
use Rattle.venue_types.specs.declared.kind.Kind.TheVariants.{Floor}
use Rattle.venue_types.specs.declared.link.Link.{Link}
use Rattle.link_graph.specs.Graphs.{network}
use Rattle.route_certificate.specs.declared.table.TableLink.{TableLink}
use Rattle.route_answers.specs.Adding.{Adds}
use Rattle.route_answers.specs.Passing.{link_row, passes_link, rows_of}
use Rattle.route_answers.proofs.Gathering.{kept_more, left_more, row_is, row_fits}
use Rattle.route_answers.proofs.rows.add_links.Goals as goal
use Rattle.route_answers.proofs.rows.add_links.Goals.{then-may_use+in_ok-push, else-may_use}

abbrev nothing : Link
nothing = record { from = 0; to = 0; via = 0; cost = 0; kind = Floor }

pub may_use-requires : goal.may_use-requires
may_use-requires c = c.requires c.loop-link.link-index nothing c.loop-link-test.true

pub way_id-requires : goal.way_id-requires
way_id-requires c = c.range_law.ensures.via (get_or c.args.links.now c.loop-link.link-index nothing) (c.requires c.loop-link.link-index nothing c.loop-link-test.true)

pub loop-link-preserved : goal.loop-link-preserved
loop-link-preserved c =
    let given = network c.args.graph.now in
    let profile = c.args.profile.now in
    let links = c.args.links.now in
    let i = c.loop-link.link-index in
    let link : Link = get_or links i nothing in
    let count : ℕ = length given.nodes in
    let there : Contains given.links link = c.requires i nothing c.loop-link-test.true in
    let law = c.range_law.ensures in
    elim c.if-may_use.branch [
      | then-may_use+in_ok-push w ↦
          kept_more (link_row given) (passes_link given profile) links i nothing count c.args.rows.now.items c.loop-link.rows.items c.if-may_use.rows.items c.loop-link-test.true c.loop-link.invariant
          (sym c.may_use.ensures ∙ w.if-may_use.true)
          (ap (λ (v : Vec TableLink Global). v.items) w.rows-is ∙ w.in_ok-push.ensures.items
          ∙ ap (λ (row : TableLink). c.loop-link.rows.items ++ row ∷ []) (row_is given link link w.way_id.result w.row.result w.row.ensures refl w.way_id.ensures.id))
          (row_fits given count link link w.way_id.result refl w.way_id.ensures.id w.way_id.ensures.fits (law.from link there) (law.to link there) (law.cost link there))
      | else-may_use w ↦
          left_more (link_row given) (passes_link given profile) links i nothing count c.args.rows.now.items c.loop-link.rows.items c.if-may_use.rows.items c.loop-link-test.true c.loop-link.invariant
          (sym c.may_use.ensures ∙ w.if-may_use.false)
          (ap (λ (v : Vec TableLink Global). v.items) w.rows-is)
    ]

pub returns : goal.returns
unfolding rows_of
returns c =
    subst (λ (xs : List Link). Adds (length (network c.args.graph.now).nodes) c.args.rows.now.items c.loop-link.rows.items (map (link_row (network c.args.graph.now)) (filter (passes_link (network c.args.graph.now) c.args.profile.now) xs)))
    (take_all c.loop-link.link-index c.args.links.now c.loop-link-test.false) c.loop-link.invariant
