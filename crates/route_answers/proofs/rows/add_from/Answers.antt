use Rattle.std.proofs.Common.{ℕ, List, ◌∷◌, [], ◌++◌, length, filter, map, get_or, Vec, Global, not, sym, ◌∙◌, ap, subst, eq-eqb, arith}
use Rattle.std.proofs.lemmas.Bool.{ne_eqb}
use Rattle.std.proofs.lemmas.List.{take_all}
use Rattle.link_graph.specs.Areas.{inside_area}
use Rattle.link_graph.specs.Graphs.{network}
use Rattle.route_answers.specs.Passing.{other_than}
use Rattle.route_certificate.specs.declared.table.TableLink.{TableLink}
use Rattle.route_answers.specs.Adding.{Adds, pair_row, rows_from}
use Rattle.route_answers.proofs.Gathering.{kept_more, left_more, row_is, row_fits}
use Rattle.route_answers.proofs.rows.add_from.Goals as goal
use Rattle.route_answers.proofs.rows.add_from.Goals.{then-b-a+in_ok-push, else-b-a}

pub loop-b-preserved : goal.loop-b-preserved
loop-b-preserved c =
    let graph = c.args.graph.now in
    let given = network graph in
    let area = c.args.area in
    let a = c.args.a in
    let members = c.args.members.now in
    let i = c.loop-b.b-index in
    let b : ℕ = get_or members i 0 in
    let count : ℕ = length given.nodes in
    elim c.if-b-a.branch [
      | then-b-a+in_ok-push w ↦
          kept_more (pair_row graph area a) (other_than a) members i 0 count c.args.rows.now.items c.loop-b.rows.items c.if-b-a.rows.items c.loop-b-test.true c.loop-b.invariant
          (ap not (ne_eqb a b (λ e. w.if-b-a.true (sym e))))
          (ap (λ (v : Vec TableLink Global). v.items) w.rows-is ∙ w.in_ok-push.ensures.items
          ∙ ap (λ (row : TableLink). c.loop-b.rows.items ++ row ∷ []) (row_is given w.across.result (inside_area graph area a b) c.args.via w.row.result w.row.ensures w.across.ensures.link c.requires.via))
          (row_fits given count w.across.result (inside_area graph area a b) c.args.via w.across.ensures.link c.requires.via c.requires.fits c.requires.from (c.requires.within i 0 c.loop-b-test.true) (let most = w.across.ensures.cost in omega (arith, most)))
      | else-b-a w ↦
          left_more (pair_row graph area a) (other_than a) members i 0 count c.args.rows.now.items c.loop-b.rows.items c.if-b-a.rows.items c.loop-b-test.true c.loop-b.invariant
          (ap not (eq-eqb a b (sym w.if-b-a.false)))
          (ap (λ (v : Vec TableLink Global). v.items) w.rows-is)
    ]

pub returns : goal.returns
unfolding rows_from
returns c =
    subst (λ (xs : List ℕ). Adds (length (network c.args.graph.now).nodes) c.args.rows.now.items c.loop-b.rows.items (map (pair_row c.args.graph.now c.args.area c.args.a) (filter (other_than c.args.a) xs)))
    (take_all c.loop-b.b-index c.args.members.now c.loop-b-test.false) c.loop-b.invariant
