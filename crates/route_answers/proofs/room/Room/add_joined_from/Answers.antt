use Rattle.std.proofs.Common.{◌&&◌, ℕ, Bool, true, false, List, ◌∷◌, [], ◌++◌, length, filter, map, get_or, Vec, Global, sym, ◌∙◌, ap, subst, arith}
use Rattle.std.proofs.lemmas.List.{take_all}
use Rattle.std.proofs.lemmas.Option.{get_or_from_slice_get, slice_get-get_or}
use Rattle.link_graph.specs.Areas.{inside_area, joined_across}
use Rattle.link_graph.specs.Graphs.{network}
use Rattle.route_certificate.specs.declared.table.TableLink.{TableLink}
use Rattle.route_answers.specs.Adding.{Adds, pair_row, rows_joined_to}
use Rattle.route_answers.specs.Passing.{passes_node}
use Rattle.route_answers.proofs.Gathering.{adds_none, kept_more, left_more, row_is, row_fits}
use Rattle.route_answers.proofs.MemberPlaces.{first_fails, first_passes, joined_at}
use Rattle.route_answers.proofs.room.Room.add_joined_from.Goals as goal
use Rattle.route_answers.proofs.room.Room.add_joined_from.Goals.{then-joins+then-has+in_ok-push, else-joins, else-joins-via-then-joins+else-has, else-joins-via-else-joins}

pub loop-j-init : goal.loop-j-init
loop-j-init c = adds_none (length (network c.args.self.now.graph.now).nodes) c.args.rows.now.items

pub loop-j-preserved : goal.loop-j-preserved
loop-j-preserved c =
    let room = c.args.self.now in
    let graph = room.graph.now in
    let given = network graph in
    let members = room.members.now in
    let table = room.sights.now in
    let area = c.args.area in
    let j = c.loop-j.j in
    let a : ℕ = get_or members c.args.i 0 in
    let b : ℕ = get_or members j 0 in
    let count : ℕ = length given.nodes in
    let ok : ℕ → Bool = passes_node given room.profile.now in
    let test : ℕ → Bool = λ m. joined_across table members a m && ok m in
    let within = c.loop-j-test.true in
    let here = slice_get-get_or members c.args.i 0 c.requires.place in
    let passes = c.requires.room.marked.marked j within in
    let joined = joined_at table members c.args.i j a c.requires.room.rise here within ∙ sym c.joins.ensures in
    elim c.if-joins.branch [
      | then-joins+then-has+in_ok-push w ↦
          kept_more (pair_row graph area a) test members j 0 count c.args.rows.now.items c.loop-j.rows.items c.if-joins.rows.items within c.loop-j.invariant
          (first_passes (joined_across table members a b) (ok b) true (joined ∙ w.if-joins.true) (sym passes ∙ sym w.has.ensures ∙ w.if-has.true))
          (ap (λ (v : Vec TableLink Global). v.items) w.rows-is ∙ w.in_ok-push.ensures.items
          ∙ ap (λ (row : TableLink). c.loop-j.rows.items ++ row ∷ []) (row_is given w.across.result (inside_area graph area a b) c.args.via w.row.result w.row.ensures w.across.ensures.link c.requires.via))
          (row_fits given count w.across.result (inside_area graph area a b) c.args.via w.across.ensures.link c.requires.via c.requires.fits (c.requires.room.within c.args.i 0 c.requires.place) (c.requires.room.within j 0 within)
          (let most = w.across.ensures.cost in omega (arith, most)))
      | else-joins w ↦
          left_more (pair_row graph area a) test members j 0 count c.args.rows.now.items c.loop-j.rows.items c.if-joins.rows.items within c.loop-j.invariant
          (elim w.else-joins.branch [
            | else-joins-via-then-joins+else-has v ↦ first_passes (joined_across table members a b) (ok b) false (joined ∙ v.if-joins.true) (sym passes ∙ sym v.has.ensures ∙ v.if-has.false)
            | else-joins-via-else-joins v ↦ first_fails (joined_across table members a b) (ok b) (joined ∙ v.if-joins.false)
          ])
          (ap (λ (v : Vec TableLink Global). v.items) w.rows-is)
    ]

pub returns : goal.returns
unfolding rows_joined_to
returns c = λ a at.
    let room = c.args.self.now in
    let graph = room.graph.now in
    let members = room.members.now in
    let rows : ℕ → List ℕ → List TableLink = λ m some. map (pair_row graph c.args.area m) (filter (λ b. joined_across room.sights.now members m b && passes_node (network graph) room.profile.now b) some) in
    let added : List TableLink → Type 0 = Adds (length (network graph).nodes) c.args.rows.now.items c.loop-j.rows.items in
    subst (λ (m : ℕ). added (rows m members)) (get_or_from_slice_get members c.args.i a 0 at) (subst (λ (some : List ℕ). added (rows (get_or members c.args.i 0) some)) (take_all c.loop-j.j members c.loop-j-test.false) c.loop-j.invariant)
