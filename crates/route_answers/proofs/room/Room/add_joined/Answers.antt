use Rattle.std.proofs.Common.{ℕ, Bool, List, length, filter, flat_map, get_or, Vec, Global, sym, ◌∙◌, ap, subst}
use Rattle.std.proofs.lemmas.List.{take_all}
use Rattle.std.proofs.lemmas.Option.{slice_get-get_or}
use Rattle.link_graph.specs.Graphs.{network}
use Rattle.route_certificate.specs.declared.table.TableLink.{TableLink}
use Rattle.route_answers.specs.Adding.{Adds, rows_joined_to}
use Rattle.route_answers.specs.Passing.{passes_node}
use Rattle.route_answers.proofs.Gathering.{adds_none}
use Rattle.route_answers.proofs.JoinedRows.{kept_piece, left_piece}
use Rattle.route_answers.proofs.room.Room.add_joined.Goals as goal
use Rattle.route_answers.proofs.room.Room.add_joined.Goals.{then-has+in_ok-add_joined_from, else-has}

pub loop-i-init : goal.loop-i-init
loop-i-init c = adds_none (length (network c.args.self.now.graph.now).nodes) c.args.rows.now.items

pub loop-i-preserved : goal.loop-i-preserved
loop-i-preserved c =
    let room = c.args.self.now in
    let graph = room.graph.now in
    let members = room.members.now in
    let i = c.loop-i.i in
    let count : ℕ = length (network graph).nodes in
    let ok : ℕ → Bool = passes_node (network graph) room.profile.now in
    let joined : ℕ → List TableLink = rows_joined_to graph room.profile.now c.args.area members room.sights.now in
    let within = c.loop-i-test.true in
    let passes = c.requires.room.marked.marked i within in
    elim c.if-has.branch [
      | then-has+in_ok-add_joined_from w ↦
          kept_piece joined ok members i 0 count c.args.rows.now.items c.loop-i.rows.items c.if-has.rows.items within c.loop-i.invariant (sym passes ∙ sym c.has.ensures ∙ w.if-has.true)
          (subst (λ (v : Vec TableLink Global). Adds count c.loop-i.rows.items v.items (joined (get_or members i 0))) (sym w.rows-is) (w.in_ok-add_joined_from.ensures (get_or members i 0) (slice_get-get_or members i 0 within)))
      | else-has w ↦
          left_piece joined ok members i 0 count c.args.rows.now.items c.loop-i.rows.items c.if-has.rows.items within c.loop-i.invariant (sym passes ∙ sym c.has.ensures ∙ w.if-has.false)
          (ap (λ (v : Vec TableLink Global). v.items) w.rows-is)
    ]

pub returns : goal.returns
returns c =
    let room = c.args.self.now in
    let graph = room.graph.now in
    let ok : ℕ → Bool = passes_node (network graph) room.profile.now in
    subst (λ (some : List ℕ). Adds (length (network graph).nodes) c.args.rows.now.items c.loop-i.rows.items (flat_map (rows_joined_to graph room.profile.now c.args.area room.members.now room.sights.now) (filter ok some)))
    (take_all c.loop-i.i room.members.now c.loop-i-test.false) c.loop-i.invariant
