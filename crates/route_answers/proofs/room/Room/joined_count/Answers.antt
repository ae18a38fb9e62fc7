use Rattle.std.proofs.Common.{◌<◌, ◌&&◌, ℕ, List, Bool, length, get_or, sym, ◌∙◌, arith}
use Rattle.std.proofs.lemmas.Option.{slice_get-get_or}
use Rattle.link_graph.specs.Areas.{joined_across}
use Rattle.link_graph.specs.Graphs.{network}
use Rattle.route_answers.specs.Adding.{joined_passing}
use Rattle.route_answers.specs.Passing.{passes_node}
use Rattle.route_answers.proofs.JoinedRows.{kept_sum, left_sum}
use Rattle.route_answers.proofs.MarkedPlaces.{both_passed, few_passed}
use Rattle.route_answers.proofs.room.Room.joined_count.Goals as goal
use Rattle.route_answers.proofs.room.Room.joined_count.Goals.{then-has, else-has}

pub loop-i-preserved : goal.loop-i-preserved
loop-i-preserved c =
    let room = c.args.self.now in
    let graph = room.graph.now in
    let profile = room.profile.now in
    let members = room.members.now in
    let table = room.sights.now in
    let is = c.requires.room in
    let i = c.loop-i.i in
    let a : ℕ = get_or members i 0 in
    let ok : ℕ → Bool = passes_node (network graph) profile in
    let joined : ℕ → List ℕ = joined_passing graph profile members table in
    let more = c.loop-i-test.true in
    let first = c.requires.first in
    let within : i < length members = omega (arith, more, first) in
    let passes = is.marked.marked i within in
    let few = c.loop-i.invariant.few in
    elim c.if-has.branch [
      | then-has w ↦
          (let number = w.both.ensures ∙ both_passed ok members table room.mask.now i a is.rise is.fits is.marked (slice_get-get_or members i 0 within) in
          record {
            number = kept_sum joined ok members i 0 c.loop-i.count w.both.result c.if-has.count within c.loop-i.invariant.number (sym passes ∙ sym c.has.ensures ∙ w.if-has.true) number w.count-is;
            few = let sum = w.count-is in let short = is.short in let one = few_passed (λ b. joined_across table members a b && ok b) members in omega (arith, few, sum, one, number, short);
          })
      | else-has w ↦ record {
        number = left_sum joined ok members i 0 c.loop-i.count c.if-has.count within c.loop-i.invariant.number (sym passes ∙ sym c.has.ensures ∙ w.if-has.false) w.count-is;
        few = let sum = w.count-is in omega (arith, few, sum);
      }
    ]
