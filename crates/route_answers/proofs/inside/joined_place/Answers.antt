use Rattle.std.proofs.Common.{◌≡◌, ℕ, ◌&&◌, Bool, List, length, filter, flat_map, sym, ap, ◌∙◌, arith}
use Rattle.std.specs.Prelude.{nat_lt}
use Rattle.link_graph.specs.Areas.{joined_across}
use Rattle.link_graph.specs.Graphs.{network}
use Rattle.route_answers.specs.Adding.{joined_passing}
use Rattle.route_answers.specs.Passing.{passes_node}
use Rattle.route_answers.proofs.Rising.{passing_below, rises_from}
use Rattle.route_answers.proofs.inside.joined_place.Goals as goal

pub returns : goal.returns
returns c =
    let graph = c.args.room.now.graph.now in
    let profile = c.args.room.now.profile.now in
    let members = c.args.room.now.members.now in
    let table = c.args.room.now.sights.now in
    let link = c.args.link.now in
    let ok : ℕ → Bool = passes_node (network graph) profile in
    let joined : ℕ → List ℕ = joined_passing graph profile members table in
    let test : ℕ → Bool = λ b. joined_across table members link.from b && ok b in
    let up = rises_from members c.requires.room.rise in
    let first : c.joined_count.result ≡ length (flat_map joined (filter (λ (m : ℕ). nat_lt m link.from && ok m) members)) =
    c.joined_count.ensures.number ∙ ap (λ (some : List ℕ). length (flat_map joined some)) (sym (passing_below ok members c.place_of-start.result link.from up c.place_of-start.ensures)) in
    let second : c.joined_below.result ≡ length (filter (λ (b : ℕ). nat_lt b link.to && test b) members) =
    c.joined_below.ensures.number link.from c.place_of-start.ensures ∙ ap (λ (some : List ℕ). length some) (sym (passing_below test members c.place_of-end.result link.to up c.place_of-end.ensures)) in
    omega (arith, first, second)
