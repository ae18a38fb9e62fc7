use Rattle.std.proofs.Common.{◌≡◌, ◌<◌, ◌&&◌, ℕ, Bool, true, false, length, take, filter, get_or, sym, ap, ◌∙◌, arith}
use Rattle.link_graph.specs.Areas.{joined_across}
use Rattle.link_graph.specs.Graphs.{network}
use Rattle.route_answers.specs.Passing.{passes_node}
use Rattle.route_answers.proofs.JoinedRows.{kept_number, left_number}
use Rattle.route_answers.proofs.MemberPlaces.{first_fails, first_passes, joined_at}
use Rattle.route_answers.proofs.room.Room.joined_below.Goals as goal
use Rattle.route_answers.proofs.room.Room.joined_below.Goals.{then-joins+then-has, else-joins, else-joins-via-then-joins+else-has, else-joins-via-else-joins}

pub loop-j-preserved : goal.loop-j-preserved
loop-j-preserved c =
    let graph = c.args.self.now.graph.now in
    let profile = c.args.self.now.profile.now in
    let members = c.args.self.now.members.now in
    let table = c.args.self.now.sights.now in
    let j = c.loop-j.j in
    let b : ℕ = get_or members j 0 in
    let ok : ℕ → Bool = passes_node (network graph) profile in
    let test : ℕ → ℕ → Bool = λ a m. joined_across table members a m && ok m in
    let more = c.loop-j-test.true in
    let end = c.requires.end in
    let within : j < length members = omega (arith, more, end) in
    let few = c.loop-j.invariant.few in
    let passes = c.requires.room.marked.marked j within in
    elim c.if-joins.branch [
      | then-joins+then-has w ↦ record {
        number = λ a at.
            kept_number (test a) members j 0 c.loop-j.count c.if-joins.count within (c.loop-j.invariant.number a at)
            (first_passes (joined_across table members a b) (ok b) true (joined_at table members c.args.i j a c.requires.room.rise at within ∙ sym c.joins.ensures ∙ w.if-joins.true) (sym passes ∙ sym w.has.ensures ∙ w.if-has.true))
            w.count-is;
        few = let is = w.count-is in omega (arith, few, is);
      }
      | else-joins w ↦ record {
        number = λ a at.
            left_number (test a) members j 0 c.loop-j.count c.if-joins.count within (c.loop-j.invariant.number a at)
            (elim w.else-joins.branch [
              | else-joins-via-then-joins+else-has v ↦
                  first_passes (joined_across table members a b) (ok b) false (joined_at table members c.args.i j a c.requires.room.rise at within ∙ sym c.joins.ensures ∙ v.if-joins.true) (sym passes ∙ sym v.has.ensures ∙ v.if-has.false)
              | else-joins-via-else-joins v ↦ first_fails (joined_across table members a b) (ok b) (joined_at table members c.args.i j a c.requires.room.rise at within ∙ sym c.joins.ensures ∙ v.if-joins.false)
            ])
            w.count-is;
        few = let is = w.count-is in omega (arith, few, is);
      }
    ]

pub returns-clause-number : goal.returns-clause-number
returns-clause-number c = λ a at.
    let last = c.loop-j-test.false in
    let most = c.loop-j.auto.j-end in
    let same : c.loop-j.j ≡ c.args.end = omega (arith, last, most) in
    c.loop-j.invariant.number a at
    ∙ ap (λ (n : ℕ). length (filter (λ b. joined_across c.args.self.now.sights.now c.args.self.now.members.now a b && passes_node (network c.args.self.now.graph.now) c.args.self.now.profile.now b) (take n c.args.self.now.members.now))) same
