use Rattle.std.proofs.Common.{◌≡◌, ◌<◌, ◌≤◌, ◌+◌, ℕ, true, false, inl, inr, length, set, refl, sym, ap, ◌∙◌, arith}
use Rattle.link_graph.specs.Graphs.{network}
use Rattle.link_graph.specs.Marking.{marked}
use Rattle.route_search.specs.Scans.{CanPass, node_count, out_count_of}
use Rattle.route_search.specs.States.{cost_in, settled_in, open_sum}
use Rattle.route_search.proofs.Between.{node_within, skipped, amid, closed, root_same, root_later, ended_spent, ended_found}
use Rattle.route_search.proofs.Sums.{open_sum-settle}
use Rattle.route_search.proofs.Tallies.{settled_ends, kept_ends, later_ends, enough_ends, no_bound_ends}
use Rattle.std.proofs.lemmas.Bool.{cases_Bool}
use Rattle.route_search.proofs.growth.grow.Goals as goal

pub nodes-preserved-then-not-is_due : goal.nodes-preserved-then-not-is_due
nodes-preserved-then-not-is_due g c =
    let old = c.nodes.state in
    let stale : cost_in old c.in-Some.node ≡ c.in-Some.cost → settled_in old c.in-Some.node ≡ true = λ fresh. elim (cases_Bool (settled_in old c.in-Some.node)) [
      | inl so ↦ so
      | inr free ↦ (let on : c.is_due.result ≡ true = c.is_due.ensures.1 (fresh, free) in let never : true ≡ false = sym on ∙ c.if-not-is_due.true in absurd cc)
    ] in
    record {
      between = skipped (CanPass c.args.ways.now) (node_count c.args.ways.now.graph.now) old (record old { frontier = c.pop.new.self }) c.nodes.invariant.between c.in-Some.cost c.in-Some.node c.in-Some.ensures.found refl refl refl stale;
      ends = kept_ends (g.E.Ends.ends c.args.ends.now) c.args.count c.nodes.tally old (record old { frontier = c.pop.new.self }) refl refl c.nodes.invariant.ends;
      roots = λ from is. root_same from old (record old { frontier = c.pop.new.self }) refl refl (c.nodes.invariant.roots from is);
      steps = c.nodes.invariant.steps;
    }

pub is_due-requires-clause-costs : goal.is_due-requires-clause-costs
is_due-requires-clause-costs g c =
    omega (arith, node_within (CanPass c.args.ways.now) (node_count c.args.ways.now.graph.now) c.nodes.state (record c.nodes.state { frontier = c.pop.new.self }) c.nodes.invariant.between c.in-Some.cost c.in-Some.node c.in-Some.ensures.found refl refl, c.nodes.invariant.between.tree.costs_count)

pub is_due-requires-clause-settled : goal.is_due-requires-clause-settled
is_due-requires-clause-settled g c =
    omega (arith, node_within (CanPass c.args.ways.now) (node_count c.args.ways.now.graph.now) c.nodes.state (record c.nodes.state { frontier = c.pop.new.self }) c.nodes.invariant.between c.in-Some.cost c.in-Some.node c.in-Some.ensures.found refl refl, c.nodes.invariant.between.tree.settled_count)

pub scan-requires-clause-amid : goal.scan-requires-clause-amid
scan-requires-clause-amid g c =
    let due = c.is_due.ensures.0 c.if-not-is_due.false in
    amid (CanPass c.args.ways.now) (node_count c.args.ways.now.graph.now) c.nodes.state _ c.nodes.invariant.between c.in-Some.cost c.in-Some.node c.in-Some.ensures.found refl refl (network c.args.ways.now.graph.now) refl due.0 due.1

pub returns-in_err-scan-clause-steps : goal.returns-in_err-scan-clause-steps
returns-in_err-scan-clause-steps g c =
    let nodes = node_count c.args.ways.now.graph.now in
    let count = out_count_of c.args.ways.now.graph.now in
    let old = c.nodes.state in
    let due = c.is_due.ensures.0 c.if-not-is_due.false in
    let within : c.in-Some.node < length old.settled.items =
    omega (arith, node_within (CanPass c.args.ways.now) nodes old (record old { frontier = c.pop.new.self }) c.nodes.invariant.between c.in-Some.cost c.in-Some.node c.in-Some.ensures.found refl refl, c.nodes.invariant.between.tree.settled_count) in
    let sum : open_sum count 0 (set old.settled.items c.in-Some.node true) + count c.in-Some.node ≡ open_sum count 0 old.settled.items = open_sum-settle count c.in-Some.node old.settled.items within due.1 in
    omega (arith, sum, c.nodes.invariant.steps, c.scan.ensures.steps)

pub nodes-smaller : goal.nodes-smaller
nodes-smaller g c =
    let nodes = node_count c.args.ways.now.graph.now in
    let count = out_count_of c.args.ways.now.graph.now in
    let old = c.nodes.state in
    let due = c.is_due.ensures.0 c.if-not-is_due.false in
    let within : c.in-Some.node < length old.settled.items =
    omega (arith, node_within (CanPass c.args.ways.now) nodes old (record old { frontier = c.pop.new.self }) c.nodes.invariant.between c.in-Some.cost c.in-Some.node c.in-Some.ensures.found refl refl, c.nodes.invariant.between.tree.settled_count) in
    let sum : open_sum count 0 (set old.settled.items c.in-Some.node true) + count c.in-Some.node ≡ open_sum count 0 old.settled.items = open_sum-settle count c.in-Some.node old.settled.items within due.1 in
    let scanned = c.in_ok-scan.ensures.scanned in
    let rest : open_sum count 0 c.scan.new.state.settled.items ≡ open_sum count 0 (set old.settled.items c.in-Some.node true) = ap (open_sum count 0) scanned.later.settled in
    omega (arith, sum, rest, scanned.later.entries, c.in-Some.ensures.found.len)

pub nodes-preserved : goal.nodes-preserved
nodes-preserved g c =
    let nodes = node_count c.args.ways.now.graph.now in
    let count = out_count_of c.args.ways.now.graph.now in
    let old = c.nodes.state in
    let due = c.is_due.ensures.0 c.if-not-is_due.false in
    let within : c.in-Some.node < length old.settled.items =
    omega (arith, node_within (CanPass c.args.ways.now) nodes old (record old { frontier = c.pop.new.self }) c.nodes.invariant.between c.in-Some.cost c.in-Some.node c.in-Some.ensures.found refl refl, c.nodes.invariant.between.tree.settled_count) in
    let sum : open_sum count 0 (set old.settled.items c.in-Some.node true) + count c.in-Some.node ≡ open_sum count 0 old.settled.items = open_sum-settle count c.in-Some.node old.settled.items within due.1 in
    let scanned = c.in_ok-scan.ensures.scanned in
    let rest : open_sum count 0 c.scan.new.state.settled.items ≡ open_sum count 0 (set old.settled.items c.in-Some.node true) = ap (open_sum count 0) scanned.later.settled in
    let entry = c.nodes.invariant.between.tree.entries c.in-Some.cost c.in-Some.node c.in-Some.ensures.found.waited in
    let low : (n : ℕ) → settled_in old n ≡ true → cost_in old n ≤ c.in-Some.cost = λ n so. omega (arith, c.nodes.invariant.between.tree.below n so, entry.late) in
    record {
      between = closed (network c.args.ways.now.graph.now) (CanPass c.args.ways.now) nodes c.in-Some.node _ c.scan.new.state scanned c.member_law.ensures (λ l is. is.there)
          (c.detour_law.ensures (marked (network c.args.ways.now.graph.now) c.args.ways.now.marks.now c.args.ways.now.number) c.args.ways.now.profile.now);
      ends = later_ends (g.E.Ends.ends c.args.ends.now) c.args.count c.in-Some.node _ c.note.new.self _ c.scan.new.state scanned.later
          (settled_ends (g.E.Ends.ends c.args.ends.now) c.args.count c.in-Some.cost c.in-Some.node old _ c.nodes.tally c.note.new.self due.1 within refl refl due.0 low c.note.ensures c.nodes.invariant.ends);
      roots = λ from is. (let was = c.nodes.invariant.roots from is in root_later from c.in-Some.node _ _ c.scan.new.state scanned.later (record { start = was.start; only = was.only }));
      steps = omega (arith, sum, rest, c.nodes.invariant.steps, c.scan.ensures.steps);
    }

pub returns-then-is_full-clause-ended : goal.returns-then-is_full-clause-ended
returns-then-is_full-clause-ended g c from is =
    let due = c.is_due.ensures.0 c.if-not-is_due.false in
    ended_found (CanPass c.args.ways.now) (node_count c.args.ways.now.graph.now) from c.in-Some.cost c.in-Some.node c.nodes.state (record c.nodes.state { frontier = c.pop.new.self }) (λ l is. c.range_law.ensures.cost l is.there) (c.nodes.invariant.roots from is) c.nodes.invariant.between
    c.in-Some.ensures.found due.0 refl refl

pub returns-then-is_full-clause-enough : goal.returns-then-is_full-clause-enough
returns-then-is_full-clause-enough g c =
    let full = c.is_full.ensures.0 c.if-is_full.true in
    enough_ends (g.E.Ends.ends c.args.ends.now) c.args.count c.in-Some.cost c.nodes.tally c.nodes.state _ refl full.0 full.1 c.nodes.invariant.ends

pub returns-clause-ended : goal.returns-clause-ended
returns-clause-ended g c from is =
    ended_spent (CanPass c.args.ways.now) (node_count c.args.ways.now.graph.now) from c.nodes.state _ (λ l is. c.range_law.ensures.cost l is.there) (c.nodes.invariant.roots from is) c.nodes.invariant.between c.in_default.ensures.none refl refl

pub returns-clause-enough : goal.returns-clause-enough
returns-clause-enough g c = no_bound_ends (g.E.Ends.ends c.args.ends.now) c.args.count _
