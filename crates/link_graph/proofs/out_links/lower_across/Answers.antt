use Rattle.std.proofs.Common.{◌+◌, ◌<◌, ◌≤◌, Some, sym, ap, ◌∙◌, arith}
use Rattle.std.proofs.lemmas.Bool.{both_ways}
use Rattle.venue_types.specs.declared.link.Link.{Link}
use Rattle.link_graph.specs.Cores.{link_by, way_in}
use Rattle.link_graph.proofs.LeadingReads.{way_short, lower_when, lower_unless}
use Rattle.link_graph.proofs.out_links.lower_across.Goals as goal

pub returns-then-is_within : goal.returns-then-is_within
returns-then-is_within c =
    let core = c.args.core.now in
    let cost = way_in core c.args.a c.args.b in
    let room = c.in_ok-room.ensures cost (way_short core c.args.a c.args.b) in
    let short = c.is_within.ensures.0 c.if-is_within.true in
    ap (λ (l : Link). Some l) c.across_link.ensures ∙ sym (lower_when c.args.entry c.args.base (link_by core c.args.unit c.args.a c.args.b) (room.0 short))

pub returns-else-is_within : goal.returns-else-is_within
returns-else-is_within c =
    let core = c.args.core.now in
    let cost = way_in core c.args.a c.args.b in
    let room = c.in_ok-room.ensures cost (way_short core c.args.a c.args.b) in
    let long : (cost ≤ c.in_ok-room.room) → ⊥ = λ le. both_ways c.is_within.result c.if-is_within.false (c.is_within.ensures.1 le) in
    let not_below : (c.args.base + cost < c.args.entry) → ⊥ = λ below. long (room.1 below) in
    sym (lower_unless c.args.entry c.args.base (link_by core c.args.unit c.args.a c.args.b) (omega (arith, not_below)))
