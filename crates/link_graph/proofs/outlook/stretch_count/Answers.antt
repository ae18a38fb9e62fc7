use Rattle.std.proofs.Common.{List, length, refl, ap, arith}
use Rattle.link_graph.specs.declared.parts.Seat.{Seat}
use Rattle.link_graph.proofs.LeadingReads.{seats_read}
use Rattle.link_graph.proofs.LeadingStretches.{node_few, stretches_long}
use Rattle.link_graph.proofs.outlook.stretch_count.Goals as goal

pub overflow_cast-result : goal.overflow_cast-result
overflow_cast-result c =
    let e = ap (λ (ss : List Seat). length ss) (seats_read c.args.core.now c.args.n c.index.result.now c.index.result.now c.requires.sound c.requires.node c.index.ensures refl) in
    omega (arith, e, c.len.ensures, node_few c.args.core.now c.args.n c.requires.sound)

pub overflow_add-result : goal.overflow_add-result
overflow_add-result c =
    let e = ap (λ (ss : List Seat). length ss) (seats_read c.args.core.now c.args.n c.index.result.now c.index.result.now c.requires.sound c.requires.node c.index.ensures refl) in
    omega (arith, e, c.len.ensures, node_few c.args.core.now c.args.n c.requires.sound)

pub returns : goal.returns
returns c =
    let e = ap (λ (ss : List Seat). length ss) (seats_read c.args.core.now c.args.n c.index.result.now c.index.result.now c.requires.sound c.requires.node c.index.ensures refl) in
    omega (arith, e, c.len.ensures, stretches_long c.args.core.now c.args.n)
