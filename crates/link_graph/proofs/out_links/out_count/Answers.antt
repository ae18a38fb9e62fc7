use Rattle.std.proofs.Common.{ℕ, List, length, ap, arith}
use Rattle.link_graph.proofs.LeadingEnds.{parts_few}
use Rattle.link_graph.proofs.LeadingPlaces.{out_long}
use Rattle.link_graph.proofs.LeadingReads.{leaving_read}
use Rattle.std.proofs.Common.{refl}
use Rattle.link_graph.proofs.out_links.out_count.Goals as goal

pub overflow_cast-result : goal.overflow_cast-result
overflow_cast-result c =
    let e = ap (λ (ks : List ℕ). length ks) (leaving_read c.args.core.now c.args.n c.index.result.now c.index.result.now c.requires.sound c.requires.node c.index.ensures refl) in
    omega (arith, e, c.len.ensures, parts_few c.args.core.now c.args.n c.requires.sound)

pub overflow_add-result : goal.overflow_add-result
overflow_add-result c =
    let e = ap (λ (ks : List ℕ). length ks) (leaving_read c.args.core.now c.args.n c.index.result.now c.index.result.now c.requires.sound c.requires.node c.index.ensures refl) in
    omega (arith, e, c.len.ensures, c.across_end.ensures, parts_few c.args.core.now c.args.n c.requires.sound)

pub returns : goal.returns
returns c =
    let e = ap (λ (ks : List ℕ). length ks) (leaving_read c.args.core.now c.args.n c.index.result.now c.index.result.now c.requires.sound c.requires.node c.index.ensures refl) in
    omega (arith, e, c.len.ensures, c.across_end.ensures, out_long c.args.core.now c.args.n c.requires.sound)
