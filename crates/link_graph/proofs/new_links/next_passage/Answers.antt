use Rattle.std.proofs.Common.{◌≡◌, ℕ, ◌-◌, ◌<◌, max, List, length, refl, ap, arith}
use Rattle.link_graph.specs.Cores.{across_count, leaving_at}
use Rattle.link_graph.proofs.LeadingReads.{leaving_read}
use Rattle.link_graph.proofs.NewLinks.{rest_new}
use Rattle.link_graph.proofs.new_links.next_passage.Goals as goal

pub passage-requires-clause-k : goal.passage-requires-clause-k
passage-requires-clause-k c =
    let long = ap (λ (ks : List ℕ). length ks) (leaving_read c.args.core.now c.args.n c.index.result.now c.index.result.now c.requires.sound c.requires.node c.index.ensures refl) in
    omega (arith, long, c.len.ensures)

pub returns-clause-told : goal.returns-clause-told
returns-clause-told c =
    let core = c.args.core.now in
    let long = ap (λ (ks : List ℕ). length ks) (leaving_read core c.args.n c.index.result.now c.index.result.now c.requires.sound c.requires.node c.index.ensures refl) in
    let end = c.across_end-first.ensures in
    let at : c.max-at.result ≡ max c.args.place (across_count core c.args.n) = omega (arith, end) in
    let below : c.max-at.result - across_count core c.args.n < length (leaving_at core c.args.n) = omega (arith, end, long, c.len.ensures) in
    rest_new core c.args.n c.args.place c.max-at.result c.passage.result c.requires.sound at below (rw (← end) c.passage.ensures)
