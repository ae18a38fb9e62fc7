use Rattle.link_graph.proofs.MadeSeats.{leaving_step}
use Rattle.link_graph.proofs.way_starts.leaving_of.Goals as goal

pub loop-k-preserved : goal.loop-k-preserved
loop-k-preserved c =
    leaving_step c.args.links.now c.loop-k.k c.args.count _ c.loop-k.leaving.items c.add_at.new.lists.items
    c.loop-k-test.true c.requires.within c.loop-k.invariant c.in_ok-add_at.ensures
