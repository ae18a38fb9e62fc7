use Rattle.venue_nodes.specs.Views.{find_place}
use Rattle.link_graph.proofs.MadeTrails.{chain_is, chain_all_within}
use Rattle.link_graph.proofs.trails.Ground.chain.Goals as goal

pub returns-clause-chain : goal.returns-clause-chain
returns-clause-chain c =
    chain_is c.args.self.now.features.now (find_place c.args.self.now.nodes.now) c.args.row.now c.as_slice.result.now c.new-chain.result.items c.add_end.new.chain.items c.add_places.new.chain.items c.add_end-2.new.chain.items
    c.requires.nodes.place c.as_slice.ensures c.new-chain.ensures.items c.in_ok-add_end.ensures c.in_ok-add_places.ensures c.in_ok-add_end-2.ensures

pub returns-clause-within : goal.returns-clause-within
returns-clause-within c =
    chain_all_within c.args.self.now.features.now c.args.self.now.settings.now c.args.row.now c.add_end-2.new.chain.items
    (chain_is c.args.self.now.features.now (find_place c.args.self.now.nodes.now) c.args.row.now c.as_slice.result.now c.new-chain.result.items c.add_end.new.chain.items c.add_places.new.chain.items c.add_end-2.new.chain.items
    c.requires.nodes.place c.as_slice.ensures c.new-chain.ensures.items c.in_ok-add_end.ensures c.in_ok-add_places.ensures c.in_ok-add_end-2.ensures)
