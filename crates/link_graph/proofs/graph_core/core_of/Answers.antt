use Rattle.link_graph.proofs.MadeCore.{core_sound, core_network}
use Rattle.link_graph.proofs.graph_core.core_of.Goals as goal

pub returns-clause-sound : goal.returns-clause-sound
returns-clause-sound c =
    core_sound c.args.features.now c.args.settings.now c.in_ok-core.core c.requires.sound c.requires.own_ids c.requires.roomy c.requires.few (λ a b. c.spot_law.ensures c.args.features.now c.args.settings.now a b c.requires.sound c.requires.close) c.in_ok-core.ensures

pub returns-clause-network : goal.returns-clause-network
returns-clause-network c = core_network c.args.features.now c.args.settings.now c.in_ok-core.core c.in_ok-core.ensures
