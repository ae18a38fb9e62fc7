use Rattle.std.proofs.Common.{length}
use Rattle.unit_sight.proofs.HostLemmas.{host_told}
use Rattle.unit_sight.proofs.hosts.host_of.Goals as goal

pub returns-clause-host : goal.returns-clause-host
returns-clause-host c = λ sees far lengths same. host_told sees far (length c.args.lengths.now.spots.now) c.args.a c.args.blind.now c.nearest_of.result c.place_of.result c.place_of.ensures (c.nearest_of.ensures.told far lengths) same
