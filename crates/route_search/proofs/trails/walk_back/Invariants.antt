use Rattle.route_search.specs.Labels.{last_at}
use Rattle.route_search.specs.Trails.{IsKnown}
use Rattle.route_search.proofs.TrailWalks.{IsBack}
use Rattle.route_search.proofs.trails.walk_back.Given as goal

abbrev pub invariant-loop-link : goal.invariant-loop-link
invariant-loop-link l = (known : IsKnown l.lasts l.to) → IsBack known.costs l.lasts l.to l.here l.back.items

abbrev pub decreases-loop-link : goal.decreases-loop-link
decreases-loop-link l = (last_at l.lasts l.here).depth
