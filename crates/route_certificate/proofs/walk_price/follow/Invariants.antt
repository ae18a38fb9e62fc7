use Rattle.std.proofs.Common.{◌*◌, ◌≤◌, take}
use Rattle.route_certificate.specs.Prices.{IsChain}
use Rattle.route_certificate.proofs.walk_price.follow.Given as goal

abbrev pub invariant-loop-place : goal.invariant-loop-place
invariant-loop-place l = record {
  chain : IsChain l.links l.fn.from (take l.place l.steps) l.at l.cost;
  bound : l.cost ≤ 6700000 * l.place;
}
