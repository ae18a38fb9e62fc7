use Rattle.std.proofs.Common.{◌≡◌, ◌+◌, ◌++◌, ◌≤◌, drop}
use Rattle.std.specs.Prelude.{sum_by}
use Rattle.venue_nodes.specs.declared.members.Membership.{Membership}
use Rattle.link_graph.specs.Making.{others_among, seats_among}
use Rattle.link_graph.proofs.seats.seats_in.Given as goal

-- the seats in the rows that are left are to come, and have few links
abbrev pub invariant-loop-membership : goal.invariant-loop-membership
invariant-loop-membership l =
    (l.first + sum_by (λ (m : Membership). others_among l.crossings m.unit m.place) (drop l.membership-index l.memberships) ≤ 20000000)
    × (l.seats ++ seats_among l.crossings l.first (drop l.membership-index l.memberships) ≡ seats_among l.crossings 0 l.memberships)
