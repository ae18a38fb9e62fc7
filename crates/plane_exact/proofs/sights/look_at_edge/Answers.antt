use Rattle.std.proofs.Common.{refl, [], ◌∷◌, arith}
use Rattle.std.proofs.lemmas.List.Elements.{Contains-append_right}
use Rattle.plane_exact.specs.Looks.{edge_look}
use Rattle.plane_exact.proofs.NearbyLemmas.{AllNearby-fewer}
use Rattle.plane_exact.proofs.DecisionLemmas.{edge_stops_decides, near_edge_decides}
use Rattle.plane_exact.proofs.ScaleLaw.{same_test}
use Rattle.plane_exact.proofs.LookLemmas.{same_look}
use Rattle.plane_exact.proofs.sights.look_at_edge.Goals as goal

pub stops-requires-clause-near : goal.stops-requires-clause-near
stops-requires-clause-near c =
    let ends = c.args.way.from ∷ c.args.way.to ∷ c.args.p ∷ c.args.q ∷ [] in
    AllNearby-fewer ends (c.args.way.middle ∷ ends) (λ x. Contains-append_right (c.args.way.middle ∷ []) ends x) c.requires.near

pub meets-requires-clause-edge : goal.meets-requires-clause-edge
meets-requires-clause-edge c = c.requires.near.near c.args.p c.args.q (3, omega arith, refl) (4, omega arith, refl)

pub meets-requires-clause-close : goal.meets-requires-clause-close
meets-requires-clause-close c = c.requires.near.near c.args.p c.args.way.middle (3, omega arith, refl) (0, omega arith, refl)

pub near_edge-requires-clause-edge : goal.near_edge-requires-clause-edge
near_edge-requires-clause-edge c = c.requires.near.near c.args.p c.args.q (3, omega arith, refl) (4, omega arith, refl)

pub near_edge-requires-clause-from_start : goal.near_edge-requires-clause-from_start
near_edge-requires-clause-from_start c = c.requires.near.near c.args.p c.args.way.middle (3, omega arith, refl) (0, omega arith, refl)

pub near_edge-requires-clause-from_end : goal.near_edge-requires-clause-from_end
near_edge-requires-clause-from_end c = c.requires.near.near c.args.q c.args.way.middle (4, omega arith, refl) (0, omega arith, refl)

pub returns : goal.returns
unfolding edge_look
returns c =
    same_look
    (same_test _ _ _ _ c.stops.ensures (edge_stops_decides c.args.way.from c.args.way.to c.args.way.tolerance (record { from = c.args.p; to = c.args.q })) (λ h. h, λ h. h))
    c.meets.ensures
    (same_test _ _ _ _ c.near_edge.ensures (near_edge_decides c.args.way.middle c.args.p c.args.q c.args.way.tolerance) (λ h. h, λ h. h))
