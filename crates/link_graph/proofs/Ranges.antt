-- The ends of links are nodes, their ways can be closed, and their costs are bounded.
use Rattle.std.proofs.Common.{◌≡◌, ◌≢◌, ℕ, ◌+◌, ◌<◌, ◌≤◌, length, refl, subst, inl, inr, arith, length-append}
use Rattle.std.specs.Prelude.{Contains}
use Rattle.std.proofs.lemmas.List.{length-map}
use Rattle.std.proofs.lemmas.Option.{slice_get_within}
use Rattle.venue_types.specs.declared.features.Features.{Features}
use Rattle.venue_types.specs.declared.features.UnitRow.{UnitRow}
use Rattle.venue_types.specs.declared.kind.Kind.{Kind}
use Rattle.venue_types.specs.declared.kind.Kind.TheVariants as kinds
use Rattle.venue_types.specs.declared.link.Link.{Link}
use Rattle.venue_types.specs.declared.settings.Extras.{Extras}
use Rattle.venue_types.specs.declared.settings.Settings.{Settings}
use Rattle.venue_nodes.specs.Nodes.{nodes, node_rows, closables}
use Rattle.venue_nodes.specs.Members.{members, is_member}
use Rattle.venue_nodes.proofs.Items.{at_member}
use Rattle.venue_nodes.proofs.Places.{places_within}
use Rattle.link_graph.specs.Links.{spot_of, extra_of, links}
use Rattle.link_graph.proofs.Lengths.{between_bound}
use Rattle.link_graph.proofs.Passages.{IsPassage}
use Rattle.link_graph.proofs.Sorts.{IsInside, link_sort}
use Rattle.link_graph.proofs.Joined.{joined_apart}

pub member_within : (features : Features) (settings : Settings) (u : UnitRow) (a : ℕ) → Contains (members features settings u) a → a < length (nodes features settings)
unfolding members nodes
member_within features settings u a h =
    let at = at_member (members features settings u) a h in
    let within = places_within (is_member settings.border_tol u) (node_rows features settings) at.0 a at.1 in
    rw length-map within

pub closables_count : (features : Features) → length (closables features) ≡ length features.openings + length features.relationships + length features.units
unfolding closables
closables_count features = simp (length-append, length-map) refl

extra_bound : (extras : Extras) (kind : Kind) → extra_of extras kind ≤ 1000000
extra_bound extras kinds.Floor = omega arith
extra_bound extras kinds.Elevator = extras.elevator_range
extra_bound extras kinds.Escalator = extras.escalator_range
extra_bound extras kinds.Movingwalkway = extras.movingwalkway_range
extra_bound extras kinds.Ramp = extras.ramp_range
extra_bound extras kinds.Stairs = extras.stairs_range
extra_bound extras kinds.Traversal = extras.traversal_range

-- two ends below the number of nodes, a way below that of what can be closed, and a cost in its bound
pub record IsInRange (node_count way_count : ℕ) (link : Link) : Type 0 where
  pub from : link.from < node_count
  pub to : link.to < node_count
  pub via : link.via < way_count
  pub cost : link.cost ≤ 6700000
  pub apart : link.from ≢ link.to

inside_range : (features : Features) (settings : Settings) (link : Link) → IsInside features settings link → IsInRange (length (nodes features settings)) (length (closables features)) link
inside_range features settings link h =
    let within = slice_get_within features.units h.k h.u h.there in
    let count = closables_count features in
    let long = between_bound (spot_of features settings h.a) (spot_of features settings h.b) settings.kx settings.ky in
    subst (IsInRange (length (nodes features settings)) (length (closables features))) h.is (record {
      from = member_within features settings h.u h.a h.start;
      to = member_within features settings h.u h.b h.finish;
      via = omega (arith, within, count);
      cost = omega (arith, long);
      apart = joined_apart features settings h.u h.a h.b h.joined;
    })

pub passage_range : (features : Features) (settings : Settings) (link : Link) → IsPassage features settings link → IsInRange (length (nodes features settings)) (length (closables features)) link
passage_range features settings link h =
    let within = slice_get_within features.relationships h.k h.row h.there in
    let count = closables_count features in
    let long = between_bound (spot_of features settings h.between.a) (spot_of features settings h.between.b) settings.kx settings.ky in
    let extra = extra_bound settings.extras h.kind in
    subst (IsInRange (length (nodes features settings)) (length (closables features))) h.between.is (record {
      from = h.between.start;
      to = h.between.finish;
      via = omega (arith, within, count);
      cost = omega (arith, long, extra);
      apart = h.between.apart;
    })

pub link_range : (features : Features) (settings : Settings) (link : Link) → Contains (links features settings) link → IsInRange (length (nodes features settings)) (length (closables features)) link
link_range features settings link h = elim (link_sort features settings link h) [
  | inl inside ↦ inside_range features settings link inside
  | inr passage ↦ passage_range features settings link passage
]
