-- Where two links of a graph across one unit can be passed, one behind the other, so can one that leads across both, and it costs no more.
use Rattle.std.proofs.Common.{◌≡◌, ℕ, ◌+◌, ◌<◌, ◌≤◌, List, length, map, Option, Some, None, pos, sym, ap, ◌∙◌, subst, subst₂, inl, inr, arith}
use Rattle.std.specs.Prelude.{Contains, slice_get}
use Rattle.std.proofs.lemmas.Option.{same_Some}
use Rattle.venue_types.specs.declared.feature_id.FeatureId.{FeatureId}
use Rattle.venue_types.specs.declared.kind.Kind.{Kind}
use Rattle.venue_types.specs.declared.link.Link.{Link}
use Rattle.venue_types.specs.declared.link.Node.{Node}
use Rattle.venue_types.specs.declared.point.Spot.{Spot}
use Rattle.venue_types.specs.declared.settings.Profile.{Profile}
use Rattle.imdf_access.specs.Access.{IsAllowed}
use Rattle.imdf_access.specs.Parts.{MayGo, PassesFacts}
use Rattle.plane_exact.specs.Length.{IsLength}
use Rattle.plane_exact.specs.Plane.{IsCloseDoubled}
use Rattle.venue_nodes.specs.Rows.{row_list}
use Rattle.venue_nodes.specs.Views.{node_list, closable_list}
use Rattle.venue_nodes.proofs.Items.{at_map, member_at}
use Rattle.link_graph.specs.declared.parts.Core.{Core}
use Rattle.link_graph.specs.declared.parts.Crossing.{Crossing}
use Rattle.link_graph.specs.Cores.{IsSoundCore, network_in, links_in, spot_in, way_in}
use Rattle.link_graph.specs.Facts.{IsNodeClosed, IsWayClosed}
use Rattle.link_graph.specs.Networks.{IsPassable, link_facts}
use Rattle.link_graph.proofs.AskingItems.{at_place, rising_apart}
use Rattle.link_graph.proofs.AskingItems.{same_place as place_once}
use Rattle.link_graph.proofs.AskingLinks.{IsByRow, link_sort}
use Rattle.link_graph.proofs.AskingParts.{facts_by_parts}
use Rattle.link_graph.proofs.AskingRanges.{row_at, member_node, passage_there}
use Rattle.link_graph.proofs.Lengths.{between_length}

-- the law of lengths: a straight way is no longer than one by a third place
abbrev pub LengthsLaw : Type 0
LengthsLaw = (a b e : Spot) (kx ky c d f : ℕ) → IsLength a b kx ky c → IsLength b e kx ky d → IsLength a e kx ky f → f ≤ c + d

-- ---- ways between nodes

abbrev spot_at : Option Node → Spot
spot_at found = elim found [ None ↦ record { x = pos 0; y = pos 0 } | Some node ↦ node.spot ]

spots_close : (core : Core) (a b : ℕ) → IsSoundCore core → a < length (node_list core.nodes) → b < length (node_list core.nodes) → IsCloseDoubled (spot_in core a) (spot_in core b)
spots_close core a b sound h k =
    let here = at_place (node_list core.nodes) a h in
    let there = at_place (node_list core.nodes) b k in
    subst₂ IsCloseDoubled (sym (ap spot_at here.1)) (sym (ap spot_at there.1))
    (sound.close here.0 there.0 (member_at (node_list core.nodes) a here.0 here.1) (member_at (node_list core.nodes) b there.0 there.1))

way_length : (core : Core) (a b : ℕ) → IsSoundCore core → a < length (node_list core.nodes) → b < length (node_list core.nodes) → IsLength (spot_in core a) (spot_in core b) core.kx core.ky (way_in core a b)
way_length core a b sound h k = between_length (spot_in core a) (spot_in core b) core.kx core.ky (spots_close core a b sound h k) sound.kx_range sound.ky_range

way_across : LengthsLaw → (core : Core) (a b e : ℕ) → IsSoundCore core → a < length (node_list core.nodes) → b < length (node_list core.nodes) → e < length (node_list core.nodes) → way_in core a e ≤ way_in core a b + way_in core b e
way_across lengths core a b e sound h k l =
    lengths (spot_in core a) (spot_in core b) (spot_in core e) core.kx core.ky (way_in core a b) (way_in core b e) (way_in core a e)
    (way_length core a b sound h k)
    (way_length core b e sound k l)
    (way_length core a e sound h l)

-- ---- the row of a link

abbrev pub InRows : Core → Link → Type 0
InRows core link = IsByRow core core.crossings.items (row_list core.rows) link

-- a link by the number of a unit goes across one
pub unit_row : (core : Core) (link : Link) → IsSoundCore core → Contains (links_in core) link → core.first_unit ≤ link.via → InRows core link
unit_row core link sound there unit = elim (link_sort core link there) [
  | inl across ↦ across
  | inr passage ↦ let below = (passage_there core link sound passage).via in absurd (omega (arith, below, unit))
]

pub same_place : (core : Core) (first second : Link) (one : InRows core first) (two : InRows core second) → IsSoundCore core → second.via ≡ first.via → two.k ≡ one.k
same_place core first second one two sound via =
    let via_of = λ (crossing : Crossing). crossing.via in
    let here = at_map via_of core.crossings.items one.k one.crossing one.unit in
    let there = at_map via_of core.crossings.items two.k two.crossing two.unit in
    place_once (map via_of core.crossings.items) two.k one.k first.via (rising_apart (map via_of core.crossings.items) sound.apart)
    (there ∙ ap (λ (v : ℕ). Some v) (two.goes.via ∙ via))
    (here ∙ ap (λ (v : ℕ). Some v) one.goes.via)

pub same_row : (core : Core) (first second : Link) (one : InRows core first) (two : InRows core second) → two.k ≡ one.k → two.row ≡ one.row
same_row core first second one two same = same_Some two.row one.row (sym two.there ∙ ap (slice_get (row_list core.rows)) same ∙ one.there)

same_unit : (core : Core) (first second : Link) (one : InRows core first) (two : InRows core second) → two.k ≡ one.k → two.crossing ≡ one.crossing
same_unit core first second one two same = same_Some two.crossing one.crossing (sym two.unit ∙ ap (slice_get core.crossings.items) same ∙ one.unit)

-- ---- the link across

-- what is known of two links, one behind the other, and of one that leads across
pub record AreAround (core : Core) (closed : List FeatureId) (profile : Profile) (first second across : Link) : Type 0 where
  pub sound : IsSoundCore core
  pub first_passable : IsPassable (network_in core) closed profile first
  pub second_passable : IsPassable (network_in core) closed profile second
  pub behind : second.from ≡ first.to
  pub same_way : second.via ≡ first.via
  pub unit : core.first_unit ≤ first.via
  pub there : Contains (links_in core) across
  pub start : across.from ≡ first.from
  pub finish : across.to ≡ second.to
  pub way : across.via ≡ first.via

-- their rows: they are one
record AreInOne (core : Core) (first second across : Link) : Type 0 where
  one : InRows core first
  two : InRows core second
  three : InRows core across
  row : two.row ≡ one.row
  unit : three.crossing ≡ one.crossing

rows_of : (core : Core) (closed : List FeatureId) (profile : Profile) (first second across : Link) → AreAround core closed profile first second across → AreInOne core first second across
unfolding network_in
rows_of core closed profile first second across h =
    let one = unit_row core first h.sound h.first_passable.there h.unit in
    let two = unit_row core second h.sound h.second_passable.there (subst (λ (via : ℕ). core.first_unit ≤ via) (sym h.same_way) h.unit) in
    let three = unit_row core across h.sound h.there (subst (λ (via : ℕ). core.first_unit ≤ via) (sym h.way) h.unit) in
    record {
      one = one;
      two = two;
      three = three;
      row = same_row core first second one two (same_place core first second one two h.sound h.same_way);
      unit = same_unit core first across one three (same_place core first across one three h.sound h.way);
    }

-- somebody who passes both links passes the one across
may_pass : (core : Core) (closed : List FeatureId) (profile : Profile) (first second across : Link) → AreAround core closed profile first second across → across.kind ≡ first.kind → IsAllowed profile (link_facts (network_in core) across)
may_pass core closed profile first second across h kind =
    let given = network_in core in
    let asked = (facts_by_parts given profile first).0 h.first_passable.allowed in
    let asked_next = (facts_by_parts given profile second).0 h.second_passable.allowed in
    (facts_by_parts given profile across).1 (
      subst₂ (λ (k : Kind) (via : ℕ). MayGo profile k (given.barred via)) (sym kind) (sym h.way) asked.0,
      subst (λ (n : ℕ). PassesFacts profile (given.ends n)) (sym h.start) asked.1,
      subst (λ (n : ℕ). PassesFacts profile (given.ends n)) (sym h.finish) asked_next.2,
    )

across_passable : (core : Core) (closed : List FeatureId) (profile : Profile) (first second across : Link) → AreAround core closed profile first second across → IsPassable (network_in core) closed profile across
unfolding network_in
across_passable core closed profile first second across h =
    let rows = rows_of core closed profile first second across h in
    let kind : across.kind ≡ first.kind = sym rows.three.goes.kind ∙ ap (λ (c : Crossing). c.kind) rows.unit ∙ rows.one.goes.kind in
    record {
      there = h.there;
      allowed = may_pass core closed profile first second across h kind;
      free = record {
        way = subst (λ (via : ℕ). ¬ IsWayClosed (closable_list core.nodes) closed via) (sym h.way) h.first_passable.free.way;
        start = subst (λ (n : ℕ). ¬ IsNodeClosed (node_list core.nodes) closed n) (sym h.start) h.first_passable.free.start;
        finish = subst (λ (n : ℕ). ¬ IsNodeClosed (node_list core.nodes) closed n) (sym h.finish) h.second_passable.free.finish;
      };
    }

cost_bound : (f c d p q r : ℕ) → c ≡ p → d ≡ q → f ≡ r → f ≤ c + d → r ≤ p + q
cost_bound f c d p q r e g k h = omega (arith, e, g, k, h)

across_shorter : LengthsLaw → (core : Core) (closed : List FeatureId) (profile : Profile) (first second across : Link) → AreAround core closed profile first second across → across.cost ≤ first.cost + second.cost
across_shorter lengths core closed profile first second across h =
    let rows = rows_of core closed profile first second across h in
    let one = row_at core rows.one.k rows.one.row h.sound rows.one.there in
    let two = row_at core rows.two.k rows.two.row h.sound rows.two.there in
    let bound = way_across lengths core first.from first.to second.to h.sound
    (member_node core rows.one.row first.from one rows.one.goes.start)
    (member_node core rows.one.row first.to one rows.one.goes.finish)
    (member_node core rows.two.row second.to two rows.two.goes.finish) in
    cost_bound (way_in core first.from second.to) (way_in core first.from first.to) (way_in core first.to second.to) first.cost second.cost across.cost
    rows.one.goes.cost (ap (λ (n : ℕ). way_in core n second.to) (sym h.behind) ∙ rows.two.goes.cost)
    (ap (λ (n : ℕ). way_in core n second.to) (sym h.start) ∙ ap (λ (n : ℕ). way_in core across.from n) (sym h.finish) ∙ rows.three.goes.cost) bound

pub leads_across : LengthsLaw → (core : Core) (closed : List FeatureId) (profile : Profile) (first second across : Link) → AreAround core closed profile first second across
    → IsPassable (network_in core) closed profile across × (across.cost ≤ first.cost + second.cost)
leads_across lengths core closed profile first second across h = (across_passable core closed profile first second across h, across_shorter lengths core closed profile first second across h)
