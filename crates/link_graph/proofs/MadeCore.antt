-- What is made of features is sound, and its network is theirs.
use Rattle.std.proofs.Common.{◌≡◌, ◌≢◌, ℕ, ◌+◌, ◌<◌, ◌≤◌, Bool, true, false, List, [], ◌++◌, Some, None, All, length, map, replicate, get_or, sym, ap, ap₂, ◌∙◌, subst, inl, inr, arith, length-append}
use Rattle.std.specs.Prelude.{Contains, slice_get, AllPairs}
use Rattle.std.specs.List.{enumerate_from}
use Rattle.std.specs.List.Sorted.{IsStrictlyIncreasing}
use Rattle.std.specs.Option.{option_map_or}
use Rattle.std.proofs.lemmas.Bool.{cases_lt}
use Rattle.std.proofs.lemmas.List.{length-map, length-replicate, get_or_past}
use Rattle.std.proofs.lemmas.List.Elements.{All-contains, All-contains_itself}
use Rattle.std.proofs.lemmas.Option.{slice_get_within, slice_get-get_or}
use Rattle.venue_types.specs.declared.feature_id.FeatureId.{FeatureId}
use Rattle.venue_types.specs.declared.features.Features.{Features}
use Rattle.venue_types.specs.declared.features.RelationshipRow.{RelationshipRow}
use Rattle.venue_types.specs.declared.features.UnitRow.{UnitRow}
use Rattle.venue_types.specs.declared.link.Link.{Link}
use Rattle.venue_types.specs.declared.link.Node.{Node}
use Rattle.venue_types.specs.declared.settings.Settings.{Settings}
use Rattle.venue_nodes.specs.Indexes.{AreOnce}
use Rattle.venue_nodes.specs.FeatureRows.{HaveOwnIds}
use Rattle.venue_nodes.specs.Sound.{AreSound, element_count}
use Rattle.imdf_access.specs.declared.parts.EndFacts.{EndFacts}
use Rattle.imdf_access.specs.Parts.{end_facts}
use Rattle.plane_exact.specs.Plane.{IsCloseDoubled}
use Rattle.venue_nodes.specs.declared.nodes.Nodes.{Nodes}
use Rattle.venue_nodes.specs.declared.members.Rows.{Rows}
use Rattle.venue_nodes.specs.Crowds.{Crowds, IsRoomy}
use Rattle.venue_nodes.specs.Members.{members}
use Rattle.venue_nodes.specs.Nodes.{nodes, closables, walkable_units}
use Rattle.venue_nodes.specs.Numbering.{number_among}
use Rattle.venue_nodes.specs.Rows.{AreRowsOf, row_list}
use Rattle.venue_nodes.specs.Standing.{standings}
use Rattle.venue_nodes.specs.Views.{AreNodes, node_list, closable_list, find_closable}
use Rattle.venue_nodes.proofs.Counts.{are_few}
use Rattle.venue_nodes.proofs.Items.{at_member, from_map}
use Rattle.venue_nodes.proofs.Limiting.{squares_are}
use Rattle.venue_nodes.proofs.Once.{closables_once}
use Rattle.venue_nodes.proofs.Places.{kept_at}
use Rattle.link_graph.specs.declared.parts.Core.{Core}
use Rattle.link_graph.specs.declared.parts.Crossing.{Crossing}
use Rattle.link_graph.specs.Cores.{IsSoundCore, IsCrossing, IsPassage, IsRow, AreDoors, AreSeated, links_in, links_across_all, ends_in, barred_in, seats_from, network_in}
use Rattle.link_graph.specs.Facts.{facts_at, end_at, unit_by}
use Rattle.link_graph.specs.Links.{first_unit, links, relationship_links}
use Rattle.link_graph.specs.Making.{AreClose, AreRoomy, AreTables, IsMadeOf, crossings_from, passages_from}
use Rattle.link_graph.specs.Networks.{IsNetworkOf, joined_facts, link_facts}
use Rattle.link_graph.proofs.Items.{from_flat_map, from_enumerate}
use Rattle.link_graph.proofs.MadeDoors.{asks_are, doors_many, door_own}
use Rattle.link_graph.proofs.MadeSeats.{seats_same, stands_nowhere}
use Rattle.link_graph.proofs.MadeTrails.{passages_few}
use Rattle.link_graph.proofs.MadeUnits.{walks, via_of, vias_rise, via_within, tables_fit, barred_is, units_are}
use Rattle.link_graph.proofs.RoomTables.{members_rise}
use Rattle.link_graph.proofs.Passages.{of_relationship}
use Rattle.link_graph.proofs.Ranges.{member_within, closables_count, passage_range}

-- what holds of each item holds of all
all_of : {X : Type 0} (P : X → Type 0) (xs : List X) → ((x : X) → Contains xs x → P x) → All P xs
all_of P xs each = λ k d h. each (get_or xs k d) (All-contains_itself xs k d h)

pub nodes_close : (features : Features) (settings : Settings) (made : Nodes) → ((a b : Node) → Contains (nodes features settings) a → Contains (nodes features settings) b → IsCloseDoubled a.spot b.spot) → AreNodes features settings made → AreClose made
nodes_close features settings made law are = record {
  close = λ a b h k. law a b (subst (λ (xs : List Node). Contains xs a) are.list h) (subst (λ (xs : List Node). Contains xs b) are.list k);
}

-- ---- rows

-- the row is that of a unit of this index
record IsUnitRow (features : Features) (settings : Settings) (row : List ℕ) : Type 0 where
  k : ℕ
  u : UnitRow
  there : slice_get features.units k ≡ Some u
  passes : walks u ≡ true
  is : members features settings u ≡ row

unit_row : (features : Features) (settings : Settings) (rows : Rows) (row : List ℕ) → AreRowsOf features settings rows → Contains (row_list rows) row → IsUnitRow features settings row
unit_row features settings rows row are h =
    let at = at_member (row_list rows) row h in
    let number : slice_get (map (members features settings) (walkable_units features)) at.0 ≡ Some row = ap (λ (rs : List (List ℕ)). slice_get rs at.0) (sym are.members_are) ∙ at.1 in
    let from = from_map (members features settings) (walkable_units features) at.0 row number in
    let kept = kept_at walks 0 features.units at.0 from.0 from.1 in
    record { k = kept.k; u = from.0; there = kept.there; passes = kept.passes; is = from.2 }

row_short : (features : Features) (settings : Settings) (row : List ℕ) → IsUnitRow features settings row → Crowds features settings None → length row ≤ 4096
row_short features settings row h crowds = elim (cases_lt 4096 (length row)) [
  | inl many ↦ absurd (crowds.0.0 h.k (record { unit = h.u; there = h.there; walkable = h.passes; many = subst (λ (r : List ℕ). 4096 < length r) (sym h.is) many }))
  | inr few ↦ few
]

pub rows_roomy : (features : Features) (settings : Settings) (rows : Rows) → AreRowsOf features settings rows → Crowds features settings None → AreRoomy (row_list rows)
rows_roomy features settings rows are crowds = record {
  each = all_of IsRoomy (row_list rows) (λ row h. row_short features settings row (unit_row features settings rows row are h) crowds);
  squares = subst (λ n. n ≤ 20000000) (sym (squares_are features settings rows are)) crowds.0.1;
}

row_within : (features : Features) (settings : Settings) (list : List Node) (row : List ℕ) (m : ℕ) → IsUnitRow features settings row → list ≡ nodes features settings → Contains row m → m < length list
row_within features settings list row m h same there =
    subst (λ (xs : List Node). m < length xs) (sym same) (member_within features settings h.u m (subst (λ (r : List ℕ). Contains r m) (sym h.is) there))

row_sound : (features : Features) (settings : Settings) (core : Core) (row : List ℕ) → IsMadeOf features settings core → Crowds features settings None → Contains (row_list core.rows) row → IsRow core row
row_sound features settings core row made crowds h =
    let of_unit = unit_row features settings core.rows row made.rows h in
    record {
      rise = subst (λ (r : List ℕ). IsStrictlyIncreasing r) of_unit.is (members_rise features settings of_unit.u);
      within = all_of (λ m. m < length (node_list core.nodes)) row (λ m k. row_within features settings (node_list core.nodes) row m of_unit made.nodes.list k);
      short = row_short features settings row of_unit crowds;
    }

pub rows_fit : (features : Features) (settings : Settings) (via : ℕ) (rows : Rows) (crossings : List Crossing) → AreRowsOf features settings rows → crossings ≡ crossings_from features settings via features.units
    → AreTables crossings (row_list rows)
rows_fit features settings via rows crossings are made = subst (λ (cs : List Crossing). AreTables cs (row_list rows)) (sym made) (tables_fit features settings rows via are)

crossing_sound : (features : Features) (settings : Settings) (core : Core) (crossing : Crossing) → IsMadeOf features settings core → Contains core.crossings.items crossing → IsCrossing core crossing
crossing_sound features settings core crossing made h =
    let within = via_within features settings (first_unit features) features.units crossing (subst (λ (cs : List Crossing). Contains cs crossing) made.crossings h) in
    let count = closables_count features in
    let first : core.first_unit ≡ first_unit features = made.first_unit_is in
    let low : first_unit features ≤ crossing.via = within.0 in
    let high : crossing.via < first_unit features + length features.units = within.1 in
    record {
      unit = omega (arith, first, low);
      within = subst (λ (ids : List FeatureId). crossing.via < length ids) (sym made.nodes.closable_ids) (omega (arith, count, high));
    }

-- ---- passages

-- a link by a relationship is in range, and its way is no unit
record IsTrail (features : Features) (settings : Settings) (link : Link) : Type 0 where
  from : link.from < length (nodes features settings)
  to : link.to < length (nodes features settings)
  apart : link.from ≢ link.to
  via : link.via < first_unit features
  cost : link.cost ≤ 6700000

trail_of : (features : Features) (settings : Settings) (link : Link) → Contains (passages_from features settings (length features.openings)) link → IsTrail features settings link
trail_of features settings link h =
    let row = from_flat_map (relationship_links features settings) (enumerate_from (length features.openings) features.relationships) link h in
    let at = from_enumerate (length features.openings) features.relationships row.0 row.1 in
    let passage = of_relationship features settings row.0 at.0 link at.1 at.2 row.2 in
    let range = passage_range features settings link passage in
    let via : link.via ≡ length features.openings + passage.k = ap (λ (l : Link). l.via) (sym passage.between.is) in
    let within = slice_get_within features.relationships passage.k passage.row passage.there in
    record { from = range.from; to = range.to; apart = range.apart; via = omega (arith, via, within); cost = range.cost }

pub passages_within : (features : Features) (settings : Settings) (list : List Node) (count : ℕ) (passages : List Link) → passages ≡ passages_from features settings (length features.openings) → list ≡ nodes features settings → count ≡ length list
    → All (λ (link : Link). link.from < count) passages
passages_within features settings list count passages made same many = all_of (λ (link : Link). link.from < count) passages (λ link h.
    let trail = trail_of features settings link (subst (λ (ls : List Link). Contains ls link) made h) in
    subst (λ n. link.from < n) (sym (many ∙ ap (λ (xs : List Node). length xs) same)) trail.from)

passage_sound : (features : Features) (settings : Settings) (core : Core) (link : Link) → IsMadeOf features settings core → Contains core.passages.items link → IsPassage core link
passage_sound features settings core link made h =
    let trail = trail_of features settings link (subst (λ (ls : List Link). Contains ls link) made.passages h) in
    record {
      from = subst (λ (xs : List Node). link.from < length xs) (sym made.nodes.list) trail.from;
      to = subst (λ (xs : List Node). link.to < length xs) (sym made.nodes.list) trail.to;
      apart = trail.apart;
      via = subst (λ n. link.via < n) (sym made.first_unit_is) trail.via;
      cost = trail.cost;
    }

pub few_passages : (features : Features) (settings : Settings) (passages : List Link) → AreSound features → passages ≡ passages_from features settings (length features.openings) → length passages ≤ 12800000
few_passages features settings passages sound made =
    let some = (are_few features sound).some in
    let bound = passages_few features settings (length features.openings) features.relationships (λ row h. All-contains (λ (r : RelationshipRow). element_count r ≤ 65) features.relationships row sound.few_elements h) in
    let all : length (passages_from features settings (length features.openings)) ≤ 12800000 = omega (arith, some, bound) in
    subst (λ (ls : List Link). length ls ≤ 12800000) (sym made) all

-- ---- nodes and what can be closed

doors_sound : (features : Features) (settings : Settings) (core : Core) → IsMadeOf features settings core → AreDoors core
doors_sound features settings core made = record {
  count = doors_many features settings (find_closable core.nodes) core.doors.items (node_list core.nodes) made.doors made.nodes.list;
  own = λ n node door at there.
      door_own features settings (find_closable core.nodes) core.doors.items (node_list core.nodes) n node door made.doors made.nodes.list at there
      ∙ made.nodes.closable node.id
      ∙ ap (λ (ids : List FeatureId). number_among ids node.id) (sym made.nodes.closable_ids);
}

seats_sound : (features : Features) (settings : Settings) (core : Core) → IsMadeOf features settings core → AreSeated core
seats_sound features settings core made =
    let count = length (node_list core.nodes) in
    let rows = row_list core.rows in
    record {
      seats_count = made.seats.many;
      seats_are = λ n. elim (cases_lt n count) [
        | inl under ↦ made.seats.each n under ∙ sym (seats_same core 0 (standings n 0 rows))
        | inr over ↦
            let past : length core.seats.items ≤ n = subst (λ m. m ≤ n) (sym made.seats.many) over in
            let nowhere = stands_nowhere n count 0 rows over (λ row m h k. row_within features settings (node_list core.nodes) row m (unit_row features settings core.rows row made.rows h) made.nodes.list k) in
            get_or_past core.seats.items n [] past ∙ ap (seats_from core 0) (sym nowhere)
      ];
      leaving_count = made.leaving.many;
      leaving_are = made.leaving.each;
    }

barred_many : (features : Features) (settings : Settings) (core : Core) → IsMadeOf features settings core → length core.barred.items ≡ length (closable_list core.nodes)
barred_many features settings core made =
    let front = replicate (first_unit features) false in
    let back = map (λ (u : UnitRow). u.restricted) features.units in
    let a : length front ≡ first_unit features = length-replicate (first_unit features) false in
    let b : length back ≡ length features.units = length-map features.units (λ (u : UnitRow). u.restricted) in
    let both : length (front ++ back) ≡ length front + length back = length-append front back in
    let count = closables_count features in
    let all : length (front ++ back) ≡ length (closables features) = omega (arith, a, b, both, count) in
    ap (λ (bs : List Bool). length bs) made.barred ∙ all ∙ ap (λ (ids : List FeatureId). length ids) (sym made.nodes.closable_ids)

apart_by : (ids : List FeatureId) → AreOnce ids → AllPairs (λ a b. a ≢ b) ids
apart_by ids own = λ i j d before within same.
    let here = slice_get-get_or ids i d (omega arith) in
    let there = slice_get-get_or ids j d within in
    let e : i ≡ j = own.once i j (get_or ids j d) (here ∙ ap (λ (id : FeatureId). Some id) same) there in
    absurd (omega (arith, e, before))

-- ---- all of it

pub core_sound : (features : Features) (settings : Settings) (core : Core) → AreSound features → HaveOwnIds features → Crowds features settings None → length (nodes features settings) ≤ 400000
    → ((a b : Node) → Contains (nodes features settings) a → Contains (nodes features settings) b → IsCloseDoubled a.spot b.spot) → IsMadeOf features settings core → IsSoundCore core
core_sound features settings core sound own crowds few law made =
    let count = closables_count features in
    let ids = made.nodes.closable_ids in
    let fit = rows_fit features settings (first_unit features) core.rows core.crossings.items made.rows made.crossings in
    record {
      rows = all_of (IsRow core) (row_list core.rows) (λ row h. row_sound features settings core row made crowds h);
      squares = (rows_roomy features settings core.rows made.rows crowds).squares;
      paired = fit.paired;
      crossings = all_of (IsCrossing core) core.crossings.items (λ crossing h. crossing_sound features settings core crossing made h);
      tables = fit.each;
      units_last = subst (λ (xs : List FeatureId). core.first_unit ≤ length xs) (sym ids) (omega (arith, count, made.first_unit_is));
      apart = subst (λ (cs : List Crossing). IsStrictlyIncreasing (map via_of cs)) (sym made.crossings) (vias_rise features settings (first_unit features) features.units);
      passages = all_of (IsPassage core) core.passages.items (λ link h. passage_sound features settings core link made h);
      few_passages = few_passages features settings core.passages.items sound made.passages;
      doors = doors_sound features settings core made;
      seated = seats_sound features settings core made;
      barred = barred_many features settings core made;
      numbered = λ id. made.nodes.closable id ∙ ap (λ (xs : List FeatureId). number_among xs id) (sym ids);
      once = subst (λ (xs : List FeatureId). AllPairs (λ a b. a ≢ b) xs) (sym ids) (apart_by (closables features) (closables_once features own));
      few_nodes = subst (λ (xs : List Node). length xs ≤ 400000) (sym made.nodes.list) few;
      close = (nodes_close features settings core.nodes law made.nodes).close;
      kx_range = subst (λ n. n ≤ 20000000) (sym made.kx_is) settings.kx_range;
      ky_range = subst (λ n. n ≤ 20000000) (sym made.ky_is) settings.ky_range;
    }

-- ---- its network

links_made : (features : Features) (settings : Settings) (core : Core) → IsMadeOf features settings core → links_in core ≡ links features settings
unfolding links_in links
links_made features settings core made =
    ap₂ (λ (xs ys : List Link). xs ++ ys)
    (ap₂ (λ (cs : List Crossing) (rs : List (List ℕ)). links_across_all core cs rs) made.crossings made.rows.members_are
    ∙ units_are features settings core (first_unit features) features.units (record { nodes_are = made.nodes.list; kx_is = made.kx_is; ky_is = made.ky_is }))
    made.passages

ends_made : (features : Features) (settings : Settings) (core : Core) (n : ℕ) → IsMadeOf features settings core → ends_in core n ≡ end_facts (end_at features settings n)
unfolding ends_in
ends_made features settings core n made = asks_are features settings (find_closable core.nodes) core.doors.items n made.doors

barred_made : (features : Features) (settings : Settings) (core : Core) (via : ℕ) → IsMadeOf features settings core → barred_in core via ≡ option_map_or (λ (u : UnitRow). u.restricted) (unit_by features via) false
unfolding barred_in
barred_made features settings core via made = ap (λ (bs : List Bool). get_or bs via false) made.barred ∙ barred_is (first_unit features) via features.units

facts_made : (features : Features) (settings : Settings) (core : Core) (link : Link) → IsMadeOf features settings core → link_facts (network_in core) link ≡ facts_at features settings link
unfolding link_facts facts_at network_in
facts_made features settings core link made =
    ap (λ (b : Bool). joined_facts link.kind b (ends_in core link.from) (ends_in core link.to)) (barred_made features settings core link.via made)
    ∙ ap₂ (λ (e f : EndFacts). joined_facts link.kind (option_map_or (λ (u : UnitRow). u.restricted) (unit_by features link.via) false) e f) (ends_made features settings core link.from made) (ends_made features settings core link.to made)

pub core_network : (features : Features) (settings : Settings) (core : Core) → IsMadeOf features settings core → IsNetworkOf features settings (network_in core)
unfolding network_in
core_network features settings core made = record {
  nodes_are = made.nodes.list;
  place_is = made.nodes.place;
  closables_are = made.nodes.closable_ids;
  first_unit_is = made.first_unit_is;
  links_are = links_made features settings core made;
  facts_are = λ link h. facts_made features settings core link made;
}
