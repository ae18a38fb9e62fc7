-- Lists and indexes of a folder's features, put together.
use Rattle.std.proofs.Common.{◌≡◌, ◌≤◌, List, map, ap, ◌∙◌, length, arith}
use Rattle.std.specs.List.{position_from}
use Rattle.std.proofs.lemmas.List.{length-map}
use Rattle.venue_types.specs.declared.feature_id.FeatureId.{FeatureId}
use Rattle.venue_types.specs.declared.features.Features.{Features}
use Rattle.venue_types.specs.declared.features.OccupantRow.{OccupantRow}
use Rattle.venue_types.specs.declared.link.Node.{Node}
use Rattle.venue_types.specs.declared.settings.Settings.{Settings}
use Rattle.venue_nodes.specs.declared.nodes.Nodes.{Nodes}
use Rattle.venue_nodes.specs.declared.numbers.Numbers.{Numbers}
use Rattle.venue_nodes.specs.Identity.{is_same}
use Rattle.venue_nodes.specs.Nodes.{place_nodes, nodes, node_number, place_of, closables}
use Rattle.venue_nodes.specs.Numbering.{number_among}
use Rattle.venue_nodes.specs.Views.{number_of, node_list, corner_ranges, find_place, closable_list, find_closable, AreNodes}
use Rattle.venue_nodes.proofs.Finding.{number_map, by_number, occupant_place, number_same}

-- the numbers are those of these identifiers
pub record Number (ids : List FeatureId) (numbers : Numbers) : Type 0 where
  pub number : (id : FeatureId) → number_of numbers id ≡ number_among ids id

-- what the parts are
pub record AreParts (features : Features) (settings : Settings) (made : Nodes) : Type 0 where
  pub list : made.list.items ≡ nodes features settings
  pub numbers : Number (map (λ (node : Node). node.id) (place_nodes features)) made.numbers
  pub occupants : Number (map (λ (row : OccupantRow). row.id) features.occupants) made.occupants
  pub anchors : made.anchors.items ≡ map (λ (row : OccupantRow). row.anchor) features.occupants
  pub closable_ids : made.closable_ids.items ≡ closables features
  pub closable_numbers : Number made.closable_ids.items made.closable_numbers

numbered : (features : Features) (settings : Settings) (made : Nodes) → AreParts features settings made → (id : FeatureId) → number_of made.numbers id ≡ node_number features id
numbered features settings made parts id = parts.numbers.number id ∙ number_map (λ (node : Node). node.id) (place_nodes features) id

place_found : (features : Features) (settings : Settings) (made : Nodes) → AreParts features settings made → (id : FeatureId) → find_place made id ≡ place_of features id
unfolding find_place place_of
place_found features settings made parts id =
    let occupant : number_of made.occupants id ≡ position_from (λ (row : OccupantRow). is_same row.id id) 0 features.occupants = parts.occupants.number id ∙ number_map (λ (row : OccupantRow). row.id) features.occupants id in
    let f = number_of made.numbers in
    let g = node_number features in
    ap (by_number f (f id) made.anchors.items) occupant
    ∙ ap (λ (anchors : List FeatureId). by_number f (f id) anchors (position_from (λ (row : OccupantRow). is_same row.id id) 0 features.occupants)) parts.anchors
    ∙ number_same f g (f id) (g id) (map (λ (row : OccupantRow). row.anchor) features.occupants) (position_from (λ (row : OccupantRow). is_same row.id id) 0 features.occupants) (numbered features settings made parts) (numbered features settings made parts id)
    ∙ occupant_place g (g id) (λ (row : OccupantRow). is_same row.id id) features.occupants

pub are_nodes : (features : Features) (settings : Settings) (made : Nodes) → AreParts features settings made → AreNodes features settings made
unfolding node_list corner_ranges closable_list find_closable
are_nodes features settings made parts = record {
  list = parts.list;
  place = place_found features settings made parts;
  closable_ids = parts.closable_ids;
  closable = λ id. parts.closable_numbers.number id ∙ ap (λ (ids : List FeatureId). number_among ids id) parts.closable_ids;
}

pub number_by : (ids read : List FeatureId) (numbers : Numbers) → read ≡ ids → ((id : FeatureId) → number_of numbers id ≡ number_among read id) → Number ids numbers
number_by ids read numbers e is = record { number = λ id. is id ∙ ap (λ (xs : List FeatureId). number_among xs id) e }

pub short_ids : {X : Type 0} (f : X → FeatureId) (xs ys : List X) (ids read : List FeatureId) → read ≡ ids → ids ≡ map f xs → xs ≡ ys → length ys ≤ 100000 → length read ≤ 400000
short_ids f xs ys ids read r e s few =
    let a : length (map f xs) ≡ length xs = length-map xs f in
    let b : length xs ≡ length ys = ap length s in
    let c : length read ≡ length (map f xs) = ap length (r ∙ e) in
    omega arith

pub short_list : {X : Type 0} (xs ys : List X) → xs ≡ ys → length ys ≤ 100000 → length xs ≤ 400000
short_list xs ys e few = let a : length xs ≡ length ys = ap length e in omega arith
