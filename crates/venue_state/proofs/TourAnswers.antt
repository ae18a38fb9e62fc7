-- What is told of a tour is right.
use Rattle.std.proofs.Common.{◌≡◌, ◌∙◌, ℕ, ◌≤◌, List, length, sym, ap, Option, Some, None, arith}
use Rattle.std.proofs.lemmas.List.{length-map}
use Rattle.venue_types.specs.declared.feature_id.FeatureId.{FeatureId}
use Rattle.venue_types.specs.declared.query.Ask.TheVariants as ask
use Rattle.venue_types.specs.declared.reply.Reply.{Reply}
use Rattle.venue_types.specs.declared.reply.Reply.TheVariants as reply
use Rattle.venue_types.specs.declared.settings.Profile.{Profile}
use Rattle.venue_types.specs.Tours.{Tour}
use Rattle.stop_order.specs.declared.costs.Costs.{Costs}
use Rattle.stop_order.specs.declared.order.Order.{Order}
use Rattle.stop_order.specs.Orders.{IsBest, IsOrder, order_cost}
use Rattle.route_search.specs.Nodes.{place_of}
use Rattle.venue_history.specs.Answers.{AnswersAsk, HasProfile, IsNoPlace, IsPlace}
use Rattle.venue_history.specs.Closed.{Version}
use Rattle.venue_history.specs.Tours.{IsTourTrip, walks_cost}
use Rattle.venue_history.specs.Ways.{Usable, profile_of}
use Rattle.venue_state.specs.declared.tour_ways.Way.{Way}
use Rattle.venue_state.specs.Touring.{AreCostsOf, IsTable, TellsNoTour, TellsTour, legs_along, places_of}
use Rattle.venue_state.proofs.TourOrders.{best_tour, no_visit}

-- ---- what is asked for

pub has_profile : (v : Version) (name name' : List ℕ) (profile : Profile) → name ≡ name' → profile_of v.settings name ≡ Some profile → HasProfile v name'
has_profile v name name' profile same is = (profile, ap (profile_of v.settings) (sym same) ∙ is)

pub is_place : (v : Version) (id id' : FeatureId) (n : ℕ) → id ≡ id' → Some n ≡ place_of v.features id → IsPlace v id'
is_place v id id' n same is = (n, ap (place_of v.features) (sym same) ∙ sym is)

pub is_no_place : (v : Version) (id id' : FeatureId) → id ≡ id' → None ≡ place_of v.features id → IsNoPlace v id'
is_no_place v id id' same is = ap (place_of v.features) (sym same) ∙ sym is

-- ---- what is told

as_many : (v : Version) (asked : Tour) (number : ℕ) (profile : Profile) (a : ℕ) (stops : List ℕ) (b : ℕ) → IsTourTrip v asked number profile a stops b → length asked.stops ≡ length stops
as_many v asked number profile a stops b trip =
    sym (length-map asked.stops (place_of v.features)) ∙ ap (λ (xs : List (Option ℕ)). length xs) trip.has_stops ∙ length-map stops (λ (n : ℕ). Some n)

pub tour_answers : (v : Version) (asked : Tour) (number : ℕ) (profile : Profile) (a : ℕ) (stops : List ℕ) (b : ℕ) (table : List (List (Option Way))) (costs : Costs) (order : Order)
    → IsTourTrip v asked number profile a stops b → IsTable (Usable v number profile) a stops b table → AreCostsOf table costs → costs.stops ≡ length asked.stops
    → length asked.stops ≤ 8 → 1 ≤ length asked.stops → IsBest costs (places_of order) order.cost → (told : Reply) → TellsTour v asked table order told → AnswersAsk v (ask.Tour asked) told
tour_answers v asked number profile a stops b table costs order trip is are count few some best (reply.Tour it) told =
    let many = as_many v asked number profile a stops b trip in
    let tour = best_tour (Usable v number profile) a stops b table costs is are (count ∙ many) (omega arith) (omega arith) (places_of order) order.cost best in (
      told.0,
      told.1,
      record {
        number = number;
        profile = profile;
        a = a;
        stops = stops;
        b = b;
        trip = trip;
        places = places_of order;
        walks = tour.walks;
        visits = tour.visits;
        ordered = told.2;
        told = told.4 ∙ ap (λ (n : ℕ). legs_along v table n 0 (places_of order)) many ∙ tour.told v;
        costs = told.3 ∙ tour.costs;
        each = tour.each;
        least = λ other others also. let least : order.cost ≤ walks_cost others = tour.least other others also in let cost = told.3 in omega arith;
      },
    )
tour_answers v asked number profile a stops b table costs order trip is are count few some best _ told = absurd told

pub no_tour_answers : (v : Version) (asked : Tour) (number : ℕ) (profile : Profile) (a : ℕ) (stops : List ℕ) (b : ℕ) (table : List (List (Option Way))) (costs : Costs)
    → IsTourTrip v asked number profile a stops b → IsTable (Usable v number profile) a stops b table → AreCostsOf table costs → costs.stops ≡ length asked.stops
    → length asked.stops ≤ 8 → 1 ≤ length asked.stops → ((order : List ℕ) → IsOrder costs.stops order → order_cost costs order ≡ None)
    → (told : Reply) → TellsNoTour v asked told → AnswersAsk v (ask.Tour asked) told
no_tour_answers v asked number profile a stops b table costs trip is are count few some none (reply.NoTour it) told =
    let many = as_many v asked number profile a stops b trip in (
      told.0,
      told.1,
      told.2,
      record {
        number = number;
        profile = profile;
        a = a;
        stops = stops;
        b = b;
        trip = trip;
        none = no_visit (Usable v number profile) a stops b table costs is are (count ∙ many) (omega arith) (omega arith) none;
      },
    )
no_tour_answers v asked number profile a stops b table costs trip is are count few some none _ told = absurd told
