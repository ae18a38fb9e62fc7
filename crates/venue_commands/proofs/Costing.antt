-- What the reply to a question for a way tells of its cost.
use Rattle.std.proofs.Common.{◌≡◌, ◌≢◌, ◌∙◌, sym, ap, refl, subst, ℕ, List, Option, Some, None, inl, inr}
use Rattle.venue_types.specs.declared.feature_id.FeatureId.{FeatureId}
use Rattle.venue_types.specs.declared.link.Link.{Link}
use Rattle.venue_types.specs.declared.reply.Reply.{Reply}
use Rattle.venue_types.specs.declared.reply.Reply.TheVariants as reply
use Rattle.venue_types.specs.declared.reply.Which.TheVariants as which
use Rattle.venue_types.specs.declared.settings.Profile.{Profile}
use Rattle.route_answers.specs.Walks.{IsWalk, HasNoWalk}
use Rattle.version_board.specs.Nodes.{place_of}
use Rattle.version_board.specs.Views.{link_view}
use Rattle.version_board.specs.Answers.{Answers, IsTrip}
use Rattle.version_board.specs.Closed.{Version}
use Rattle.version_board.specs.Ways.{Usable}
use Rattle.venue_commands.specs.BuildingReports.{IsNamed, StandsAt, IsWayLine}
use Rattle.venue_commands.specs.Costs.{route_query, cost_told, way_line, IsCostBetween, IsCost}

some_node : (m n : ℕ) → Some m ≡ Some n → m ≡ n
some_node m n e = cc e

some_profile : (p q : Profile) → Some p ≡ Some q → p ≡ q
some_profile p q e = cc e

some_id : (x y : FeatureId) → Some x ≡ Some y → x ≡ y
some_id x y e = cc e

-- no walk of one trip leads along the same trip
no_walk : (v : Version) (name : List ℕ) (from to : FeatureId) (m n : ℕ) (p q : Profile) (a b c d : ℕ) (walk : List Link)
    → IsTrip v from to name m p a b → HasNoWalk link_view (Usable v m p) a b → IsTrip v from to name n q c d → ¬ IsWalk link_view (Usable v n q) c d walk
no_walk v name from to m n p q a b c d walk one none other leads =
    let same_number : n ≡ m = some_node n m (sym other.has_number ∙ one.has_number) in
    let same_p : q ≡ p = some_profile q p (sym other.has_profile ∙ one.has_profile) in
    let same_a : c ≡ a = some_node c a (sym other.has_from ∙ one.has_from) in
    let same_b : d ≡ b = some_node d b (sym other.has_to ∙ one.has_to) in
    let by_number = subst (λ (x : ℕ). IsWalk link_view (Usable v x q) c d walk) same_number leads in
    let by_p = subst (λ (x : Profile). IsWalk link_view (Usable v m x) c d walk) same_p by_number in
    let by_a = subst (λ (x : ℕ). IsWalk link_view (Usable v m p) x d walk) same_a by_p in
    none walk (subst (λ (x : ℕ). IsWalk link_view (Usable v m p) a x walk) same_b by_a)

pub told_cost : (v : Version) (name : List ℕ) (from to : FeatureId) (r : Reply) → r ≢ reply.OutOfMemory → Answers v (route_query name from to) r
    → IsCostBetween v name from to (cost_told r)
told_cost v name from to (reply.Route number from' to' name' start cost steps potentials) some (now, (same, repeats, route)) =
    record { place = route.number; profile = route.profile; a = route.a; b = route.b; trip = route.trip; walk = route.walk; least = route.least }
told_cost v name from to (reply.NoRoute number from' to' name' reached) some (now, (same, repeats, none)) =
    λ place profile a b walk trip. no_walk v name from to none.number place none.profile profile none.a none.b a b walk none.trip none.none trip
told_cost v name from to reply.NoProfile some (now, lacks) = λ place profile a b walk trip leads. absurd (let e = sym lacks ∙ trip.has_profile in cc e)
told_cost v name from to (reply.NoPlace which.From) some (now, (has, lacks)) = λ place profile a b walk trip leads. absurd (let e = sym lacks ∙ trip.has_from in cc e)
told_cost v name from to (reply.NoPlace which.To) some (now, (has, is, lacks)) = λ place profile a b walk trip leads. absurd (let e = sym lacks ∙ trip.has_to in cc e)
told_cost v name from to (reply.NoPlace which.Id) some (now, never) = absurd never
told_cost v name from to (reply.NoPlace which.Stop) some (now, never) = absurd never
told_cost v name from to (reply.Ahead since number) some (asked, later, same) = absurd (cc asked)
told_cost v name from to reply.OutOfMemory some answers = absurd (some refl)
told_cost v name from to (reply.Version number closed count) some (now, never) = absurd never
told_cost v name from to (reply.Places number rows) some (now, never) = absurd never
told_cost v name from to (reply.Place it) some (now, never) = absurd never
told_cost v name from to (reply.Closures it) some (now, never) = absurd never
told_cost v name from to (reply.Tour it) some (now, never) = absurd never
told_cost v name from to (reply.NoTour it) some (now, never) = absurd never
told_cost v name from to (reply.Nearest it) some (now, never) = absurd never
told_cost v name from to (reply.ClosureDone done) some (now, never) = absurd never
told_cost v name from to (reply.Published number dropped) some (now, never) = absurd never
told_cost v name from to reply.NoFeature some (now, never) = absurd never
told_cost v name from to (reply.FolderFault before after) some (now, never) = absurd never
told_cost v name from to (reply.Rejected report) some (now, never) = absurd never
told_cost v name from to (reply.HistoryFull number) some (now, never) = absurd never
told_cost v name from to (reply.JournalFault before after) some (now, never) = absurd never

-- where a feature of a number stands, that of its identifier stands
stands_at : (v : Version) (number n : ℕ) (id : FeatureId) → IsNamed number id → StandsAt v number n → place_of v.features id ≡ Some n
stands_at v number n id named at =
    let same : id ≡ at.0 = some_id id at.0 (sym named ∙ at.1) in
    ap (λ (x : FeatureId). place_of v.features x) same ∙ at.2

pub cost_of_numbers : (v : Version) (name : List ℕ) (start finish : ℕ) (from to : FeatureId) (cost : Option ℕ) → IsNamed start from → IsNamed finish to
    → IsCostBetween v name from to cost → IsCost v name start finish cost
cost_of_numbers v name start finish from to (Some cost) is_from is_to has = record {
  place = has.place;
  profile = has.profile;
  a = has.a;
  b = has.b;
  trip = record { place_is = has.trip.has_number; profile_is = has.trip.has_profile; start_is = (from, is_from, has.trip.has_from); finish_is = (to, is_to, has.trip.has_to) };
  walk = has.walk;
  least = has.least;
}
cost_of_numbers v name start finish from to None is_from is_to none = λ place profile a b walk trip.
    none place profile a b walk (record {
      has_number = trip.place_is;
      has_profile = trip.profile_is;
      has_from = stands_at v start a from is_from trip.start_is;
      has_to = stands_at v finish b to is_to trip.finish_is;
    })

pub line_of_cost : (v : Version) (name : List ℕ) (start finish : ℕ) (cost : Option ℕ) (text : List ℕ) → IsCost v name start finish cost → text ≡ way_line name cost
    → IsWayLine v name start finish text
line_of_cost v name start finish (Some cost) text is spelled = inl (cost, is, spelled)
line_of_cost v name start finish None text is spelled = inr (is, spelled)
