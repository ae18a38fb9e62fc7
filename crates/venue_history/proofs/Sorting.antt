-- To one question at one version belongs one kind of reply.
use Rattle.std.proofs.Common.{◌≡◌, ◌≢◌, ◌∙◌, ℕ, ◌<◌, List, refl, sym, subst, Option, Some, Bool}
use Rattle.std.proofs.lemmas.Option.{same_Some}
use Rattle.std.specs.Prelude.{Contains}
use Rattle.venue_types.specs.declared.feature_id.FeatureId.{FeatureId}
use Rattle.venue_types.specs.declared.link.Link.{Link}
use Rattle.venue_types.specs.declared.query.Ask.{Ask}
use Rattle.venue_types.specs.declared.query.Ask.TheVariants as ask
use Rattle.venue_types.specs.declared.query.Query.{Query}
use Rattle.venue_types.specs.declared.reply.Leg.{Leg}
use Rattle.venue_types.specs.declared.reply.Reply.{Reply}
use Rattle.venue_types.specs.declared.reply.Reply.TheVariants as reply
use Rattle.venue_types.specs.declared.reply.Which.TheVariants as which
use Rattle.venue_types.specs.declared.settings.Profile.{Profile}
use Rattle.venue_types.specs.Nearest.{Nearest}
use Rattle.venue_types.specs.Tours.{Tour}
use Rattle.walk_laws.specs.Walks.{HasNoWalk, IsLeast}
use Rattle.venue_build.specs.Views.{link_view}
use Rattle.venue_history.specs.Closed.{Version}
use Rattle.venue_history.specs.Tours.{IsTour, IsNoTour}
use Rattle.venue_history.specs.Ways.{Usable}
use Rattle.venue_history.specs.Answers.{IsTooEarly, IsTrip, LacksProfile, HasProfile, IsNoPlace, IsPlace, AnswersAsk, Answers}
use Rattle.venue_history.specs.Replies.{ReplyKind, kind_of}
use Rattle.venue_history.specs.Replies as kind
use Rattle.venue_history.proofs.Touring.{not_toured, stop_stands}

-- where there is a walk of what may be used there isn't none
not_both : (v : Version) (from to : FeatureId) (name : List ℕ) (m n : ℕ) (p q : Profile) (a b a' b' cost : ℕ) (walk : List Link)
    → IsTrip v from to name m p a b → IsTrip v from to name n q a' b' → IsLeast link_view (Usable v m p) a b walk cost → HasNoWalk link_view (Usable v n q) a' b' → ⊥
not_both v from to name m n p q a b a' b' cost walk one other least none =
    let numbers = same_Some n m (sym other.has_number ∙ one.has_number) in
    let profiles = same_Some q p (sym other.has_profile ∙ one.has_profile) in
    let starts = same_Some a' a (sym other.has_from ∙ one.has_from) in
    let ends = same_Some b' b (sym other.has_to ∙ one.has_to) in
    let same_number = subst (λ (o : ℕ). HasNoWalk link_view (Usable v o q) a' b') numbers none in
    let here = subst (λ (r : Profile). HasNoWalk link_view (Usable v m r) a' b') profiles same_number in
    let from_a = subst (λ (o : ℕ). HasNoWalk link_view (Usable v m p) o b') starts here in
    let to_b = subst (λ (o : ℕ). HasNoWalk link_view (Usable v m p) a o) ends from_a in
    to_b walk least.leads

-- what the kind of a reply on a place says
data PlaceCause (v : Version) (id : FeatureId) : ReplyKind → Type 0 where
  nowhere : IsNoPlace v id → PlaceCause v id (kind.no_place which.Id)
  somewhere : IsPlace v id → PlaceCause v id kind.place

-- what the kind of a reply on a route says
data RouteCause (v : Version) (from to : FeatureId) (name : List ℕ) : ReplyKind → Type 0 where
  no_profile : LacksProfile v name → RouteCause v from to name kind.no_profile
  no_start : HasProfile v name → IsNoPlace v from → RouteCause v from to name (kind.no_place which.From)
  no_end : HasProfile v name → IsPlace v from → IsNoPlace v to → RouteCause v from to name (kind.no_place which.To)
  walk : (m : ℕ) (p : Profile) (a b cost : ℕ) (w : List Link) → IsTrip v from to name m p a b → IsLeast link_view (Usable v m p) a b w cost → RouteCause v from to name kind.route
  no_walk : (m : ℕ) (p : Profile) (a b : ℕ) → IsTrip v from to name m p a b → HasNoWalk link_view (Usable v m p) a b → RouteCause v from to name kind.no_route

-- what the kind of a reply on a tour says
data TourCause (v : Version) (asked : Tour) : ReplyKind → Type 0 where
  nobody : LacksProfile v asked.profile → TourCause v asked kind.no_profile
  from_nowhere : HasProfile v asked.profile → IsNoPlace v asked.from → TourCause v asked (kind.no_place which.From)
  to_nowhere : HasProfile v asked.profile → IsPlace v asked.from → IsNoPlace v asked.to → TourCause v asked (kind.no_place which.To)
  by_nowhere : HasProfile v asked.profile → IsPlace v asked.from → IsPlace v asked.to → (stop : FeatureId) → Contains asked.stops stop → IsNoPlace v stop
      → TourCause v asked (kind.no_place which.Stop)
  toured : (order : List FeatureId) (cost : ℕ) (legs : List Leg) → IsTour v asked order cost legs → TourCause v asked kind.tour
  not_so : IsNoTour v asked → TourCause v asked kind.no_tour

-- what the kind of a reply on the nearest says
data NearCause (v : Version) (asked : Nearest) : ReplyKind → Type 0 where
  for_nobody : LacksProfile v asked.profile → NearCause v asked kind.no_profile
  out_of_nowhere : HasProfile v asked.profile → IsNoPlace v asked.from → NearCause v asked (kind.no_place which.From)
  listed : HasProfile v asked.profile → IsPlace v asked.from → NearCause v asked kind.nearest

version_kind : (v : Version) (r : Reply) → AnswersAsk v ask.Version r → kind_of r ≡ kind.version
version_kind v (reply.Version number closed count) is = refl
version_kind v _ is = absurd is

places_kind : (v : Version) (r : Reply) → AnswersAsk v ask.Places r → kind_of r ≡ kind.places
places_kind v (reply.Places number rows) is = refl
places_kind v _ is = absurd is

closures_kind : (v : Version) (r : Reply) → AnswersAsk v ask.Closures r → kind_of r ≡ kind.closures
closures_kind v (reply.Closures it) is = refl
closures_kind v _ is = absurd is

place_cause : (v : Version) (id : FeatureId) (r : Reply) → AnswersAsk v (ask.Place id) r → PlaceCause v id (kind_of r)
place_cause v id (reply.NoPlace which.Id) is = nowhere is
place_cause v id (reply.Place it) is = somewhere is.0
place_cause v id _ is = absurd is

route_cause : (v : Version) (from to : FeatureId) (name : List ℕ) (certificate : Bool) (r : Reply) → AnswersAsk v (ask.Route from to name certificate) r
    → RouteCause v from to name (kind_of r)
route_cause v from to name certificate reply.NoProfile is = no_profile is
route_cause v from to name certificate (reply.NoPlace which.From) is = no_start is.0 is.1
route_cause v from to name certificate (reply.NoPlace which.To) is = no_end is.0 is.1 is.2
route_cause v from to name certificate (reply.Route number from' to' name' start cost steps potentials) is =
    walk is.2.number is.2.profile is.2.a is.2.b cost is.2.walk is.2.trip is.2.least
route_cause v from to name certificate (reply.NoRoute number from' to' name' reached) is = no_walk is.2.number is.2.profile is.2.a is.2.b is.2.trip is.2.none
route_cause v from to name certificate _ is = absurd is

tour_cause : (v : Version) (asked : Tour) (r : Reply) → AnswersAsk v (ask.Tour asked) r → TourCause v asked (kind_of r)
tour_cause v asked reply.NoProfile is = nobody is
tour_cause v asked (reply.NoPlace which.From) is = from_nowhere is.0 is.1
tour_cause v asked (reply.NoPlace which.To) is = to_nowhere is.0 is.1 is.2
tour_cause v asked (reply.NoPlace which.Stop) is = by_nowhere is.0 is.1 is.2 is.3 is.4 is.5
tour_cause v asked (reply.Tour it) is = toured it.order it.cost it.legs is.2
tour_cause v asked (reply.NoTour it) is = not_so is.3
tour_cause v asked _ is = absurd is

near_cause : (v : Version) (asked : Nearest) (r : Reply) → AnswersAsk v (ask.Nearest asked) r → NearCause v asked (kind_of r)
near_cause v asked reply.NoProfile is = for_nobody is
near_cause v asked (reply.NoPlace which.From) is = out_of_nowhere is.0 is.1
near_cause v asked (reply.Nearest it) is = listed (is.2.profile, is.2.trip.has_profile) (is.2.a, is.2.trip.has_from)
near_cause v asked _ is = absurd is

one_place : (v : Version) (id : FeatureId) (k l : ReplyKind) → PlaceCause v id k → PlaceCause v id l → k ≡ l
one_place v id _ _ (nowhere e) (nowhere f) = refl
one_place v id _ _ (somewhere e) (somewhere f) = refl
one_place v id _ _ (nowhere e) (somewhere f) = absurd (cc (e, f.1))
one_place v id _ _ (somewhere e) (nowhere f) = absurd (cc (e.1, f))

one_route : (v : Version) (from to : FeatureId) (name : List ℕ) (k l : ReplyKind) → RouteCause v from to name k → RouteCause v from to name l → k ≡ l
one_route v from to name _ _ (no_profile e) (no_profile f) = refl
one_route v from to name _ _ (no_profile e) (no_start f g) = absurd (cc (e, f.1))
one_route v from to name _ _ (no_profile e) (no_end f g h) = absurd (cc (e, f.1))
one_route v from to name _ _ (no_profile e) (walk m p a b cost w t l) = absurd (cc (e, t.has_profile))
one_route v from to name _ _ (no_profile e) (no_walk m p a b t n) = absurd (cc (e, t.has_profile))
one_route v from to name _ _ (no_start f g) (no_profile e) = absurd (cc (e, f.1))
one_route v from to name _ _ (no_start f g) (no_start d e) = refl
one_route v from to name _ _ (no_start f g) (no_end d e h) = absurd (cc (g, e.1))
one_route v from to name _ _ (no_start f g) (walk m p a b cost w t l) = absurd (cc (g, t.has_from))
one_route v from to name _ _ (no_start f g) (no_walk m p a b t n) = absurd (cc (g, t.has_from))
one_route v from to name _ _ (no_end d e h) (no_profile f) = absurd (cc (f, d.1))
one_route v from to name _ _ (no_end d e h) (no_start f g) = absurd (cc (g, e.1))
one_route v from to name _ _ (no_end d e h) (no_end d' e' h') = refl
one_route v from to name _ _ (no_end d e h) (walk m p a b cost w t l) = absurd (cc (h, t.has_to))
one_route v from to name _ _ (no_end d e h) (no_walk m p a b t n) = absurd (cc (h, t.has_to))
one_route v from to name _ _ (walk m p a b cost w t l) (no_profile e) = absurd (cc (e, t.has_profile))
one_route v from to name _ _ (walk m p a b cost w t l) (no_start f g) = absurd (cc (g, t.has_from))
one_route v from to name _ _ (walk m p a b cost w t l) (no_end d e h) = absurd (cc (h, t.has_to))
one_route v from to name _ _ (walk m p a b cost w t l) (walk m' p' a' b' cost' w' t' l') = refl
one_route v from to name _ _ (walk m p a b cost w t l) (no_walk m' q a' b' t' n) = absurd (not_both v from to name m m' p q a b a' b' cost w t t' l n)
one_route v from to name _ _ (no_walk m p a b t n) (no_profile e) = absurd (cc (e, t.has_profile))
one_route v from to name _ _ (no_walk m p a b t n) (no_start f g) = absurd (cc (g, t.has_from))
one_route v from to name _ _ (no_walk m p a b t n) (no_end d e h) = absurd (cc (h, t.has_to))
one_route v from to name _ _ (no_walk m p a b t n) (walk m' q a' b' cost w t' l) = absurd (not_both v from to name m' m q p a' b' a b cost w t' t l n)
one_route v from to name _ _ (no_walk m p a b t n) (no_walk m' p' a' b' t' n') = refl

one_tour : (v : Version) (asked : Tour) (k l : ReplyKind) → TourCause v asked k → TourCause v asked l → k ≡ l
one_tour v asked _ _ (nobody e) (nobody e') = refl
one_tour v asked _ _ (nobody e) (from_nowhere p' n') = absurd (cc (e, p'.1))
one_tour v asked _ _ (nobody e) (to_nowhere p' f' n') = absurd (cc (e, p'.1))
one_tour v asked _ _ (nobody e) (by_nowhere p' f' t' x' c' n') = absurd (cc (e, p'.1))
one_tour v asked _ _ (nobody e) (toured o' k' l' is') = absurd (cc (e, is'.trip.has_profile))
one_tour v asked _ _ (nobody e) (not_so is') = absurd (cc (e, is'.trip.has_profile))
one_tour v asked _ _ (from_nowhere p n) (nobody e') = absurd (cc (p.1, e'))
one_tour v asked _ _ (from_nowhere p n) (from_nowhere p' n') = refl
one_tour v asked _ _ (from_nowhere p n) (to_nowhere p' f' n') = absurd (cc (n, f'.1))
one_tour v asked _ _ (from_nowhere p n) (by_nowhere p' f' t' x' c' n') = absurd (cc (n, f'.1))
one_tour v asked _ _ (from_nowhere p n) (toured o' k' l' is') = absurd (cc (n, is'.trip.has_from))
one_tour v asked _ _ (from_nowhere p n) (not_so is') = absurd (cc (n, is'.trip.has_from))
one_tour v asked _ _ (to_nowhere p f n) (nobody e') = absurd (cc (p.1, e'))
one_tour v asked _ _ (to_nowhere p f n) (from_nowhere p' n') = absurd (cc (f.1, n'))
one_tour v asked _ _ (to_nowhere p f n) (to_nowhere p' f' n') = refl
one_tour v asked _ _ (to_nowhere p f n) (by_nowhere p' f' t' x' c' n') = absurd (cc (n, t'.1))
one_tour v asked _ _ (to_nowhere p f n) (toured o' k' l' is') = absurd (cc (n, is'.trip.has_to))
one_tour v asked _ _ (to_nowhere p f n) (not_so is') = absurd (cc (n, is'.trip.has_to))
one_tour v asked _ _ (by_nowhere p f t x c n) (nobody e') = absurd (cc (p.1, e'))
one_tour v asked _ _ (by_nowhere p f t x c n) (from_nowhere p' n') = absurd (cc (f.1, n'))
one_tour v asked _ _ (by_nowhere p f t x c n) (to_nowhere p' f' n') = absurd (cc (t.1, n'))
one_tour v asked _ _ (by_nowhere p f t x c n) (by_nowhere p' f' t' x' c' n') = refl
one_tour v asked _ _ (by_nowhere p f t x c n) (toured o' k' l' is') = absurd (stop_stands v asked is'.number is'.profile is'.a is'.stops is'.b is'.trip x c n)
one_tour v asked _ _ (by_nowhere p f t x c n) (not_so is') = absurd (stop_stands v asked is'.number is'.profile is'.a is'.stops is'.b is'.trip x c n)
one_tour v asked _ _ (toured o k l is) (nobody e') = absurd (cc (is.trip.has_profile, e'))
one_tour v asked _ _ (toured o k l is) (from_nowhere p' n') = absurd (cc (is.trip.has_from, n'))
one_tour v asked _ _ (toured o k l is) (to_nowhere p' f' n') = absurd (cc (is.trip.has_to, n'))
one_tour v asked _ _ (toured o k l is) (by_nowhere p' f' t' x' c' n') = absurd (stop_stands v asked is.number is.profile is.a is.stops is.b is.trip x' c' n')
one_tour v asked _ _ (toured o k l is) (toured o' k' l' is') = refl
one_tour v asked _ _ (toured o k l is) (not_so is') = absurd (not_toured v asked o k l is is')
one_tour v asked _ _ (not_so is) (nobody e') = absurd (cc (is.trip.has_profile, e'))
one_tour v asked _ _ (not_so is) (from_nowhere p' n') = absurd (cc (is.trip.has_from, n'))
one_tour v asked _ _ (not_so is) (to_nowhere p' f' n') = absurd (cc (is.trip.has_to, n'))
one_tour v asked _ _ (not_so is) (by_nowhere p' f' t' x' c' n') = absurd (stop_stands v asked is.number is.profile is.a is.stops is.b is.trip x' c' n')
one_tour v asked _ _ (not_so is) (toured o' k' l' is') = absurd (not_toured v asked o' k' l' is' is)
one_tour v asked _ _ (not_so is) (not_so is') = refl

one_near : (v : Version) (asked : Nearest) (k l : ReplyKind) → NearCause v asked k → NearCause v asked l → k ≡ l
one_near v asked _ _ (for_nobody e) (for_nobody e') = refl
one_near v asked _ _ (for_nobody e) (out_of_nowhere p' n') = absurd (cc (e, p'.1))
one_near v asked _ _ (for_nobody e) (listed p' f') = absurd (cc (e, p'.1))
one_near v asked _ _ (out_of_nowhere p n) (for_nobody e') = absurd (cc (p.1, e'))
one_near v asked _ _ (out_of_nowhere p n) (out_of_nowhere p' n') = refl
one_near v asked _ _ (out_of_nowhere p n) (listed p' f') = absurd (cc (n, f'.1))
one_near v asked _ _ (listed p f) (for_nobody e') = absurd (cc (p.1, e'))
one_near v asked _ _ (listed p f) (out_of_nowhere p' n') = absurd (cc (f.1, n'))
one_near v asked _ _ (listed p f) (listed p' f') = refl

one_answer : (v : Version) (asked : Ask) (r s : Reply) → AnswersAsk v asked r → AnswersAsk v asked s → kind_of r ≡ kind_of s
one_answer v ask.Version r s is also = version_kind v r is ∙ sym (version_kind v s also)
one_answer v ask.Places r s is also = places_kind v r is ∙ sym (places_kind v s also)
one_answer v ask.Closures r s is also = closures_kind v r is ∙ sym (closures_kind v s also)
one_answer v (ask.Place id) r s is also = one_place v id (kind_of r) (kind_of s) (place_cause v id r is) (place_cause v id s also)
one_answer v (ask.Route from to name certificate) r s is also =
    one_route v from to name (kind_of r) (kind_of s) (route_cause v from to name certificate r is) (route_cause v from to name certificate s also)
one_answer v (ask.Tour asked) r s is also = one_tour v asked (kind_of r) (kind_of s) (tour_cause v asked r is) (tour_cause v asked s also)
one_answer v (ask.Nearest asked) r s is also = one_near v asked (kind_of r) (kind_of s) (near_cause v asked r is) (near_cause v asked s also)

-- how a reply that isn't want of memory answers: the version is too early, or what is asked is answered
data Cause (v : Version) (query : Query) (r : Reply) : Type 0 where
  early : (since : ℕ) → query.since ≡ Some since → v.number < since → kind_of r ≡ kind.ahead → Cause v query r
  answer : ¬ IsTooEarly v query.since → AnswersAsk v query.what r → Cause v query r

cause : (v : Version) (query : Query) (r : Reply) → r ≢ reply.OutOfMemory → Answers v query r → Cause v query r
cause v query reply.OutOfMemory some is = absurd (some refl)
cause v query (reply.Ahead since number) some is = early since is.0 is.1 refl
cause v query _ some is = answer is.0 is.1

too_early : (v : Version) (since : Option ℕ) (n : ℕ) → since ≡ Some n → v.number < n → IsTooEarly v since
too_early v since n e less = subst (IsTooEarly v) (sym e) less

one_cause : (v : Version) (query : Query) (r s : Reply) → Cause v query r → Cause v query s → kind_of r ≡ kind_of s
one_cause v query r s (early since e less k) (early since' e' less' k') = k ∙ sym k'
one_cause v query r s (early since e less k) (answer new is) = absurd (new (too_early v query.since since e less))
one_cause v query r s (answer new is) (early since e less k) = absurd (new (too_early v query.since since e less))
one_cause v query r s (answer new is) (answer new' is') = one_answer v query.what r s is is'

-- one kind, but for want of memory
pub one_kind : (v : Version) (query : Query) (r s : Reply) → r ≢ reply.OutOfMemory → s ≢ reply.OutOfMemory → Answers v query r → Answers v query s → kind_of r ≡ kind_of s
one_kind v query r s some some' is also = one_cause v query r s (cause v query r some is) (cause v query s some' also)
