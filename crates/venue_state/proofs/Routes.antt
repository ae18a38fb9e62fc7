-- Answers of a search over links that stand for others, and what a reply tells of them.
use Rattle.std.proofs.Common.{◌≡◌, ◌∙◌, ◌↔◌, ℕ, List, [], ◌∷◌, map, sym, ap, Bool, true, false, Option, Some, None, subst, filter}
use Rattle.venue_types.specs.declared.feature_id.FeatureId.{FeatureId}
use Rattle.venue_types.specs.declared.link.Link.{Link}
use Rattle.venue_types.specs.declared.profile_set.ProfileSet.{ProfileSet}
use Rattle.venue_types.specs.declared.reply.NodeName.{NodeName}
use Rattle.venue_types.specs.declared.settings.Profile.{Profile}
use Rattle.walk_laws.specs.Walks.{IsWalk, HasWalk}
use Rattle.venue_types.specs.declared.features.Features.{Features}
use Rattle.venue_types.specs.declared.settings.Settings.{Settings}
use Rattle.venue_types.specs.ProfileSets.{has}
use Rattle.route_search.specs.Nodes.{closables}
use Rattle.route_search.specs.Marking.{chosen, marked}
use Rattle.route_search.specs.Networks.{Network, IsNetworkOf, IsPassable}
use Rattle.route_search.specs.Usable.{IsUsable}
use Rattle.route_search.specs.Views.{link_view}
use Rattle.route_search.specs.declared.found.Found.{Found}
use Rattle.route_search.specs.declared.found.Found.TheVariants.{Route, Cut}
use Rattle.route_search.specs.Answers.{IsAnswer}
use Rattle.route_search.specs.Answers as search
use Rattle.venue_history.specs.declared.entry.Closing.{Closing}
use Rattle.venue_history.specs.Closed.{Version, feature_of, closed_for}
use Rattle.venue_history.specs.Ways.{Usable, name_of}
use Rattle.venue_history.specs.Answers.{IfAsked, IsTrip, AreReached, IsNoRoute}
use Rattle.venue_state.specs.Boards.{closed_by}
use Rattle.venue_state.proofs.Marking.{chosen_for}

pub walk_over : (P Q : Link → Type 0) → ((link : Link) → P link → Q link) → (walk : List Link) (a b : ℕ) → IsWalk link_view P a b walk → IsWalk link_view Q a b walk
walk_over P Q over [] a b w = w
walk_over P Q over (link ∷ links) a b w = (over link w.0, w.1, walk_over P Q over links link.to b w.2)

-- an answer over a family of links is one over a family with the same links
pub answer_over : (P Q : Link → Type 0) → ((link : Link) → P link → Q link) → ((link : Link) → Q link → P link) → (a b : ℕ) (found : Found)
    → IsAnswer P a b found → IsAnswer Q a b found
answer_over P Q there back a b (Route walk cost listed) r = record {
  least = record {
    leads = walk_over P Q there walk a b r.least.leads;
    costs = r.least.costs;
    least = λ other w. r.least.least other (walk_over Q P back other a b w);
  };
  certificate = record { starts = r.certificate.starts; ends = r.certificate.ends; links = λ link q. r.certificate.links link (back link q) };
  rising = r.rising;
  below = r.below;
}
answer_over P Q there back a b (Cut reached) r = record {
  none = λ walk w. r.none walk (walk_over Q P back walk a b w);
  cut = record { starts = r.cut.starts; ends = r.cut.ends; links = λ link q. r.cut.links link (back link q) };
  exact = λ n. (
    (λ has. let walk = (r.exact n).0 has in (walk.0, walk_over P Q there walk.0 a n walk.1)),
    (λ (has : HasWalk link_view Q a n). (r.exact n).1 (has.0, walk_over Q P back has.0 a n has.1)),
  );
  rising = r.rising;
}

-- what can be passed over the network of some features is what can be used, whatever is closed
abbrev pub PassesUsable : Type 0
PassesUsable = (features : Features) (settings : Settings) (given : Network) (closed : List FeatureId) (profile : Profile) (link : Link)
    → IsNetworkOf features settings given → IsPassable given closed profile link ↔ IsUsable features settings closed profile link

-- what is marked for a profile is what is closed for it
marked_is : (v : Version) (given : Network) (marks : List ProfileSet) (number : ℕ) → IsNetworkOf v.features v.settings given → closed_by marks (closables v.features) ≡ v.closed
    → marked given marks number ≡ closed_for v number
unfolding marked
marked_is v given marks number net e =
    ap (chosen (has number) marks) net.closables_are ∙ chosen_for number marks (closables v.features)
    ∙ ap (λ (closed : List Closing). map feature_of (filter (λ (it : Closing). has number it.profiles) closed)) e

-- what can be passed over the graph is what can be used at the version
pub version_links : PassesUsable → (v : Version) (given : Network) (marks : List ProfileSet) (number : ℕ) (profile : Profile)
    → IsNetworkOf v.features v.settings given → closed_by marks (closables v.features) ≡ v.closed
    → (link : Link) → IsPassable given (marked given marks number) profile link ↔ Usable v number profile link
version_links law v given marks number profile net closed_is link =
    let same = marked_is v given marks number net closed_is in (
      (λ p.
          let u = (law v.features v.settings given (closed_for v number) profile link net).0 (subst (λ (closed : List FeatureId). IsPassable given closed profile link) same p) in
          record { there = u.there; allowed = u.allowed; free = u.free }),
      (λ (q : Usable v number profile link).
          subst (λ (closed : List FeatureId). IsPassable given closed profile link) (sym same)
          ((law v.features v.settings given (closed_for v number) profile link net).1 (record { there = q.there; allowed = q.allowed; free = q.free }))),
    )

-- an answer over the graph is one at the version
pub version_answer : PassesUsable → (v : Version) (given : Network) (marks : List ProfileSet) (number : ℕ) (profile : Profile) (a b : ℕ) (found : Found)
    → IsNetworkOf v.features v.settings given → closed_by marks (closables v.features) ≡ v.closed
    → IsAnswer (IsPassable given (marked given marks number) profile) a b found → IsAnswer (Usable v number profile) a b found
version_answer law v given marks number profile a b found net closed_is =
    answer_over (IsPassable given (marked given marks number) profile) (Usable v number profile)
    (λ link. (version_links law v given marks number profile net closed_is link).0)
    (λ link. (version_links law v given marks number profile net closed_is link).1) a b found

asked_so : {X : Type 0} (certificate : Bool) (o : Option X) (P Q : X → Type 0) → ((x : X) → P x → Q x) → IfAsked certificate P o → IfAsked certificate Q o
asked_so true (Some x) P Q so p = so x p
asked_so true None P Q so p = absurd p
asked_so false None P Q so p = p
asked_so false (Some x) P Q so p = absurd p

-- what is told where there is none
pub cut_told : (v : Version) (from to : FeatureId) (name : List ℕ) (certificate : Bool) (a : ℕ) (nodes : List ℕ) (names : Option (List NodeName))
    → IfAsked certificate (λ told. told ≡ map (name_of v) nodes) names
    → (number : ℕ) (profile : Profile) (b : ℕ) → IsTrip v from to name number profile a b → search.IsNoRoute (Usable v number profile) a b nodes
    → IsNoRoute v from to name certificate names
cut_told v from to name certificate a nodes names told number profile b trip r = record {
  number = number;
  profile = profile;
  a = a;
  b = b;
  trip = trip;
  none = r.none;
  shown = asked_so certificate names (λ told. told ≡ map (name_of v) nodes) (AreReached v number profile a)
      (λ told is. record { listed = nodes; told = is; rising = r.rising; exact = r.exact }) told;
}
