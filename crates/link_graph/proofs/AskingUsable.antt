-- What can be passed over the network of some features are their usable links.
use Rattle.std.proofs.Common.{◌↔◌, List, sym, subst, subst₂}
use Rattle.std.specs.Prelude.{Contains}
use Rattle.venue_types.specs.declared.feature_id.FeatureId.{FeatureId}
use Rattle.venue_types.specs.declared.features.Features.{Features}
use Rattle.venue_types.specs.declared.link.Link.{Link}
use Rattle.venue_types.specs.declared.link.Node.{Node}
use Rattle.venue_types.specs.declared.settings.Profile.{Profile}
use Rattle.venue_types.specs.declared.settings.Settings.{Settings}
use Rattle.imdf_access.specs.Access.{IsAllowed}
use Rattle.link_graph.specs.Facts.{IsOpenAmong}
use Rattle.link_graph.specs.Networks.{Network, IsNetworkOf, IsPassable}
use Rattle.link_graph.specs.Usable.{IsUsable}

usable_of : (features : Features) (settings : Settings) (given : Network) (closed : List FeatureId) (profile : Profile) (link : Link) → IsNetworkOf features settings given → IsPassable given closed profile link → IsUsable features settings closed profile link
usable_of features settings given closed profile link of h =
    let there = subst (λ (ls : List Link). Contains ls link) of.links_are h.there in
    record {
      there = there;
      allowed = subst (IsAllowed profile) (of.facts_are link there) h.allowed;
      free = subst₂ (λ (ns : List Node) (ids : List FeatureId). IsOpenAmong ns ids closed link) of.nodes_are of.closables_are h.free;
    }

passable_of : (features : Features) (settings : Settings) (given : Network) (closed : List FeatureId) (profile : Profile) (link : Link) → IsNetworkOf features settings given → IsUsable features settings closed profile link → IsPassable given closed profile link
passable_of features settings given closed profile link of h = record {
  there = subst (λ (ls : List Link). Contains ls link) (sym of.links_are) h.there;
  allowed = subst (IsAllowed profile) (sym (of.facts_are link h.there)) h.allowed;
  free = subst₂ (λ (ns : List Node) (ids : List FeatureId). IsOpenAmong ns ids closed link) (sym of.nodes_are) (sym of.closables_are) h.free;
}

pub passable_usable : (features : Features) (settings : Settings) (given : Network) (closed : List FeatureId) (profile : Profile) (link : Link) → IsNetworkOf features settings given → IsPassable given closed profile link ↔ IsUsable features settings closed profile link
passable_usable features settings given closed profile link of = (usable_of features settings given closed profile link of, passable_of features settings given closed profile link of)
