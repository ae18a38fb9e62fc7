-- From what a search found over a graph to an answer over its features.
use Rattle.std.proofs.Common.{◌≡◌, ◌↔◌, ℕ, ◌^◌, ◌<◌, ◌≤◌, List, [], length, refl, sym, ap, subst}
use Rattle.venue_types.specs.declared.feature_id.FeatureId.{FeatureId}
use Rattle.venue_types.specs.declared.features.Features.{Features}
use Rattle.venue_types.specs.declared.link.Link.{Link}
use Rattle.venue_types.specs.declared.link.Potential.{Potential}
use Rattle.venue_types.specs.declared.settings.Profile.{Profile}
use Rattle.venue_types.specs.declared.settings.Settings.{Settings}
use Rattle.venue_nodes.specs.Nodes.{nodes}
use Rattle.link_graph.specs.Links.{links}
use Rattle.link_graph.specs.Networks.{Network, IsNetworkOf, IsPassable}
use Rattle.link_graph.specs.Usable.{IsUsable}
use Rattle.route_certificate.specs.declared.answer.Claim.{Claim}
use Rattle.route_certificate.specs.declared.answer.Claim.TheVariants as claim
use Rattle.route_certificate.specs.Answers.{FitsAnswer, FitsClaim}
use Rattle.route_certificate.specs.Verdicts.{IsProvedClaim}
use Rattle.route_search.specs.declared.found.Found.{Found}
use Rattle.route_search.specs.declared.found.Found.TheVariants as found
use Rattle.route_search.specs.Answers.{IsAnswer, IsSmall}
use Rattle.route_answers.specs.Tables.{table_of}
use Rattle.route_answers.specs.RouteAnswers.{MayUse, IsClaimOf, IsRouteAnswer}
use Rattle.route_answers.specs.Claims.{IsOverAllowed, IsTold}
use Rattle.route_answers.proofs.Families.{route_over, no_route_over}
use Rattle.route_answers.proofs.Ranges.{node_fits, route_fits, nothing_fits, walk_all}
use Rattle.route_answers.proofs.AnswerRows.{proved_route, proved_cut}

-- what can be passed over the network of some features is what can be used, whatever is closed
abbrev pub PassesUsable : Type 0
PassesUsable = (features : Features) (settings : Settings) (given : Network) (closed : List FeatureId) (profile : Profile) (link : Link)
    → IsNetworkOf features settings given → IsPassable given closed profile link ↔ IsUsable features settings closed profile link

-- what a claim has to be
pub record IsGoodClaim (features : Features) (settings : Settings) (profile : Profile) (from to count : ℕ) (is : Claim) : Type 0 where
  pub claims : IsClaimOf features settings profile from to is
  pub fits : FitsClaim count is
  pub proved : IsProvedClaim (table_of features settings profile).links from to is

-- a search found links that the profile allows
pub over_allowed : (given : Network) (profile : Profile) (from to : ℕ) (search : Found) → IsAnswer (IsPassable given [] profile) from to search → IsOverAllowed given profile search
over_allowed given profile from to (found.Route walk cost listed) is =
    let all = walk_all (IsPassable given [] profile) from to walk is.least.leads in
    record { there = λ k d within. (all k d within).there; allowed = λ k d within. (all k d within).allowed }
over_allowed given profile from to (found.Cut reached) is = tt

module _ (law : PassesUsable) (features : Features) (settings : Settings) (given : Network) (profile : Profile) (from to : ℕ) (few_nodes : length given.nodes ≤ 400000) (few_links : length given.links < 2 ^ 32)
    (net : IsNetworkOf features settings given) where
  abbrev count : ℕ
  count = length given.nodes

  there : (link : Link) → IsPassable given [] profile link → MayUse features settings profile link
  there link is = (law features settings given [] profile link net).0 is

  back : (link : Link) → MayUse features settings profile link → IsPassable given [] profile link
  back link is = (law features settings given [] profile link net).1 is

  links_few : length (links features settings) < 2 ^ 32
  links_few = subst (λ (ls : List Link). length ls < 2 ^ 32) net.links_are few_links

  pub claim_good : (search : Found) (is : Claim) → IsAnswer (IsPassable given [] profile) from to search → IsSmall count search → IsTold features settings profile search is
      → IsGoodClaim features settings profile from to count is
  claim_good (found.Route walk cost listed) (claim.Route sum steps at) answer small (same, listed_same, numbered) =
      let route = route_over (IsPassable given [] profile) (MayUse features settings profile) there back from to walk cost listed answer in
      let good : IsGoodClaim features settings profile from to count (claim.Route cost steps listed) = record {
        claims = record { walk = walk; route = route; numbered = numbered };
        fits = route_fits features settings profile (MayUse features settings profile) count from to cost walk steps listed few_nodes links_few route small numbered;
        proved = proved_route features settings profile from to walk cost listed steps route numbered;
      } in
      subst (λ (n : ℕ). IsGoodClaim features settings profile from to count (claim.Route n steps at)) (sym same)
      (subst (λ (ps : List Potential). IsGoodClaim features settings profile from to count (claim.Route cost steps ps)) (sym listed_same) good)
  claim_good (found.Route walk cost listed) (claim.Nothing reached) answer small told = absurd told
  claim_good (found.Cut reached) (claim.Route sum steps at) answer small told = absurd told
  claim_good (found.Cut reached) (claim.Nothing listed) answer small same =
      let none = no_route_over (IsPassable given [] profile) (MayUse features settings profile) there back from to reached answer in
      let good : IsGoodClaim features settings profile from to count (claim.Nothing reached) = record {
        claims = none;
        fits = nothing_fits (MayUse features settings profile) count from to reached few_nodes none small;
        proved = proved_cut features settings profile from to reached none.cut;
      } in
      subst (λ (ns : List ℕ). IsGoodClaim features settings profile from to count (claim.Nothing ns)) (sym same) good

  pub answer_good : from < count → to < count → (search : Found) (is : Claim) → IsAnswer (IsPassable given [] profile) from to search → IsSmall count search
      → IsTold features settings profile search is → IsRouteAnswer features settings profile from to (record { from = from; to = to; claim = is })
  answer_good from_within to_within search is answer small told =
      let good = claim_good search is answer small told in
      let many : count ≡ length (nodes features settings) = ap length net.nodes_are in
      record {
        starts = refl;
        ends = refl;
        claim = good.claims;
        fits = subst (λ (n : ℕ). FitsAnswer n (record { from = from; to = to; claim = is })) many
            (record { from = node_fits count from few_nodes from_within; to = node_fits count to few_nodes to_within; claim = good.fits });
        proved = good.proved;
      }
