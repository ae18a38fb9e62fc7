-- An answer over the links of one family is one over those of another that has the same.
use Rattle.std.proofs.Common.{ℕ, List}
use Rattle.venue_types.specs.declared.link.Link.{Link}
use Rattle.venue_types.specs.declared.link.Potential.{Potential}
use Rattle.walk_laws.specs.Walks.{HasWalk}
use Rattle.link_graph.specs.Views.{link_view}
use Rattle.route_search.specs.Answers.{IsRoute, IsNoRoute}
use Rattle.route_search.proofs.TrailWalks.{walk_over}

module _ (IsLink IsOther : Link → Type 0) (there : (link : Link) → IsLink link → IsOther link) (back : (link : Link) → IsOther link → IsLink link) (from to : ℕ) where
  pub route_over : (walk : List Link) (cost : ℕ) (listed : List Potential) → IsRoute IsLink from to walk cost listed → IsRoute IsOther from to walk cost listed
  route_over walk cost listed is = record {
    least = record {
      leads = walk_over IsLink IsOther there from to walk is.least.leads;
      costs = is.least.costs;
      least = λ other leads. is.least.least other (walk_over IsOther IsLink back from to other leads);
    };
    certificate = record { starts = is.certificate.starts; ends = is.certificate.ends; links = λ link other. is.certificate.links link (back link other) };
    rising = is.rising;
    below = is.below;
  }

  pub no_route_over : (reached : List ℕ) → IsNoRoute IsLink from to reached → IsNoRoute IsOther from to reached
  no_route_over reached is = record {
    none = λ walk leads. is.none walk (walk_over IsOther IsLink back from to walk leads);
    cut = record { starts = is.cut.starts; ends = is.cut.ends; links = λ link other. is.cut.links link (back link other) };
    exact = λ n. (
      (λ has. let leads = (is.exact n).0 has in (leads.0, walk_over IsLink IsOther there from n leads.0 leads.1)),
      (λ (leads : HasWalk link_view IsOther from n). (is.exact n).1 (leads.0, walk_over IsOther IsLink back from n leads.0 leads.1)),
    );
    rising = is.rising;
  }
