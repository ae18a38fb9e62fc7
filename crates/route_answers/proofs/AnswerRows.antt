-- Walks, certificates and cuts of usable links are those of the rows of their table.
use Rattle.std.proofs.Common.{◌≡◌, ℕ, ◌+◌, ◌≤◌, List, [], ◌∷◌, map, refl, sym, subst}
use Rattle.std.specs.Prelude.{Contains}
use Rattle.std.proofs.lemmas.List.Sums.{sum_by-cons}
use Rattle.rule_reports.proofs.Members.{Contains-nil}
use Rattle.venue_types.specs.declared.features.Features.{Features}
use Rattle.venue_types.specs.declared.link.Link.{Link}
use Rattle.venue_types.specs.declared.link.Potential.{Potential}
use Rattle.venue_types.specs.declared.settings.Profile.{Profile}
use Rattle.venue_types.specs.declared.settings.Settings.{Settings}
use Rattle.imdf_access.specs.Access.{is_allowed}
use Rattle.venue_nodes.proofs.Spread.{from_map}
use Rattle.walk_laws.specs.Walks.{IsWalk, walk_cost}
use Rattle.walk_laws.specs.Certificates.{potential, IsCut}
use Rattle.link_graph.specs.Facts.{facts_at}
use Rattle.link_graph.specs.Links.{links}
use Rattle.link_graph.specs.Views.{link_view}
use Rattle.link_graph.proofs.Items.{from_filter}
use Rattle.route_certificate.specs.declared.table.TableLink.{TableLink}
use Rattle.route_certificate.specs.Answers.{potentials_read}
use Rattle.route_certificate.specs.Prices.{IsChain}
use Rattle.route_certificate.specs.Verdicts.{links_read, IsProvedRoute}
use Rattle.route_search.specs.Answers.{IsRoute}
use Rattle.route_answers.specs.Places.{AreFirstPlaces}
use Rattle.route_answers.specs.Tables.{allowed_links, row_of, table_of}
use Rattle.route_answers.proofs.Judging.{allowed_is}
use Rattle.route_answers.specs.RouteAnswers.{MayUse}

-- ---- each row is that of a usable link

pub record IsRowOfUsable (features : Features) (settings : Settings) (profile : Profile) (row : TableLink) : Type 0 where
  pub link : Link
  pub usable : MayUse features settings profile link
  pub is : row_of features link ≡ row

usable : (features : Features) (settings : Settings) (profile : Profile) (link : Link) → Contains (allowed_links features settings profile) link → MayUse features settings profile link
usable features settings profile link listed =
    let is = from_filter (λ (l : Link). is_allowed profile (facts_at features settings l)) (links features settings) link listed in
    record {
      there = is.0;
      allowed = (allowed_is profile (facts_at features settings link)).0 is.1;
      free = record {
        way = λ closed. Contains-nil closed.0 closed.2;
        start = λ closed. Contains-nil closed.0.id closed.2;
        finish = λ closed. Contains-nil closed.0.id closed.2;
      };
    }

pub row_usable : (features : Features) (settings : Settings) (profile : Profile) (row : TableLink) → Contains (table_of features settings profile).links row → IsRowOfUsable features settings profile row
row_usable features settings profile row listed =
    let is = from_map (row_of features) (allowed_links features settings profile) row listed in
    record { link = is.0; usable = usable features settings profile is.0 is.1; is = is.2 }

-- ---- over rows

-- the first places of the rows of a walk are a chain from its start to its end at its cost
chain : (features : Features) (rows : List TableLink) (IsLink : Link → Type 0) (from to : ℕ) (walk : List Link) (steps : List ℕ) → IsWalk link_view IsLink from to walk
    → AreFirstPlaces rows (map (row_of features) walk) steps → IsChain rows from steps to (walk_cost link_view walk)
chain features rows IsLink from to [] steps same none = subst (λ (ks : List ℕ). IsChain rows from ks to 0) (sym none) (sym same, refl)
chain features rows IsLink from to (link ∷ walk) [] leads places = absurd places
chain features rows IsLink from to (link ∷ walk) (k ∷ steps) leads places = (
  row_of features link,
  walk_cost link_view walk,
  record { is = places.0.there; starts = leads.1 },
  chain features rows IsLink link.to to walk steps leads.2 places.1,
  sum_by-cons link_view.cost link walk,
)

module _ (features : Features) (settings : Settings) (profile : Profile) (from to : ℕ) where
  abbrev rows : List TableLink
  rows = (table_of features settings profile).links

  pub proved_route : (walk : List Link) (cost : ℕ) (at : List Potential) (steps : List ℕ) → IsRoute (MayUse features settings profile) from to walk cost at
      → AreFirstPlaces rows (map (row_of features) walk) steps → IsProvedRoute rows from to cost steps at
  proved_route walk cost at steps route places = record {
    walk = subst (λ (sum : ℕ). IsChain rows from steps to sum) route.least.costs (chain features rows (MayUse features settings profile) from to walk steps route.least.leads places);
    certificate = record {
      starts = route.certificate.starts;
      ends = route.certificate.ends;
      links = λ row listed.
          let of = row_usable features settings profile row listed in
          subst (λ (r : TableLink). let p = potential potentials_read cost at in p r.to ≤ p r.from + r.cost) of.is (route.certificate.links of.link of.usable);
    };
  }

  pub proved_cut : (reached : List ℕ) → IsCut link_view (MayUse features settings profile) from to reached → IsCut links_read (Contains rows) from to reached
  proved_cut reached cut = record {
    starts = cut.starts;
    ends = cut.ends;
    links = λ row listed.
        let of = row_usable features settings profile row listed in
        subst (λ (r : TableLink). Contains reached r.from → Contains reached r.to) of.is (cut.links of.link of.usable);
  }
