-- What is told of a route or of a cut keeps to the form's ranges.
use Rattle.std.proofs.Common.{◌≡◌, ℕ, zero, suc, ◌+◌, ◌^◌, ◌<◌, ◌≤◌, Bool, true, false, cond, List, [], ◌∷◌, length, map, filter, All, get_or, sym, ap, subst, arith}
use Rattle.std.specs.List.{AllByRecursion}
use Rattle.std.proofs.lemmas.List.{length-map}
use Rattle.std.proofs.lemmas.List.Elements.{recursion_from_All}
use Rattle.std.proofs.lemmas.Option.{slice_get_within}
use Rattle.venue_types.specs.declared.features.Features.{Features}
use Rattle.venue_types.specs.declared.link.Link.{Link}
use Rattle.venue_types.specs.declared.link.Potential.{Potential}
use Rattle.venue_types.specs.declared.settings.Profile.{Profile}
use Rattle.venue_types.specs.declared.settings.Settings.{Settings}
use Rattle.imdf_access.specs.Access.{is_allowed}
use Rattle.walk_laws.specs.Walks.{IsWalk}
use Rattle.link_graph.specs.Facts.{facts_at}
use Rattle.link_graph.specs.Links.{links}
use Rattle.link_graph.specs.Views.{link_view}
use Rattle.route_certificate.specs.declared.table.TableLink.{TableLink}
use Rattle.route_certificate.specs.Answers.{FitsPotential, FitsRoute, FitsNothing}
use Rattle.route_certificate.specs.Forms.{FitsNode, FitsStep}
use Rattle.route_search.specs.Answers.{IsRoute, IsNoRoute, IsSmallRoute}
use Rattle.route_answers.specs.Places.{AreFirstPlaces}
use Rattle.route_answers.specs.Tables.{allowed_links, row_of, table_of}

pub node_fits : (nodes n : ℕ) → nodes ≤ 400000 → n < nodes → FitsNode nodes n
node_fits nodes n few within = record { node = within; small = omega (arith, within, few) }

-- ---- steps

-- there are as many places as rows
pub as_many : (rows wanted : List TableLink) (steps : List ℕ) → AreFirstPlaces rows wanted steps → length steps ≡ length wanted
as_many rows [] steps none = ap length none
as_many rows (row ∷ wanted) [] places = absurd places
as_many rows (row ∷ wanted) (k ∷ steps) places = let rest = as_many rows wanted steps places.1 in omega (arith, rest)

places_fit : (rows wanted : List TableLink) (steps : List ℕ) → length rows < 2 ^ 32 → AreFirstPlaces rows wanted steps → AllByRecursion FitsStep steps
places_fit rows [] steps few none = subst (λ (ks : List ℕ). AllByRecursion FitsStep ks) (sym none) tt
places_fit rows (row ∷ wanted) [] few places = absurd places
places_fit rows (row ∷ wanted) (k ∷ steps) few places =
    (let within = slice_get_within rows k row places.0.there in let fits : k < 2 ^ 32 = omega (arith, within, few) in fits, places_fit rows wanted steps few places.1)

kept_most : (b : Bool) (x : Link) (kept : List Link) (n : ℕ) → length kept ≤ n → length (cond b (x ∷ kept) kept) ≤ n + 1
kept_most true x kept n most = omega (arith, most)
kept_most false x kept n most = omega (arith, most)

filter_most : (test : Link → Bool) (xs : List Link) → length (filter test xs) ≤ length xs
filter_most test [] = omega arith
filter_most test (x ∷ xs) = let most = kept_most (test x) x (filter test xs) (length xs) (filter_most test xs) in omega (arith, most)

rows_most : (features : Features) (settings : Settings) (profile : Profile) → length (table_of features settings profile).links ≤ length (links features settings)
rows_most features settings profile =
    let most = filter_most (λ (l : Link). is_allowed profile (facts_at features settings l)) (links features settings) in
    let same = length-map (allowed_links features settings profile) (row_of features) in
    omega (arith, most, same)

-- ---- a route, and a cut

pub route_fits : (features : Features) (settings : Settings) (profile : Profile) (IsLink : Link → Type 0) (nodes from to cost : ℕ) (walk : List Link) (steps : List ℕ) (at : List Potential) → nodes ≤ 400000
    → length (links features settings) < 2 ^ 32 → IsRoute IsLink from to walk cost at → IsSmallRoute nodes walk cost at
    → AreFirstPlaces (table_of features settings profile).links (map (row_of features) walk) steps → FitsRoute nodes cost steps at
route_fits features settings profile IsLink nodes from to cost walk steps at few_nodes few_links route small places =
    let cheap : cost ≤ 4398046511103 = omega (arith, small.cheap) in
    record {
      cost_fits = cheap;
      steps_fit = places_fit (table_of features settings profile).links (map (row_of features) walk) steps (omega (arith, few_links, rows_most features settings profile)) places;
      potentials_fit = recursion_from_All (FitsPotential nodes) at (λ k d within.
          record { node = node_fits nodes (get_or at k d).node few_nodes (small.nodes_alone k d within); value = (let low = route.below k d within in let fits : (get_or at k d).value ≤ 4398046511103 = omega (arith, low, cheap) in fits) });
      ascends = route.rising;
    }

pub nothing_fits : (IsLink : Link → Type 0) (nodes from to : ℕ) (reached : List ℕ) → nodes ≤ 400000 → IsNoRoute IsLink from to reached → All (λ (n : ℕ). n < nodes) reached → FitsNothing nodes reached
nothing_fits IsLink nodes from to reached few none small = record {
  reached_fit = recursion_from_All (FitsNode nodes) reached (λ k d within. node_fits nodes (get_or reached k d) few (small k d within));
  ascends = none.rising;
}

-- ---- the links of a walk are of its family

pub walk_all : (IsLink : Link → Type 0) (from to : ℕ) (walk : List Link) → IsWalk link_view IsLink from to walk → All IsLink walk
walk_all IsLink from to [] leads k d within = absurd (omega (arith, within))
walk_all IsLink from to (link ∷ walk) leads zero d within = leads.0
walk_all IsLink from to (link ∷ walk) leads (suc k) d within = walk_all IsLink link.to to walk leads.2 k d (omega (arith, within))
