-- Over the network of some features the table is that of the features.
use Rattle.std.proofs.Common.{◌≡◌, Bool, List, [], ◌∷◌, map, filter, cond, refl, ap, ◌∙◌}
use Rattle.std.specs.Prelude.{Contains}
use Rattle.venue_types.specs.declared.features.Features.{Features}
use Rattle.venue_types.specs.declared.feature_id.FeatureId.{FeatureId}
use Rattle.venue_types.specs.declared.link.Link.{Link}
use Rattle.venue_types.specs.declared.link.LinkFacts.{LinkFacts}
use Rattle.venue_types.specs.declared.settings.Profile.{Profile}
use Rattle.venue_types.specs.declared.settings.Settings.{Settings}
use Rattle.imdf_access.specs.Access.{is_allowed}
use Rattle.rule_reports.proofs.Members.{Contains-first, Contains-later}
use Rattle.link_graph.specs.Facts.{facts_at}
use Rattle.link_graph.specs.Links.{links}
use Rattle.link_graph.specs.Networks.{Network, IsNetworkOf}
use Rattle.route_certificate.specs.declared.table.TableLink.{TableLink}
use Rattle.route_answers.specs.Passing.{id_at, link_row, passes_link, rows_of}
use Rattle.route_answers.specs.Tables.{allowed_links, row_of, way_id}

-- two tests that agree on a list choose the same of it
chosen_same : (t u : Link → Bool) (xs : List Link) → ((link : Link) → Contains xs link → t link ≡ u link) → filter t xs ≡ filter u xs
chosen_same t u [] agree = refl
chosen_same t u (x ∷ xs) agree =
    ap (λ (b : Bool). cond b (x ∷ filter t xs) (filter t xs)) (agree x (Contains-first x xs))
    ∙ ap (λ (rest : List Link). cond (u x) (x ∷ rest) rest) (chosen_same t u xs (λ link there. agree link (Contains-later x xs link there)))

pub row_same : (features : Features) (settings : Settings) (given : Network) (link : Link) → IsNetworkOf features settings given → link_row given link ≡ row_of features link
unfolding link_row way_id id_at
row_same features settings given link is = ap (λ (ids : List FeatureId). record { from = link.from; to = link.to; cost = link.cost; via = id_at ids link.via }) is.closables_are

pub mapped_same : (f g : Link → TableLink) (xs : List Link) → ((link : Link) → f link ≡ g link) → map f xs ≡ map g xs
mapped_same f g [] same = refl
mapped_same f g (x ∷ xs) same = ap (λ (row : TableLink). row ∷ map f xs) (same x) ∙ ap (λ (rest : List TableLink). g x ∷ rest) (mapped_same f g xs same)

pub rows_are : (features : Features) (settings : Settings) (given : Network) (profile : Profile) → IsNetworkOf features settings given → rows_of given profile given.links ≡ map (row_of features) (allowed_links features settings profile)
unfolding rows_of passes_link
rows_are features settings given profile is =
    ap (λ (all : List Link). map (link_row given) (filter (passes_link given profile) all)) is.links_are
    ∙ ap (λ (some : List Link). map (link_row given) some) (chosen_same (passes_link given profile) (λ (link : Link). is_allowed profile (facts_at features settings link)) (links features settings)
    (λ link there. ap (λ (facts : LinkFacts). is_allowed profile facts) (is.facts_are link there)))
    ∙ mapped_same (link_row given) (row_of features) (allowed_links features settings profile) (λ link. row_same features settings given link is)
