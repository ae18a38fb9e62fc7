use Rattle.std.proofs.Common.{◌≡◌, ℕ, List, [], ◌++◌, length, flat_map, sym, ap, ◌∙◌}
use Rattle.venue_types.specs.declared.link.Link.{Link}
use Rattle.venue_types.specs.declared.settings.Profile.{Profile}
use Rattle.link_graph.specs.Areas.{areas, area_links, passages}
use Rattle.link_graph.specs.Graphs.{network}
use Rattle.link_graph.specs.Networks.{Network}
use Rattle.route_certificate.specs.declared.table.TableLink.{TableLink}
use Rattle.route_answers.specs.Adding.{Adds}
use Rattle.route_answers.specs.Passing.{rows_of}
use Rattle.route_answers.proofs.Choosing.{rows_joined}
use Rattle.route_answers.proofs.Gathering.{adds_both}
use Rattle.route_answers.proofs.tables.allowed_rows.Goals as goal

whole : (given : Network) (profile : Profile) (count : ℕ) (across between : List Link) (start middle end : List TableLink) → start ≡ [] → Adds count start middle (rows_of given profile across) → Adds count middle end (rows_of given profile between)
    → given.links ≡ across ++ between → end ≡ rows_of given profile given.links
whole given profile count across between start middle end none one two law =
    (adds_both count start middle end (rows_of given profile across) (rows_of given profile between) one two).items
    ∙ ap (λ (rows : List TableLink). rows ++ (rows_of given profile across ++ rows_of given profile between)) none
    ∙ sym (rows_joined given profile across between)
    ∙ ap (rows_of given profile) (sym law)

pub returns-clause-rows : goal.returns-clause-rows
returns-clause-rows c =
    let graph = c.args.graph.now in
    whole (network graph) c.args.profile.now (length (network graph).nodes) (flat_map (area_links graph) (areas graph)) (passages graph) c.in_ok-rows.rows.items c.add_areas.new.rows.items c.add_passages.new.rows.items
    c.in_ok-rows.ensures.items c.in_ok-add_areas.ensures c.in_ok-add_passages.ensures c.areas_law.ensures
