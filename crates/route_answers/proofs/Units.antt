-- The numbers of units and of relationships.
use Rattle.std.proofs.Common.{Bool, ◌≡◌, ℕ, ◌<◌, ◌≤◌, List, [], ◌∷◌, length, map, refl, sym, ap, subst, arith}
use Rattle.std.specs.Prelude.{Contains}
use Rattle.std.specs.List.{AllByRecursion}
use Rattle.std.specs.List.Sorted.{IsStrictlyIncreasing}
use Rattle.std.proofs.lemmas.List.Elements.{recursion_from_All}
use Rattle.venue_types.specs.declared.link.Link.{Link}
use Rattle.venue_nodes.specs.Rows.{row_list}
use Rattle.venue_nodes.specs.Views.{closable_list}
use Rattle.link_graph.specs.declared.areas.Area.{Area}
use Rattle.link_graph.specs.declared.graph.Graph.{Graph}
use Rattle.link_graph.specs.declared.parts.Core.{Core}
use Rattle.link_graph.specs.declared.parts.Crossing.{Crossing}
use Rattle.link_graph.specs.Areas.{areas, areas_in, passages}
use Rattle.link_graph.specs.Cores.{IsCrossing, IsPassage, network_in}
use Rattle.link_graph.specs.Graphs.{network}
use Rattle.route_answers.proofs.Everywhere.{all_by, all_mapped, all_unmapped, of_item}
use Rattle.route_answers.proofs.Rising.{at_item}

abbrev pub number : Area × List ℕ × List (List Bool) → ℕ
number area = area.0.via

-- units have the numbers of their crossings
numbers_are : (core : Core) (crossings : List Crossing) (rows : List (List ℕ)) → length crossings ≡ length rows → map number (areas_in core crossings rows) ≡ map (λ (crossing : Crossing). crossing.via) crossings
numbers_are core [] rows paired = refl
numbers_are core (c ∷ cs) [] paired = absurd (omega (arith, paired))
numbers_are core (c ∷ cs) (r ∷ rs) paired = ap (λ (rest : List ℕ). c.via ∷ rest) (numbers_are core cs rs (omega (arith, paired)))

pub numbers_rise : (graph : Graph) → IsStrictlyIncreasing (map number (areas graph))
unfolding areas
numbers_rise graph =
    subst IsStrictlyIncreasing (sym (numbers_are graph.core graph.core.crossings.items (row_list graph.core.rows) graph.sound.paired)) graph.sound.apart

-- what holds of the numbers of all crossings does of those of all units
of_numbers : (graph : Graph) (P : ℕ → Type 0) → ((crossing : Crossing) → IsCrossing graph.core crossing → P crossing.via) → AllByRecursion (λ (area : Area × List ℕ × List (List Bool)). P area.0.via) (areas graph)
unfolding areas
of_numbers graph P holds =
    all_unmapped P number (areas graph)
    (subst (AllByRecursion P) (sym (numbers_are graph.core graph.core.crossings.items (row_list graph.core.rows) graph.sound.paired))
    (all_mapped P (λ (crossing : Crossing). crossing.via) graph.core.crossings.items
    (all_by (IsCrossing graph.core) (λ (crossing : Crossing). P crossing.via) holds graph.core.crossings.items (recursion_from_All (IsCrossing graph.core) graph.core.crossings.items graph.sound.crossings))))

pub numbers_within : (graph : Graph) → AllByRecursion (λ (area : Area × List ℕ × List (List Bool)). area.0.via < length (network graph).closables) (areas graph)
unfolding network network_in
numbers_within graph = of_numbers graph (λ (v : ℕ). v < length (closable_list graph.core.nodes)) (λ crossing is. is.within)

pub numbers_apart : (graph : Graph) (link : Link) (area : Area × List ℕ × List (List Bool)) → Contains (passages graph) link → Contains (areas graph) area → link.via < area.0.via
unfolding passages
numbers_apart graph link area there here =
    let passage = at_item graph.core.passages.items link there in
    let is : IsPassage graph.core link = of_item (IsPassage graph.core) graph.core.passages.items passage.0 link (recursion_from_All (IsPassage graph.core) graph.core.passages.items graph.sound.passages) passage.1 in
    let unit = at_item (areas graph) area here in
    let above : graph.core.first_unit ≤ area.0.via = of_item (λ (a : Area × List ℕ × List (List Bool)). graph.core.first_unit ≤ a.0.via) (areas graph) unit.0 area (of_numbers graph (λ (v : ℕ). graph.core.first_unit ≤ v) (λ crossing cross. cross.unit)) unit.1 in
    let below = is.via in
    omega (arith, below, above)
