use Rattle.std.proofs.Common.{◌≡◌, List, map, ap, ◌∙◌}
use Rattle.venue_types.specs.declared.feature_id.FeatureId.{FeatureId}
use Rattle.venue_types.specs.declared.link.Node.{Node}
use Rattle.link_graph.specs.Graphs.{network}
use Rattle.route_certificate.specs.declared.table.Table.{Table}
use Rattle.route_certificate.specs.declared.table.TableLink.{TableLink}
use Rattle.route_answers.proofs.Venues.{rows_are}
use Rattle.route_answers.proofs.tables.allowed_table.Goals as goal

table_same : (ids ids' : List FeatureId) (rows rows' : List TableLink) → ids ≡ ids' → rows ≡ rows' → let made : List FeatureId → List TableLink → Table = λ a b. record { nodes = a; links = b } in made ids rows ≡ made ids' rows'
table_same ids ids' rows rows' e f =
    let made : List FeatureId → List TableLink → Table = λ a b. record { nodes = a; links = b } in
    ap (λ (a : List FeatureId). made a rows) e ∙ ap (λ (b : List TableLink). made ids' b) f

pub returns-clause-table : goal.returns-clause-table
returns-clause-table c = λ features settings is.
    table_same _ _ _ _
    (c.from_vec.ensures ∙ c.in_ok-nodes.ensures.ids ∙ ap (map (λ (node : Node). node.id)) is.nodes_are)
    (c.from_vec-2.ensures ∙ c.in_ok-links.ensures.rows ∙ rows_are features settings (network c.args.graph.now) c.args.profile.now is)
