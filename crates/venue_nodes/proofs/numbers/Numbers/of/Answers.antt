use Rattle.std.proofs.Common.{List, subst}
use Rattle.std.proofs.lemmas.List.{map-id}
use Rattle.venue_types.specs.declared.feature_id.FeatureId.{FeatureId}
use Rattle.feature_rows.specs.Indexes.{IsIndex}
use Rattle.venue_nodes.specs.Views.{number_of}
use Rattle.venue_nodes.proofs.Finding.{number_exact, few_places}
use Rattle.venue_nodes.proofs.numbers.Numbers.of.Goals as goal

indexed : (c : goal.In_ok-index) → IsIndex c.args.ids.now c.in_ok-index.index
indexed c = subst (λ (ids : List FeatureId). IsIndex ids c.in_ok-index.index) (map-id c.args.ids.now) c.in_ok-index.ensures

pub invariant_of-result : goal.invariant_of-result
invariant_of-result c = record { few = few_places c.args.ids.now c.in_ok-index.index c.requires (indexed c) }

pub returns : goal.returns
unfolding number_of
returns c = λ id. number_exact c.args.ids.now c.in_ok-index.index (subst (λ (ids : List FeatureId). IsIndex ids c.in_ok-index.index) (map-id c.args.ids.now) c.in_ok-index.ensures) id
