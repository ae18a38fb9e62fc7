use Rattle.std.proofs.Common.{◌≡◌, ◌++◌, ◌∷◌, [], map, take}
use Rattle.venue_types.specs.declared.feature_id.FeatureId.{FeatureId}
use Rattle.venue_nodes.specs.Naming.{numbers}
use Rattle.venue_nodes.proofs.named_units.add_units.Given as goal

abbrev pub invariant-loop-id : goal.invariant-loop-id
invariant-loop-id l = l.lists ≡ l.initial.lists ++ map (λ (id : FeatureId). numbers l.walkables.ids.items (id ∷ [])) (take l.id-index l.id-items)
