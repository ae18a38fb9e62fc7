use Rattle.std.proofs.Common.{◌≡◌, ℕ, ◌+◌, List, [], ◌∷◌, ◌++◌, Some, take, map, sym, ap, ◌∙◌, subst}
use Rattle.std.specs.Prelude.{slice_get}
use Rattle.std.specs.List.{AllByRecursion}
use Rattle.std.proofs.lemmas.List.{take_more}
use Rattle.std.proofs.lemmas.Option.{slice_get_within, get_or_from_slice_get}
use Rattle.venue_types.specs.declared.feature_id.FeatureId.{FeatureId}
use Rattle.venue_types.specs.declared.link.Node.{Node}
use Rattle.link_graph.specs.Graphs.{network}
use Rattle.route_certificate.specs.Forms.{FitsId}
use Rattle.route_answers.proofs.Gathering.{all_pushed}
use Rattle.route_answers.proofs.ids.node_ids.Goals as goal

ids_more : (all : List FeatureId) (n : ℕ) (id : FeatureId) (old new : List FeatureId) → slice_get all n ≡ Some id → old ≡ take n all → new ≡ old ++ id ∷ [] → new ≡ take (n + 1) all
ids_more all n id old new there before grown =
    grown
    ∙ ap (λ (ids : List FeatureId). ids ++ id ∷ []) before
    ∙ ap (λ (x : FeatureId). take n all ++ x ∷ []) (sym (get_or_from_slice_get all n id id there))
    ∙ sym (take_more all n id (slice_get_within all n id there))

pub loop-n-preserved : goal.loop-n-preserved
loop-n-preserved c = record {
  ids = ids_more (map (λ (node : Node). node.id) (network c.args.graph.now).nodes) c.loop-n.n c.node_id.result c.loop-n.ids.items c.push.new.self.items c.node_id.ensures.id c.loop-n.invariant.ids c.in_ok-push.ensures.items;
  fits = subst (AllByRecursion FitsId) (sym c.in_ok-push.ensures.items) (all_pushed FitsId c.loop-n.ids.items c.node_id.result c.loop-n.invariant.fits c.node_id.ensures.fits);
}
