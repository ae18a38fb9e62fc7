use Rattle.std.proofs.Common.{◌≡◌, ◌∙◌, List, [], ◌∷◌, ◌++◌, replicate, ap}
use Rattle.route_search.specs.declared.labels.Last.{Last}
use Rattle.route_search.specs.Labels.{no_last}
use Rattle.route_search.proofs.LastPlaces.{none_apart, none_known}
use Rattle.route_search.proofs.lasts.Lasts.none.Goals as goal

pub invariant_of-result : goal.invariant_of-result
invariant_of-result c =
    let places : c.in_ok-places.places.items ≡ replicate c.args.nodes 0 = c.in_ok-places.ensures.items_if_clones_equal (λ y e. e) in
    let found : c.push.new.self.items ≡ replicate 1 no_last = c.in_ok-push.ensures.items ∙ ap (λ (ls : List Last). ls ++ no_last ∷ []) c.in_ok-found.ensures.items in
    rw (places, found) (none_apart c.args.nodes c.requires)

pub returns : goal.returns
returns c =
    let places : c.in_ok-places.places.items ≡ replicate c.args.nodes 0 = c.in_ok-places.ensures.items_if_clones_equal (λ y e. e) in
    let found : c.push.new.self.items ≡ replicate 1 no_last = c.in_ok-push.ensures.items ∙ ap (λ (ls : List Last). ls ++ no_last ∷ []) c.in_ok-found.ensures.items in
    rw (places, found) (none_known c.args.nodes)
