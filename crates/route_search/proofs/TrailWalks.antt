-- The walk back over the last links.
use Rattle.std.proofs.Common.{◌≡◌, ℕ, zero, suc, ◌+◌, ◌<◌, List, [], ◌∷◌, ◌++◌, reverse, length, Option, Some, None, refl, sym, subst, ◌∙◌, arith}
use Rattle.std.proofs.lemmas.List.{reverse-append}
use Rattle.std.proofs.lemmas.List.Sums.{sum_by-cons, sum_by-append}
use Rattle.venue_types.specs.declared.link.Link.{Link}
use Rattle.walk_laws.specs.Walks.{IsWalk, walk_cost}
use Rattle.link_graph.specs.Views.{link_view}
use Rattle.route_search.specs.declared.labels.Last.{Last}
use Rattle.route_search.specs.Labels.{IsTree, IsLabelled, AreOver, cost_at, last_at, no_cost}
use Rattle.route_search.specs.Trails.{IsLast, IsKnown, IsTrail}
use Rattle.route_search.proofs.TrailLists.{cost_within}

-- the node is labelled, and a trail leads from there
pub record IsBack (costs : List ℕ) (lasts : List Last) (to here : ℕ) (back : List Link) : Type 0 where
  pub known : IsLabelled costs here
  pub trail : IsTrail costs lasts here to (reverse back)

-- a labelled node is one of those that costs are listed of
pub labelled_within : (nodes from : ℕ) (costs : List ℕ) (lasts : List Last) (n : ℕ) → IsTree nodes from costs lasts → IsLabelled costs n → n < nodes
labelled_within nodes from costs lasts n tree known = omega (arith, tree.costs_count, cost_within costs no_cost n (omega arith) known)

-- one link further back
pub back_more : (lasts : List Last) (to here : ℕ) (link : Link) (back : List Link) (known : IsKnown lasts to) → (last_at lasts here).by ≡ Some link
    → IsBack known.costs lasts to here back → IsBack known.costs lasts to link.from (back ++ link ∷ [])
back_more lasts to here link back known by is =
    let hop = known.tree.hop here link is.known by in
    let further = is.trail in
    let leads : IsWalk link_view (IsLast known.costs lasts) link.from to (link ∷ reverse back) = (
      record { node = here; known = is.known; by = by },
      refl,
      subst (λ (n : ℕ). IsWalk link_view (IsLast known.costs lasts) n to (reverse back)) (sym hop.to) further.leads,
    ) in
    let sum : walk_cost link_view (link ∷ reverse back) ≡ link.cost + walk_cost link_view (reverse back) = sum_by-cons link_view.cost link (reverse back) in
    record {
      known = hop.before;
      trail = subst (IsTrail known.costs lasts link.from to) (sym (reverse-append back (link ∷ []))) (record { leads = leads; costs_more = omega (arith, sum, hop.cost, further.costs_more); goes_deeper = omega (arith, hop.depth, further.goes_deeper) });
    }

-- at the start
pub back_all : (lasts : List Last) (to here : ℕ) (back : List Link) (known : IsKnown lasts to) → (last_at lasts here).by ≡ None
    → IsBack known.costs lasts to here back → IsTrail known.costs lasts known.from to (reverse back)
back_all lasts to here back known by is =
    subst (λ (n : ℕ). IsTrail known.costs lasts n to (reverse back)) (known.tree.first here is.known by).node is.trail

-- the node is listed
pub back_within : (lasts : List Last) (to here : ℕ) (back : List Link) (known : IsKnown lasts to) → IsBack known.costs lasts to here back → here < length lasts
back_within lasts to here back known is = omega (arith, known.tree.lasts_count, labelled_within (length known.costs) known.from known.costs lasts here known.tree is.known)

-- one link fewer is left
pub back_less : (lasts : List Last) (to here : ℕ) (link : Link) (back : List Link) (known : IsKnown lasts to) → (last_at lasts here).by ≡ Some link
    → IsBack known.costs lasts to here back → (last_at lasts link.from).depth < (last_at lasts here).depth
back_less lasts to here link back known by is = omega (arith, (known.tree.hop here link is.known by).depth)

-- ---- walks to labelled nodes

-- a walk over some links is one over others that they all are
pub walk_over : (IsLink IsOther : Link → Type 0) → ((link : Link) → IsLink link → IsOther link) → (a b : ℕ) (walk : List Link) → IsWalk link_view IsLink a b walk → IsWalk link_view IsOther a b walk
walk_over IsLink IsOther is a b [] same = same
walk_over IsLink IsOther is a b (link ∷ rest) walk = (is link walk.0, walk.1, walk_over IsLink IsOther is link.to b rest walk.2)

walk_push : (IsLink : Link → Type 0) (a b : ℕ) (walk : List Link) (link : Link) → IsWalk link_view IsLink a b walk → IsLink link → link.from ≡ b → IsWalk link_view IsLink a link.to (walk ++ link ∷ [])
walk_push IsLink a b [] link same is e = (is, e ∙ sym same, refl)
walk_push IsLink a b (first ∷ rest) link walk is e = (walk.0, walk.1, walk_push IsLink first.to b rest link walk.2 is e)

-- the cost of a walk with a link more
push_cost : (walk : List Link) (link : Link) → walk_cost link_view (walk ++ link ∷ []) ≡ walk_cost link_view walk + link.cost
push_cost walk link =
    let joined : walk_cost link_view (walk ++ link ∷ []) ≡ walk_cost link_view walk + walk_cost link_view (link ∷ []) = sum_by-append link_view.cost walk (link ∷ []) in
    let last : walk_cost link_view (link ∷ []) ≡ link.cost + 0 = sum_by-cons link_view.cost link [] in
    omega (arith, joined, last)

-- a walk over the family that costs what is known of its end
abbrev pub HasKnownWalk : (Link → Type 0) → List ℕ → ℕ → ℕ → Type 0
HasKnownWalk IsLink costs from n = (walk : List Link) × IsWalk link_view IsLink from n walk × (walk_cost link_view walk ≡ cost_at costs n)

walk_by : (IsLink : Link → Type 0) (nodes from : ℕ) (costs : List ℕ) (lasts : List Last) → IsTree nodes from costs lasts → AreOver IsLink costs lasts
    → (depth n : ℕ) (by : Option Link) → IsLabelled costs n → (last_at lasts n).depth ≡ depth → (last_at lasts n).by ≡ by → HasKnownWalk IsLink costs from n
walk_by IsLink nodes from costs lasts tree over depth n None known deep by = let first = tree.first n known by in ([], sym first.node, sym first.cost)
walk_by IsLink nodes from costs lasts tree over zero n (Some link) known deep by = absurd (omega (arith, (tree.hop n link known by).depth))
walk_by IsLink nodes from costs lasts tree over (suc depth) n (Some link) known deep by =
    let hop = tree.hop n link known by in
    let (walk, leads, sum) = walk_by IsLink nodes from costs lasts tree over depth link.from (last_at lasts link.from).by hop.before (omega (arith, hop.depth)) refl in (
      walk ++ link ∷ [],
      subst (λ (k : ℕ). IsWalk link_view IsLink from k (walk ++ link ∷ [])) hop.to (walk_push IsLink from link.from walk link leads (over n link known by) refl),
      omega (arith, push_cost walk link, sum, hop.cost),
    )

-- a walk of its cost leads to each labelled node
pub known_walk : (IsLink : Link → Type 0) (nodes from : ℕ) (costs : List ℕ) (lasts : List Last) (n : ℕ) → IsTree nodes from costs lasts → AreOver IsLink costs lasts → IsLabelled costs n → HasKnownWalk IsLink costs from n
known_walk IsLink nodes from costs lasts n tree over known = walk_by IsLink nodes from costs lasts tree over (last_at lasts n).depth n (last_at lasts n).by known refl refl
