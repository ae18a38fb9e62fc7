-- The stretches of a node, one by one.
use Rattle.std.proofs.Common.{◌≡◌, ℕ, suc, ◌+◌, ◌<◌, ◌≤◌, List, length, drop, Some, subst, arith}
use Rattle.std.specs.Prelude.{Contains, slice_get}
use Rattle.venue_types.proofs.Items.{member_at}
use Rattle.venue_types.specs.declared.link.Link.{Link}
use Rattle.link_graph.specs.declared.stretches.Stretch.{Stretch}
use Rattle.link_graph.specs.declared.stretches.Way.{Way}
use Rattle.link_graph.specs.declared.stretches.Way.TheVariants.{Inside, Between}
use Rattle.link_graph.specs.Networks.{Network, Follow, AreStretches, GoesBy, IsSome, links_out}
use Rattle.route_search.specs.declared.node_stretch.NodeStretch.{NodeStretch}
use Rattle.route_search.specs.declared.state.State.{State}
use Rattle.route_search.specs.Scans.{IsScanned, IsStretchOf, IsMarkable}
use Rattle.route_search.proofs.Items.{drop_at}
use Rattle.route_search.proofs.Covers.{follow_end, out_from, out_member}
use Rattle.route_search.proofs.Looked.{get_some}
use Rattle.route_search.proofs.Scanned.{some_more}

-- the first stretches were regarded, which cover the places below `at`
pub record IsWalked (given : Network) (IsLink : Link → Type 0) (nodes node k old_steps new_steps : ℕ) (old new : State) : Type 0 where
  pub at : ℕ
  pub follow : Follow at (length (links_out given node)) (drop k (given.stretches node))
  pub scanned : IsScanned given IsLink nodes node 0 at old new
  pub steps : new_steps ≤ old_steps + at

module _ (given : Network) (IsLink : Link → Type 0) (nodes node k old_steps steps : ℕ) (old state : State) (stretch : Stretch)
    (walked : IsWalked given IsLink nodes node k old_steps steps old state) (is : slice_get (given.stretches node) k ≡ Some stretch) where
  next : (stretch.first ≡ walked.at) × Follow (walked.at + stretch.count) (length (links_out given node)) (drop (suc k) (given.stretches node))
  next = subst (λ (ss : List Stretch). Follow walked.at (length (links_out given node)) ss) (drop_at (given.stretches node) k stretch is) walked.follow

  pub walked_stretch : node < length given.nodes → IsStretchOf given (record { node = node; k = k; stretch = stretch })
  walked_stretch node_within =
      let (first, rest) = next in
      record { node = node_within; here = is; within = omega (arith, first, follow_end _ _ _ rest) }

  pub walked_more : (new_steps : ℕ) (new : State) → IsScanned given IsLink nodes node stretch.first stretch.count state new → new_steps ≤ steps + stretch.count
      → IsWalked given IsLink nodes node (k + 1) old_steps new_steps old new
  walked_more new_steps new scanned low =
      let (first, rest) = next in
      let one_more : suc k ≡ k + 1 = omega arith in
      record {
        at = walked.at + stretch.count;
        follow = subst (λ (i : ℕ). Follow (walked.at + stretch.count) (length (links_out given node)) (drop i (given.stretches node))) one_more rest;
        scanned = some_more given IsLink nodes node 0 walked.at stretch.first stretch.count old state new (out_from given node) (omega (arith, first)) walked.scanned scanned;
        steps = omega (arith, low, walked.steps);
      }

pub walked_steps : (given : Network) (IsLink : Link → Type 0) (nodes node k old_steps steps : ℕ) (old new : State) (stretch : Stretch) → IsWalked given IsLink nodes node k old_steps steps old new
    → slice_get (given.stretches node) k ≡ Some stretch → steps + stretch.count ≤ old_steps + length (links_out given node)
walked_steps given IsLink nodes node k old_steps steps old new stretch walked is =
    let (first, rest) = next given IsLink nodes node k old_steps steps old new stretch walked is in
    omega (arith, follow_end _ _ _ rest, walked.steps, first)

-- ---- the number of a unit that has links

markable_way : (given : Network) (way : Way) (count : ℕ) → IsSome way count → (0 < count → (link : Link) × GoesBy given way link × (link.via < length given.closables)) → IsMarkable given way
markable_way given (Inside via kind restricted) count some has =
    let (link, goes, low) = has some in subst (λ (k : ℕ). k < length given.closables) goes.0 low
markable_way given Between count some has = tt

pub markable : (given : Network) (at : NodeStretch) → AreStretches given at.node → IsStretchOf given at
    → ((link : Link) → Contains given.links link → link.via < length given.closables) → IsMarkable given at.stretch.way
markable given at are is low =
    let one = member_at (given.stretches at.node) at.k at.stretch is.here in
    markable_way given at.stretch.way at.stretch.count (are.some at.stretch one) (λ some.
    (let (link, here) = get_some (links_out given at.node) at.stretch.first (omega (arith, is.within)) in
    (link, are.of_way at.stretch at.stretch.first link one (omega arith) (omega arith) here, low link (out_member given at.node at.stretch.first link here).0)))
