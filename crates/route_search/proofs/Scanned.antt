-- What is known among the links of one node, from moment to moment.
use Rattle.std.proofs.Common.{◌≡◌, inl, inr, ℕ, ◌+◌, ◌≤◌, Some, refl, sym, subst, ◌∙◌, arith}
use Rattle.std.specs.Prelude.{slice_get}
use Rattle.std.proofs.lemmas.Bool.{cases_lt}
use Rattle.venue_types.specs.declared.link.Link.{Link}
use Rattle.link_graph.specs.Networks.{Network, links_out}
use Rattle.route_search.specs.declared.state.State.{State}
use Rattle.route_search.specs.Labels.{IsRelaxed}
use Rattle.route_search.specs.States.{cost_in}
use Rattle.route_search.specs.Scans.{IsAmid, IsLater, IsFollowed, IsScanned, AreRelaxed}

-- a link out of the node stays relaxed
later_relaxed : (node more : ℕ) (old new : State) (link : Link) → IsLater node more old new → link.from ≡ node → IsRelaxed old.costs.items link → IsRelaxed new.costs.items link
later_relaxed node more old new link later at was =
    let same : cost_in new link.from ≡ cost_in old link.from = subst (λ (k : ℕ). cost_in new k ≡ cost_in old k) (sym at) later.cost in
    let low : cost_in new link.to ≤ cost_in old link.to = later.lower link.to in
    let before : cost_in old link.to ≤ cost_in old link.from + link.cost = was in
    let goal : cost_in new link.to ≤ cost_in new link.from + link.cost = omega arith in
    goal

pub later_all : (given : Network) (IsLink : Link → Type 0) (node more first count : ℕ) (old new : State)
    → ((place : ℕ) (link : Link) → slice_get (links_out given node) place ≡ Some link → link.from ≡ node)
    → IsLater node more old new → AreRelaxed given IsLink old node first count → AreRelaxed given IsLink new node first count
later_all given IsLink node more first count old new leaves later was place link low high at is = later_relaxed node more old new link later (leaves place link at) (was place link low high at is)

pub nothing_later : (node : ℕ) (state : State) → IsLater node 0 state state
nothing_later node state = record { settled = refl; cost = refl; last = refl; lower = λ n. omega arith; roots = λ n known none. (known, none); entries = omega arith }

pub joined_later : (node more fewer : ℕ) (old mid new : State) → IsLater node more old mid → IsLater node fewer mid new → IsLater node (more + fewer) old new
joined_later node more fewer old mid new first second = record {
  settled = second.settled ∙ first.settled;
  cost = second.cost ∙ first.cost;
  last = second.last ∙ first.last;
  lower = λ n. omega (arith, first.lower n, second.lower n);
  roots = λ n known none. (let was = second.roots n known none in first.roots n was.0 was.1);
  entries = omega (arith, first.entries, second.entries);
}

pub no_more : (given : Network) (IsLink : Link → Type 0) (nodes node first : ℕ) (state : State) → IsAmid given IsLink nodes node state
    → IsScanned given IsLink nodes node first 0 state state
no_more given IsLink nodes node first state amid = record { amid = amid; later = nothing_later node state; relaxed = λ place link low high. absurd (omega arith) }

-- the links at more places
pub some_more : (given : Network) (IsLink : Link → Type 0) (nodes node first count next more : ℕ) (old mid new : State)
    → ((place : ℕ) (link : Link) → slice_get (links_out given node) place ≡ Some link → link.from ≡ node) → next ≡ first + count
    → IsScanned given IsLink nodes node first count old mid → IsScanned given IsLink nodes node next more mid new
    → IsScanned given IsLink nodes node first (count + more) old new
some_more given IsLink nodes node first count next more old mid new leaves at so_far then = record {
  amid = then.amid;
  later = joined_later node count more old mid new so_far.later then.later;
  relaxed = λ place link low high here is. elim (cases_lt place next) [
    | inl before ↦ later_all given IsLink node more first count mid new leaves then.later so_far.relaxed place link low (omega arith) here is
    | inr behind ↦ then.relaxed place link behind (omega arith) here is
  ];
}

-- nothing changes where all links at these places are relaxed already
pub passed : (given : Network) (IsLink : Link → Type 0) (nodes node first count : ℕ) (state : State) → IsAmid given IsLink nodes node state
    → AreRelaxed given IsLink state node first count → IsScanned given IsLink nodes node first count state state
passed given IsLink nodes node first count state amid relaxed =
    record { amid = amid; later = record { settled = refl; cost = refl; last = refl; lower = λ n. omega arith; roots = λ n known none. (known, none); entries = omega arith }; relaxed = relaxed }

-- one place at which the link was followed
pub followed_one : (given : Network) (IsLink : Link → Type 0) (nodes node place : ℕ) (link : Link) (old new : State)
    → slice_get (links_out given node) place ≡ Some link → link.from ≡ node
    → IsFollowed given IsLink nodes link old new → IsScanned given IsLink nodes node place 1 old new
followed_one given IsLink nodes node place link old new here at followed = record {
  amid = subst (λ (k : ℕ). IsAmid given IsLink nodes k new) at followed.amid;
  later = subst (λ (k : ℕ). IsLater k 1 old new) at followed.later;
  relaxed = λ p l low high here_l is.
      (let same : place ≡ p = omega arith in
      let e : Some link ≡ Some l = sym here ∙ subst (λ (k : ℕ). slice_get (links_out given node) k ≡ Some l) (sym same) here_l in
      let e_link : link ≡ l = cc in
      subst (λ (z : Link). IsRelaxed new.costs.items z) e_link (followed.relaxed (subst IsLink (sym e_link) is)));
}
