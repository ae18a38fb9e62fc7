-- What is known between two nodes that are settled.
use Rattle.std.proofs.Common.{◌≡◌, ◌≢◌, ◌⊎◌, inl, inr, ◌↔◌, ℕ, ◌+◌, ◌^◌, ◌<◌, ◌≤◌, Bool, true, false, List, length, Option, Some, None, set, replicate, refl, sym, ap, subst, ◌∙◌, arith}
use Rattle.std.specs.Prelude.{Contains, slice_get}
use Rattle.std.proofs.lemmas.List.{get_or-set_same, get_or-set_other, length-set, get_or-replicate, length-replicate, get_or_past}
use Rattle.std.proofs.lemmas.Option.{slice_get_within}
use Rattle.std.proofs.lemmas.Bool.{cases_eq, cases_lt}
use Rattle.venue_types.specs.declared.link.Link.{Link}
use Rattle.link_graph.specs.Networks.{Network, links_out}
use Rattle.route_search.specs.declared.labels.Last.{Last}
use Rattle.route_search.specs.declared.state.State.{State}
use Rattle.route_search.specs.Labels.{no_cost, cost_at, last_at, IsTree, AreOver, IsRelaxed, IsFound, IsSpent}
use Rattle.route_search.specs.Waiting.{Waits, IsPopped}
use Rattle.route_search.specs.States.{settled_at, open_sum, cost_in, last_in, settled_in, IsReached, IsRelaxedFrom, IsStep, IsEmpty, IsFrom, ComesBy, IsEntry, Grows, IsBetween, IsBegun, IsEnded}
use Rattle.route_search.specs.Scans.{HangsOn, IsAmid, IsLater, IsScanned}
use Rattle.route_search.proofs.Covers.{out_place}
use Rattle.route_search.proofs.Detours.{HasDetours, detour_relaxed}
use Rattle.route_search.proofs.Lowered.{cost-set_same, cost-set_other}
use Rattle.route_search.proofs.Sums.{open_sum-settle, ones_begun}

pub settled-set_same : (settled : List Bool) (i : ℕ) (y : Bool) → i < length settled → settled_at (set settled i y) i ≡ y
unfolding settled_at
settled-set_same settled i y within = get_or-set_same settled i y false within

pub settled-set_other : (settled : List Bool) (i n : ℕ) (y : Bool) → n ≢ i → settled_at (set settled i y) n ≡ settled_at settled n
unfolding settled_at
settled-set_other settled i n y other = get_or-set_other settled i n y false other

-- ---- a node is taken from what waits

module _ (IsLink : Link → Type 0) (nodes : ℕ) (old new : State) (between : IsBetween IsLink nodes old) (cost node : ℕ)
    (popped : IsPopped old.frontier new.frontier cost node) (costs : new.costs.items ≡ old.costs.items) (lasts : new.lasts ≡ old.lasts) where
  cost_same : (n : ℕ) → cost_in new n ≡ cost_in old n
  cost_same n = ap (λ (cs : List ℕ). cost_at cs n) costs

  last_same : (n : ℕ) → last_in new n ≡ last_in old n
  last_same n = ap (λ (ls : List Last). last_at ls n) lasts

  depth_same : (n : ℕ) → (last_in new n).depth ≡ (last_in old n).depth
  depth_same n = ap (λ (y : Last). y.depth) (last_same n)

  known : (n : ℕ) → IsReached new n → IsReached old n
  known n is = subst (λ (k : ℕ). k < no_cost) (cost_same n) is

  relaxed : (n : ℕ) → IsRelaxedFrom IsLink old n → IsRelaxedFrom IsLink new n
  relaxed n was link is at = subst (λ (cs : List ℕ). IsRelaxed cs link) (sym costs) (was link is at)

  moved : (stays : (m : ℕ) → settled_in old m ≡ true → settled_in new m ≡ true) (n : ℕ) (by : Option Link) → ComesBy IsLink old n by → ComesBy IsLink new n by
  moved stays n None first = record { cost = cost_same n ∙ first.cost; depth = depth_same n ∙ first.depth }
  moved stays n (Some link) step = record {
    is = step.is;
    to = step.to;
    done = stays link.from step.done;
    cost = omega (arith, step.cost, cost_same n, cost_same link.from);
    depth = omega (arith, step.depth, depth_same n, depth_same link.from);
  }

  comes : (stays : (m : ℕ) → settled_in old m ≡ true → settled_in new m ≡ true) (n : ℕ) → IsReached new n → ComesBy IsLink new n (last_in new n).by
  comes stays n is = subst (λ (o : Option Link). ComesBy IsLink new n o) (sym (ap (λ (y : Last). y.by) (last_same n))) (moved stays n (last_in old n).by (between.tree.comes n (known n is)))

  pub node_within : node < nodes
  node_within = (between.tree.entries cost node popped.waited).node

  -- an entry that is out of date, or of a settled node, is passed over
  module _ (settled : new.settled.items ≡ old.settled.items) (stale : cost_in old node ≡ cost → settled_in old node ≡ true) where
    settled_same : (n : ℕ) → settled_in new n ≡ settled_in old n
    settled_same n = ap (λ (bs : List Bool). settled_at bs n) settled

    progress : (n : ℕ) → IsReached new n → Waits new.frontier (cost_in new n) n ⊎ IsRelaxedFrom IsLink new n
    progress n is = elim (between.progress n (known n is)) [
      | inr was ↦ inr (relaxed n was)
      | inl waits ↦ elim (popped.kept (cost_in old n) n waits) [
        | inl still ↦ inl (subst (λ (c : ℕ). Waits new.frontier c n) (sym (cost_same n)) still)
        | inr (c, same) ↦
            (let fresh : cost_in old node ≡ cost = ap (cost_in old) same ∙ sym c in
            inr (relaxed n (between.done n (subst (λ (k : ℕ). settled_in old k ≡ true) same (stale fresh)))))
      ]
    ]

    pub skipped : IsBetween IsLink nodes new
    skipped = record {
      now = between.now;
      tree = record {
        costs_count = ap length costs ∙ between.tree.costs_count;
        lasts_count = ap length lasts ∙ between.tree.lasts_count;
        settled_count = ap length settled ∙ between.tree.settled_count;
        few = between.tree.few;
        comes = comes (λ m so. settled_same m ∙ so);
        entries = λ c n waits. (let e = between.tree.entries c n (popped.only c n waits) in
            record { node = e.node; late = e.late; known = subst (λ (k : ℕ). k < no_cost) (sym (cost_same n)) e.known; low = omega (arith, e.low, cost_same n) });
        below = λ n so. omega (arith, between.tree.below n (sym (settled_same n) ∙ so), cost_same n);
        small = λ n is. (let was = between.tree.small n (known n is) in
            let opens : open_sum (λ _. 1) 0 new.settled.items ≡ open_sum (λ _. 1) 0 old.settled.items = ap (open_sum (λ _. 1) 0) settled in
            record { cost_room = omega (arith, was.cost_room, cost_same n, opens); depth_room = omega (arith, was.depth_room, depth_same n, opens) });
      };
      done = λ n so. relaxed n (between.done n (sym (settled_same n) ∙ so));
      progress = progress;
    }

  -- a node that waits at its cost is settled
  module _ (given : Network) (settled : new.settled.items ≡ set old.settled.items node true) (fresh : cost_in old node ≡ cost) (free : settled_in old node ≡ false) where
    here : settled_in new node ≡ true
    here = ap (λ (bs : List Bool). settled_at bs node) settled ∙ settled-set_same old.settled.items node true (omega (arith, between.tree.settled_count, node_within))

    other_same : (n : ℕ) → n ≢ node → settled_in new n ≡ settled_in old n
    other_same n other = ap (λ (bs : List Bool). settled_at bs n) settled ∙ settled-set_other old.settled.items node n true other

    stays : (m : ℕ) → settled_in old m ≡ true → settled_in new m ≡ true
    stays m so = elim (cases_eq m node) [
      | inl same ↦ subst (λ (k : ℕ). settled_in new k ≡ true) (sym same) here
      | inr other ↦ other_same m other ∙ so
    ]

    fewer : open_sum (λ _. 1) 0 new.settled.items + 1 ≡ open_sum (λ _. 1) 0 old.settled.items
    fewer = subst (λ (bs : List Bool). open_sum (λ _. 1) 0 bs + 1 ≡ open_sum (λ _. 1) 0 old.settled.items) (sym settled)
        (open_sum-settle (λ _. 1) node old.settled.items (omega (arith, between.tree.settled_count, node_within)) free)

    entry_here : IsEntry nodes old between.now cost node
    entry_here = between.tree.entries cost node popped.waited

    pub amid : IsAmid given IsLink nodes node new
    amid = record {
      tree = record {
        costs_count = ap length costs ∙ between.tree.costs_count;
        lasts_count = ap length lasts ∙ between.tree.lasts_count;
        settled_count = ap length settled ∙ length-set old.settled.items node true ∙ between.tree.settled_count;
        few = between.tree.few;
        comes = comes stays;
        entries = λ c n waits. (let e = between.tree.entries c n (popped.only c n waits) in
            record { node = e.node; late = omega (arith, popped.least c n (popped.only c n waits), cost_same node, fresh); known = subst (λ (k : ℕ). k < no_cost) (sym (cost_same n)) e.known; low = omega (arith, e.low, cost_same n) });
        below = λ n so. elim (cases_eq n node) [
          | inl same ↦ subst (λ (k : ℕ). cost_in new k ≤ cost_in new node) (sym same) (omega arith)
          | inr other ↦ omega (arith, between.tree.below n (sym (other_same n other) ∙ so), entry_here.late, cost_same n, cost_same node, fresh)
        ];
        small = λ n is. (let was = between.tree.small n (known n is) in
            record { cost_room = omega (arith, was.cost_room, cost_same n, fewer); depth_room = omega (arith, was.depth_room, depth_same n, fewer) });
      };
      here = here;
      known = subst (λ (k : ℕ). k < no_cost) (sym (cost_same node)) entry_here.known;
      room = (let was = between.tree.small node entry_here.known in
          record { cost_room = omega (arith, was.cost_room, cost_same node, fewer); depth_room = omega (arith, was.depth_room, depth_same node, fewer) });
      done = λ n off so. relaxed n (between.done n (sym (other_same n off) ∙ so));
      progress = λ n off is. elim (between.progress n (known n is)) [
        | inr was ↦ inr (inl (relaxed n was))
        | inl waits ↦ elim (popped.kept (cost_in old n) n waits) [
          | inl still ↦ inl (subst (λ (c : ℕ). Waits new.frontier c n) (sym (cost_same n)) still)
          | inr (c, same) ↦ absurd (off (sym same))
        ]
      ];
    }

-- ---- the links of a node were regarded

module _ (given : Network) (IsLink : Link → Type 0) (nodes node : ℕ) (old new : State) (scanned : IsScanned given IsLink nodes node 0 (length (links_out given node)) old new)
    (member : (link : Link) → Contains given.links link ↔ (link.from < length given.nodes) × (place : ℕ) × (slice_get (links_out given link.from) place ≡ Some link))
    (there : (link : Link) → IsLink link → Contains given.links link) (detours : HasDetours given IsLink) where
  relaxed_here : IsRelaxedFrom IsLink new node
  relaxed_here link is at =
      let (place, here) = out_place given node link (member link) (there link is) at in
      let within = slice_get_within (links_out given node) place link here in
      scanned.relaxed place link (omega arith) (omega arith) here is

  relaxed_hung : (n : ℕ) → IsReached new n → HangsOn given new node n → IsRelaxedFrom IsLink new n
  relaxed_hung n is hangs second is_second at =
      let step : IsStep IsLink new n hangs.link = subst (λ (o : Option Link). ComesBy IsLink new n o) hangs.by (scanned.amid.tree.comes n is) in
      let (same, unit, known) = hangs.quiet second (there second is_second) at in
      detour_relaxed given IsLink new n hangs.link second detours step (subst (IsRelaxedFrom IsLink new) (sym hangs.from) relaxed_here) is_second at same unit known

  pub closed : IsBetween IsLink nodes new
  closed = record {
    now = cost_in new node;
    tree = scanned.amid.tree;
    done = λ n so. elim (cases_eq n node) [
      | inl same ↦ subst (IsRelaxedFrom IsLink new) (sym same) relaxed_here
      | inr off ↦ scanned.amid.done n off so
    ];
    progress = λ n is. elim (cases_eq n node) [
      | inl same ↦ inr (subst (IsRelaxedFrom IsLink new) (sym same) relaxed_here)
      | inr off ↦ elim (scanned.amid.progress n off is) [
        | inl waits ↦ inl waits
        | inr (inl was) ↦ inr was
        | inr (inr hangs) ↦ inr (relaxed_hung n is hangs)
      ]
    ];
  }

-- ---- the start stays the only one

pub root_same : (from : ℕ) (old new : State) → new.costs.items ≡ old.costs.items → new.lasts ≡ old.lasts → IsFrom from old → IsFrom from new
root_same from old new costs lasts root =
    let cost_same : (n : ℕ) → cost_in new n ≡ cost_in old n = λ n. ap (λ (cs : List ℕ). cost_at cs n) costs in
    record {
      start = cost_same from ∙ root.start;
      only = λ n is none. root.only n (subst (λ (k : ℕ). k < no_cost) (cost_same n) is) (sym (ap (λ (ls : List Last). (last_at ls n).by) lasts) ∙ none);
    }

pub root_later : (from node more : ℕ) (old new : State) → IsLater node more old new → IsFrom from old → IsFrom from new
root_later from node more old new later root = record {
  start = omega (arith, later.lower from, root.start);
  only = λ n is none. (let was = later.roots n is none in root.only n was.0 was.1);
}

-- ---- the end

module _ (IsLink : Link → Type 0) (nodes from now : ℕ) (state : State) (short : (link : Link) → IsLink link → link.cost ≤ 6700000) (root : IsFrom from state)
    (tree : Grows IsLink nodes state now) where
  empty_at : (n : ℕ) → IsReached state n → (last_in state n).by ≡ None → IsEmpty state n
  empty_at n is none = subst (λ (o : Option Link). ComesBy IsLink state n o) none (tree.comes n is)

  step_at : (n : ℕ) (link : Link) → IsReached state n → (last_in state n).by ≡ Some link → IsStep IsLink state n link
  step_at n link is by = subst (λ (o : Option Link). ComesBy IsLink state n o) by (tree.comes n is)

  small_at : (n : ℕ) → IsReached state n → cost_in state n < 2 ^ 42
  small_at n is = let room = (tree.small n is).cost_room in omega (arith, room, tree.few)

  tree_of : IsTree nodes from state.costs.items state.lasts
  tree_of = record {
    costs_count = tree.costs_count;
    lasts_count = tree.lasts_count;
    start = root.start;
    first = λ n is none. (let empty = empty_at n is none in record { node = root.only n is none; cost = empty.cost; depth = empty.depth });
    hop = λ n link is by.
        (let step = step_at n link is by in
        let low : cost_in state n < no_cost = is in
        let before : cost_in state link.from < no_cost = omega (arith, step.cost) in
        record { to = step.to; before = before; cost = step.cost; depth = step.depth });
    small = small_at;
    shallow = λ n is. (let room = (tree.small n is).depth_room in omega (arith, room));
  }

  over : AreOver IsLink state.costs.items state.lasts
  over n link is by = (step_at n link is by).is

  closed_at : (link : Link) → IsLink link → IsReached state link.from → IsRelaxed state.costs.items link → IsReached state link.to
  closed_at link is known_from rises =
      let relaxed : cost_in state link.to ≤ cost_in state link.from + link.cost = rises in
      let low = small_at link.from known_from in
      let goal : cost_in state link.to < no_cost = omega (arith, relaxed, low, short link is) in
      goal

  -- every node that costs less than the bound is relaxed
  found_below : (bound : ℕ) → bound < 2 ^ 42 → ((n : ℕ) → IsReached state n → cost_in state n < bound → IsRelaxedFrom IsLink state n) → IsEnded IsLink nodes from (Some bound) state
  found_below bound near low = record {
    tree = tree_of;
    near = λ cost same. (let is : bound ≡ cost = cc in omega (arith, is, near));
    found = λ cost same. subst (λ (b : ℕ). IsFound IsLink b state.costs.items state.lasts) (let is : bound ≡ cost = cc in is) (record {
      over = over;
      relaxed = λ link is less. (let known : cost_in state link.from < no_cost = omega (arith, less, near) in low link.from known less link is refl);
    });
    spent = λ none. (let never : Some bound ≡ None = none in absurd cc);
  }

  -- every node that is reached is relaxed
  spent_all : ((n : ℕ) → IsReached state n → IsRelaxedFrom IsLink state n) → IsEnded IsLink nodes from None state
  spent_all low = record {
    tree = tree_of;
    near = λ cost some. (let never : None ≡ Some cost = some in absurd cc);
    found = λ cost some. (let never : None ≡ Some cost = some in absurd cc);
    spent = λ none. record {
      over = over;
      relaxed = λ link is known. low link.from known link is refl;
      closed = λ link is known. closed_at link is known (low link.from known link is refl);
    };
  }

ended_moved : (IsLink : Link → Type 0) (nodes from : ℕ) (bound : Option ℕ) (old new : State) → new.costs.items ≡ old.costs.items → new.lasts ≡ old.lasts → IsEnded IsLink nodes from bound old
    → IsEnded IsLink nodes from bound new
ended_moved IsLink nodes from bound old new costs lasts was =
    let parts : List ℕ → List Last → Type 0 = λ cs ls. IsTree nodes from cs ls × ((cost : ℕ) → bound ≡ Some cost → IsFound IsLink cost cs ls) × (bound ≡ None → IsSpent IsLink cs ls) in
    let moved : parts new.costs.items new.lasts = subst (λ (cs : List ℕ). parts cs new.lasts) (sym costs) (subst (λ (ls : List Last). parts old.costs.items ls) (sym lasts) (was.tree, was.found, was.spent)) in
    record { tree = moved.0; near = was.near; found = moved.1; spent = moved.2 }

-- nothing waits
pub ended_spent : (IsLink : Link → Type 0) (nodes from : ℕ) (old new : State) → ((link : Link) → IsLink link → link.cost ≤ 6700000) → IsFrom from old → IsBetween IsLink nodes old
    → ((c n : ℕ) → Waits old.frontier c n → ⊥) → new.costs.items ≡ old.costs.items → new.lasts ≡ old.lasts → IsEnded IsLink nodes from None new
ended_spent IsLink nodes from old new short root between none costs lasts =
    ended_moved IsLink nodes from None old new costs lasts (spent_all IsLink nodes from between.now old short root between.tree (λ n is. elim (between.progress n is) [ inl waits ↦ absurd (none _ n waits) | inr was ↦ was ]))

-- a node that waits at its cost is the next, and its cost the bound
pub ended_found : (IsLink : Link → Type 0) (nodes from cost node : ℕ) (old new : State) → ((link : Link) → IsLink link → link.cost ≤ 6700000) → IsFrom from old → IsBetween IsLink nodes old
    → IsPopped old.frontier new.frontier cost node → cost_in old node ≡ cost → new.costs.items ≡ old.costs.items → new.lasts ≡ old.lasts → IsEnded IsLink nodes from (Some cost) new
ended_found IsLink nodes from cost node old new short root between popped fresh costs lasts =
    let low = small_at IsLink nodes from between.now old short root between.tree node (between.tree.entries cost node popped.waited).known in
    ended_moved IsLink nodes from (Some cost) old new costs lasts (found_below IsLink nodes from between.now old short root between.tree cost (omega (arith, low, fresh)) (λ n is less. elim (between.progress n is) [
      | inl waits ↦ absurd (omega (arith, popped.least _ n waits, less))
      | inr was ↦ was
    ]))

-- ---- the end, as it is handed out

pub tree_as : (nodes from : ℕ) (costs : List ℕ) (lasts : List Last) → IsTree nodes from costs lasts → IsTree (length costs) from costs lasts
tree_as nodes from costs lasts tree = subst (λ (n : ℕ). IsTree n from costs lasts) (sym tree.costs_count) tree

-- ---- the start

module _ (IsLink : Link → Type 0) (nodes from : ℕ) (state : State) (begun : IsBegun nodes from state) (within : from < nodes) (few : nodes ≤ 400000) where
  free_cost : (n : ℕ) → cost_at (replicate nodes no_cost) n ≡ no_cost
  unfolding cost_at
  free_cost n = elim (cases_lt n nodes) [
    | inl here ↦ get_or-replicate nodes n no_cost no_cost here
    | inr past ↦ get_or_past (replicate nodes no_cost) n no_cost (omega (arith, length-replicate nodes no_cost))
  ]

  free_last : (n : ℕ) → last_at (replicate nodes (record { by = None; depth = 0 })) n ≡ record { by = None; depth = 0 }
  unfolding last_at
  free_last n = elim (cases_lt n nodes) [
    | inl here ↦ get_or-replicate nodes n _ _ here
    | inr past ↦ get_or_past (replicate nodes (record { by = None; depth = 0 })) n _ (omega (arith, length-replicate {A = Last} nodes (record { by = None; depth = 0 })))
  ]

  free_settled : (n : ℕ) → settled_at (replicate nodes false) n ≡ false
  unfolding settled_at
  free_settled n = elim (cases_lt n nodes) [
    | inl here ↦ get_or-replicate nodes n false false here
    | inr past ↦ get_or_past (replicate nodes false) n false (omega (arith, length-replicate nodes false))
  ]

  cost_start : cost_in state from ≡ 0
  cost_start = ap (λ (cs : List ℕ). cost_at cs from) begun.costs ∙ cost-set_same (replicate nodes no_cost) from 0 (omega (arith, length-replicate nodes no_cost))

  only_start : (n : ℕ) → IsReached state n → n ≡ from
  only_start n is = elim (cases_eq n from) [
    | inl same ↦ same
    | inr other ↦
        (let none : cost_in state n ≡ no_cost = ap (λ (cs : List ℕ). cost_at cs n) begun.costs ∙ cost-set_other (replicate nodes no_cost) from n 0 other ∙ free_cost n in
        let low : cost_in state n < no_cost = is in
        absurd (omega arith))
  ]

  last_none : (n : ℕ) → last_in state n ≡ record { by = None; depth = 0 }
  last_none n = ap (λ (ls : List Last). last_at ls n) begun.lasts ∙ free_last n

  settled_none : (n : ℕ) → settled_in state n ≡ false
  settled_none n = ap (λ (bs : List Bool). settled_at bs n) begun.settled ∙ free_settled n

  never : (n : ℕ) → settled_in state n ≡ true → ⊥
  never n so = let not_so : settled_in state n ≡ false = settled_none n in let no : true ≡ false = sym so ∙ not_so in absurd cc

  comes_start : (n : ℕ) → IsReached state n → ComesBy IsLink state n (last_in state n).by
  comes_start n is =
      let same = only_start n is in
      subst (λ (o : Option Link). ComesBy IsLink state n o) (sym (ap (λ (y : Last). y.by) (last_none n)))
      (record { cost = subst (λ (k : ℕ). cost_in state k ≡ 0) (sym same) cost_start; depth = ap (λ (y : Last). y.depth) (last_none n) })

  opens_all : open_sum (λ _. 1) 0 state.settled.items ≡ nodes
  opens_all = ap (open_sum (λ _. 1) 0) begun.settled ∙ ones_begun nodes

  pub begun_from : IsFrom from state
  begun_from = record { start = cost_start; only = λ n is none. only_start n is }

  pub begun_between : IsBetween IsLink nodes state
  begun_between = record {
    now = 0;
    tree = record {
      costs_count = ap length begun.costs ∙ length-set (replicate nodes no_cost) from 0 ∙ length-replicate nodes no_cost;
      lasts_count = ap length begun.lasts ∙ length-replicate {A = Last} nodes (record { by = None; depth = 0 });
      settled_count = ap length begun.settled ∙ length-replicate nodes false;
      few = few;
      comes = comes_start;
      entries = λ cost n waits.
          (let (c, same) = begun.only cost n waits in
          let cost_n : cost_in state n ≡ 0 = subst (λ (k : ℕ). cost_in state k ≡ 0) same cost_start in
          record { node = subst (λ (k : ℕ). k < nodes) same within; late = omega arith; known = omega (arith, cost_n); low = omega (arith, cost_n) });
      below = λ n so. absurd (never n so);
      small = λ n is.
          (let cost_n : cost_in state n ≡ 0 = subst (λ (k : ℕ). cost_in state k ≡ 0) (sym (only_start n is)) cost_start in
          let depth_n : (last_in state n).depth ≡ 0 = ap (λ (y : Last). y.depth) (last_none n) in
          record { cost_room = omega (arith, cost_n, opens_all); depth_room = omega (arith, depth_n, opens_all) });
    };
    done = λ n so. absurd (never n so);
    progress = λ n is. inl (let same = only_start n is in
        let cost_n : cost_in state n ≡ 0 = subst (λ (k : ℕ). cost_in state k ≡ 0) (sym same) cost_start in
        subst (λ (c : ℕ). Waits state.frontier c n) (sym cost_n) (subst (λ (k : ℕ). Waits state.frontier 0 k) (sym same) begun.waits));
  }
