-- A cheaper walk to a node is found while another is settled.
use Rattle.std.proofs.Common.{◌≡◌, ◌≢◌, ◌⊎◌, inl, inr, ℕ, ◌+◌, ◌<◌, ◌≤◌, Bool, true, false, List, length, Option, Some, None, set, refl, sym, ap, subst, ◌∙◌, arith}
use Rattle.std.proofs.lemmas.List.{get_or-set_same, get_or-set_other, length-set}
use Rattle.std.proofs.lemmas.Bool.{cases_eq, cases_Bool}
use Rattle.venue_types.specs.declared.link.Link.{Link}
use Rattle.link_graph.specs.Networks.{Network}
use Rattle.route_search.specs.declared.frontier.Frontier.{Frontier}
use Rattle.route_search.specs.declared.labels.Last.{Last}
use Rattle.route_search.specs.declared.state.State.{State}
use Rattle.route_search.specs.Labels.{no_cost, cost_at, last_at}
use Rattle.route_search.specs.Waiting.{Waits, waiting}
use Rattle.route_search.specs.States.{settled_at, open_sum, cost_in, last_in, settled_in, IsReached, IsRelaxedFrom, ComesBy, Room, IsEntry, Grows, IsQueued, IsLowered}
use Rattle.route_search.specs.Scans.{IsQuiet, HangsOn, IsAmid, IsFollowed}
use Rattle.route_search.proofs.LastPlaces.{last-set_same, last-set_other}

-- ---- what waits

queued_kept : (waits : Bool) (f g : Frontier) (cost node c n : ℕ) → IsQueued waits f g cost node → Waits f c n → Waits g c n
queued_kept true f g cost node c n queued was = queued.kept c n was
queued_kept false f g cost node c n queued was = subst (λ (h : Frontier). Waits h c n) (sym queued) was

queued_only : (waits : Bool) (f g : Frontier) (cost node c n : ℕ) → IsQueued waits f g cost node → Waits g c n → Waits f c n ⊎ ((cost ≡ c) × (node ≡ n))
queued_only true f g cost node c n queued is = queued.only c n is
queued_only false f g cost node c n queued is = inl (subst (λ (h : Frontier). Waits h c n) queued is)

queued_len : (waits : Bool) (f g : Frontier) (cost node : ℕ) → IsQueued waits f g cost node → waiting g ≤ waiting f + 1
queued_len true f g cost node queued = omega (arith, queued.len)
queued_len false f g cost node queued = let same : waiting g ≡ waiting f = ap waiting queued in omega arith

queued_added : (waits : Bool) (f g : Frontier) (cost node : ℕ) → waits ≡ true → IsQueued waits f g cost node → Waits g cost node
queued_added true f g cost node e queued = queued.added
queued_added false f g cost node e queued = absurd cc

-- ---- lists that are changed at one place

pub cost-set_same : (costs : List ℕ) (i c : ℕ) → i < length costs → cost_at (set costs i c) i ≡ c
unfolding cost_at
cost-set_same costs i c within = get_or-set_same costs i c no_cost within

pub cost-set_other : (costs : List ℕ) (i n c : ℕ) → n ≢ i → cost_at (set costs i c) n ≡ cost_at costs n
unfolding cost_at
cost-set_other costs i n c other = get_or-set_other costs i n c no_cost other

-- ---- the end of a link is known by it

module _ (given : Network) (IsLink : Link → Type 0) (nodes : ℕ) (old new : State) (link : Link) (waits : Bool)
    (amid : IsAmid given IsLink nodes link.from old) (is : IsLink link) (to : link.to < nodes) (small : link.cost ≤ 6700000)
    (cheap : cost_in old link.from + link.cost < cost_in old link.to) (lowered : IsLowered old new link waits)
    (quiet : waits ≡ false → IsQuiet given link.via link.from link.to) where
  abbrev next : Last
  next = record { by = Some link; depth = (last_in old link.from).depth + 1 }

  cost_here : cost_in new link.to ≡ cost_in old link.from + link.cost
  cost_here = ap (λ (cs : List ℕ). cost_at cs link.to) lowered.costs ∙ cost-set_same old.costs.items link.to _ (omega (arith, amid.tree.costs_count))

  cost_other : (n : ℕ) → n ≢ link.to → cost_in new n ≡ cost_in old n
  cost_other n other = ap (λ (cs : List ℕ). cost_at cs n) lowered.costs ∙ cost-set_other old.costs.items link.to n _ other

  last_here : last_in new link.to ≡ next
  last_here = ap (λ (ls : List Last). last_at ls link.to) lowered.lasts ∙ last-set_same old.lasts link.to next (omega (arith, amid.tree.lasts_count))

  last_other : (n : ℕ) → n ≢ link.to → last_in new n ≡ last_in old n
  last_other n other = ap (λ (ls : List Last). last_at ls n) lowered.lasts ∙ last-set_other old.lasts link.to n next other

  settled_same : (n : ℕ) → settled_in new n ≡ settled_in old n
  settled_same n = ap (λ (bs : List Bool). settled_at bs n) lowered.settled

  opens : open_sum (λ _. 1) 0 new.settled.items ≡ open_sum (λ _. 1) 0 old.settled.items
  opens = ap (λ (bs : List Bool). open_sum (λ _. 1) 0 bs) lowered.settled

  lower : (n : ℕ) → cost_in new n ≤ cost_in old n
  lower n = elim (cases_eq n link.to) [
    | inl same ↦ subst (λ (k : ℕ). cost_in new k ≤ cost_in old k) (sym same) (omega (arith, cost_here, cheap))
    | inr other ↦ omega (arith, cost_other n other)
  ]

  apart : (n : ℕ) → settled_in old n ≡ true → n ≢ link.to
  apart n so same =
      let low : cost_in old link.to ≤ cost_in old link.from = subst (λ (k : ℕ). cost_in old k ≤ cost_in old link.from) same (amid.tree.below n so) in
      omega (arith, low, cheap)

  node_cost : cost_in new link.from ≡ cost_in old link.from
  node_cost = cost_other link.from (apart link.from amid.here)

  node_last : last_in new link.from ≡ last_in old link.from
  node_last = last_other link.from (apart link.from amid.here)

  relaxed_kept : (n : ℕ) → n ≢ link.to → IsRelaxedFrom IsLink old n → IsRelaxedFrom IsLink new n
  relaxed_kept n other relaxed l is_l at =
      let kept : cost_in new l.from ≡ cost_in old l.from = cost_other l.from (subst (λ (k : ℕ). k ≢ link.to) (sym at) other) in
      let was : cost_in old l.to ≤ cost_in old l.from + l.cost = relaxed l is_l at in
      let now : cost_in new l.to ≤ cost_in old l.to = lower l.to in
      let goal : cost_in new l.to ≤ cost_in new l.from + l.cost = omega arith in
      goal

  came : (n : ℕ) (by : Option Link) → n ≢ link.to → ComesBy IsLink old n by → ComesBy IsLink new n by
  came n None other first = record { cost = cost_other n other ∙ first.cost; depth = ap (λ (l : Last). l.depth) (last_other n other) ∙ first.depth }
  came n (Some l) other step =
      let apart_l : l.from ≢ link.to = apart l.from step.done in
      let cost_n : cost_in new n ≡ cost_in old n = cost_other n other in
      let cost_l : cost_in new l.from ≡ cost_in old l.from = cost_other l.from apart_l in
      let depth_n : (last_in new n).depth ≡ (last_in old n).depth = ap (λ (y : Last). y.depth) (last_other n other) in
      let depth_l : (last_in new l.from).depth ≡ (last_in old l.from).depth = ap (λ (y : Last). y.depth) (last_other l.from apart_l) in
      record {
        is = step.is;
        to = step.to;
        done = settled_same l.from ∙ step.done;
        cost = omega (arith, step.cost, cost_n, cost_l);
        depth = omega (arith, step.depth, depth_n, depth_l);
      }

  known_other : (n : ℕ) → n ≢ link.to → IsReached new n → IsReached old n
  known_other n other known = let same : cost_in new n ≡ cost_in old n = cost_other n other in subst (λ (k : ℕ). k < no_cost) same known

  comes_here : ComesBy IsLink new link.to (last_in new link.to).by
  comes_here =
      let depth_to : (last_in new link.to).depth ≡ (last_in old link.from).depth + 1 = ap (λ (y : Last). y.depth) last_here in
      let depth_from : (last_in new link.from).depth ≡ (last_in old link.from).depth = ap (λ (y : Last). y.depth) node_last in
      subst (λ (o : Option Link). ComesBy IsLink new link.to o) (sym (ap (λ (y : Last). y.by) last_here)) (record {
        is = is;
        to = refl;
        done = settled_same link.from ∙ amid.here;
        cost = omega (arith, cost_here, node_cost);
        depth = omega (arith, depth_to, depth_from);
      })

  comes_other : (n : ℕ) → n ≢ link.to → IsReached new n → ComesBy IsLink new n (last_in new n).by
  comes_other n other known =
      subst (λ (o : Option Link). ComesBy IsLink new n o) (sym (ap (λ (y : Last). y.by) (last_other n other)))
      (came n (last_in old n).by other (amid.tree.comes n (known_other n other known)))

  known_here : IsReached new link.to
  known_here = let room = amid.room.cost_room in let few = amid.tree.few in omega (arith, cost_here, small)

  entry : (cost n : ℕ) → Waits new.frontier cost n → IsEntry nodes new (cost_in new link.from) cost n
  entry cost n waits_new = elim (queued_only waits old.frontier new.frontier (cost_in old link.from + link.cost) link.to cost n lowered.frontier waits_new) [
    | inl was ↦
        (let e = amid.tree.entries cost n was in
        let low : cost_in new n ≤ cost_in old n = lower n in
        record {
          node = e.node;
          late = omega (arith, node_cost, e.late);
          known = (let k : cost_in old n < no_cost = e.known in omega (arith, k, low));
          low = omega (arith, e.low, low);
        })
    | inr (c, k) ↦
        record {
          node = subst (λ (m : ℕ). m < nodes) k to;
          late = omega (arith, node_cost, c);
          known = subst (λ (m : ℕ). IsReached new m) k known_here;
          low = subst (λ (m : ℕ). cost_in new m ≤ cost) k (omega (arith, cost_here, c));
        }
  ]

  small_here : Room nodes new.settled.items (cost_in new link.to) (last_in new link.to).depth 0
  small_here =
      let depth_to : (last_in new link.to).depth ≡ (last_in old link.from).depth + 1 = ap (λ (y : Last). y.depth) last_here in
      record {
        cost_room = omega (arith, amid.room.cost_room, opens, cost_here, small);
        depth_room = omega (arith, amid.room.depth_room, opens, depth_to);
      }

  small_other : (n : ℕ) → n ≢ link.to → IsReached new n → Room nodes new.settled.items (cost_in new n) (last_in new n).depth 0
  small_other n other known =
      let was = amid.tree.small n (known_other n other known) in
      let depth_n : (last_in new n).depth ≡ (last_in old n).depth = ap (λ (y : Last). y.depth) (last_other n other) in
      record {
        cost_room = omega (arith, was.cost_room, opens, cost_other n other);
        depth_room = omega (arith, was.depth_room, opens, depth_n);
      }

  roots : (n : ℕ) → IsReached new n → (last_in new n).by ≡ None → IsReached old n × ((last_in old n).by ≡ None)
  roots n known none = elim (cases_eq n link.to) [
    | inl same ↦
        (let by : (last_in new n).by ≡ Some link = ap (λ (k : ℕ). (last_in new k).by) same ∙ ap (λ (y : Last). y.by) last_here in
        let never : None ≡ Some link = sym none ∙ by in
        absurd cc)
    | inr other ↦ (known_other n other known, sym (ap (λ (y : Last). y.by) (last_other n other)) ∙ none)
  ]

  tree_new : Grows IsLink nodes new (cost_in new link.from)
  tree_new = record {
    costs_count = ap length lowered.costs ∙ length-set old.costs.items link.to _ ∙ amid.tree.costs_count;
    lasts_count = ap length lowered.lasts ∙ length-set old.lasts link.to next ∙ amid.tree.lasts_count;
    settled_count = ap length lowered.settled ∙ amid.tree.settled_count;
    few = amid.tree.few;
    comes = λ n known. elim (cases_eq n link.to) [
      | inl same ↦ subst (λ (k : ℕ). ComesBy IsLink new k (last_in new k).by) (sym same) comes_here
      | inr other ↦ comes_other n other known
    ];
    entries = entry;
    below = λ n so. (let was : settled_in old n ≡ true = sym (settled_same n) ∙ so in omega (arith, amid.tree.below n was, cost_other n (apart n was), node_cost));
    small = λ n known. elim (cases_eq n link.to) [
      | inl same ↦ subst (λ (k : ℕ). Room nodes new.settled.items (cost_in new k) (last_in new k).depth 0) (sym same) small_here
      | inr other ↦ small_other n other known
    ];
  }

  abbrev Goes : ℕ → Type 0
  Goes n = Waits new.frontier (cost_in new n) n ⊎ IsRelaxedFrom IsLink new n ⊎ HangsOn given new link.from n

  goes_here : Goes link.to
  goes_here = elim (cases_Bool waits) [
    | inl so ↦ inl (subst (λ (c : ℕ). Waits new.frontier c link.to) (sym cost_here) (queued_added waits old.frontier new.frontier _ link.to so lowered.frontier))
    | inr not_so ↦ inr (inr (record { link = link; by = ap (λ (y : Last). y.by) last_here; from = refl; quiet = quiet not_so }))
  ]

  goes_other : (n : ℕ) → n ≢ link.to → n ≢ link.from → IsReached new n → Goes n
  goes_other n other off known = elim (amid.progress n off (known_other n other known)) [
    | inl was ↦ inl (subst (λ (c : ℕ). Waits new.frontier c n) (sym (cost_other n other)) (queued_kept waits old.frontier new.frontier _ link.to _ n lowered.frontier was))
    | inr (inl relaxed) ↦ inr (inl (relaxed_kept n other relaxed))
    | inr (inr hangs) ↦ inr (inr (record { link = hangs.link; by = ap (λ (y : Last). y.by) (last_other n other) ∙ hangs.by; from = hangs.from; quiet = hangs.quiet }))
  ]

  pub followed : IsFollowed given IsLink nodes link old new
  followed = record {
    amid = record {
      tree = tree_new;
      here = settled_same link.from ∙ amid.here;
      known = (let was : cost_in old link.from < no_cost = amid.known in omega (arith, was, node_cost));
      room =
          (let depth_from : (last_in new link.from).depth ≡ (last_in old link.from).depth = ap (λ (y : Last). y.depth) node_last in
          record { cost_room = omega (arith, amid.room.cost_room, opens, node_cost); depth_room = omega (arith, amid.room.depth_room, opens, depth_from) });
      done = λ n off so. (let was : settled_in old n ≡ true = sym (settled_same n) ∙ so in relaxed_kept n (apart n was) (amid.done n off was));
      progress = λ n off known. elim (cases_eq n link.to) [
        | inl same ↦ subst Goes (sym same) goes_here
        | inr other ↦ goes_other n other off known
      ];
    };
    later = record { settled = lowered.settled; cost = node_cost; last = node_last; lower = lower; roots = roots; entries = queued_len waits old.frontier new.frontier _ link.to lowered.frontier };
    relaxed = λ _. (let goal : cost_in new link.to ≤ cost_in new link.from + link.cost = omega (arith, cost_here, node_cost) in goal);
  }
