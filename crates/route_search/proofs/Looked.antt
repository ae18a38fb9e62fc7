-- The link at one place.
use Rattle.std.proofs.Common.{◌≡◌, ℕ, zero, suc, ◌+◌, ◌<◌, ◌≤◌, Bool, true, false, cond, nat_lt, List, [], ◌∷◌, length, Some, None, Result, Ok, Err, OnOk, IfOk, get_or, refl, ap, subst, ◌∙◌, arith}
use Rattle.std.specs.Prelude.{Contains, slice_get, slice_index_or}
use Rattle.std.proofs.lemmas.Bool.Decides.{nat_tests}
use Rattle.venue_types.specs.declared.link.Link.{Link}
use Rattle.link_graph.specs.Lower.{lower_of}
use Rattle.link_graph.specs.Networks.{Network, links_out}
use Rattle.route_search.specs.declared.state.State.{State}
use Rattle.route_search.specs.Labels.{no_cost, cost_at}
use Rattle.route_search.specs.States.{cost_in}
use Rattle.route_search.specs.Scans.{IsAmid, IsScanned}
use Rattle.route_search.proofs.Covers.{out_member, out_from}
use Rattle.route_search.proofs.Scanned.{passed}

pub on_ok : {T E P Q : Type 0} (r : Result T E) → (P → Q) → OnOk r P → OnOk r Q
on_ok (Ok x) then is = then is
on_ok (Err e) then is = tt

get_or_any : {X : Type 0} (xs : List X) (n : ℕ) (a b : X) → n < length xs → get_or xs n a ≡ get_or xs n b
get_or_any [] n a b within = absurd (omega arith)
get_or_any (x ∷ xs) zero a b within = refl
get_or_any (x ∷ xs) (suc n) a b within = get_or_any xs n a b (omega arith)

pub cost_read : (costs : List ℕ) (n c d : ℕ) → n < length costs → c ≡ get_or costs n d → c ≡ cost_at costs n
unfolding cost_at
cost_read costs n c d within is = is ∙ get_or_any costs n d no_cost within

pub get_some : {X : Type 0} (xs : List X) (k : ℕ) → k < length xs → (x : X) × (slice_get xs k ≡ Some x)
get_some [] k within = absurd (omega arith)
get_some (x ∷ xs) zero within = (x, refl)
get_some (x ∷ xs) (suc k) within = get_some xs k (omega arith)

picked : (b : Bool) (x y : Link) → Some y ≡ cond b (Some x) None → (b ≡ true) × (x ≡ y)
picked true x y e = (refl, cc)
picked false x y e = absurd cc

not_picked : (b : Bool) (x : Link) → None ≡ cond b (Some x) None → b ≡ false
not_picked true x e = absurd cc
not_picked false x e = refl

below : (a b : ℕ) → nat_lt a b ≡ true → a < b
below a b t = grind (arith, nat_tests)

not_below : (a b : ℕ) → nat_lt a b ≡ false → b ≤ a
not_below a b t = grind (arith, nat_tests)

pub if_ok : {T E : Type 0} {P Q : T → Type 0} (r : Result T E) → ((x : T) → P x → Q x) → IfOk r P → IfOk r Q
if_ok (Ok x) then is = then x is
if_ok (Err e) then is = tt

-- the link stands at the place, and leads to its end for less than is known there
pub record IsCheap (given : Network) (node place : ℕ) (state : State) (link : Link) : Type 0 where
  pub here : slice_get (links_out given node) place ≡ Some link
  pub at : link.from ≡ node
  pub there : Contains given.links link
  pub cheap : cost_in state node + link.cost < cost_in state link.to

module _ (given : Network) (node place base : ℕ) (state : State) (least : List ℕ) (within : place < length (links_out given node))
    (ends : (link : Link) → Contains given.links link → link.to < length state.costs.items) (least_is : least ≡ state.costs.items) (base_is : base ≡ cost_in state node) where
  known_there : (link : Link) → Contains given.links link → slice_index_or least link.to 0 ≡ cost_in state link.to
  known_there link is = cost_read state.costs.items link.to _ 0 (ends link is) (ap (λ (cs : List ℕ). get_or cs link.to 0) least_is)

  pub cheap_link : (link : Link) → ((l : Link) → slice_get (links_out given node) place ≡ Some l → Some link ≡ lower_of least base l) → IsCheap given node place state link
  cheap_link link gives =
      let (l, here) = get_some (links_out given node) place within in
      let (low, same) = picked (nat_lt (base + l.cost) (slice_index_or least l.to 0)) l link (gives l here) in
      let there : Contains given.links l = (out_member given node place l here).0 in
      let less : base + l.cost < slice_index_or least l.to 0 = below _ _ low in
      subst (IsCheap given node place state) same (record {
        here = here;
        at = out_from given node place l here;
        there = there;
        cheap = omega (arith, less, known_there l there, base_is);
      })

  pub nothing_cheap : (IsLink : Link → Type 0) (nodes : ℕ) → IsAmid given IsLink nodes node state
      → ((l : Link) → slice_get (links_out given node) place ≡ Some l → None ≡ lower_of least base l) → IsScanned given IsLink nodes node place 1 state state
  nothing_cheap IsLink nodes amid gives = passed given IsLink nodes node place 1 state amid (λ p l low high here_p is.
      (let same : p ≡ place = omega arith in
      let here : slice_get (links_out given node) place ≡ Some l = subst (λ (k : ℕ). slice_get (links_out given node) k ≡ Some l) same here_p in
      let high : slice_index_or least l.to 0 ≤ base + l.cost = not_below _ _ (not_picked _ l (gives l here)) in
      let from_is : cost_in state l.from ≡ cost_in state node = ap (cost_in state) (out_from given node place l here) in
      let goal : cost_in state l.to ≤ cost_in state l.from + l.cost = omega (arith, high, known_there l (out_member given node place l here).0, base_is, from_is) in
      goal))
