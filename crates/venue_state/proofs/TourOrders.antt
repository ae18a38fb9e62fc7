-- Orders of the least costs, and walks that visit the stops: which order is best, and that there is none.
use Rattle.std.proofs.Common.{◌≡◌, ◌∙◌, ℕ, zero, suc, ◌+◌, ◌<◌, ◌≤◌, ◌^◌, List, [], ◌∷◌, ◌++◌, map, length, get_or, refl, sym, ap, subst, Option, Some, None, All, arith, add-one}
use Rattle.std.specs.Prelude.{option_and_then, slice_get}
use Rattle.std.specs.List.{AllZip}
use Rattle.std.proofs.lemmas.List.Sums.{sum_by-cons}
use Rattle.std.proofs.lemmas.Option.{slice_get-get_or, slice_get_within}
use Rattle.venue_types.specs.declared.link.Link.{Link}
use Rattle.venue_types.specs.declared.reply.Leg.{Leg}
use Rattle.stop_order.specs.declared.costs.Costs.{Costs}
use Rattle.stop_order.specs.Orders.{AreSmall, IsBest, IsOrder, cost_between, sum_of_both, way_cost as cost_along, order_cost}
use Rattle.walk_laws.specs.Walks.{IsWalk, IsLeast, walk_cost}
use Rattle.route_search.specs.Views.{link_view}
use Rattle.venue_history.specs.Closed.{Version}
use Rattle.venue_history.specs.Tours.{ArePicked, Lead, LeadLeast, Visits, leg_of, walks_cost}
use Rattle.venue_history.specs.Ways.{step_of}
use Rattle.venue_state.specs.declared.tour_ways.Way.{Way}
use Rattle.venue_state.specs.Touring.{IsWay, IsRow, IsTable, way_at, way_cost, AreCostsOf, told_leg, legs_along, IsBestTour}

-- ---- what a table has

zipped : {A B : Type 0} (Is : A → B → Type 0) (xs : List A) (ys : List B) (k : ℕ) (x : A) → AllZip Is xs ys → slice_get xs k ≡ Some x → (y : B) × (slice_get ys k ≡ Some y) × Is x y
zipped {A = A} Is [] ys k x all at = absurd (cc)
zipped {A = A} Is (x' ∷ xs) [] k x all at = absurd all
zipped {A = A} Is (x' ∷ xs) (y ∷ ys) zero x all at = let same : x' ≡ x = (cc) in (y, refl, subst (λ (z : A). Is z y) same all.0)
zipped {A = A} Is (x' ∷ xs) (y ∷ ys) (suc k) x all at = zipped Is xs ys k x all.1 at

row_way : (Is : ℕ → Option Way → Type 0) (ns : List ℕ) (row : List (Option Way)) (j n : ℕ) → IsRow Is ns row → slice_get ns j ≡ Some n
    → Is n (option_and_then (λ way. way) (slice_get row (j + 1)))
row_way Is ns [] j n is at = absurd is
row_way Is ns (Some way ∷ ways) j n is at = absurd is
row_way Is ns (None ∷ ways) j n is at =
    let (way, there, so) = zipped Is ns ways j n is at in
    let here : slice_get (None ∷ ways) (j + 1) ≡ Some way = rw add-one there in
    subst (λ (cell : Option (Option Way)). Is n (option_and_then (λ way. way) cell)) (sym here) so

first_way : (IsLink : Link → Type 0) (a : ℕ) (stops : List ℕ) (b : ℕ) (table : List (List (Option Way))) (j n : ℕ) → IsTable IsLink a stops b table → slice_get stops j ≡ Some n
    → IsWay IsLink a n (way_at table 0 (j + 1))
first_way IsLink a stops b [] j n is at = absurd is
first_way IsLink a stops b (first ∷ rows) j n is at = row_way (IsWay IsLink a) stops first j n is.0 at

later_way : (IsLink : Link → Type 0) (a : ℕ) (stops : List ℕ) (b : ℕ) (table : List (List (Option Way))) (k m j n : ℕ) → IsTable IsLink a stops b table → slice_get stops k ≡ Some m
    → slice_get (stops ++ b ∷ []) j ≡ Some n → IsWay IsLink m n (way_at table (k + 1) (j + 1))
later_way IsLink a stops b [] k m j n is from to = absurd is
later_way IsLink a stops b (first ∷ rows) k m j n is from to =
    let (row, there, so) = zipped (λ p row. IsRow (IsWay IsLink p) (stops ++ b ∷ []) row) stops rows k m is.1 from in
    let here : slice_get (first ∷ rows) (k + 1) ≡ Some row = rw add-one there in
    subst (λ (row : Option (List (Option Way))). IsWay IsLink m n (option_and_then (λ row. option_and_then (λ way. way) (slice_get row (j + 1))) row)) (sym here)
    (row_way (IsWay IsLink m) (stops ++ b ∷ []) row j n so to)

front_there : (xs : List ℕ) (b k n : ℕ) → slice_get xs k ≡ Some n → slice_get (xs ++ b ∷ []) k ≡ Some n
front_there [] b k n at = absurd (cc)
front_there (x ∷ xs) b zero n at = at
front_there (x ∷ xs) b (suc k) n at = front_there xs b k n at

last_there : (xs : List ℕ) (b : ℕ) → slice_get (xs ++ b ∷ []) (length xs) ≡ Some b
last_there [] b = refl
last_there (x ∷ xs) b = last_there xs b

next_way : (IsLink : Link → Type 0) (a : ℕ) (stops : List ℕ) (b : ℕ) (table : List (List (Option Way))) (k m j n : ℕ) → IsTable IsLink a stops b table → slice_get stops k ≡ Some m
    → slice_get stops j ≡ Some n → IsWay IsLink m n (way_at table (k + 1) (j + 1))
next_way IsLink a stops b table k m j n is from to = later_way IsLink a stops b table k m j n is from (front_there stops b j n to)

last_way : (IsLink : Link → Type 0) (a : ℕ) (stops : List ℕ) (b : ℕ) (table : List (List (Option Way))) (k m : ℕ) → IsTable IsLink a stops b table → slice_get stops k ≡ Some m
    → IsWay IsLink m b (way_at table (k + 1) (length stops + 1))
last_way IsLink a stops b table k m is from = later_way IsLink a stops b table k m (length stops) b is from (last_there stops b)

-- ---- costs are small

small_way : (IsLink : Link → Type 0) (a n : ℕ) (way : Option Way) (cost : ℕ) → IsWay IsLink a n way → way_cost way ≡ Some cost → cost < 2 ^ 42
small_way IsLink a n (Some way) cost is at = let same : way.cost ≡ cost = (cc) in let low : way.cost < 2 ^ 42 = is.1 in omega arith
small_way IsLink a n None cost is at = absurd (cc)

small_ways : (IsLink : Link → Type 0) (a : ℕ) (ns : List ℕ) (ways : List (Option Way)) (j cost : ℕ) → AllZip (IsWay IsLink a) ns ways
    → way_cost (option_and_then (λ way. way) (slice_get ways j)) ≡ Some cost → cost < 2 ^ 42
small_ways IsLink a ns [] j cost is at = absurd (cc)
small_ways IsLink a [] (way ∷ ways) j cost is at = absurd is
small_ways IsLink a (n ∷ ns) (way ∷ ways) zero cost is at = small_way IsLink a n way cost is.0 at
small_ways IsLink a (n ∷ ns) (way ∷ ways) (suc j) cost is at = small_ways IsLink a ns ways j cost is.1 at

small_row : (IsLink : Link → Type 0) (a : ℕ) (ns : List ℕ) (row : List (Option Way)) (j cost : ℕ) → IsRow (IsWay IsLink a) ns row
    → way_cost (option_and_then (λ way. way) (slice_get row j)) ≡ Some cost → cost < 2 ^ 42
small_row IsLink a ns [] j cost is at = absurd is
small_row IsLink a ns (Some way ∷ ways) j cost is at = absurd is
small_row IsLink a ns (None ∷ ways) zero cost is at = absurd (cc)
small_row IsLink a ns (None ∷ ways) (suc j) cost is at = small_ways IsLink a ns ways j cost is at

small_rows : (IsLink : Link → Type 0) (ends ns : List ℕ) (rows : List (List (Option Way))) (i j cost : ℕ) → AllZip (λ n row. IsRow (IsWay IsLink n) ends row) ns rows
    → way_cost (way_at rows i j) ≡ Some cost → cost < 2 ^ 42
small_rows IsLink ends ns [] i j cost is at = absurd (cc)
small_rows IsLink ends [] (row ∷ rows) i j cost is at = absurd is
small_rows IsLink ends (n ∷ ns) (row ∷ rows) zero j cost is at = small_row IsLink n ends row j cost is.0 at
small_rows IsLink ends (n ∷ ns) (row ∷ rows) (suc i) j cost is at = small_rows IsLink ends ns rows i j cost is.1 at

small_table : (IsLink : Link → Type 0) (a : ℕ) (stops : List ℕ) (b : ℕ) (table : List (List (Option Way))) (i j cost : ℕ) → IsTable IsLink a stops b table
    → way_cost (way_at table i j) ≡ Some cost → cost < 2 ^ 42
small_table IsLink a stops b [] i j cost is at = absurd is
small_table IsLink a stops b (first ∷ rows) zero j cost is at = small_row IsLink a stops first j cost is.0 at
small_table IsLink a stops b (first ∷ rows) (suc i) j cost is at = small_rows IsLink (stops ++ b ∷ []) stops rows i j cost is.1 at

pub small_costs : (IsLink : Link → Type 0) (a : ℕ) (stops : List ℕ) (b : ℕ) (table : List (List (Option Way))) (costs : Costs) → IsTable IsLink a stops b table
    → AreCostsOf table costs → AreSmall costs
small_costs IsLink a stops b table costs is are = record { small = λ i j cost at. small_table IsLink a stops b table i j cost is (are.only i j cost at) }

-- ---- no walks cost less than the least costs of their order

-- there is a cost, and it is at most so much
abbrev IsAtMost : Option ℕ → ℕ → Type 0
IsAtMost None most = ⊥
IsAtMost (Some cost) most = cost ≤ most

way_at_most : (IsLink : Link → Type 0) (a n : ℕ) (way : Option Way) (walk : List Link) → IsWay IsLink a n way → IsWalk link_view IsLink a n walk → IsAtMost (way_cost way) (walk_cost link_view walk)
way_at_most IsLink a n (Some way) walk is leads = is.0.least walk leads
way_at_most IsLink a n None walk none leads = absurd (none walk leads)

both_at_most : (x y : Option ℕ) (s t total : ℕ) → IsAtMost x s → IsAtMost y t → total ≡ s + t → IsAtMost (sum_of_both x y) total
both_at_most (Some a) (Some b) s t total is_s is_t sum = omega arith
both_at_most (Some a) None s t total is_s is_t sum = absurd is_t
both_at_most None y s t total is_s is_t sum = absurd is_s

-- a cost of the table
read_cost : (table : List (List (Option Way))) (costs : Costs) (IsLink : Link → Type 0) (p n i j : ℕ) (walk : List Link) → AreCostsOf table costs → i < 10 → j < 10
    → IsWay IsLink p n (way_at table i j) → IsWalk link_view IsLink p n walk → IsAtMost (cost_between costs i j) (walk_cost link_view walk)
read_cost table costs IsLink p n i j walk are low_i low_j is leads =
    subst (λ (cost : Option ℕ). IsAtMost cost (walk_cost link_view walk)) (sym (are.each i j low_i low_j)) (way_at_most IsLink p n (way_at table i j) walk is leads)

one_walk : (walk : List Link) → walks_cost (walk ∷ []) ≡ walk_cost link_view walk
one_walk walk = let sum : walks_cost (walk ∷ []) ≡ walk_cost link_view walk + 0 = sum_by-cons (walk_cost link_view) walk [] in omega arith

more_walks : (walk : List Link) (walks : List (List Link)) → walks_cost (walk ∷ walks) ≡ walk_cost link_view walk + walks_cost walks
more_walks walk walks = sum_by-cons (walk_cost link_view) walk walks

-- from a stop on
below_from : (IsLink : Link → Type 0) (a : ℕ) (stops : List ℕ) (b : ℕ) (table : List (List (Option Way))) (costs : Costs) → IsTable IsLink a stops b table → AreCostsOf table costs
    → costs.stops ≡ length stops → length stops ≤ 8 → (ks ns : List ℕ) (walks : List (List Link)) (k p : ℕ) → slice_get stops k ≡ Some p → ArePicked stops ks ns
    → Lead IsLink p ns b walks → IsAtMost (cost_along costs (k + 1) ks) (walks_cost walks)
below_from IsLink a stops b table costs is are count few ks [] [] k p at picked lead = absurd lead
below_from IsLink a stops b table costs is are count few ks (n ∷ ns) [] k p at picked lead = absurd lead
below_from IsLink a stops b table costs is are count few [] [] (walk ∷ []) k p at picked lead =
    let low = slice_get_within stops k p at in
    let cost = read_cost table costs IsLink p b (k + 1) (length stops + 1) walk are (omega arith) (omega arith) (last_way IsLink a stops b table k p is at) lead in
    let there = subst (λ (n : ℕ). IsAtMost (cost_between costs (k + 1) (n + 1)) (walk_cost link_view walk)) (sym count) cost in
    subst (IsAtMost (cost_along costs (k + 1) [])) (sym (one_walk walk)) there
below_from IsLink a stops b table costs is are count few [] [] (walk ∷ other ∷ walks) k p at picked lead = absurd lead
below_from IsLink a stops b table costs is are count few [] (n ∷ ns) (walk ∷ walks) k p at picked lead = absurd (cc)
below_from IsLink a stops b table costs is are count few (j ∷ ks) [] (walk ∷ walks) k p at picked lead = absurd (cc)
below_from IsLink a stops b table costs is are count few (j ∷ ks) (n ∷ ns) (walk ∷ walks) k p at picked lead =
    let here : slice_get stops j ≡ Some n = (cc) in
    let rest : ArePicked stops ks ns = (cc) in
    let low = slice_get_within stops k p at in
    let low_j = slice_get_within stops j n here in
    both_at_most (cost_between costs (k + 1) (j + 1)) (cost_along costs (j + 1) ks) (walk_cost link_view walk) (walks_cost walks) (walks_cost (walk ∷ walks))
    (read_cost table costs IsLink p n (k + 1) (j + 1) walk are (omega arith) (omega arith) (next_way IsLink a stops b table k p j n is at here) lead.0)
    (below_from IsLink a stops b table costs is are count few ks ns walks j n here rest lead.1) (more_walks walk walks)

-- from the start
below_start : (IsLink : Link → Type 0) (a : ℕ) (stops : List ℕ) (b : ℕ) (table : List (List (Option Way))) (costs : Costs) → IsTable IsLink a stops b table → AreCostsOf table costs
    → costs.stops ≡ length stops → length stops ≤ 8 → (ks ns : List ℕ) (walks : List (List Link)) → 1 ≤ length ks → ArePicked stops ks ns
    → Lead IsLink a ns b walks → IsAtMost (order_cost costs ks) (walks_cost walks)
below_start IsLink a stops b table costs is are count few [] ns walks some picked lead = absurd (omega arith)
below_start IsLink a stops b table costs is are count few (j ∷ ks) [] walks some picked lead = absurd (cc)
below_start IsLink a stops b table costs is are count few (j ∷ ks) (n ∷ ns) [] some picked lead = absurd lead
below_start IsLink a stops b table costs is are count few (j ∷ ks) (n ∷ ns) (walk ∷ walks) some picked lead =
    let here : slice_get stops j ≡ Some n = (cc) in
    let rest : ArePicked stops ks ns = (cc) in
    let low_j = slice_get_within stops j n here in
    both_at_most (cost_between costs 0 (j + 1)) (cost_along costs (j + 1) ks) (walk_cost link_view walk) (walks_cost walks) (walks_cost (walk ∷ walks))
    (read_cost table costs IsLink a n 0 (j + 1) walk are (omega arith) (omega arith) (first_way IsLink a stops b table j n is here) lead.0)
    (below_from IsLink a stops b table costs is are count few ks ns walks j n here rest lead.1) (more_walks walk walks)

-- walks that visit the stops cost at least what their order costs
below_visit : (IsLink : Link → Type 0) (a : ℕ) (stops : List ℕ) (b : ℕ) (table : List (List (Option Way))) (costs : Costs) → IsTable IsLink a stops b table → AreCostsOf table costs
    → costs.stops ≡ length stops → length stops ≤ 8 → 1 ≤ length stops → (order : List ℕ) (walks : List (List Link)) → Visits IsLink a stops b order walks
    → IsAtMost (order_cost costs order) (walks_cost walks)
below_visit IsLink a stops b table costs is are count few some order walks visits =
    let all = visits.is_order.all in
    below_start IsLink a stops b table costs is are count few order visits.nodes walks (omega arith) visits.picked visits.lead

at_most_some : (cost : Option ℕ) (most : ℕ) → IsAtMost cost most → (c : ℕ) × (cost ≡ Some c) × (c ≤ most)
at_most_some None most is = absurd is
at_most_some (Some c) most is = (c, refl, is)

-- where no order has a cost, no walks visit the stops
pub no_visit : (IsLink : Link → Type 0) (a : ℕ) (stops : List ℕ) (b : ℕ) (table : List (List (Option Way))) (costs : Costs) → IsTable IsLink a stops b table → AreCostsOf table costs
    → costs.stops ≡ length stops → length stops ≤ 8 → 1 ≤ length stops → ((order : List ℕ) → IsOrder costs.stops order → order_cost costs order ≡ None)
    → (order : List ℕ) (walks : List (List Link)) → Visits IsLink a stops b order walks → ⊥
no_visit IsLink a stops b table costs is are count few some none order walks visits =
    let free : order_cost costs order ≡ None = none order (subst (λ (n : ℕ). IsOrder n order) (sym count) visits.is_order) in
    subst (λ (cost : Option ℕ). IsAtMost cost (walks_cost walks)) free (below_visit IsLink a stops b table costs is are count few some order walks visits)

-- ---- the walks of an order that has a cost

-- a least walk of this cost, told as the way's leg
record IsLegOf (IsLink : Link → Type 0) (a b : ℕ) (way : Option Way) (cost : ℕ) : Type 0 where
  walk : List Link
  least : IsLeast link_view IsLink a b walk (walk_cost link_view walk)
  costs : cost ≡ walk_cost link_view walk
  told : (v : Version) → told_leg v way ≡ leg_of v walk

leg_found : (IsLink : Link → Type 0) (a b : ℕ) (way : Option Way) (cost : ℕ) → IsWay IsLink a b way → way_cost way ≡ Some cost → IsLegOf IsLink a b way cost
leg_found IsLink a b None cost is at = absurd (cc)
leg_found IsLink a b (Some way) cost is at =
    let costs : way.cost ≡ walk_cost link_view way.walk = sym is.0.costs in
    let same : way.cost ≡ cost = (cc) in
    record {
      walk = way.walk;
      least = subst (λ (c : ℕ). IsLeast link_view IsLink a b way.walk c) costs is.0;
      costs = sym same ∙ costs;
      told = λ v. ap (λ (c : ℕ). record { cost = c; steps = map (step_of v) way.walk }) costs;
    }

-- walks from a place of the table by these stops to the end, each a least one, told as legs
record AreLegsOf (IsLink : Link → Type 0) (p : ℕ) (ns : List ℕ) (b : ℕ) (table : List (List (Option Way))) (count i : ℕ) (ks : List ℕ) (cost : ℕ) : Type 0 where
  walks : List (List Link)
  each : LeadLeast IsLink p ns b walks
  costs : cost ≡ walks_cost walks
  told : (v : Version) → legs_along v table count i ks ≡ map (leg_of v) walks

one_leg : (IsLink : Link → Type 0) (p b : ℕ) (table : List (List (Option Way))) (count i cost : ℕ) → IsLegOf IsLink p b (way_at table i (count + 1)) cost → AreLegsOf IsLink p [] b table count i [] cost
one_leg IsLink p b table count i cost last = record {
  walks = last.walk ∷ [];
  each = last.least;
  costs = last.costs ∙ sym (one_walk last.walk);
  told = λ v. ap (λ (leg : Leg). leg ∷ []) (last.told v);
}

more_legs : (IsLink : Link → Type 0) (p n : ℕ) (ns : List ℕ) (b : ℕ) (table : List (List (Option Way))) (count i j : ℕ) (ks : List ℕ) (s t cost : ℕ) → IsLegOf IsLink p n (way_at table i (j + 1)) s
    → AreLegsOf IsLink n ns b table count (j + 1) ks t → cost ≡ s + t → AreLegsOf IsLink p (n ∷ ns) b table count i (j ∷ ks) cost
more_legs IsLink p n ns b table count i j ks s t cost first rest sum = record {
  walks = first.walk ∷ rest.walks;
  each = (first.least, rest.each);
  costs = let costs = first.costs in let others = rest.costs in let joined = more_walks first.walk rest.walks in omega arith;
  told = λ v. let one = first.told v in let others = rest.told v in (cc);
}

-- a sum that is there has both parts
record AreParts (x y : Option ℕ) (cost : ℕ) : Type 0 where
  s : ℕ
  t : ℕ
  one : x ≡ Some s
  other : y ≡ Some t
  sum : cost ≡ s + t

parted : (x y : Option ℕ) (cost : ℕ) → sum_of_both x y ≡ Some cost → AreParts x y cost
parted (Some s) (Some t) cost is = record { s = s; t = t; one = refl; other = refl; sum = (let same : s + t ≡ cost = (cc) in sym same) }
parted (Some s) None cost is = absurd (cc)
parted None y cost is = absurd (cc)

-- from a stop on
legs_from : (IsLink : Link → Type 0) (a : ℕ) (stops : List ℕ) (b : ℕ) (table : List (List (Option Way))) (costs : Costs) → IsTable IsLink a stops b table → AreCostsOf table costs
    → costs.stops ≡ length stops → length stops ≤ 8 → (ks ns : List ℕ) (k p cost : ℕ) → slice_get stops k ≡ Some p → ArePicked stops ks ns
    → cost_along costs (k + 1) ks ≡ Some cost → AreLegsOf IsLink p ns b table (length stops) (k + 1) ks cost
legs_from IsLink a stops b table costs is are count few [] [] k p cost at picked costs_it =
    let low = slice_get_within stops k p at in
    let there : cost_between costs (k + 1) (length stops + 1) ≡ Some cost = ap (λ (n : ℕ). cost_between costs (k + 1) (n + 1)) (sym count) ∙ costs_it in
    one_leg IsLink p b table (length stops) (k + 1) cost
    (leg_found IsLink p b (way_at table (k + 1) (length stops + 1)) cost (last_way IsLink a stops b table k p is at) (are.only (k + 1) (length stops + 1) cost there))
legs_from IsLink a stops b table costs is are count few [] (n ∷ ns) k p cost at picked costs_it = absurd (cc)
legs_from IsLink a stops b table costs is are count few (j ∷ ks) [] k p cost at picked costs_it = absurd (cc)
legs_from IsLink a stops b table costs is are count few (j ∷ ks) (n ∷ ns) k p cost at picked costs_it =
    let here : slice_get stops j ≡ Some n = (cc) in
    let rest : ArePicked stops ks ns = (cc) in
    let parts = parted (cost_between costs (k + 1) (j + 1)) (cost_along costs (j + 1) ks) cost costs_it in
    more_legs IsLink p n ns b table (length stops) (k + 1) j ks parts.s parts.t cost
    (leg_found IsLink p n (way_at table (k + 1) (j + 1)) parts.s (next_way IsLink a stops b table k p j n is at here) (are.only (k + 1) (j + 1) parts.s parts.one))
    (legs_from IsLink a stops b table costs is are count few ks ns j n parts.t here rest parts.other) parts.sum

-- from the start
legs_start : (IsLink : Link → Type 0) (a : ℕ) (stops : List ℕ) (b : ℕ) (table : List (List (Option Way))) (costs : Costs) → IsTable IsLink a stops b table → AreCostsOf table costs
    → costs.stops ≡ length stops → length stops ≤ 8 → (ks ns : List ℕ) (cost : ℕ) → 1 ≤ length ks → ArePicked stops ks ns
    → order_cost costs ks ≡ Some cost → AreLegsOf IsLink a ns b table (length stops) 0 ks cost
legs_start IsLink a stops b table costs is are count few [] ns cost some picked costs_it = absurd (omega arith)
legs_start IsLink a stops b table costs is are count few (j ∷ ks) [] cost some picked costs_it = absurd (cc)
legs_start IsLink a stops b table costs is are count few (j ∷ ks) (n ∷ ns) cost some picked costs_it =
    let here : slice_get stops j ≡ Some n = (cc) in
    let rest : ArePicked stops ks ns = (cc) in
    let parts = parted (cost_between costs 0 (j + 1)) (cost_along costs (j + 1) ks) cost costs_it in
    more_legs IsLink a n ns b table (length stops) 0 j ks parts.s parts.t cost
    (leg_found IsLink a n (way_at table 0 (j + 1)) parts.s (first_way IsLink a stops b table j n is here) (are.only 0 (j + 1) parts.s parts.one))
    (legs_from IsLink a stops b table costs is are count few ks ns j n parts.t here rest parts.other) parts.sum

-- least walks are walks
least_leads : (IsLink : Link → Type 0) (a : ℕ) (ns : List ℕ) (b : ℕ) (walks : List (List Link)) → LeadLeast IsLink a ns b walks → Lead IsLink a ns b walks
least_leads IsLink a [] b [] each = absurd each
least_leads IsLink a [] b (walk ∷ []) each = each.leads
least_leads IsLink a [] b (walk ∷ other ∷ walks) each = absurd each
least_leads IsLink a (n ∷ ns) b [] each = absurd each
least_leads IsLink a (n ∷ ns) b (walk ∷ walks) each = (each.0.leads, least_leads IsLink n ns b walks each.1)

-- ---- the best order

-- the nodes of the stops of an order
picked_nodes : (stops order : List ℕ) → All (λ k. k < length stops) order → ArePicked stops order (map (λ k. get_or stops k 0) order)
picked_nodes stops [] all = refl
picked_nodes stops (k ∷ ks) all =
    let here : slice_get stops k ≡ Some (get_or stops k 0) = slice_get-get_or stops k 0 (all 0 0 (omega arith)) in
    let rest : ArePicked stops ks (map (λ k. get_or stops k 0) ks) = picked_nodes stops ks (λ i d within. all (suc i) d (omega arith)) in
    (cc)

pub best_tour : (IsLink : Link → Type 0) (a : ℕ) (stops : List ℕ) (b : ℕ) (table : List (List (Option Way))) (costs : Costs) → IsTable IsLink a stops b table → AreCostsOf table costs
    → costs.stops ≡ length stops → length stops ≤ 8 → 1 ≤ length stops → (order : List ℕ) (cost : ℕ) → IsBest costs order cost → IsBestTour IsLink a stops b table order cost
best_tour IsLink a stops b table costs is are count few some order cost best =
    let visits : IsOrder (length stops) order = subst (λ (n : ℕ). IsOrder n order) count best.visits in
    let all = visits.all in
    let ns = map (λ k. get_or stops k 0) order in
    let picked : ArePicked stops order ns = picked_nodes stops order visits.below in
    let legs = legs_start IsLink a stops b table costs is are count few order ns cost (omega arith) picked best.costs_it in
    record {
      walks = legs.walks;
      visits = record { nodes = ns; is_order = visits; picked = picked; lead = least_leads IsLink a ns b legs.walks legs.each };
      each = legs.each;
      told = legs.told;
      costs = legs.costs;
      least = λ other others also.
          let (less, there, low) = at_most_some (order_cost costs other) (walks_cost others) (below_visit IsLink a stops b table costs is are count few some other others also) in
          let best_of = best.least other less (subst (λ (n : ℕ). IsOrder n other) (sym count) also.is_order) there in
          omega arith;
    }
