-- Seats of nodes and the links that leave them, as they are made.
use Rattle.std.proofs.Common.{◌≡◌, ◌≢◌, ℕ, suc, ◌+◌, ◌*◌, ◌<◌, ◌≤◌, ◌==◌, Bool, true, false, cond, List, [], ◌∷◌, ◌++◌, Option, Some, None, All, length, map, take, get_or, set, refl, sym, ap, ap₂, ◌∙◌, subst, inl, inr, arith, length-set, eq-eqb, get_or-set_same, get_or-set_other}
use Rattle.std.specs.Prelude.{Contains, slice_get, sum_by, nat_lt}
use Rattle.std.proofs.lemmas.Bool.{cases_eq, ne_eqb}
use Rattle.std.proofs.lemmas.List.{append-nil}
use Rattle.std.proofs.lemmas.List.Sums.{sum_by-append, sum_by-cons}
use Rattle.std.proofs.lemmas.List.Elements.{All-contains_itself}
use Rattle.std.proofs.lemmas.Option.{slice_get_within}
use Rattle.std.proofs.Math.Nat.{mul-le-mul}
use Rattle.rule_reports.proofs.Members.{Contains-first, Contains-later}
use Rattle.venue_types.specs.declared.link.Link.{Link}
use Rattle.unit_sight.specs.Tables.{joins, neighbours}
use Rattle.unit_sight.proofs.Counts.{count_few}
use Rattle.venue_nodes.specs.declared.members.Membership.{Membership}
use Rattle.venue_nodes.specs.Crowds.{square_of}
use Rattle.venue_nodes.specs.Members.{places_where}
use Rattle.venue_nodes.specs.Standing.{standings}
use Rattle.venue_nodes.proofs.Places.{places_few, places_more}
use Rattle.link_graph.specs.declared.parts.Core.{Core}
use Rattle.link_graph.specs.declared.parts.Crossing.{Crossing}
use Rattle.link_graph.specs.declared.parts.Seat.{Seat}
use Rattle.link_graph.specs.Cores.{IsTableOf, others_in, seats_from}
use Rattle.link_graph.specs.Making.{others_among, seats_among, AreLeaving, AreTables}
use Rattle.link_graph.proofs.LeadingSeats.{standing_at}

-- ---- few links leave a node across units

others_bound : (o : Option Crossing) (row : List ℕ) (i : ℕ) → ((crossing : Crossing) → o ≡ Some crossing → IsTableOf crossing row)
    → elim o [ None ↦ 0 | Some crossing ↦ cond crossing.walked (length (neighbours crossing.sights i)) 0 ] ≤ length row
others_bound None row i fits = omega arith
others_bound (Some crossing) row i fits = walked_bound crossing.walked
  where
    walked_bound : (b : Bool) → cond b (length (neighbours crossing.sights i)) 0 ≤ length row
    walked_bound true = let few = count_few (joins crossing.sights i) (length crossing.sights) in let long = (fits crossing refl).long in omega (arith, few, long)
    walked_bound false = omega arith

others_few : (crossings : List Crossing) (rows : List (List ℕ)) (w i : ℕ) (row : List ℕ) → AreTables crossings rows → slice_get rows w ≡ Some row → others_among crossings w i ≤ length row
others_few crossings rows w i row tables at = others_bound (slice_get crossings w) row i (λ crossing h. tables.each w crossing row h at)

sum_here : (others : ℕ → ℕ → ℕ) (w most : ℕ) (ps : List ℕ) → ((p : ℕ) → others w p ≤ most) → sum_by (λ (m : Membership). others m.unit m.place) (map (λ p. record { unit = w; place = p }) ps) ≤ length ps * most
sum_here others w most [] few = omega arith
sum_here others w most (p ∷ ps) few =
    let f : Membership → ℕ = λ m. others m.unit m.place in
    let behind : List Membership = map (λ q. record { unit = w; place = q }) ps in
    let one : sum_by f (record { unit = w; place = p } ∷ behind) ≡ others w p + sum_by f behind = sum_by-cons f (record { unit = w; place = p }) behind in
    let rest : sum_by f behind ≤ length ps * most = sum_here others w most ps few in
    let here : others w p ≤ most = few p in
    omega arith

sum_few : (others : ℕ → ℕ → ℕ) (node w : ℕ) (rows : List (List ℕ)) → ((v i : ℕ) (row : List ℕ) → slice_get rows v ≡ Some row → others (w + v) i ≤ length row)
    → sum_by (λ (m : Membership). others m.unit m.place) (standings node w rows) ≤ sum_by square_of rows
sum_few others node w [] few = omega arith
sum_few others node w (row ∷ rows) few =
    let f : Membership → ℕ = λ m. others m.unit m.place in
    let places = places_where (λ m. m == node) 0 row in
    let here : List Membership = map (λ p. record { unit = w; place = p }) places in
    let behind = standings node (w + 1) rows in
    let at : w + 0 ≡ w = omega arith in
    let short : length places ≤ length row = places_few (λ m. m == node) 0 row in
    let product : length places * length row ≤ length row * length row = mul-le-mul short (omega arith) in
    let one : sum_by f here ≤ length places * length row = sum_here others w (length row) places (λ p. subst (λ n. others n p ≤ length row) at (few 0 p row refl)) in
    let rest : sum_by f behind ≤ sum_by square_of rows = sum_few others node (w + 1) rows (λ v i r e. let on : w + suc v ≡ w + 1 + v = omega arith in subst (λ n. others n i ≤ length r) on (few (suc v) i r e)) in
    let both : sum_by f (here ++ behind) ≡ sum_by f here + sum_by f behind = sum_by-append f here behind in
    let squares : sum_by square_of (row ∷ rows) ≡ length row * length row + sum_by square_of rows = sum_by-cons square_of row rows in
    omega arith

pub seats_few : (crossings : List Crossing) (rows : List (List ℕ)) (node : ℕ) (memberships : List Membership) → memberships ≡ standings node 0 rows → AreTables crossings rows → sum_by square_of rows ≤ 20000000
    → sum_by (λ (m : Membership). others_among crossings m.unit m.place) memberships ≤ 20000000
seats_few crossings rows node memberships are tables squares =
    let bound = sum_few (others_among crossings) node 0 rows (λ v i row at. let none : 0 + v ≡ v = omega arith in subst (λ n. others_among crossings n i ≤ length row) (sym none) (others_few crossings rows v i row tables at)) in
    let most : sum_by (λ (m : Membership). others_among crossings m.unit m.place) (standings node 0 rows) ≤ 20000000 = omega (arith, bound, squares) in
    subst (λ (ms : List Membership). sum_by (λ (m : Membership). others_among crossings m.unit m.place) ms ≤ 20000000) (sym are) most

-- ---- where a node stands there is a place in the table

place_within : (crossings : List Crossing) (rows : List (List ℕ)) (node : ℕ) (m : Membership) (crossing : Crossing) → AreTables crossings rows → Contains (standings node 0 rows) m
    → slice_get crossings m.unit ≡ Some crossing → m.place < length crossing.sights
place_within crossings rows node m crossing tables h unit =
    let standing = standing_at node 0 rows m h in
    let is : m.unit ≡ 0 + standing.k = standing.is in
    let same : standing.k ≡ m.unit = omega (arith, is) in
    let there = subst (λ k. slice_get rows k ≡ Some standing.row) same standing.there in
    let within = slice_get_within standing.row m.place node standing.stands in
    let long = (tables.each m.unit crossing standing.row unit there).long in
    omega (arith, within, long)

pub places_in : (crossings : List Crossing) (rows : List (List ℕ)) (node : ℕ) (memberships : List Membership) → memberships ≡ standings node 0 rows → AreTables crossings rows
    → All (λ (m : Membership). (crossing : Crossing) → slice_get crossings m.unit ≡ Some crossing → m.place < length crossing.sights) memberships
places_in crossings rows node memberships are tables = λ k d within crossing unit.
    place_within crossings rows node (get_or memberships k d) crossing tables
    (subst (λ (ms : List Membership). Contains ms (get_or memberships k d)) are (All-contains_itself memberships k d within)) unit

-- ---- the seats of a graph

pub seats_same : (core : Core) (at : ℕ) (ms : List Membership) → seats_from core at ms ≡ seats_among core.crossings.items at ms
seats_same core at [] = refl
seats_same core at (m ∷ ms) =
    let more = others_in core m.unit m.place in
    let seat : Seat = record { row = m.unit; place = m.place; first = at } in
    ap₂ (λ (xs ys : List Seat). cond (nat_lt 0 more) (seat ∷ xs) ys) (seats_same core (at + more) ms) (seats_same core at ms)

lacks : (node bound n : ℕ) (row : List ℕ) → bound ≤ node → ((m : ℕ) → Contains row m → m < bound) → places_where (λ m. m == node) n row ≡ []
lacks node bound n [] past within = refl
lacks node bound n (m ∷ row) past within =
    let under : m < bound = within m (Contains-first m row) in
    let apart : m ≢ node = omega arith in
    let rest = lacks node bound (n + 1) row past (λ k h. within k (Contains-later m row k h)) in
    ap (λ (b : Bool). cond b (n ∷ places_where (λ k. k == node) (n + 1) row) (places_where (λ k. k == node) (n + 1) row)) (ne_eqb m node apart) ∙ rest

-- what is no node stands in no row
pub stands_nowhere : (node bound w : ℕ) (rows : List (List ℕ)) → bound ≤ node → ((row : List ℕ) (m : ℕ) → Contains rows row → Contains row m → m < bound) → standings node w rows ≡ []
stands_nowhere node bound w [] past within = refl
stands_nowhere node bound w (row ∷ rows) past within =
    ap₂ (λ (ps : List ℕ) (ms : List Membership). map (λ p. record { unit = w; place = p }) ps ++ ms)
    (lacks node bound 0 row past (λ m h. within row m (Contains-first row rows) h))
    (stands_nowhere node bound (w + 1) rows past (λ r m h k. within r m (Contains-later row rows r h) k))

-- ---- the links that leave a node

abbrev starts_at : ℕ → Link → Bool
starts_at n link = link.from == n

next_listed : (links : List Link) (k from n : ℕ) (d : Link) (old new : List (List ℕ)) → k < length links → (get_or links k d).from ≡ from → from < length old
    → new ≡ set old from (get_or old from [] ++ k ∷ []) → get_or old n [] ≡ places_where (starts_at n) 0 (take k links) → get_or new n [] ≡ places_where (starts_at n) 0 (take (k + 1) links)
next_listed links k from n d old new within is inside grown before =
    let link = get_or links k d in
    let more = places_more (starts_at n) links k d within in
    elim (cases_eq from n) [
      | inl same ↦
          let yes : (link.from == n) ≡ true = eq-eqb link.from n (is ∙ same) in
          let at : n < length old = subst (λ m. m < length old) same inside in
          let here : new ≡ set old n (get_or old n [] ++ k ∷ []) = subst (λ m. new ≡ set old m (get_or old m [] ++ k ∷ [])) same grown in
          ap (λ (ls : List (List ℕ)). get_or ls n []) here
          ∙ get_or-set_same old n (get_or old n [] ++ k ∷ []) [] at
          ∙ ap (λ (ps : List ℕ). ps ++ k ∷ []) before
          ∙ ap (λ (b : Bool). places_where (starts_at n) 0 (take k links) ++ cond b (k ∷ []) []) (sym yes)
          ∙ sym more
      | inr other ↦
          let no : (link.from == n) ≡ false = ne_eqb link.from n (λ e. other (sym is ∙ e)) in
          let apart : n ≢ from = λ e. other (sym e) in
          ap (λ (ls : List (List ℕ)). get_or ls n []) grown
          ∙ get_or-set_other old from n (get_or old from [] ++ k ∷ []) [] apart
          ∙ before
          ∙ sym (append-nil (places_where (starts_at n) 0 (take k links)))
          ∙ ap (λ (b : Bool). places_where (starts_at n) 0 (take k links) ++ cond b (k ∷ []) []) (sym no)
          ∙ sym more
    ]

pub leaving_step : (links : List Link) (k count : ℕ) (d : Link) (old new : List (List ℕ)) → k < length links → All (λ (link : Link). link.from < count) links → AreLeaving (take k links) count old
    → new ≡ set old (get_or links k d).from (get_or old (get_or links k d).from [] ++ k ∷ []) → AreLeaving (take (k + 1) links) count new
leaving_step links k count d old new within all before grown =
    let from = (get_or links k d).from in
    let under : from < count = all k d within in
    let inside : from < length old = subst (λ m. from < m) (sym before.many) under in
    record {
      many = ap (λ (ls : List (List ℕ)). length ls) grown ∙ length-set old from (get_or old from [] ++ k ∷ []) ∙ before.many;
      each = λ n. next_listed links k from n d old new within refl inside grown (before.each n);
    }
