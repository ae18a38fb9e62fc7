-- Rows filled node by node.
use Rattle.std.proofs.Common.{◌≡◌, ◌≢◌, ℕ, ◌+◌, ◌≤◌, ◌<◌, suc, List, [], ◌∷◌, ◌++◌, Some, Bool, true, false, cond, eqb, eq-eqb, length, map, take, get_or, set, refl, sym, ap, subst, ◌∙◌, arith, inl, inr, append_assoc, append-nil}
use Rattle.std.specs.Prelude.{All, replicate, slice_get}
use Rattle.std.proofs.lemmas.Bool.{cases_Bool, cases_lt, eqb-true}
use Rattle.std.proofs.lemmas.List.{get_or_at, set_at, get_or_past, get_or_push, get_or_append_left, length_push, take_more, take_all, length-take-le, length-map, length-take}
use Rattle.std.proofs.lemmas.Option.{slice_get-get_or, slice_get_within, get_or_from_slice_get}
use Rattle.venue_types.specs.declared.feature_id.FeatureId.{FeatureId}
use Rattle.venue_nodes.specs.declared.members.Membership.{Membership}
use Rattle.venue_nodes.specs.Members.{places_where}
use Rattle.venue_nodes.specs.Standing.{standings}
use Rattle.venue_nodes.specs.Naming.{names, numbers, row_in}
use Rattle.venue_nodes.specs.Filling.{seat, joined, AreNumbers, AreFilled}
use Rattle.venue_nodes.proofs.Items.{from_map}
use Rattle.venue_nodes.proofs.Places.{places-push, places_few, places_within}

-- the node, where the test holds
abbrev once : Bool → ℕ → List ℕ
once b node = cond b (node ∷ []) []

-- ---- the rows

-- the node at the end of each row whose unit passes
joined_step : {U : Type 0} (f : U → List ℕ) (node : ℕ) (front : List (List ℕ)) (u : U) (us : List U) (rest : List ℕ) (k : ℕ) (want : List (List ℕ)) → length front ≡ k
    → ((row : List ℕ) → joined node rest ((front ++ row ∷ []) ++ map f us) ≡ (front ++ row ∷ []) ++ want)
    → (b : Bool) → joined node (cond b (k ∷ rest) rest) (front ++ (f u ∷ map f us)) ≡ front ++ ((f u ++ once b node) ∷ want)
joined_step {U} f node front u us rest k want long later true =
    let found : get_or (front ++ (f u ∷ map f us)) k [] ≡ f u = get_or_at front (f u) (map f us) [] k long in
    let row = f u ++ node ∷ [] in
    ap (λ (r : List ℕ). joined node rest (set (front ++ (f u ∷ map f us)) k (r ++ node ∷ []))) found
    ∙ ap (joined node rest) (set_at front (f u) (map f us) row k long ∙ sym (append_assoc front (row ∷ []) (map f us)))
    ∙ later row ∙ append_assoc front (row ∷ []) want
joined_step {U} f node front u us rest k want long later false =
    ap (joined node rest) (sym (append_assoc front (f u ∷ []) (map f us)))
    ∙ later (f u) ∙ append_assoc front (f u ∷ []) want
    ∙ ap (λ (r : List ℕ). front ++ (r ∷ want)) (sym (append-nil (f u)))

pub joined_rows : {U : Type 0} (t : U → Bool) (f : U → List ℕ) (node k : ℕ) (front : List (List ℕ)) (us : List U) → length front ≡ k
    → joined node (places_where t k us) (front ++ map f us) ≡ front ++ map (λ u. f u ++ once (t u) node) us
joined_rows t f node k front [] long = refl
joined_rows t f node k front (u ∷ us) long =
    joined_step f node front u us (places_where t (k + 1) us) k (map (λ v. f v ++ once (t v) node) us) long
    (λ row. joined_rows t f node (k + 1) (front ++ row ∷ []) us (length_push front row ∙ ap (λ (n : ℕ). n + 1) long)) (t u)

-- ---- the seats

abbrev is : ℕ → ℕ → Bool
is node m = eqb m node

here : (node : ℕ) → is node node ≡ true
here node = eq-eqb node node refl

elsewhere : (node m : ℕ) → m ≢ node → is node m ≡ false
elsewhere node m other = elim (cases_Bool (eqb m node)) [
  | inl same ↦ absurd (other (eqb-true m node same))
  | inr e ↦ e
]

-- the place of the node behind a row that lacks it
seat_behind : (node : ℕ) (row : List ℕ) → places_where (is node) 0 row ≡ [] → places_where (is node) 0 (row ++ node ∷ []) ≡ length row ∷ []
seat_behind node row lacks = places-push (is node) row node ∙ ap (λ (ps : List ℕ). ps ++ cond (is node node) (length row ∷ []) []) lacks ∙ ap (λ (b : Bool). cond b (length row ∷ []) []) (here node)

-- another node behind a row changes nothing
seat_other : (node other : ℕ) (row : List ℕ) (b : Bool) → other ≢ node → places_where (is node) 0 (row ++ once b other) ≡ places_where (is node) 0 row
seat_other node other row true apart = places-push (is node) row other ∙ ap (λ (c : Bool). places_where (is node) 0 row ++ cond c (length row ∷ []) []) (elsewhere node other apart) ∙ append-nil (places_where (is node) 0 row)
seat_other node other row false apart = ap (places_where (is node) 0) (append-nil row)

pub others_stand : {U : Type 0} (t : U → Bool) (f : U → List ℕ) (node other w : ℕ) (us : List U) → other ≢ node
    → standings node w (map (λ u. f u ++ once (t u) other) us) ≡ standings node w (map f us)
others_stand t f node other w [] apart = refl
others_stand t f node other w (u ∷ us) apart =
    ap (λ (ps : List ℕ). map (λ p. let m : Membership = record { unit = w; place = p } in m) ps ++ standings node (w + 1) (map (λ v. f v ++ once (t v) other) us)) (seat_other node other (f u) (t u) apart)
    ∙ ap (λ (ms : List Membership). map (λ p. let m : Membership = record { unit = w; place = p } in m) (places_where (is node) 0 (f u)) ++ ms) (others_stand t f node other (w + 1) us apart)

seats_step : {U : Type 0} (f : U → List ℕ) (node w : ℕ) (front : List (List ℕ)) (u : U) (us : List U) (rest : List ℕ) (later : List Membership) → length front ≡ w → places_where (is node) 0 (f u) ≡ []
    → later ≡ map (seat ((front ++ f u ∷ []) ++ map f us)) rest
    → (b : Bool) → map (λ p. let m : Membership = record { unit = w; place = p } in m) (places_where (is node) 0 (f u ++ once b node)) ++ later ≡ map (seat (front ++ (f u ∷ map f us))) (cond b (w ∷ rest) rest)
seats_step f node w front u us rest later long lacks then true =
    let all = front ++ (f u ∷ map f us) in
    let found : get_or all w [] ≡ f u = get_or_at front (f u) (map f us) [] w long in
    ap (λ (ps : List ℕ). map (λ p. let m : Membership = record { unit = w; place = p } in m) ps ++ later) (seat_behind node (f u) lacks)
    ∙ ap (λ (r : List ℕ). let m : Membership = record { unit = w; place = length r } in m ∷ later) (sym found)
    ∙ ap (λ (ms : List Membership). seat all w ∷ ms) (then ∙ ap (λ (rows : List (List ℕ)). map (seat rows) rest) (append_assoc front (f u ∷ []) (map f us)))
seats_step f node w front u us rest later long lacks then false =
    ap (λ (ps : List ℕ). map (λ p. let m : Membership = record { unit = w; place = p } in m) ps ++ later) (ap (places_where (is node) 0) (append-nil (f u)) ∙ lacks)
    ∙ then ∙ ap (λ (rows : List (List ℕ)). map (seat rows) rest) (append_assoc front (f u ∷ []) (map f us))

pub node_stands : {U : Type 0} (t : U → Bool) (f : U → List ℕ) (node w : ℕ) (front : List (List ℕ)) (us : List U) → length front ≡ w → ((u : U) → places_where (is node) 0 (f u) ≡ [])
    → standings node w (map (λ u. f u ++ once (t u) node) us) ≡ map (seat (front ++ map f us)) (places_where t w us)
node_stands t f node w front [] long lacks = refl
node_stands t f node w front (u ∷ us) long lacks =
    seats_step f node w front u us (places_where t (w + 1) us) (standings node (w + 1) (map (λ v. f v ++ once (t v) node) us)) long (lacks u)
    (node_stands t f node (w + 1) (front ++ f u ∷ []) us (length_push front (f u) ∙ ap (λ (n : ℕ). n + 1) long) lacks) (t u)

-- ---- a node that no row has

none_in : (node n : ℕ) (xs : List ℕ) → ((w p : ℕ) → slice_get xs w ≡ Some p → p ≢ node) → places_where (is node) n xs ≡ []
none_in node n [] apart = refl
none_in node n (x ∷ xs) apart =
    ap (λ (b : Bool). cond b (n ∷ places_where (is node) (n + 1) xs) (places_where (is node) (n + 1) xs)) (elsewhere node x (apart 0 x refl))
    ∙ none_in node (n + 1) xs (λ w p at. apart (suc w) p at)

-- the rows of the nodes in front lack the next
pub lacks_next : (nodes : List (List FeatureId)) (node : ℕ) (own : FeatureId) → length nodes ≤ node → places_where (is node) 0 (row_in nodes own) ≡ []
lacks_next nodes node own few = none_in node 0 (row_in nodes own) (λ w p at same.
    let under : p < length nodes = places_within (λ (ids : List FeatureId). names ids own) nodes w p at in
    omega arith)

pub lacks_all : (nodes : List (List FeatureId)) (node w : ℕ) (owns : List FeatureId) → length nodes ≤ node → standings node w (map (row_in nodes) owns) ≡ []
lacks_all nodes node w [] few = refl
lacks_all nodes node w (own ∷ owns) few =
    ap (λ (ps : List ℕ). map (λ p. let m : Membership = record { unit = w; place = p } in m) ps ++ standings node (w + 1) (map (row_in nodes) owns)) (lacks_next nodes node own few)
    ∙ lacks_all nodes node (w + 1) owns few

-- ---- the rows before any node

empty_are : (owns : List FeatureId) → replicate (length owns) [] ≡ map (row_in []) owns
empty_are [] = refl
empty_are (own ∷ owns) = ap (λ (rows : List (List ℕ)). [] ∷ rows) (empty_are owns)

pub none_seated : (owns : List FeatureId) (count : ℕ) (rows : List (List ℕ)) (seats : List (List Membership)) → rows ≡ replicate count [] → count ≡ length owns → seats ≡ [] → AreFilled owns [] rows seats
none_seated owns count rows seats empty many none =
    let are : rows ≡ map (row_in []) owns = empty ∙ ap (λ (n : ℕ). let rs : List (List ℕ) = replicate n [] in rs) many ∙ empty_are owns in
    record {
      rows_are = are;
      count = ap length none;
      standing = record {
        each = λ node.
            ap (λ (ss : List (List Membership)). get_or ss node []) none ∙ sym (lacks_all [] node 0 owns (omega arith)) ∙ ap (standings node 0) (sym are);
      };
    }

-- ---- one node more

map_same : {A B : Type 0} (f g : A → B) (xs : List A) → ((x : A) → f x ≡ g x) → map f xs ≡ map g xs
map_same f g [] e = refl
map_same {A} {B} f g (x ∷ xs) e = ap (λ (y : B). y ∷ map f xs) (e x) ∙ ap (λ (ys : List B). g x ∷ ys) (map_same f g xs e)

row_on : (nodes : List (List FeatureId)) (ids : List FeatureId) (node : ℕ) → node ≡ length nodes → (own : FeatureId) → row_in nodes own ++ once (names ids own) node ≡ row_in (nodes ++ ids ∷ []) own
row_on nodes ids node at own =
    ap (λ (n : ℕ). row_in nodes own ++ once (names ids own) n) at ∙ sym (places-push (λ (xs : List FeatureId). names xs own) nodes ids)

rows_on : (owns : List FeatureId) (nodes : List (List FeatureId)) (ids : List FeatureId) (node : ℕ) (rows : List (List ℕ)) → node ≡ length nodes → rows ≡ map (row_in nodes) owns
    → joined node (numbers owns ids) rows ≡ map (λ own. row_in nodes own ++ once (names ids own) node) owns
rows_on owns nodes ids node rows at are =
    ap (joined node (numbers owns ids)) are ∙ joined_rows (names ids) (row_in nodes) node 0 [] owns refl

seat_on : (owns : List FeatureId) (nodes : List (List FeatureId)) (ids : List FeatureId) (node : ℕ) (rows : List (List ℕ)) (seats : List (List Membership)) → node ≡ length nodes → AreFilled owns nodes rows seats
    → (n : ℕ) → get_or (seats ++ map (seat rows) (numbers owns ids) ∷ []) n [] ≡ standings n 0 (map (λ own. row_in nodes own ++ once (names ids own) node) owns)
seat_on owns nodes ids node rows seats at filled n =
    let new = map (seat rows) (numbers owns ids) in
    let size : length seats ≡ length nodes = filled.count in
    let later : List (List ℕ) = map (λ own. row_in nodes own ++ once (names ids own) node) owns in
    let before : get_or seats n [] ≡ standings n 0 (map (row_in nodes) owns) = filled.standing.each n ∙ ap (standings n 0) filled.rows_are in
    elim (cases_lt n node) [
      | inl under ↦
          get_or_append_left seats (new ∷ []) [] n (omega arith) ∙ before ∙ sym (others_stand (names ids) (row_in nodes) n node 0 owns (λ same. omega arith))
      | inr over ↦ elim (cases_lt node n) [
        | inl past ↦
            let long : length (seats ++ new ∷ []) ≡ length seats + 1 = length_push seats new in
            get_or_past (seats ++ new ∷ []) n [] (omega arith) ∙ sym (get_or_past seats n [] (omega arith)) ∙ before
            ∙ sym (others_stand (names ids) (row_in nodes) n node 0 owns (λ same. omega arith))
        | inr within ↦
            let same : n ≡ node = omega arith in
            get_or_push seats new [] n (omega arith)
            ∙ ap (λ (rs : List (List ℕ)). map (seat rs) (numbers owns ids)) filled.rows_are
            ∙ sym (node_stands (names ids) (row_in nodes) node 0 [] owns refl (λ own. lacks_next nodes node own (omega arith)))
            ∙ ap (λ (m : ℕ). standings m 0 later) (sym same)
      ]
    ]

pub seated : (owns : List FeatureId) (nodes : List (List FeatureId)) (ids : List FeatureId) (node : ℕ) (rows rows' : List (List ℕ)) (seats seats' : List (List Membership)) → node ≡ length nodes → AreFilled owns nodes rows seats
    → rows' ≡ joined node (numbers owns ids) rows → seats' ≡ seats ++ map (seat rows) (numbers owns ids) ∷ [] → AreFilled owns (nodes ++ ids ∷ []) rows' seats'
seated owns nodes ids node rows rows' seats seats' at filled joins adds =
    let are : rows' ≡ map (λ own. row_in nodes own ++ once (names ids own) node) owns = joins ∙ rows_on owns nodes ids node rows at filled.rows_are in
    let more : length (nodes ++ ids ∷ []) ≡ length nodes + 1 = length_push nodes ids in
    let long : length (seats ++ map (seat rows) (numbers owns ids) ∷ []) ≡ length seats + 1 = length_push seats (map (seat rows) (numbers owns ids)) in
    record {
      rows_are = are ∙ map_same (λ own. row_in nodes own ++ once (names ids own) node) (row_in (nodes ++ ids ∷ [])) owns (row_on nodes ids node at);
      count = ap length adds ∙ long ∙ ap (λ (n : ℕ). n + 1) filled.count ∙ sym more;
      standing = record { each = λ n. ap (λ (ss : List (List Membership)). get_or ss n []) adds ∙ seat_on owns nodes ids node rows seats at filled n ∙ ap (standings n 0) (sym are) };
    }

-- ---- what a step needs

pub named_at : (owns : List FeatureId) (nodes : List (List FeatureId)) (lists : List (List ℕ)) (node : ℕ) (list : List ℕ) → AreNumbers owns nodes lists → slice_get lists node ≡ Some list
    → (ids : List FeatureId) × (slice_get nodes node ≡ Some ids) × (numbers owns ids ≡ list)
named_at owns nodes lists node list are at = from_map (numbers owns) nodes node list (subst (λ (ls : List (List ℕ)). slice_get ls node ≡ Some list) are.each at)

numbers_within : (owns ids : List FeatureId) → All (λ w. w < length owns) (numbers owns ids)
numbers_within owns ids = λ k d within. places_within (names ids) owns k (get_or (numbers owns ids) k d) (slice_get-get_or (numbers owns ids) k d within)

pub list_within : (owns : List FeatureId) (nodes : List (List FeatureId)) (lists : List (List ℕ)) (node count : ℕ) (list : List ℕ) → AreNumbers owns nodes lists → slice_get lists node ≡ Some list → length owns ≡ count
    → All (λ w. w < count) list
list_within owns nodes lists node count list are at same =
    let r = named_at owns nodes lists node list are at in
    subst (λ (n : ℕ). All (λ w. w < n) list) same (subst (λ (ws : List ℕ). All (λ w. w < length owns) ws) r.2 (numbers_within owns r.0))

pub rows_few : (owns : List FeatureId) (nodes : List (List FeatureId)) (rows : List (List ℕ)) → rows ≡ map (row_in nodes) owns → length nodes ≤ 1100000 → All (λ row. length row ≤ 1100000) rows
rows_few owns nodes rows are few = λ k d within.
    let r = from_map (row_in nodes) owns k (get_or rows k d) (subst (λ (rs : List (List ℕ)). slice_get rs k ≡ Some (get_or rows k d)) are (slice_get-get_or rows k d within)) in
    let long : length (row_in nodes r.0) ≤ length nodes = places_few (λ (ids : List FeatureId). names ids r.0) 0 nodes in
    subst (λ (row : List ℕ). length row ≤ 1100000) r.2 (omega arith)

pub nodes_few : (owns : List FeatureId) (nodes : List (List FeatureId)) (lists : List (List ℕ)) (node : ℕ) → AreNumbers owns nodes lists → length lists ≤ 1100000 → length (take node nodes) ≤ 1100000
nodes_few owns nodes lists node are few =
    let same : length lists ≡ length nodes = ap length are.each ∙ length-map nodes (numbers owns) in
    let part : length (take node nodes) ≡ _ = length-take node nodes in
    omega arith

pub rows_many : (owns : List FeatureId) (nodes : List (List FeatureId)) (rows : List (List ℕ)) → rows ≡ map (row_in nodes) owns → length owns ≡ length rows
rows_many owns nodes rows are = sym (ap length are ∙ length-map owns (row_in nodes))

pub step : (owns : List FeatureId) (nodes : List (List FeatureId)) (lists : List (List ℕ)) (node : ℕ) (list : List ℕ) (rows rows' : List (List ℕ)) (seats seats' : List (List Membership)) → AreNumbers owns nodes lists → slice_get lists node ≡ Some list
    → AreFilled owns (take node nodes) rows seats → rows' ≡ joined node list rows → seats' ≡ seats ++ map (seat rows) list ∷ [] → AreFilled owns (take (node + 1) nodes) rows' seats'
step owns nodes lists node list rows rows' seats seats' are at filled joins adds =
    let r = named_at owns nodes lists node list are at in
    let within : node < length nodes = slice_get_within nodes node r.0 r.1 in
    let size : length (take node nodes) ≡ node = length-take-le node nodes (omega arith) in
    let here : get_or nodes node r.0 ≡ r.0 = get_or_from_slice_get nodes node r.0 r.0 r.1 in
    let more : take node nodes ++ r.0 ∷ [] ≡ take (node + 1) nodes = ap (λ (ids : List FeatureId). take node nodes ++ ids ∷ []) (sym here) ∙ sym (take_more nodes node r.0 within) in
    subst (λ (ns : List (List FeatureId)). AreFilled owns ns rows' seats') more
    (seated owns (take node nodes) r.0 node rows rows' seats seats' (sym size) filled
    (joins ∙ ap (λ (ws : List ℕ). joined node ws rows) (sym r.2)) (adds ∙ ap (λ (ws : List ℕ). seats ++ map (seat rows) ws ∷ []) (sym r.2)))

pub all_seated : (owns : List FeatureId) (nodes : List (List FeatureId)) (lists : List (List ℕ)) (node : ℕ) (rows : List (List ℕ)) (seats : List (List Membership)) → AreNumbers owns nodes lists → length lists ≤ node
    → AreFilled owns (take node nodes) rows seats → AreFilled owns nodes rows seats
all_seated owns nodes lists node rows seats are past filled =
    let same : length lists ≡ length nodes = ap length are.each ∙ length-map nodes (numbers owns) in
    subst (λ (ns : List (List FeatureId)). AreFilled owns ns rows seats) (take_all node nodes (omega arith)) filled
