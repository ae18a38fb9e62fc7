-- Which members of a unit are joined, as its table tells: the table of a room is made of what its members see, and fits its row.
use Rattle.std.proofs.Common.{◌≡◌, ℕ, ◌<◌, ◌≤◌, Bool, true, false, cond, not, ◌&&◌, ◌||◌, ◌==◌, List, [], ◌∷◌, Option, length, map, get_or, pos, refl, sym, ap, ap₂, ◌∙◌, subst, inl, inr, arith}
use Rattle.std.specs.Prelude.{Contains}
use Rattle.std.specs.List.{list_all}
use Rattle.std.specs.Option.{option_map_or}
use Rattle.std.specs.List.Sorted.{IsStrictlyIncreasing}
use Rattle.std.proofs.lemmas.Bool.{cases_lt, eq-eqb, ne_eqb}
use Rattle.std.proofs.lemmas.List.{length-map, get_or-map, get_or_past}
use Rattle.std.proofs.lemmas.List.Elements.{Contains-get_or}
use Rattle.std.proofs.lemmas.List.Kept.{AllPairs-from_increasing}
use Rattle.std.proofs.lemmas.Map.Keys.{IsStrictlyIncreasing-from_sorted}
use Rattle.std.proofs.lemmas.Option.{slice_get_within, get_or_from_slice_get}
use Rattle.venue_types.proofs.Items.{Contains-first, Contains-later}
use Rattle.venue_types.specs.declared.features.Features.{Features}
use Rattle.venue_types.specs.declared.features.UnitRow.{UnitRow}
use Rattle.venue_types.specs.declared.point.Spot.{Spot}
use Rattle.venue_types.specs.declared.settings.Inside.{Inside}
use Rattle.venue_types.specs.declared.settings.Inside.TheVariants.{Straight, Clear}
use Rattle.venue_types.specs.declared.settings.Settings.{Settings}
use Rattle.unit_sight.specs.Joined.{is_blind, are_blind, nearest, host_of, is_guest_of, is_joined}
use Rattle.unit_sight.specs.Rooms.{joined_places, sees_in}
use Rattle.unit_sight.specs.Tables.{joins, places, table_of}
use Rattle.unit_sight.proofs.PlacesLaw.{joined_by_place}
use Rattle.unit_sight.proofs.TableLemmas.{get_or_places, joins_table, length_places, length_table, table_same}
use Rattle.venue_nodes.specs.Members.{members, is_member}
use Rattle.venue_nodes.specs.Nodes.{nodes, node_rows, carries}
use Rattle.venue_nodes.proofs.Places.{places_rise}
use Rattle.plane_exact.proofs.DecisionLemmas.{not_true}
use Rattle.link_graph.specs.Cores.{joined_in, place_in, IsTableOf}
use Rattle.link_graph.specs.Links.{are_joined, joined_by, sees, way, wall_tol}
use Rattle.link_graph.specs.Making.{crossing_of, joined_at, room_table, spot_at}
use Rattle.link_graph.proofs.Joined.{filter_same, joined_apart}
use Rattle.link_graph.proofs.RoomSpots.{far_at}
use Rattle.link_graph.proofs.TableRows.{at_place}

pub members_rise : (features : Features) (settings : Settings) (u : UnitRow) → IsStrictlyIncreasing (members features settings u)
unfolding members
members_rise features settings u = IsStrictlyIncreasing-from_sorted _ (places_rise (is_member settings.border_tol u) 0 (node_rows features settings))

-- ---- tests of sight that agree on the members of a room

all_same : (p q : ℕ → Bool) (xs : List ℕ) → ((x : ℕ) → Contains xs x → p x ≡ q x) → list_all p xs ≡ list_all q xs
all_same p q [] same = refl
all_same p q (x ∷ xs) same = ap₂ (λ (a b : Bool). a && b) (same x (Contains-first x xs)) (all_same p q xs (λ y h. same y (Contains-later x xs y h)))

-- the tests agree
abbrev AgreeOn : List ℕ → (ℕ → ℕ → Bool) → (ℕ → ℕ → Bool) → Type 0
AgreeOn xs s t = (a b : ℕ) → Contains xs a → Contains xs b → s a b ≡ t a b

blind_agrees : (s t : ℕ → ℕ → Bool) (xs : List ℕ) (a : ℕ) → AgreeOn xs s t → Contains xs a → is_blind s xs a ≡ is_blind t xs a
blind_agrees s t xs a same own = all_same (λ b. (a == b) || not (s a b)) (λ b. (a == b) || not (t a b)) xs (λ b h. ap (λ (seen : Bool). (a == b) || not seen) (same a b own h))

all_blind_agrees : (s t : ℕ → ℕ → Bool) (xs : List ℕ) → AgreeOn xs s t → are_blind s xs ≡ are_blind t xs
all_blind_agrees s t xs same = all_same (is_blind s xs) (is_blind t xs) xs (λ b h. blind_agrees s t xs b same h)

host_agrees : (s t : ℕ → ℕ → Bool) (far : ℕ → ℕ → ℕ) (xs : List ℕ) (a : ℕ) → AgreeOn xs s t → host_of s far xs a ≡ host_of t far xs a
host_agrees s t far xs a same = ap (nearest (far a)) (filter_same (λ b. not (is_blind s xs b)) (λ b. not (is_blind t xs b)) xs (λ b h. ap not (blind_agrees s t xs b same h)))

guest_agrees : (s t : ℕ → ℕ → Bool) (far : ℕ → ℕ → ℕ) (xs : List ℕ) (a b : ℕ) → AgreeOn xs s t → Contains xs a → is_guest_of s far xs a b ≡ is_guest_of t far xs a b
guest_agrees s t far xs a b same own =
    ap₂ (λ (blind is_host : Bool). blind && is_host) (blind_agrees s t xs a same own)
    (ap (λ (o : Option ℕ). option_map_or (λ host. host == b) o false) (host_agrees s t far xs a same))

joined_agrees : (s t : ℕ → ℕ → Bool) (far : ℕ → ℕ → ℕ) (xs : List ℕ) (a b : ℕ) → AgreeOn xs s t → Contains xs a → Contains xs b → is_joined s far xs a b ≡ is_joined t far xs a b
unfolding is_joined
joined_agrees s t far xs a b same own other =
    ap (λ (joined : Bool). not (a == b) && joined)
    (ap₂ (λ (seen more : Bool). seen || more) (same a b own other)
    (ap₂ (λ (tied blind : Bool). tied || blind)
    (ap₂ (λ (x y : Bool). x || y) (guest_agrees s t far xs a b same own) (guest_agrees s t far xs b a same other))
    (all_blind_agrees s t xs same)))

place_there : (n i : ℕ) → i < n → Contains (places n) i
place_there n i low =
    let size = length_places n in
    subst (λ (k : ℕ). Contains (places n) k) (get_or_places n i 0 low) (Contains-get_or (places n) i 0 (omega arith))

place_low : (n i : ℕ) → Contains (places n) i → i < n
place_low n i h =
    let size = length_places n in
    let low : h.0 < n = omega (arith, h.1, size) in
    let is : h.0 ≡ i = sym (get_or_places n h.0 i low) ∙ h.2 in
    omega (arith, low, is)

-- ---- the table of a room

-- the members at two places see each other where their spots do
spots_see : (features : Features) (settings : Settings) (u : UnitRow) (row : List ℕ) (t i j : ℕ) → t ≡ wall_tol settings → i < length row → j < length row
    → sees_in u.shape (map (spot_at (nodes features settings)) row) t i j ≡ sees features settings u (get_or row i 0) (get_or row j 0)
spots_see features settings u row t i j tolerance low high =
    let none : Spot = record { x = pos 0; y = pos 0 } in
    rw (tolerance, get_or-map (spot_at (nodes features settings)) row i 0 none low, get_or-map (spot_at (nodes features settings)) row j 0 none high) refl

-- joined by what is seen
clear_joins : (features : Features) (settings : Settings) (u : UnitRow) (a b : ℕ) → settings.inside ≡ Clear
    → is_joined (sees features settings u) (way features settings) (members features settings u) a b ≡ are_joined features settings u a b
unfolding are_joined
clear_joins features settings u a b clear = sym (ap (λ (i : Inside). joined_by i features settings u a b) clear)

places_join : (features : Features) (settings : Settings) (u : UnitRow) (row : List ℕ) (t i j : ℕ) → row ≡ members features settings u → t ≡ wall_tol settings → settings.inside ≡ Clear → i < length row → j < length row
    → is_joined (sees_in u.shape (map (spot_at (nodes features settings)) row) t) (far_at features settings row) (places (length row)) i j ≡ joined_at features settings u row i j
places_join features settings u row t i j is tolerance clear low high =
    let n = length row in
    let rise : IsStrictlyIncreasing row = subst (λ (r : List ℕ). IsStrictlyIncreasing r) (sym is) (members_rise features settings u) in
    joined_agrees (sees_in u.shape (map (spot_at (nodes features settings)) row) t) (λ k l. sees features settings u (get_or row k 0) (get_or row l 0)) (far_at features settings row) (places n) i j
    (λ k l h g. spots_see features settings u row t k l tolerance (place_low n k h) (place_low n l g)) (place_there n i low) (place_there n j high)
    ∙ joined_by_place (sees features settings u) (way features settings) row i j rise low high
    ∙ ap (λ (r : List ℕ). is_joined (sees features settings u) (way features settings) r (get_or row i 0) (get_or row j 0)) is
    ∙ clear_joins features settings u (get_or row i 0) (get_or row j 0) clear

still_table : (features : Features) (settings : Settings) (u : UnitRow) → carries u ≡ false
    → room_table features settings u ≡ table_of (length (members features settings u)) (joined_at features settings u (members features settings u))
still_table features settings u still =
    ap (λ (b : Bool). table_of (length (members features settings u)) (cond b (λ i j. not (i == j)) (joined_at features settings u (members features settings u)))) still

pub clear_table : (features : Features) (settings : Settings) (u : UnitRow) (row : List ℕ) (spots : List Spot) (t : ℕ) → row ≡ members features settings u → spots ≡ map (spot_at (nodes features settings)) row → t ≡ wall_tol settings
    → settings.inside ≡ Clear → carries u ≡ false → joined_places u.shape spots t (far_at features settings row) ≡ room_table features settings u
clear_table features settings u row spots t is there tolerance clear still =
    let listed = map (spot_at (nodes features settings)) row in
    let far = far_at features settings row in
    ap (λ (ss : List Spot). joined_places u.shape ss t far) there
    ∙ ap (λ (n : ℕ). table_of n (is_joined (sees_in u.shape listed t) far (places n))) (length-map row (spot_at (nodes features settings)))
    ∙ table_same (length row) (is_joined (sees_in u.shape listed t) far (places (length row))) (joined_at features settings u row)
    (λ i j low high. places_join features settings u row t i j is tolerance clear low high)
    ∙ ap (λ (r : List ℕ). table_of (length r) (joined_at features settings u r)) is
    ∙ sym (still_table features settings u still)

-- ---- rooms in which any two are joined

pub carried_table : (features : Features) (settings : Settings) (u : UnitRow) (row : List ℕ) → row ≡ members features settings u → carries u ≡ true
    → table_of (length row) (λ i j. not (i == j)) ≡ room_table features settings u
carried_table features settings u row is carried =
    ap (λ (r : List ℕ). table_of (length r) (λ i j. not (i == j))) is
    ∙ sym (ap (λ (b : Bool). table_of (length (members features settings u)) (cond b (λ i j. not (i == j)) (joined_at features settings u (members features settings u)))) carried)

-- numbers at two places of a rising row are the same where the places are
place_equal : (row : List ℕ) (i j : ℕ) → IsStrictlyIncreasing row → i < length row → j < length row → (i == j) ≡ (get_or row i 0 == get_or row j 0)
place_equal row i j rise low high = elim (cases_lt i j) [
  | inl before ↦ (let under = AllPairs-from_increasing row rise i j 0 before high in ne_eqb i j (λ e. omega arith) ∙ sym (ne_eqb (get_or row i 0) (get_or row j 0) (λ e. omega arith)))
  | inr behind ↦ elim (cases_lt j i) [
    | inl after ↦ (let under = AllPairs-from_increasing row rise j i 0 after low in ne_eqb i j (λ e. omega arith) ∙ sym (ne_eqb (get_or row i 0) (get_or row j 0) (λ e. omega arith)))
    | inr over ↦ (let same : i ≡ j = omega arith in eq-eqb i j same ∙ sym (eq-eqb (get_or row i 0) (get_or row j 0) (ap (λ (k : ℕ). get_or row k 0) same)))
  ]
]

straight_joins : (features : Features) (settings : Settings) (u : UnitRow) (a b : ℕ) → settings.inside ≡ Straight → not (a == b) ≡ are_joined features settings u a b
unfolding are_joined
straight_joins features settings u a b straight = sym (ap (λ (i : Inside). joined_by i features settings u a b) straight)

either_table : (features : Features) (settings : Settings) (u : UnitRow) (b : Bool) → carries u ≡ b → settings.inside ≡ Straight
    → table_of (length (members features settings u)) (λ i j. not (i == j)) ≡ room_table features settings u
either_table features settings u true carried straight = carried_table features settings u (members features settings u) refl carried
either_table features settings u false still straight =
    let row = members features settings u in
    table_same (length row) (λ i j. not (i == j)) (joined_at features settings u row)
    (λ i j low high. ap not (place_equal row i j (members_rise features settings u) low high) ∙ straight_joins features settings u (get_or row i 0) (get_or row j 0) straight)
    ∙ sym (still_table features settings u still)

pub straight_table : (features : Features) (settings : Settings) (u : UnitRow) (row : List ℕ) → row ≡ members features settings u → settings.inside ≡ Straight
    → table_of (length row) (λ i j. not (i == j)) ≡ room_table features settings u
straight_table features settings u row is straight = ap (λ (r : List ℕ). table_of (length r) (λ i j. not (i == j))) is ∙ either_table features settings u (carries u) refl straight

-- ---- each table fits its row

-- nothing is joined behind the last place
joins_behind : (n : ℕ) (test : ℕ → ℕ → Bool) (i j : ℕ) → n ≤ i → joins (table_of n test) i j ≡ false
joins_behind n test i j past =
    let size = length_table n test in
    ap (λ (values : List Bool). get_or values j false) (get_or_past (table_of n test) i [] (omega arith))

never_itself : (n : ℕ) (test : ℕ → ℕ → Bool) (i : ℕ) → ((k : ℕ) → k < n → test k k ≡ false) → joins (table_of n test) i i ≡ false
never_itself n test i never = elim (cases_lt i n) [
  | inl low ↦ joins_table n test i i low low ∙ never i low
  | inr past ↦ joins_behind n test i i past
]

itself : (features : Features) (settings : Settings) (u : UnitRow) (b : Bool) (i : ℕ) → (cond b (λ i j. not (i == j)) (joined_at features settings u (members features settings u))) i i ≡ false
itself features settings u true i = ap not (eq-eqb i i refl)
itself features settings u false i =
    let a = get_or (members features settings u) i 0 in
    not_true (are_joined features settings u a a) (λ joined. joined_apart features settings u a a joined refl)

pub table_fits : (features : Features) (settings : Settings) (via : ℕ) (u : UnitRow) → IsTableOf (crossing_of features settings via u) (members features settings u)
table_fits features settings via u = record {
  long = length_table (length (members features settings u)) _;
  apart = λ i. never_itself (length (members features settings u)) _ i (λ k low. itself features settings u (carries u) k);
}

-- ---- what is kept of a unit is what holds in it

pub kept_so : (features : Features) (settings : Settings) (via : ℕ) (u : UnitRow) (a b : ℕ) → carries u ≡ false → Contains (members features settings u) a → Contains (members features settings u) b
    → joined_in (crossing_of features settings via u) (members features settings u) a b ≡ are_joined features settings u a b
unfolding joined_in
kept_so features settings via u a b still own other =
    let row = members features settings u in
    let start = at_place row a own in
    let end = at_place row b other in
    ap (λ (table : List (List Bool)). joins table (place_in row a) (place_in row b)) (still_table features settings u still)
    ∙ joins_table (length row) (joined_at features settings u row) (place_in row a) (place_in row b) (slice_get_within row (place_in row a) a start) (slice_get_within row (place_in row b) b end)
    ∙ ap₂ (are_joined features settings u) (get_or_from_slice_get row (place_in row a) a 0 start) (get_or_from_slice_get row (place_in row b) b 0 end)
