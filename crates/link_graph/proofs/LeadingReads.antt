-- What the code reads of a graph, and the ways between its nodes.
use Rattle.std.proofs.Common.{◌≡◌, ℕ, ◌+◌, ◌<◌, ◌≤◌, ◌↔◌, pos, Bool, true, false, cond, List, [], Option, Some, None, length, get_or, refl, sym, ap, ◌∙◌, subst, subst₂, arith, inl, inr}
use Rattle.std.specs.Prelude.{slice_get, filter}
use Rattle.std.specs.List.Sorted.{IsStrictlyIncreasing}
use Rattle.std.proofs.Math.Nat.{mul-le-mul}
use Rattle.std.proofs.lemmas.Bool.{cases_lt, lt-ltb, le-ltb}
use Rattle.std.proofs.lemmas.Int.{ints}
use Rattle.std.proofs.lemmas.List.{get_or_read, get_or_past}
use Rattle.std.proofs.lemmas.Option.{same_Some, none-some, slice_get_within, slice_get_read, slice_get-get_or, get_or_from_slice_get}
use Rattle.unit_sight.specs.Tables.{neighbours}
use Rattle.venue_types.specs.declared.link.Link.{Link}
use Rattle.venue_types.specs.declared.link.Node.{Node}
use Rattle.venue_types.specs.declared.point.Spot.{Spot}
use Rattle.plane_exact.specs.Length.{IsLength, Spans}
use Rattle.plane_exact.specs.Plane.{IsCloseDoubled}
use Rattle.venue_nodes.specs.Rows.{row_list}
use Rattle.venue_nodes.specs.Views.{node_list}
use Rattle.venue_nodes.proofs.Items.{member_at, at_map}
use Rattle.link_graph.specs.declared.parts.Core.{Core}
use Rattle.link_graph.specs.declared.parts.Crossing.{Crossing}
use Rattle.link_graph.specs.declared.parts.Seat.{Seat}
use Rattle.link_graph.specs.Cores.{IsSoundCore, network_in, spot_in, way_in, link_across, links_across_from, others_in, seats_at, leaving_at, joined_in, IsTableOf}
use Rattle.link_graph.specs.Leads.{links_of_row, passages_out, lower_than}
use Rattle.link_graph.proofs.Lengths.{between_length, between_bound}
use Rattle.link_graph.proofs.LeadingLists.{at_place}
use Rattle.link_graph.proofs.LeadingRows.{row_known}
use Rattle.link_graph.proofs.LeadingSeats.{IsSeated, others_known}
use Rattle.link_graph.proofs.LeadingPlaces.{IsLeaving, leaving_at_place}
use Rattle.link_graph.proofs.TableRows.{joined_row, neighbour_within}

-- ---- lists of a node

list_read : {X : Type 0} (lists : List (List X)) (n : ℕ) (list given : List X) → n < length lists → list ≡ get_or lists n list → given ≡ list → given ≡ get_or lists n []
list_read {X} lists n list given within read e = e ∙ get_or_read lists n list within read []

pub seats_read : (core : Core) (n : ℕ) (list given : List Seat) → IsSoundCore core → n < length (network_in core).nodes → list ≡ get_or core.seats.items n list → given ≡ list → given ≡ seats_at core n
unfolding network_in
seats_read core n list given sound node read e =
    let count : length core.seats.items ≡ length (node_list core.nodes) = sound.seated.seats_count in
    list_read core.seats.items n list given (omega (arith, node, count)) read e

pub leaving_read : (core : Core) (n : ℕ) (list given : List ℕ) → IsSoundCore core → n < length (network_in core).nodes → list ≡ get_or core.leaving.items n list → given ≡ list → given ≡ leaving_at core n
unfolding network_in
leaving_read core n list given sound node read e =
    let count : length core.leaving.items ≡ length (node_list core.nodes) = sound.seated.leaving_count in
    list_read core.leaving.items n list given (omega (arith, node, count)) read e

-- a list that isn't empty was read within
some_read : {X : Type 0} (lists : List (List X)) (n k : ℕ) (list given : List X) → k < length (get_or lists n []) → list ≡ get_or lists n list → given ≡ list → given ≡ get_or lists n []
some_read {X} lists n k list given some read e = elim (cases_lt n (length lists)) [
  | inl within ↦ list_read lists n list given within read e
  | inr past ↦
      let none = ap (λ (xs : List X). length xs) (get_or_past lists n [] past) in
      absurd (omega (arith, some, none))
]

-- the passage that is read
pub passage_read : (core : Core) (n k : ℕ) (list given : List ℕ) → IsSoundCore core → k < length (leaving_at core n) → list ≡ get_or core.leaving.items n list → given ≡ list → IsLeaving core n k (get_or given k 0)
passage_read core n k list given sound some read e =
    let is = some_read core.leaving.items n k list given some read e in
    leaving_at_place core n k (get_or given k 0) sound (slice_get-get_or (leaving_at core n) k 0 some ∙ ap (λ (ks : List ℕ). Some (get_or ks k 0)) (sym is))

pub passage_is : (core : Core) (n k number : ℕ) (link : Link) → IsLeaving core n k number → link ≡ get_or core.passages.items number link → slice_get (passages_out core n) k ≡ Some link
passage_is core n k number link h read = h.leaves ∙ ap (λ (l : Link). Some l) (sym (read ∙ get_or_from_slice_get core.passages.items number h.link link h.there))

-- ---- one of those with which a member is joined

-- the node stands at a place of the row of a unit that is read
record IsReadAt (n p : ℕ) (crossing : Crossing) (row : List ℕ) : Type 0 where
  stands : slice_get row p ≡ Some n
  rise : IsStrictlyIncreasing row
  table : IsTableOf crossing row

read_at : (core : Core) (n w p : ℕ) (crossing : Crossing) (row : List ℕ) → IsSeated core n w p → slice_get core.crossings.items w ≡ Some crossing → slice_get (row_list core.rows) w ≡ Some row → IsReadAt n p crossing row
read_at core n w p crossing row h here there =
    let same_row : h.row ≡ row = same_Some h.row row (sym h.is_row ∙ there) in
    let same_crossing : h.crossing ≡ crossing = same_Some h.crossing crossing (sym h.is_crossing ∙ here) in
    subst₂ (IsReadAt n p) same_crossing same_row (record { stands = h.stands; rise = h.kept.rise; table = h.table })

-- the unit of the row that is read
pub crossing_read : (core : Core) (n w p : ℕ) (crossing : Crossing) → IsSeated core n w p → crossing ≡ get_or core.crossings.items w crossing → slice_get core.crossings.items w ≡ Some crossing
crossing_read core n w p crossing h read = slice_get_read core.crossings.items (length core.crossings.items) w crossing refl (slice_get_within core.crossings.items w h.crossing h.is_crossing) read

-- the place is one of the table of the unit
pub place_read : (core : Core) (n w p : ℕ) (crossing : Crossing) → IsSeated core n w p → slice_get core.crossings.items w ≡ Some crossing → p < length crossing.sights
place_read core n w p crossing h here =
    let read = read_at core n w p crossing h.row h here h.is_row in
    let within = slice_get_within h.row p n read.stands in
    let long = read.table.long in
    omega (arith, within, long)

-- a place with which it is joined is one of the row
pub joined_read : (core : Core) (n w p k place : ℕ) (crossing : Crossing) (row : List ℕ) → IsSeated core n w p → slice_get core.crossings.items w ≡ Some crossing → slice_get (row_list core.rows) w ≡ Some row
    → slice_get (neighbours crossing.sights p) k ≡ Some place → place < length row
joined_read core n w p k place crossing row h here there joined =
    let read = read_at core n w p crossing row h here there in
    let within = neighbour_within crossing.sights p k place joined in
    let long = read.table.long in
    omega (arith, within, long)

walked_some : (b : Bool) (k count : ℕ) → k < cond b count 0 → (b ≡ true) × (k < count)
walked_some true k count h = (refl, h)
walked_some false k count h = absurd (omega (arith, h))

-- as many places as it has links are joined with it
pub some_joined : (core : Core) (w p k : ℕ) (crossing : Crossing) → slice_get core.crossings.items w ≡ Some crossing → k < others_in core w p → (crossing.walked ≡ true) × (k < length (neighbours crossing.sights p))
some_joined core w p k crossing here below = walked_some crossing.walked k (length (neighbours crossing.sights p)) (subst (λ (m : ℕ). k < m) (others_known core w p crossing here) below)

pub none_joined : (core : Core) (w p k : ℕ) (crossing : Crossing) → slice_get core.crossings.items w ≡ Some crossing → k < others_in core w p → slice_get (neighbours crossing.sights p) k ≡ None → ⊥
none_joined core w p k crossing here below nowhere =
    let some = some_joined core w p k crossing here below in
    let at = at_place (neighbours crossing.sights p) k some.1 in
    none-some at.0 (sym nowhere ∙ at.1)

-- the link to the member that stands there
pub across_lead : (core : Core) (n w p k place : ℕ) (crossing : Crossing) (row : List ℕ) → IsSeated core n w p → slice_get core.crossings.items w ≡ Some crossing → slice_get (row_list core.rows) w ≡ Some row → k < others_in core w p
    → slice_get (neighbours crossing.sights p) k ≡ Some place → slice_get (links_of_row core n w) k ≡ Some (link_across core crossing n (get_or row place 0))
across_lead core n w p k place crossing row h here there below joined =
    let read = read_at core n w p crossing row h here there in
    let some = some_joined core w p k crossing here below in
    let item : slice_get (filter (joined_in crossing row n) row) k ≡ Some (get_or row place 0) =
    ap (λ (xs : List ℕ). slice_get xs k) (joined_row crossing row p n read.rise read.table read.stands)
    ∙ at_map (λ (j : ℕ). get_or row j 0) (neighbours crossing.sights p) k place joined in
    ap (λ (ls : List Link). slice_get ls k) (row_known core n w crossing row here there)
    ∙ ap (λ (b : Bool). slice_get (cond b (links_across_from core crossing row n) []) k) some.0
    ∙ at_map (link_across core crossing n) (filter (joined_in crossing row n) row) k (get_or row place 0) item

-- ---- ways

abbrev spot_at : Option Node → Spot
spot_at found = elim found [ None ↦ record { x = pos 0; y = pos 0 } | Some node ↦ node.spot ]

spots_close : (core : Core) (a b : ℕ) → IsSoundCore core → a < length (node_list core.nodes) → b < length (node_list core.nodes) → IsCloseDoubled (spot_in core a) (spot_in core b)
spots_close core a b sound h k =
    let here = at_place (node_list core.nodes) a h in
    let there = at_place (node_list core.nodes) b k in
    subst₂ IsCloseDoubled (sym (ap spot_at here.1)) (sym (ap spot_at there.1))
    (sound.close here.0 there.0 (member_at (node_list core.nodes) a here.0 here.1) (member_at (node_list core.nodes) b there.0 there.1))

pub way_length : (core : Core) (a b : ℕ) → IsSoundCore core → a < length (node_list core.nodes) → b < length (node_list core.nodes) → IsLength (spot_in core a) (spot_in core b) core.kx core.ky (way_in core a b)
way_length core a b sound h k = between_length (spot_in core a) (spot_in core b) core.kx core.ky (spots_close core a b sound h k) sound.kx_range sound.ky_range

one_length : (a b : Spot) (kx ky c d : ℕ) → IsLength a b kx ky c → IsLength a b kx ky d → c ≡ d
one_length a b kx ky c d h k = omega (arith, h.least d k.spans, k.least c h.spans)

-- the length that is computed
pub way_is : (core : Core) (a b c : ℕ) (p q : Spot) → IsSoundCore core → a < length (node_list core.nodes) → b < length (node_list core.nodes) → p ≡ spot_in core a → q ≡ spot_in core b → IsLength p q core.kx core.ky c → c ≡ way_in core a b
way_is core a b c p q sound h k e f is =
    one_length (spot_in core a) (spot_in core b) core.kx core.ky c (way_in core a b) (subst₂ (λ (s t : Spot). IsLength s t core.kx core.ky c) e f is) (way_length core a b sound h k)

longer_spans : (a b : Spot) (kx ky c d : ℕ) → Spans a b kx ky c → c ≤ d → Spans a b kx ky d
longer_spans a b kx ky c d h le =
    let more = mul-le-mul le le in
    let spans = h.spans in
    record { spans = omega (arith, ints, more, spans) }

-- what is spanned is what is long enough
pub way_within : (core : Core) (a b room : ℕ) (p q : Spot) → IsSoundCore core → a < length (node_list core.nodes) → b < length (node_list core.nodes) → p ≡ spot_in core a → q ≡ spot_in core b → Spans p q core.kx core.ky room ↔ (way_in core a b ≤ room)
way_within core a b room p q sound h k e f =
    let is = way_length core a b sound h k in (
      λ spans. is.least room (subst₂ (λ (s t : Spot). Spans s t core.kx core.ky room) e f spans),
      λ le. subst₂ (λ (s t : Spot). Spans s t core.kx core.ky room) (sym e) (sym f) (longer_spans (spot_in core a) (spot_in core b) core.kx core.ky (way_in core a b) room is.spans le),
    )

pub way_short : (core : Core) (a b : ℕ) → way_in core a b ≤ 5700000
way_short core a b = between_bound (spot_in core a) (spot_in core b) core.kx core.ky

-- ---- lower links

pub lower_when : (entry base : ℕ) (link : Link) → base + link.cost < entry → lower_than entry base link ≡ Some link
lower_when entry base link h = ap (λ (b : Bool). cond b (Some link) None) (lt-ltb (base + link.cost) entry h)

pub lower_unless : (entry base : ℕ) (link : Link) → entry ≤ base + link.cost → lower_than entry base link ≡ None
lower_unless entry base link h = ap (λ (b : Bool). cond b (Some link) None) (le-ltb (base + link.cost) entry h)
