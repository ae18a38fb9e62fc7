-- Where members stand and where the walls of their room are: as close, and as far from the middle of the plane, as who asks for the sights of a room wants.
use Rattle.std.proofs.Common.{◌≡◌, ℕ, ◌<◌, ℤ, pos, ◌+ℤ◌, ◌*ℤ◌, List, ◌++◌, Option, Some, None, All, length, map, get_or, refl, sym, ap, ◌∙◌, subst, inl, inr, arith}
use Rattle.std.specs.Prelude.{Contains, slice_get}
use Rattle.std.proofs.lemmas.Int.{ints}
use Rattle.std.proofs.lemmas.List.{length-map, get_or-map}
use Rattle.std.proofs.lemmas.List.Elements.{All-append, All-contains, Contains-append_cases}
use Rattle.std.proofs.lemmas.Option.{slice_get_cases}
use Rattle.venue_types.specs.declared.features.Features.{Features}
use Rattle.venue_types.specs.declared.features.UnitRow.{UnitRow}
use Rattle.venue_types.specs.declared.link.Node.{Node}
use Rattle.venue_types.specs.declared.point.Point.{Point}
use Rattle.venue_types.specs.declared.point.Spot.{Spot}
use Rattle.venue_types.specs.declared.settings.Settings.{Settings}
use Rattle.plane_exact.specs.Plane.{IsWithin, IsCloseDoubled, IsInRange, IsNearby}
use Rattle.plane_exact.specs.Figure.{AllClose, AllNearby, vertices}
use Rattle.plane_exact.specs.Scaled.{times, scaled}
use Rattle.plane_exact.specs.Sight.{at_spot}
use Rattle.plane_exact.proofs.ScaleLaw.{points_of_scaled}
use Rattle.unit_sight.specs.Rooms.{AreLengths}
use Rattle.venue_nodes.specs.Figures.{judged_positions}
use Rattle.venue_nodes.specs.Sound.{AreSound, IsOnEarth}
use Rattle.venue_nodes.specs.declared.nodes.Nodes.{Nodes}
use Rattle.venue_nodes.specs.Members.{members}
use Rattle.venue_nodes.specs.Nodes.{nodes}
use Rattle.venue_nodes.specs.Views.{AreNodes, node_list}
use Rattle.venue_nodes.proofs.CornerRows.{from_map}
use Rattle.venue_nodes.proofs.Items.{member_at}
use Rattle.venue_nodes.proofs.Judged.{all_of, unit_vertex}
use Rattle.venue_nodes.proofs.Spread.{IsSummed, close_sums, node_summed}
use Rattle.link_graph.specs.Links.{way}
use Rattle.link_graph.specs.Making.{spot_at}
use Rattle.link_graph.proofs.Lengths.{between_length}
use Rattle.link_graph.proofs.Ranges.{member_within}

-- ---- spots of nodes

spot_there : (list : List Node) (m : ℕ) (node : Node) → slice_get list m ≡ Some node → spot_at list m ≡ node.spot
spot_there list m node at = ap (λ (o : Option Node). elim o [ None ↦ record { x = pos 0; y = pos 0 } | Some n ↦ n.spot ]) at

-- the spot of a number of a node is that of a node
with_spot : (list : List Node) (m : ℕ) → m < length list → (node : Node) × Contains list node × (node.spot ≡ spot_at list m)
with_spot list m low = elim (slice_get_cases list m).1 [
  | inl found ↦ (found.0, member_at list m found.0 found.2, sym (spot_there list m found.0 found.2))
  | inr past ↦ absurd (let over = past.0 in omega (arith, low, over))
]

spot_summed : (features : Features) (settings : Settings) (m : ℕ) → AreSound features → m < length (nodes features settings) → IsSummed (judged_positions features) (spot_at (nodes features settings) m)
spot_summed features settings m sound low =
    let node = with_spot (nodes features settings) m low in
    subst (λ (s : Spot). IsSummed (judged_positions features) s) node.2 (node_summed features settings node.0 sound node.1)

-- ---- what is near

-- a point is twice a spot whose coordinates are sums of judged ones
record IsTwice (points : List Point) (p : Point) : Type 0 where
  spot : Spot
  summed : IsSummed points spot
  x : p.x ≡ pos 2 *ℤ spot.x
  y : p.y ≡ pos 2 *ℤ spot.y

twice_within : (p q s t : ℤ) → p ≡ pos 2 *ℤ s → q ≡ pos 2 *ℤ t → IsWithin 400000000 s t → IsWithin 800000000 p q
twice_within p q s t e f h = record { above = omega (arith, ints, e, f, h.above, h.below); below = omega (arith, ints, e, f, h.above, h.below) }

twice_near : (points : List Point) (p q : Point) → AllClose points → IsTwice points p → IsTwice points q → IsNearby p q
twice_near points p q close h k =
    let both = close_sums points h.spot k.spot close h.summed k.summed in
    record { x = twice_within p.x q.x h.spot.x k.spot.x h.x k.x both.x; y = twice_within p.y q.y h.spot.y k.spot.y h.y k.y both.y }

four_times : (n : ℤ) → (pos 4 *ℤ n) ≡ (pos 2 *ℤ (n +ℤ n))
four_times n = omega (arith, ints)

-- twice the spot of a member, and four times a vertex of a unit
spot_twice : (features : Features) (settings : Settings) (row : List ℕ) (p : Point) → AreSound features → All (λ m. m < length (nodes features settings)) row
    → Contains (map (λ (s : Spot). times 2 (at_spot s)) (map (spot_at (nodes features settings)) row)) p → IsTwice (judged_positions features) p
spot_twice features settings row p sound within h =
    let at = from_map (λ (s : Spot). times 2 (at_spot s)) (map (spot_at (nodes features settings)) row) p h in
    let of = from_map (spot_at (nodes features settings)) row at.0 at.1 in
    let low : of.0 < length (nodes features settings) = All-contains (λ m. m < length (nodes features settings)) row of.0 within of.1 in
    record {
      spot = at.0;
      summed = subst (λ (s : Spot). IsSummed (judged_positions features) s) of.2 (spot_summed features settings of.0 sound low);
      x = ap (λ (q : Point). q.x) (sym at.2);
      y = ap (λ (q : Point). q.y) (sym at.2);
    }

vertex_twice : (features : Features) (u : UnitRow) (p : Point) → Contains features.units u → Contains (vertices (scaled 4 u.shape)) p → IsTwice (judged_positions features) p
vertex_twice features u p own h =
    let at = from_map (times 4) (vertices u.shape) p (subst (λ (ps : List Point). Contains ps p) (points_of_scaled 4 u.shape) h) in
    let judged = unit_vertex features u at.0 own at.1 in
    record {
      spot = record { x = at.0.x +ℤ at.0.x; y = at.0.y +ℤ at.0.y };
      summed = record { a = at.0; b = at.0; c = at.0; d = at.0; has_a = judged; has_b = judged; has_c = judged; has_d = judged; x = refl; y = refl };
      x = ap (λ (q : Point). q.x) (sym at.2) ∙ four_times at.0.x;
      y = ap (λ (q : Point). q.y) (sym at.2) ∙ four_times at.0.y;
    }

point_twice : (features : Features) (settings : Settings) (u : UnitRow) (row : List ℕ) (p : Point) → AreSound features → Contains features.units u → All (λ m. m < length (nodes features settings)) row
    → Contains (map (λ (s : Spot). times 2 (at_spot s)) (map (spot_at (nodes features settings)) row) ++ vertices (scaled 4 u.shape)) p → IsTwice (judged_positions features) p
point_twice features settings u row p sound own within h =
    elim (Contains-append_cases (map (λ (s : Spot). times 2 (at_spot s)) (map (spot_at (nodes features settings)) row)) (vertices (scaled 4 u.shape)) p h) [
      | inl front ↦ spot_twice features settings row p sound within front
      | inr behind ↦ vertex_twice features u p own behind
    ]

pub room_near : (features : Features) (settings : Settings) (u : UnitRow) (row : List ℕ) → AreSound features → AllClose (judged_positions features) → Contains features.units u → All (λ m. m < length (nodes features settings)) row
    → AllNearby (map (λ (s : Spot). times 2 (at_spot s)) (map (spot_at (nodes features settings)) row) ++ vertices (scaled 4 u.shape))
room_near features settings u row sound close own within = record {
  near = λ p q h k. twice_near (judged_positions features) p q close (point_twice features settings u row p sound own within h) (point_twice features settings u row q sound own within k);
}

-- ---- what is in range

earth_range : (p : Point) → IsOnEarth p → IsInRange p
earth_range p h = record {
  x = record { above = omega (arith, ints, h.west, h.east); below = omega (arith, ints, h.west, h.east) };
  y = record { above = omega (arith, ints, h.south, h.north); below = omega (arith, ints, h.south, h.north) };
}

sum_bound : (s a b : ℤ) → s ≡ a +ℤ b → IsWithin 200000000000 a (pos 0) → IsWithin 200000000000 b (pos 0) → IsWithin 2000000000000000000 s (pos 0)
sum_bound s a b e h k = record { above = omega (arith, ints, e, h.above, h.below, k.above, k.below); below = omega (arith, ints, e, h.above, h.below, k.above, k.below) }

x_bound : (p : Point) → IsOnEarth p → IsWithin 200000000000 p.x (pos 0)
x_bound p h = record { above = omega (arith, ints, h.west, h.east); below = omega (arith, ints, h.west, h.east) }

y_bound : (p : Point) → IsOnEarth p → IsWithin 200000000000 p.y (pos 0)
y_bound p h = record { above = omega (arith, ints, h.south, h.north); below = omega (arith, ints, h.south, h.north) }

summed_range : (points : List Point) (s : Spot) → All IsOnEarth points → IsSummed points s → IsInRange (at_spot s)
summed_range points s earth h =
    let on : (p : Point) → Contains points p → IsOnEarth p = λ p there. All-contains IsOnEarth points p earth there in
    record {
      x = sum_bound s.x h.a.x h.b.x h.x (x_bound h.a (on h.a h.has_a)) (x_bound h.b (on h.b h.has_b));
      y = sum_bound s.y h.c.y h.d.y h.y (y_bound h.c (on h.c h.has_c)) (y_bound h.d (on h.d h.has_d));
    }

spot_range : (features : Features) (settings : Settings) (row : List ℕ) (p : Point) → AreSound features → All (λ m. m < length (nodes features settings)) row
    → Contains (map at_spot (map (spot_at (nodes features settings)) row)) p → IsInRange p
spot_range features settings row p sound within h =
    let at = from_map at_spot (map (spot_at (nodes features settings)) row) p h in
    let of = from_map (spot_at (nodes features settings)) row at.0 at.1 in
    let low : of.0 < length (nodes features settings) = All-contains (λ m. m < length (nodes features settings)) row of.0 within of.1 in
    let summed = subst (λ (s : Spot). IsSummed (judged_positions features) s) of.2 (spot_summed features settings of.0 sound low) in
    subst IsInRange at.2 (summed_range (judged_positions features) at.0 sound.on_earth summed)

pub room_range : (features : Features) (settings : Settings) (u : UnitRow) (row : List ℕ) → AreSound features → Contains features.units u → All (λ m. m < length (nodes features settings)) row
    → All IsInRange (map at_spot (map (spot_at (nodes features settings)) row) ++ vertices u.shape)
room_range features settings u row sound own within =
    All-append IsInRange (map at_spot (map (spot_at (nodes features settings)) row)) (vertices u.shape)
    (all_of IsInRange (map at_spot (map (spot_at (nodes features settings)) row)) (λ p h. spot_range features settings row p sound within h))
    (all_of IsInRange (vertices u.shape) (λ p h. earth_range p (All-contains IsOnEarth (judged_positions features) p sound.on_earth (unit_vertex features u p own h))))

-- ---- how far members are from each other

spots_close : (features : Features) (settings : Settings) (a b : ℕ) → AreSound features → AllClose (judged_positions features) → a < length (nodes features settings) → b < length (nodes features settings)
    → IsCloseDoubled (spot_at (nodes features settings) a) (spot_at (nodes features settings) b)
spots_close features settings a b sound close low high =
    close_sums (judged_positions features) (spot_at (nodes features settings) a) (spot_at (nodes features settings) b) close (spot_summed features settings a sound low) (spot_summed features settings b sound high)

-- the length of the way between the members at two places
abbrev pub far_at : Features → Settings → List ℕ → ℕ → ℕ → ℕ
far_at features settings row i j = way features settings (get_or row i 0) (get_or row j 0)

pub room_lengths : (features : Features) (settings : Settings) (row : List ℕ) → AreSound features → AllClose (judged_positions features) → All (λ m. m < length (nodes features settings)) row
    → AreLengths (map (spot_at (nodes features settings)) row) settings.kx settings.ky (far_at features settings row)
room_lengths features settings row sound close within =
    let list = nodes features settings in
    let none : Spot = record { x = pos 0; y = pos 0 } in
    let size = length-map row (spot_at list) in
    record {
      lengths = λ i j low high.
          let first : i < length row = omega (arith, low, size) in
          let second : j < length row = omega (arith, high, size) in
          rw (get_or-map (spot_at list) row i 0 none first, get_or-map (spot_at list) row j 0 none second)
          (between_length (spot_at list (get_or row i 0)) (spot_at list (get_or row j 0)) settings.kx settings.ky
          (spots_close features settings (get_or row i 0) (get_or row j 0) sound close (within i 0 first) (within j 0 second)) settings.kx_range settings.ky_range);
    }

-- ---- of a row of members, whose spots are read from the nodes that are kept

pub members_low : (features : Features) (settings : Settings) (u : UnitRow) (row : List ℕ) → row ≡ members features settings u → All (λ m. m < length (nodes features settings)) row
members_low features settings u row is = all_of (λ m. m < length (nodes features settings)) row (λ m h. member_within features settings u m (subst (λ (r : List ℕ). Contains r m) is h))

pub numbers_low : (features : Features) (settings : Settings) (made : Nodes) (u : UnitRow) (row : List ℕ) → AreNodes features settings made → row ≡ members features settings u → All (λ m. m < length (node_list made)) row
numbers_low features settings made u row are is = subst (λ (list : List Node). All (λ m. m < length list) row) (sym are.list) (members_low features settings u row is)

pub spots_are : (features : Features) (settings : Settings) (made : Nodes) (row : List ℕ) (read spots : List Spot) → AreNodes features settings made → read ≡ spots → spots ≡ map (spot_at (node_list made)) row
    → read ≡ map (spot_at (nodes features settings)) row
spots_are features settings made row read spots are same there = same ∙ there ∙ ap (λ (list : List Node). map (spot_at list) row) are.list
