-- Steps of the loops that add the nodes of corners.
use Rattle.std.proofs.Common.{◌≡◌, ℕ, ◌+◌, ◌<◌, ◌≤◌, Bool, true, false, cond, List, [], ◌∷◌, ◌++◌, All, map, filter, flat_map, drop, length, get_or, refl, sym, ap, ap₂, ◌∙◌, arith, length-append}
use Rattle.std.specs.Prelude.{Contains}
use Rattle.std.proofs.lemmas.List.{length-map, map-append, append_assoc}
use Rattle.std.proofs.lemmas.List.Elements.{Contains-append_left, All-contains}
use Rattle.venue_types.proofs.Items.{Contains-nil}
use Rattle.venue_types.specs.declared.features.UnitRow.{UnitRow}
use Rattle.venue_types.specs.declared.link.Node.{Node}
use Rattle.venue_types.specs.declared.point.Point.{Point}
use Rattle.venue_types.specs.declared.settings.Inside.{Inside}
use Rattle.venue_types.specs.declared.settings.Inside.TheVariants as inside
use Rattle.plane_exact.specs.Corners.{corners}
use Rattle.plane_exact.specs.Figure.{vertices}
use Rattle.plane_exact.proofs.CornerCounts.{corners_among}
use Rattle.plane_exact.proofs.ListLemmas.{drop_at}
use Rattle.feature_rows.specs.Figures.{display_of}
use Rattle.feature_rows.specs.Sound.{IsOnEarth}
use Rattle.venue_nodes.specs.declared.corner_nodes.CornerRange.{CornerRange}
use Rattle.venue_nodes.specs.Bounds.{IsPlaced}
use Rattle.venue_nodes.specs.Naming.{can_walk}
use Rattle.venue_nodes.specs.Nodes.{unit, node_of_row, carries, corner_points, corner_rows, corner_rows_from}
use Rattle.venue_nodes.specs.Views.{range_behind, ranges_from}
use Rattle.venue_nodes.proofs.CornerTotals.{rows_long}
use Rattle.venue_nodes.proofs.Judged.{all_of}

-- ---- the positions of one unit

unless_among : (b : Bool) (points all : List Point) (v : Point) → (Contains points v → Contains all v) → Contains (cond b [] points) v → Contains all v
unless_among true points all v within h = absurd (Contains-nil v h)
unless_among false points all v within h = within h

pub points_among : (inside : Inside) (row : UnitRow) (v : Point) → Contains (corner_points inside row) v → Contains (vertices row.shape) v
points_among inside.Straight row v h = absurd (Contains-nil v h)
points_among inside.Clear row v h = unless_among (carries row) (corners row.shape) (vertices row.shape) v (corners_among row.shape v) h

pub corners_earth : (inside : Inside) (row : UnitRow) → IsPlaced (unit row) → All IsOnEarth (corner_points inside row)
corners_earth inside row placed = all_of IsOnEarth (corner_points inside row) (λ p h.
    All-contains IsOnEarth (vertices row.shape ++ display_of row) p placed (Contains-append_left (vertices row.shape) (display_of row) p (points_among inside row p h)))

pub points_here : (inside : Inside) (row : UnitRow) (points : List Point) (n : ℕ) → points ≡ corner_points inside row → n + length (corner_rows inside row) ≤ 1100000 → length points ≤ 1100000
points_here inside row points n e few = omega (arith, ap (λ (ps : List Point). length ps) e, rows_long row 1 (corner_points inside row))

abbrev range : ℕ → ℕ → CornerRange
range start end = record { start = start; end = end }

pub range_is : (inside : Inside) (row : UnitRow) (points : List Point) (before after : List Node) (start end : ℕ) → points ≡ corner_points inside row
    → after ≡ before ++ map node_of_row (corner_rows_from row 1 points) → start ≡ length before → end ≡ length after
    → range start end ≡ range_behind (length before) (length (corner_points inside row))
range_is inside row points before after start end e added first last =
    let grown = ap (λ (nodes : List Node). length nodes) added in
    let both = length-append before (map node_of_row (corner_rows_from row 1 points)) in
    let made = length-map (corner_rows_from row 1 points) node_of_row in
    let long = rows_long row 1 points in
    let same = ap (λ (ps : List Point). length ps) e in
    let over : end ≡ length before + length (corner_points inside row) = omega arith in
    ap₂ range first over

-- ---- from unit to unit

pub ahead : (units : List UnitRow) (i : ℕ) (row d : UnitRow) → i < length units → get_or units i d ≡ row → can_walk row ≡ true → filter can_walk (drop i units) ≡ row ∷ filter can_walk (drop (i + 1) units)
ahead units i row d within at walks = ap (filter can_walk) (drop_at units i row d within at) ∙ kept walks where
  kept : can_walk row ≡ true → filter can_walk (row ∷ drop (i + 1) units) ≡ row ∷ filter can_walk (drop (i + 1) units)
  kept h = rw h refl

pub past : (units : List UnitRow) (i : ℕ) (row d : UnitRow) → i < length units → get_or units i d ≡ row → can_walk row ≡ false → filter can_walk (drop i units) ≡ filter can_walk (drop (i + 1) units)
past units i row d within at solid = ap (filter can_walk) (drop_at units i row d within at) ∙ skipped solid where
  skipped : can_walk row ≡ false → filter can_walk (row ∷ drop (i + 1) units) ≡ filter can_walk (drop (i + 1) units)
  skipped h = rw h refl

-- the nodes of the corners of these units
abbrev pub nodes_in : Inside → List UnitRow → List Node
nodes_in inside units = map node_of_row (flat_map (corner_rows inside) units)

-- their ranges, the first from this number on
abbrev pub ranges_in : Inside → ℕ → List UnitRow → List CornerRange
ranges_in inside at units = ranges_from at (map (λ (row : UnitRow). length (corner_points inside row)) units)

nodes_first : (inside : Inside) (row : UnitRow) (rows : List UnitRow) → nodes_in inside (row ∷ rows) ≡ map node_of_row (corner_rows inside row) ++ nodes_in inside rows
nodes_first inside row rows = map-append node_of_row (corner_rows inside row) (flat_map (corner_rows inside) rows)

pub units_few : (inside : Inside) (units : List UnitRow) (i : ℕ) (row d : UnitRow) (before now : List Node) → i < length units → get_or units i d ≡ row → can_walk row ≡ true
    → now ++ nodes_in inside (filter can_walk (drop i units)) ≡ before ++ nodes_in inside (filter can_walk units)
    → length before + length (flat_map (corner_rows inside) (filter can_walk units)) ≤ 1100000 → length now + length (corner_rows inside row) ≤ 1100000
units_few inside units i row d before now within at walks whole few =
    let rest = filter can_walk (drop (i + 1) units) in
    let one = ap (λ (rows : List UnitRow). length (nodes_in inside rows)) (ahead units i row d within at walks) in
    let split = ap (λ (nodes : List Node). length nodes) (nodes_first inside row rest) in
    let both = length-append (map node_of_row (corner_rows inside row)) (nodes_in inside rest) in
    let made = length-map (corner_rows inside row) node_of_row in
    let all = length-map (flat_map (corner_rows inside) (filter can_walk units)) node_of_row in
    let same = ap (λ (nodes : List Node). length nodes) whole in
    let left = length-append now (nodes_in inside (filter can_walk (drop i units))) in
    let right = length-append before (nodes_in inside (filter can_walk units)) in
    omega arith

pub nodes_step : (inside : Inside) (units : List UnitRow) (i : ℕ) (row d : UnitRow) (now then all : List Node) → i < length units → get_or units i d ≡ row → can_walk row ≡ true
    → now ++ nodes_in inside (filter can_walk (drop i units)) ≡ all → then ≡ now ++ map node_of_row (corner_rows inside row) → then ++ nodes_in inside (filter can_walk (drop (i + 1) units)) ≡ all
nodes_step inside units i row d now then all within at walks whole grown =
    let rest = filter can_walk (drop (i + 1) units) in
    ap (λ (nodes : List Node). nodes ++ nodes_in inside rest) grown
    ∙ append_assoc now (map node_of_row (corner_rows inside row)) (nodes_in inside rest)
    ∙ ap (λ (nodes : List Node). now ++ nodes) (sym (nodes_first inside row rest))
    ∙ ap (λ (rows : List UnitRow). now ++ nodes_in inside rows) (sym (ahead units i row d within at walks))
    ∙ whole

pub nodes_past : (inside : Inside) (units : List UnitRow) (i : ℕ) (row d : UnitRow) (now then all : List Node) → i < length units → get_or units i d ≡ row → can_walk row ≡ false
    → now ++ nodes_in inside (filter can_walk (drop i units)) ≡ all → then ≡ now → then ++ nodes_in inside (filter can_walk (drop (i + 1) units)) ≡ all
nodes_past inside units i row d now then all within at solid whole same =
    ap (λ (nodes : List Node). nodes ++ nodes_in inside (filter can_walk (drop (i + 1) units))) same
    ∙ ap (λ (rows : List UnitRow). now ++ nodes_in inside rows) (sym (past units i row d within at solid))
    ∙ whole

grown_by : (inside : Inside) (row : UnitRow) (now then : List Node) → then ≡ now ++ map node_of_row (corner_rows inside row) → length then ≡ length now + length (corner_points inside row)
grown_by inside row now then grown =
    let more = ap (λ (nodes : List Node). length nodes) grown in
    let both = length-append now (map node_of_row (corner_rows inside row)) in
    let made = length-map (corner_rows inside row) node_of_row in
    let long = rows_long row 1 (corner_points inside row) in
    omega arith

pub ranges_step : (inside : Inside) (units : List UnitRow) (i : ℕ) (row d : UnitRow) (now then : List Node) (ranges further all : List CornerRange) (made : CornerRange) → i < length units → get_or units i d ≡ row → can_walk row ≡ true
    → ranges ++ ranges_in inside (length now) (filter can_walk (drop i units)) ≡ all → then ≡ now ++ map node_of_row (corner_rows inside row)
    → made ≡ range_behind (length now) (length (corner_points inside row)) → further ≡ ranges ++ made ∷ [] → further ++ ranges_in inside (length then) (filter can_walk (drop (i + 1) units)) ≡ all
ranges_step inside units i row d now then ranges further all made within at walks whole grown is added =
    let rest = filter can_walk (drop (i + 1) units) in
    ap (λ (list : List CornerRange). list ++ ranges_in inside (length then) rest) added
    ∙ append_assoc ranges (made ∷ []) (ranges_in inside (length then) rest)
    ∙ ap₂ (λ (one : CornerRange) (n : ℕ). ranges ++ one ∷ ranges_in inside n rest) is (grown_by inside row now then grown)
    ∙ ap (λ (rows : List UnitRow). ranges ++ ranges_in inside (length now) rows) (sym (ahead units i row d within at walks))
    ∙ whole

pub ranges_past : (inside : Inside) (units : List UnitRow) (i : ℕ) (row d : UnitRow) (now then : List Node) (ranges further all : List CornerRange) → i < length units → get_or units i d ≡ row → can_walk row ≡ false
    → ranges ++ ranges_in inside (length now) (filter can_walk (drop i units)) ≡ all → then ≡ now → further ≡ ranges → further ++ ranges_in inside (length then) (filter can_walk (drop (i + 1) units)) ≡ all
ranges_past inside units i row d now then ranges further all within at solid whole same kept =
    let rest = filter can_walk (drop (i + 1) units) in
    ap₂ (λ (list : List CornerRange) (nodes : List Node). list ++ ranges_in inside (length nodes) rest) kept same
    ∙ ap (λ (rows : List UnitRow). ranges ++ ranges_in inside (length now) rows) (sym (past units i row d within at solid))
    ∙ whole
