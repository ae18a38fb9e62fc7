-- The box round points, point by point and all at once.
use Rattle.std.proofs.Common.{◌≡◌, ◌≤◌, ℤ, pos, negsuc, true, false, ◌+ℤ◌, ◌≤ℤ◌, List, [], ◌∷◌, All, length, get_or, map, fold, FitsSigned, w64, to_z, of_z, refl, sym, ap, ap₂, subst, ◌∙◌, lit<, arith, ◌-◌}
use Rattle.std.specs.Int.{int_min, int_max}
use Rattle.std.proofs.lemmas.Int.{ints, to_z-of_z, fold-int_min_bounds, fold-int_max_bounds, int_min_is, int_max_is}
use Rattle.std.proofs.lemmas.List.Elements.{All-head, All-tail, All-cons, All-nil}
use Rattle.venue_types.specs.declared.point.Point.{Point}
use Rattle.venue_types.specs.declared.point.Spot.{Spot}
use Rattle.feature_rows.specs.Sound.{IsOnEarth}
use Rattle.venue_nodes.specs.declared.spots.Bounds.{Bounds}
use Rattle.venue_nodes.specs.Nodes.{middle, last_point, line_middle, box_middle}
use mathlib.Core.Path.{subst₂}
use lib.Signed.{lt_z}
use Rattle.plane_exact.specs.Plane.{IsWithin}
use Rattle.plane_exact.proofs.NumberLemmas.{fits_from_IsWithin}
use Rattle.venue_nodes.specs.Bounds.{with_point, with_all}

abbrev bounds : ℤ → ℤ → ℤ → ℤ → Bounds
bounds w e s n = record { west = w; east = e; south = s; north = n }

abbrev spot : ℤ → ℤ → Spot
spot x y = record { x = x; y = y }

-- what is written and read back
abbrev pub kept : ℤ → ℤ
kept z = to_z w64 (of_z w64 z)

pub kept_is : (z : ℤ) → FitsSigned w64 z → kept z ≡ z
kept_is z f = to_z-of_z w64 z f

pub min_kept : (w a b : ℤ) → FitsSigned w64 w → FitsSigned w64 a → FitsSigned w64 b → w ≡ int_min (kept a) (kept b) → kept w ≡ int_min a b
min_kept w a b fw fa fb e = kept_is w fw ∙ e ∙ ap₂ int_min (kept_is a fa) (kept_is b fb)

pub max_kept : (w a b : ℤ) → FitsSigned w64 w → FitsSigned w64 a → FitsSigned w64 b → w ≡ int_max (kept a) (kept b) → kept w ≡ int_max a b
max_kept w a b fw fa fb e = kept_is w fw ∙ e ∙ ap₂ int_max (kept_is a fa) (kept_is b fb)

pub same_bounds : (w e s n w' e' s' n' : ℤ) → w ≡ w' → e ≡ e' → s ≡ s' → n ≡ n' → bounds w e s n ≡ bounds w' e' s' n'
same_bounds w e s n w' e' s' n' a b c d = cc

-- ---- coordinates

-- within half a turn of 0
abbrev pub IsCoordinate : ℤ → Type 0
IsCoordinate z = IsWithin 180000000000 z (pos 0)

pub east_of : (p : Point) → IsOnEarth p → IsCoordinate p.x
east_of p h = record { above = omega (arith, ints); below = omega (arith, ints) }

pub north_of : (p : Point) → IsOnEarth p → IsCoordinate p.y
north_of p h = record { above = omega (arith, ints); below = omega (arith, ints) }

pub coordinate_fits : (z : ℤ) → IsCoordinate z → FitsSigned w64 z
coordinate_fits z h = fits_from_IsWithin 180000000000 z h (lit< tt)

pub sum_fits : (a b : ℤ) → IsCoordinate a → IsCoordinate b → FitsSigned w64 (a +ℤ b)
sum_fits a b h k = fits_from_IsWithin 360000000000 (a +ℤ b) (record { above = omega (arith, ints); below = omega (arith, ints) }) (lit< tt)

pub kept_sum_fits : (a b : ℤ) → IsCoordinate a → IsCoordinate b → FitsSigned w64 (kept a +ℤ kept b)
kept_sum_fits a b h k = rw (kept_is a (coordinate_fits a h), kept_is b (coordinate_fits b k)) (sum_fits a b h k)

pub sum_kept : (a b : ℤ) → IsCoordinate a → IsCoordinate b → kept (kept a +ℤ kept b) ≡ a +ℤ b
sum_kept a b h k = rw (kept_is a (coordinate_fits a h), kept_is b (coordinate_fits b k)) (kept_is (a +ℤ b) (sum_fits a b h k))

pub middle_kept : (a b : Point) → IsOnEarth a → IsOnEarth b → spot (kept (kept a.x +ℤ kept b.x)) (kept (kept a.y +ℤ kept b.y)) ≡ middle a b
middle_kept a b h k = ap₂ spot (sum_kept a.x b.x (east_of a h) (east_of b k)) (sum_kept a.y b.y (north_of a h) (north_of b k))

-- ---- lines

last_is : (a : Point) (rest : List Point) (d : Point) → get_or (a ∷ rest) (length rest) d ≡ last_point a rest
last_is a [] d = refl
last_is a (b ∷ rest) d = last_is b rest d

pub line_middle_is : (points : List Point) (first d : Point) → 1 ≤ length points → get_or points 0 d ≡ first → middle first (get_or points (length points - 1) d) ≡ line_middle points
line_middle_is [] first d some at = absurd (omega (arith, some))
line_middle_is (a ∷ rest) first d some at =
    let n : length (a ∷ rest) - 1 ≡ length rest = omega arith in
    ap₂ middle (sym at) (ap (λ k. get_or (a ∷ rest) k d) n ∙ last_is a rest d)

-- ---- boxes

-- before the first point
abbrev pub none_yet : Bounds
none_yet = bounds (pos 9223372036854775807) (negsuc 9223372036854775807) (pos 9223372036854775807) (negsuc 9223372036854775807)

min_within : (a b : ℤ) → IsCoordinate a → IsCoordinate b → IsCoordinate (int_min a b)
min_within a b h k = record { above = omega (arith, ints, int_min_is); below = omega (arith, ints, int_min_is) }

max_within : (a b : ℤ) → IsCoordinate a → IsCoordinate b → IsCoordinate (int_max a b)
max_within a b h k = record { above = omega (arith, ints, int_max_is); below = omega (arith, ints, int_max_is) }

least_within : (a : ℤ) (xs : List ℤ) → IsCoordinate a → All IsCoordinate xs → IsCoordinate (fold int_min a xs)
least_within a [] h all = h
least_within a (x ∷ xs) h all = least_within (int_min a x) xs (min_within a x h (All-head IsCoordinate x xs all)) (All-tail IsCoordinate x xs all)

greatest_within : (a : ℤ) (xs : List ℤ) → IsCoordinate a → All IsCoordinate xs → IsCoordinate (fold int_max a xs)
greatest_within a [] h all = h
greatest_within a (x ∷ xs) h all = greatest_within (int_max a x) xs (max_within a x h (All-head IsCoordinate x xs all)) (All-tail IsCoordinate x xs all)

west_of : (b : Bounds) (ps : List Point) → (with_all b ps).west ≡ fold int_min b.west (map (λ (p : Point). p.x) ps)
west_of b [] = refl
west_of b (p ∷ ps) = west_of (with_point b p) ps

east_most : (b : Bounds) (ps : List Point) → (with_all b ps).east ≡ fold int_max b.east (map (λ (p : Point). p.x) ps)
east_most b [] = refl
east_most b (p ∷ ps) = east_most (with_point b p) ps

south_of : (b : Bounds) (ps : List Point) → (with_all b ps).south ≡ fold int_min b.south (map (λ (p : Point). p.y) ps)
south_of b [] = refl
south_of b (p ∷ ps) = south_of (with_point b p) ps

north_most : (b : Bounds) (ps : List Point) → (with_all b ps).north ≡ fold int_max b.north (map (λ (p : Point). p.y) ps)
north_most b [] = refl
north_most b (p ∷ ps) = north_most (with_point b p) ps

first_min : (z : ℤ) → IsCoordinate z → int_min (pos 9223372036854775807) z ≡ z
first_min z h = omega (arith, ints, int_min_is)

first_max : (z : ℤ) → IsCoordinate z → int_max (negsuc 9223372036854775807) z ≡ z
first_max z h = omega (arith, ints, int_max_is)

-- the box round the points a ∷ rest
record IsBox (a : Point) (rest : List Point) (b : Bounds) : Type 0 where
  west : b.west ≡ fold int_min a.x (map (λ (p : Point). p.x) rest)
  east : b.east ≡ fold int_max a.x (map (λ (p : Point). p.x) rest)
  south : b.south ≡ fold int_min a.y (map (λ (p : Point). p.y) rest)
  north : b.north ≡ fold int_max a.y (map (λ (p : Point). p.y) rest)

box_of : (a : Point) (rest : List Point) → IsOnEarth a → IsBox a rest (with_all none_yet (a ∷ rest))
box_of a rest h =
    let x = east_of a h in
    let y = north_of a h in
    record {
      west = west_of (with_point none_yet a) rest ∙ ap (λ z. fold int_min z (map (λ (p : Point). p.x) rest)) (first_min a.x x);
      east = east_most (with_point none_yet a) rest ∙ ap (λ z. fold int_max z (map (λ (p : Point). p.x) rest)) (first_max a.x x);
      south = south_of (with_point none_yet a) rest ∙ ap (λ z. fold int_min z (map (λ (p : Point). p.y) rest)) (first_min a.y y);
      north = north_most (with_point none_yet a) rest ∙ ap (λ z. fold int_max z (map (λ (p : Point). p.y) rest)) (first_max a.y y);
    }

-- its sides are coordinates
pub record IsInside (b : Bounds) : Type 0 where
  pub west : IsCoordinate b.west
  pub east : IsCoordinate b.east
  pub south : IsCoordinate b.south
  pub north : IsCoordinate b.north

xs_within : (ps : List Point) → All IsOnEarth ps → All IsCoordinate (map (λ (p : Point). p.x) ps)
xs_within [] all = All-nil IsCoordinate
xs_within (p ∷ ps) all = All-cons IsCoordinate p.x (map (λ (q : Point). q.x) ps) (east_of p (All-head IsOnEarth p ps all)) (xs_within ps (All-tail IsOnEarth p ps all))

ys_within : (ps : List Point) → All IsOnEarth ps → All IsCoordinate (map (λ (p : Point). p.y) ps)
ys_within [] all = All-nil IsCoordinate
ys_within (p ∷ ps) all = All-cons IsCoordinate p.y (map (λ (q : Point). q.y) ps) (north_of p (All-head IsOnEarth p ps all)) (ys_within ps (All-tail IsOnEarth p ps all))

inside : (a : Point) (rest : List Point) (b : Bounds) → All IsOnEarth (a ∷ rest) → IsBox a rest b → IsInside b
inside a rest b all box =
    let h = All-head IsOnEarth a rest all in
    let t = All-tail IsOnEarth a rest all in
    record {
      west = subst IsCoordinate (sym box.west) (least_within a.x _ (east_of a h) (xs_within rest t));
      east = subst IsCoordinate (sym box.east) (greatest_within a.x _ (east_of a h) (xs_within rest t));
      south = subst IsCoordinate (sym box.south) (least_within a.y _ (north_of a h) (ys_within rest t));
      north = subst IsCoordinate (sym box.north) (greatest_within a.y _ (north_of a h) (ys_within rest t));
    }

-- the least is at most the greatest
ordered : (a : Point) (rest : List Point) (b : Bounds) → IsBox a rest b → b.west ≤ℤ b.east
ordered a rest b box = let low = fold-int_min_bounds a.x (map (λ (p : Point). p.x) rest) b.west box.west in
    let high = fold-int_max_bounds a.x (map (λ (p : Point). p.x) rest) b.east box.east in
    between _ _ _ low.0 high.0 where
      between : (x y z : ℤ) → x ≤ℤ y → y ≤ℤ z → x ≤ℤ z
      between x y z h k = omega (arith, ints)

-- without points the test holds, with points it fails
pub empty_middle : (ps : List Point) (b : Bounds) → All IsOnEarth ps → b ≡ with_all none_yet ps → lt_z (kept b.east) (kept b.west) ≡ true → spot (pos 0) (pos 0) ≡ box_middle ps
empty_middle [] b all is h = refl
empty_middle (a ∷ rest) b all is h =
    let box : IsBox a rest b = subst (IsBox a rest) (sym is) (box_of a rest (All-head IsOnEarth a rest all)) in
    let in_it = inside a rest b all box in
    absurd (never b.west b.east (ordered a rest b box) (subst₂ (λ (e w : ℤ). lt_z e w ≡ true) (kept_is b.east (coordinate_fits _ in_it.east)) (kept_is b.west (coordinate_fits _ in_it.west)) h)) where
      never : (w e : ℤ) → w ≤ℤ e → lt_z e w ≡ true → ⊥
      never w e h k = grind (arith, ints)

empty_holds : lt_z (kept (negsuc 9223372036854775807)) (kept (pos 9223372036854775807)) ≡ true
empty_holds = refl

pub box_inside : (ps : List Point) (b : Bounds) → All IsOnEarth ps → b ≡ with_all none_yet ps → lt_z (kept b.east) (kept b.west) ≡ false → IsInside b
box_inside [] b all is h = let e : lt_z (kept b.east) (kept b.west) ≡ true = subst (λ (c : Bounds). lt_z (kept c.east) (kept c.west) ≡ true) (sym is) empty_holds in cc
box_inside (a ∷ rest) b all is h = inside a rest b all (subst (IsBox a rest) (sym is) (box_of a rest (All-head IsOnEarth a rest all)))

pub box_middle_is : (ps : List Point) (b : Bounds) → All IsOnEarth ps → b ≡ with_all none_yet ps → lt_z (kept b.east) (kept b.west) ≡ false
    → spot (kept (kept b.west +ℤ kept b.east)) (kept (kept b.south +ℤ kept b.north)) ≡ box_middle ps
box_middle_is [] b all is h = let e : lt_z (kept b.east) (kept b.west) ≡ true = subst (λ (c : Bounds). lt_z (kept c.east) (kept c.west) ≡ true) (sym is) empty_holds in cc
box_middle_is (a ∷ rest) b all is h =
    let box : IsBox a rest b = subst (IsBox a rest) (sym is) (box_of a rest (All-head IsOnEarth a rest all)) in
    let in_it = inside a rest b all box in
    ap₂ spot (sum_kept b.west b.east in_it.west in_it.east ∙ ap₂ (λ (m n : ℤ). m +ℤ n) box.west box.east)
    (sum_kept b.south b.north in_it.south in_it.north ∙ ap₂ (λ (m n : ℤ). m +ℤ n) box.south box.north)
