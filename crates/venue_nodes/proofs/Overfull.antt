-- How many members units have, by rows without openings and how many of these touch the first units.
use Rattle.std.proofs.Common.{◌≡◌, ◌≢◌, ◌↔◌, ℕ, Bool, true, false, nat_eq, ◌+◌, ◌*◌, ◌≤◌, ◌<◌, zero, suc, List, [], ◌∷◌, ◌++◌, Some, length, map, filter, flat_map, get_or, refl, sym, ap, subst, ◌∙◌, arith, inl, inr, length-append, cond, if◌then◌else◌}
use Rattle.std.specs.Prelude.{AllPairs, Contains, IsTrue, slice_get, slice_index_or, sum_by}
use Rattle.std.specs.Cmp.{nat_eq_equiv}
use Rattle.std.specs.List.{IsDistinct}
use Rattle.std.proofs.Math.Nat.{mul-le-mul}
use Rattle.std.proofs.lemmas.Bool.{cases_lt, ne_eqb}
use Rattle.std.proofs.lemmas.Bool.Decides.{Decides-eqb, same_from_decides}
use Rattle.std.proofs.lemmas.List.{get_or_past}
use Rattle.std.proofs.lemmas.List.Elements.{recursion_from_All}
use Rattle.std.proofs.lemmas.List.Kept.{AllPairs-from_increasing}
use Rattle.std.proofs.lemmas.List.Sums.{sum_by-cons}
use Rattle.std.proofs.lemmas.Map.Keys.{IsStrictlyIncreasing-from_sorted}
use Rattle.std.proofs.lemmas.Map.Made.{is_member-Decides, length-from_same_keys}
use Rattle.std.proofs.lemmas.Option.{same_Some, slice_get_within, slice_get-get_or}
use Rattle.venue_types.proofs.Items.{at_member, member_at, at_map, from_map}
use Rattle.venue_types.specs.declared.feature_id.FeatureId.{FeatureId}
use Rattle.venue_types.specs.declared.features.Features.{Features}
use Rattle.venue_types.specs.declared.features.AmenityRow.{AmenityRow}
use Rattle.venue_types.specs.declared.features.AnchorRow.{AnchorRow}
use Rattle.venue_types.specs.declared.features.OpeningRow.{OpeningRow}
use Rattle.venue_types.specs.declared.features.UnitRow.{UnitRow}
use Rattle.venue_types.specs.declared.settings.Inside.{Inside}
use Rattle.venue_types.specs.declared.settings.Settings.{Settings}
use Rattle.plane_exact.specs.Opening.{Touches}
use Rattle.venue_nodes.specs.TouchCounts.{HasFull, IsTouchedBy, TouchMany, walked_sum}
use Rattle.venue_nodes.specs.declared.limits.Crowding.TheVariants.{Members, Squares}
use Rattle.venue_nodes.specs.declared.members.Rows.{Rows}
use Rattle.venue_nodes.specs.Crowds.{Crowds, IsFirstOver, IsOver}
use Rattle.venue_nodes.specs.Identity.{is_same}
use Rattle.venue_nodes.specs.Touching.{does_touch}
use Rattle.venue_nodes.specs.Nodes.{NodeRow, amenity, anchor, opening, unit, corner_rows, place_node_rows, room_corners, node_rows}
use Rattle.venue_nodes.specs.Limits.{IsCrowded}
use Rattle.venue_nodes.specs.Rows.{AreNamedRows, row_list, unit_indexes}
use Rattle.venue_nodes.specs.Members.{is_member, members, places_where}
use Rattle.venue_nodes.specs.Naming.{names, row_in, can_walk, unit_id, named_by, named_by_corners}
use Rattle.venue_nodes.proofs.Folder.{zip_maps, or_false, own_corners}
use Rattle.venue_nodes.proofs.Items.{map_twice}
use Rattle.venue_nodes.proofs.Named.{one_names}
use Rattle.venue_nodes.proofs.Places.{places-append, places_count, places-zip, places_rise, place_at, number_of, kept_at, lesser_number}

-- ---- how many pass a test

count_append : {A : Type 0} (t : A → Bool) (xs ys : List A) → length (places_where t 0 (xs ++ ys)) ≡ length (places_where t 0 xs) + length (places_where t 0 ys)
count_append t xs ys =
    ap length (places-append t 0 xs ys) ∙ length-append (places_where t 0 xs) (places_where t (0 + length xs) ys)
    ∙ ap (λ (n : ℕ). length (places_where t 0 xs) + n) (places_count t (0 + length xs) ys ∙ sym (places_count t 0 ys))

places_map : {A B : Type 0} (t : B → Bool) (f : A → B) (n : ℕ) (xs : List A) → places_where t n (map f xs) ≡ places_where (λ x. t (f x)) n xs
places_map t f n [] = refl
places_map t f n (x ∷ xs) = ap (λ (ps : List ℕ). if t (f x) then n ∷ ps else ps) (places_map t f (n + 1) xs)

five_counts : {A : Type 0} (t : A → Bool) (as1 bs cs ds es : List A)
    → length (places_where t 0 (as1 ++ bs ++ cs ++ ds ++ es)) ≡ length (places_where t 0 as1) + length (places_where t 0 bs) + length (places_where t 0 cs) + length (places_where t 0 ds) + length (places_where t 0 es)
five_counts t as1 bs cs ds es =
    let one = count_append t as1 bs in
    let two = count_append t (as1 ++ bs) cs in
    let three = count_append t (as1 ++ bs ++ cs) ds in
    let four = count_append t (as1 ++ bs ++ cs ++ ds) es in
    omega (arith, one, two, three, four)

-- the openings that touch the unit
abbrev pub touching : ℕ → UnitRow → OpeningRow → Bool
touching border_tol u row = does_touch border_tol row u

-- the members of a unit are those in its row without openings, and the openings that touch it
pub members_counted : (features : Features) (settings : Settings) (u : UnitRow)
    → length (members features settings u) ≡ length (row_in (named_by features settings.inside [] (map unit_id (filter can_walk features.units))) u.id) + length (places_where (touching settings.border_tol u) 0 features.openings)
unfolding members node_rows place_node_rows room_corners
members_counted features settings u =
    let t : List FeatureId → Bool = λ ids. names ids u.id in
    let s : NodeRow → Bool = is_member settings.border_tol u in
    let ways = filter can_walk features.units in
    let a1 = map (λ (row : AmenityRow). row.units) features.amenities in
    let b1 = map (λ (row : AnchorRow). row.unit ∷ []) features.anchors in
    let d1 = map (λ (id : FeatureId). id ∷ []) (map unit_id ways) in
    let one : length (places_where t 0 a1) ≡ length (places_where s 0 (map amenity features.amenities)) =
    ap length (places-zip t s 0 a1 (map amenity features.amenities) (zip_maps t s (λ (row : AmenityRow). row.units) amenity features.amenities (λ r. refl))) in
    let two : length (places_where t 0 b1) ≡ length (places_where s 0 (map anchor features.anchors)) =
    ap length (places-zip t s 0 b1 (map anchor features.anchors) (zip_maps t s (λ (row : AnchorRow). row.unit ∷ []) anchor features.anchors (λ r. or_false (is_same r.unit u.id)))) in
    let four : length (places_where t 0 d1) ≡ length (places_where s 0 (map unit ways)) =
    ap length (ap (places_where t 0) (map_twice (λ (id : FeatureId). id ∷ []) unit_id ways)
    ∙ places-zip t s 0 (map (λ (row : UnitRow). row.id ∷ []) ways) (map unit ways) (zip_maps t s (λ (row : UnitRow). row.id ∷ []) unit ways (λ r. or_false (is_same r.id u.id)))) in
    let doors : length (places_where s 0 (map opening features.openings)) ≡ length (places_where (touching settings.border_tol u) 0 features.openings) = ap length (places_map s opening 0 features.openings) in
    let e1 = named_by_corners settings.inside features.units in
    let e2 = flat_map (corner_rows settings.inside) ways in
    let five : length (places_where t 0 e1) ≡ length (places_where s 0 e2) = ap length (places-zip t s 0 e1 e2 (own_corners u settings.border_tol settings.inside features.units)) in
    let left = five_counts t a1 b1 [] d1 e1 in
    let right = five_counts s (map amenity features.amenities) (map anchor features.anchors) (map opening features.openings) (map unit ways) e2 in
    omega (arith, one, two, four, five, doors, left, right)

-- ---- how many openings touch a unit

distinct : (xs : List ℕ) → AllPairs (λ (a b : ℕ). a ≢ b) xs → IsDistinct nat_eq xs
unfolding IsDistinct
distinct [] apart = tt
distinct (x ∷ xs) apart = (
  recursion_from_All (λ (y : ℕ). nat_eq x y ≡ false) xs (λ k d within. ne_eqb x (get_or xs k d) (apart 0 (suc k) d (omega arith) (omega (arith, within)))),
  distinct xs (λ i j d under within. apart (suc i) (suc j) d (omega (arith, under)) (omega (arith, within))),
)

places_distinct : {A : Type 0} (t : A → Bool) (xs : List A) → AllPairs (λ (a b : ℕ). a ≢ b) (places_where t 0 xs)
places_distinct t xs i j d under within same =
    let less = AllPairs-from_increasing (places_where t 0 xs) (IsStrictlyIncreasing-from_sorted (places_where t 0 xs) (places_rise t 0 xs)) i j d under within in
    omega (arith, less, same)

pub touched_count : (border_tol : ℕ) (openings : List OpeningRow) (u : UnitRow) (count : ℕ) → ((o : OpeningRow) → IsTrue (does_touch border_tol o u) ↔ Touches border_tol o u)
    → IsTouchedBy border_tol openings u count → count ≡ length (places_where (touching border_tol u) 0 openings)
touched_count border_tol openings u count law by =
    let places = places_where (touching border_tol u) 0 openings in
    sym by.long
    ∙ length-from_same_keys nat_eq_equiv by.places places (distinct by.places by.are.distinct) (distinct places (places_distinct (touching border_tol u) openings))
    (λ o. same_from_decides _ _ (is_member-Decides Decides-eqb by.places o)
    (let has = is_member-Decides Decides-eqb places o in (λ is. back o (has.0 is), λ there. has.1 (into o there))))
  where
    into : (o : ℕ) → Contains by.places o → Contains (places_where (touching border_tol u) 0 openings) o
    into o there =
        let at = (by.are.exact o).0 there in
        let number = number_of (touching border_tol u) 0 openings o at.opening at.there ((law at.opening).1 at.touch) in
        let is : 0 + o ≡ o = omega arith in
        member_at (places_where (touching border_tol u) 0 openings) number.w o (number.placed ∙ ap (λ (m : ℕ). Some m) is)

    back : (o : ℕ) → Contains (places_where (touching border_tol u) 0 openings) o → Contains by.places o
    back o there =
        let at = at_member (places_where (touching border_tol u) 0 openings) o there in
        let place = place_at (touching border_tol u) 0 openings at.0 o at.1 in
        let same : place.k ≡ o = omega (arith, place.is) in
        (by.are.exact o).1 (record { opening = place.x; there = subst (λ (k : ℕ). slice_get openings k ≡ Some place.x) same place.there; touch = (law place.x).0 place.passes })

-- ---- the sum over the units in which people walk

n_square : (n m : ℕ) → n ≤ m → n ≤ m * m
n_square n zero under = omega arith
n_square n (suc m) under = let one : 1 ≤ suc m = omega arith in let product = mul-le-mul under one in omega (arith, product)

walked_less : (f : UnitRow → ℕ) (units : List UnitRow) (counts : List ℕ) → ((k n : ℕ) (u : UnitRow) → slice_get counts k ≡ Some n → slice_get units k ≡ Some u → n ≤ f u)
    → walked_sum units counts ≤ sum_by (λ (u : UnitRow). f u * f u) (filter can_walk units)
walked_less f [] counts less = omega arith
walked_less f (u ∷ units) [] less = omega arith
walked_less f (u ∷ units) (n ∷ counts) less = step (can_walk u) (walked_less f units counts (λ k m v a b. less (suc k) m v a b)) where
  step : (b : Bool) → walked_sum units counts ≤ sum_by (λ (u : UnitRow). f u * f u) (filter can_walk units) → (if b then n else 0) + walked_sum units counts ≤ sum_by (λ (u : UnitRow). f u * f u) (cond b (u ∷ filter can_walk units) (filter can_walk units))
  step true rest =
      let square = n_square n (f u) (less 0 n u refl refl) in
      let sum = sum_by-cons (λ (u : UnitRow). f u * f u) u (filter can_walk units) in
      omega (arith, square, rest, sum)
  step false rest = omega (arith, rest)

-- ---- rows without openings beside counts

some_counted : {A : Type 0} (t : A → Bool) (xs : List A) (w : ℕ) (x : A) → slice_get xs w ≡ Some x → t x ≡ true → 1 ≤ length (places_where t 0 xs)
some_counted t xs w x there passes =
    let number = number_of t 0 xs w x there passes in
    let within = slice_get_within (places_where t 0 xs) number.w (0 + w) number.placed in
    omega (arith, within)

abbrev named : Features → Inside → List (List FeatureId)
named features inside = named_by features inside [] (map unit_id (filter can_walk features.units))

-- how many members a unit has without the openings that touch it
abbrev others : Features → Inside → UnitRow → ℕ
others features inside u = length (row_in (named features inside) u.id)

-- a unit in which people walk is its own member
own_member : (features : Features) (inside : Inside) (k : ℕ) (u : UnitRow) → slice_get features.units k ≡ Some u → can_walk u ≡ true → 1 ≤ others features inside u
own_member features inside k u there walks =
    let t : List FeatureId → Bool = λ ids. names ids u.id in
    let a1 = map (λ (row : AmenityRow). row.units) features.amenities in
    let b1 = map (λ (row : AnchorRow). row.unit ∷ []) features.anchors in
    let ids = map unit_id (filter can_walk features.units) in
    let d1 = map (λ (id : FeatureId). id ∷ []) ids in
    let number = number_of can_walk 0 features.units k u there walks in
    let at = at_map (λ (id : FeatureId). id ∷ []) ids number.w u.id (at_map unit_id (filter can_walk features.units) number.w u number.is_kept) in
    let one = some_counted t d1 number.w (u.id ∷ []) at (one_names (u.id ∷ []) u.id 0 refl) in
    let all = five_counts t a1 b1 [] d1 (named_by_corners inside features.units) in
    omega (arith, one, all)

module _ (features : Features) (settings : Settings) (counts : List ℕ) (rows : Rows) (law : (o : OpeningRow) (u : UnitRow) → IsTrue (does_touch settings.border_tol o u) ↔ Touches settings.border_tol o u)
    (are : AreNamedRows features settings.inside [] rows) (many : TouchMany settings.border_tol features.openings features.units counts) where
  abbrev count_of : UnitRow → ℕ
  count_of u = length (places_where (touching settings.border_tol u) 0 features.openings)

  whole : (u : UnitRow) → length (members features settings u) ≡ others features settings.inside u + count_of u
  whole u = members_counted features settings u

  counted : (k n : ℕ) (u : UnitRow) → slice_get counts k ≡ Some n → slice_get features.units k ≡ Some u → n ≡ count_of u
  counted k n u at there =
      let is = many.are k n at in
      let same : is.unit ≡ u = same_Some is.unit u (sym is.there ∙ there) in
      touched_count settings.border_tol features.openings u n (λ o. law o u) (subst (λ (v : UnitRow). IsTouchedBy settings.border_tol features.openings v n) same is.touched)

  counted_at : (k : ℕ) (u : UnitRow) → k < length counts → slice_get features.units k ≡ Some u → slice_index_or counts k 0 ≡ count_of u
  counted_at k u within there = counted k (slice_index_or counts k 0) u (slice_get-get_or counts k 0 within) there

  count_less : (k : ℕ) (u : UnitRow) → slice_get features.units k ≡ Some u → slice_index_or counts k 0 ≤ count_of u
  count_less k u there = elim (cases_lt k (length counts)) [
    | inl within ↦ let is = counted_at k u within there in omega (arith, is)
    | inr past ↦ let none : slice_index_or counts k 0 ≡ 0 = get_or_past counts k 0 past in omega (arith, none)
  ]

  -- a unit that has too many with its count has a row with too many
  record HasRow (k : ℕ) : Type 0 where
    pub w : ℕ
    pub is : IsOver rows counts w k
    pub placed : slice_get (places_where can_walk 0 features.units) w ≡ Some k

  row_of : (k : ℕ) (u : UnitRow) → slice_get features.units k ≡ Some u → can_walk u ≡ true → 4096 < others features settings.inside u + slice_index_or counts k 0 → HasRow k
  row_of k u there walks over =
      let number = number_of can_walk 0 features.units k u there walks in
      let is : 0 + k ≡ k = omega arith in
      let ids = map unit_id (filter can_walk features.units) in
      let at = at_map (row_in (named features settings.inside)) ids number.w u.id (at_map unit_id (filter can_walk features.units) number.w u number.is_kept) in
      let placed = number.placed ∙ ap (λ (m : ℕ). Some m) is in
      record {
        w = number.w;
        is = record {
          row = row_in (named features settings.inside) u.id;
          there = subst (λ (rs : List (List ℕ)). slice_get rs number.w ≡ Some (row_in (named features settings.inside) u.id)) (sym are.named_are) at;
          unit_is = subst (λ (ps : List ℕ). slice_get ps number.w ≡ Some k) (sym are.indexes_are) placed;
          over = over;
        };
        placed = placed;
      }

  -- and the other way round
  record HasUnit (w k : ℕ) : Type 0 where
    pub unit : UnitRow
    pub there : slice_get features.units k ≡ Some unit
    pub walks : can_walk unit ≡ true
    pub over : 4096 < others features settings.inside unit + slice_index_or counts k 0
    pub placed : slice_get (places_where can_walk 0 features.units) w ≡ Some k

  unit_of : (w k : ℕ) → IsOver rows counts w k → HasUnit w k
  unit_of w k over =
      let ids = map unit_id (filter can_walk features.units) in
      let from = from_map (row_in (named features settings.inside)) ids w over.row (subst (λ (rs : List (List ℕ)). slice_get rs w ≡ Some over.row) are.named_are over.there) in
      let of = from_map unit_id (filter can_walk features.units) w from.0 from.1 in
      let kept = kept_at can_walk 0 features.units w of.0 of.1 in
      let place : slice_get (places_where can_walk 0 features.units) w ≡ Some k = subst (λ (ps : List ℕ). slice_get ps w ≡ Some k) are.indexes_are over.unit_is in
      let same : 0 + kept.k ≡ k = same_Some (0 + kept.k) k (sym kept.placed ∙ place) in
      let is : kept.k ≡ k = omega (arith, same) in
      let row_is : row_in (named features settings.inside) of.0.id ≡ over.row = ap (row_in (named features settings.inside)) of.2 ∙ from.2 in
      record {
        unit = of.0;
        there = subst (λ (m : ℕ). slice_get features.units m ≡ Some of.0) is kept.there;
        walks = kept.passes;
        over = subst (λ (row : List ℕ). 4096 < length row + slice_index_or counts k 0) (sym row_is) over.over;
        placed = place;
      }

  -- a full unit has a row with too many
  full_row : (full : HasFull features.units counts) → HasRow full.k
  full_row full =
      let within = slice_get_within counts full.k full.count full.counted in
      let is = counted_at full.k full.unit within full.there in
      let count = counted full.k full.count full.unit full.counted full.there in
      let own = own_member features settings.inside full.k full.unit full.there full.walkable in
      let more = full.full in
      row_of full.k full.unit full.there full.walkable (omega (arith, is, count, own, more))

  -- a crowded unit has a row with too many, or one before it has
  record HasRowUpTo (k : ℕ) : Type 0 where
    pub j : ℕ
    pub row : HasRow j
    pub upto : j ≤ k

  crowded_row : (k : ℕ) → IsCrowded features settings k → HasRowUpTo k
  crowded_row k crowd = elim (cases_lt k (length counts)) [
    | inl within ↦
        let is = counted_at k crowd.unit within crowd.there in
        let all = whole crowd.unit in
        let more = crowd.many in
        record { j = k; row = row_of k crowd.unit crowd.there crowd.walkable (omega (arith, is, all, more)); upto = omega arith }
    | inr past ↦ elim many.many [
      | inl full ↦
          let within = slice_get_within counts full.k full.count full.counted in
          record { j = full.k; row = full_row full; upto = omega (arith, within, past) }
      | inr rest ↦
          let within = slice_get_within features.units k crowd.unit crowd.there in
          let all = rest.0 in
          absurd (omega (arith, within, past, all))
    ]
  ]

  pub members_crowd : (k : ℕ) → IsFirstOver rows counts k → Crowds features settings (Some (Members k))
  members_crowd k first =
      let of = unit_of first.w k first.is in
      let all = whole of.unit in
      let less = count_less k of.unit of.there in
      let over = of.over in (
        record { unit = of.unit; there = of.there; walkable = of.walks; many = omega (arith, all, less, over) },
        λ j under crowd.
            let up = crowded_row j crowd in
            let upto = up.upto in
            let least : up.j < k = omega (arith, under, upto) in
            first.before up.row.w up.j (lesser_number (places_where can_walk 0 features.units) up.row.w first.w up.j k (places_rise can_walk 0 features.units) up.row.placed of.placed least) up.row.is,
      )

  pub squares_crowd : ((w k : ℕ) → ¬ IsOver rows counts w k) → Crowds features settings (Some Squares)
  squares_crowd none = (
    λ k crowd. let up = crowded_row k crowd in none up.row.w up.j up.row.is,
    elim many.many [
      | inl full ↦ let row = full_row full in absurd (none row.w full.k row.is)
      | inr rest ↦
          let less = walked_less (λ (u : UnitRow). length (members features settings u)) features.units counts
          (λ k n u at there. let is = counted k n u at there in let all = whole u in omega (arith, is, all)) in
          let sum = rest.1 in
          omega (arith, less, sum)
    ],
  )

-- ---- the loop over rows

-- the row at hand and its count are not too many, nor those before
pub none_next : (rows : Rows) (counts : List ℕ) (w k : ℕ) (row : List ℕ) (count : ℕ) → slice_get (row_list rows) w ≡ Some row → slice_get (unit_indexes rows) w ≡ Some k → count ≡ slice_index_or counts k 0
    → ¬ (4096 < length row + count) → ((v j : ℕ) → v < w → ¬ IsOver rows counts v j) → (v j : ℕ) → v < w + 1 → ¬ IsOver rows counts v j
none_next rows counts w k row count there unit_is counted roomy before v j under over = elim (cases_lt v w) [
  | inl less ↦ before v j less over
  | inr no_less ↦
      let here : v ≡ w = omega (arith, under, no_less) in
      let row_is : over.row ≡ row = same_Some over.row row (sym over.there ∙ ap (λ (i : ℕ). slice_get (row_list rows) i) here ∙ there) in
      let index_is : j ≡ k = same_Some j k (sym over.unit_is ∙ ap (λ (i : ℕ). slice_get (unit_indexes rows) i) here ∙ unit_is) in
      let long : length over.row ≡ length row = ap length row_is in
      let many : slice_index_or counts j 0 ≡ count = ap (λ (i : ℕ). slice_index_or counts i 0) index_is ∙ sym counted in
      let more = over.over in
      roomy (omega (arith, long, many, more))
]

pub not_so : {P : Type 0} (b : Bool) → (IsTrue b ↔ P) → b ≡ false → ¬ P
not_so b decides is holds = let met : b ≡ true = decides.1 holds in cc
