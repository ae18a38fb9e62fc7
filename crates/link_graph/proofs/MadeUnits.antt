-- The units of a graph, as they are made.
use Rattle.std.proofs.Common.{◌≡◌, ℕ, zero, suc, ◌+◌, ◌-◌, ◌<◌, ◌≤◌, Bool, true, false, cond, not, ◌&&◌, List, [], ◌∷◌, ◌++◌, Option, Some, None, length, map, flat_map, filter, replicate, get_or, take, pos, refl, sym, ap, ap₂, ◌∙◌, subst, inl, inr, arith}
use Rattle.std.specs.Prelude.{Contains, slice_get, nat_lt}
use Rattle.std.specs.List.{enumerate_from}
use Rattle.std.specs.List.Sorted.{IsStrictlyIncreasing}
use Rattle.std.specs.Option.{option_map_or}
use Rattle.std.proofs.Math.Seq.{take-suc, take-length}
use Rattle.std.proofs.lemmas.Bool.{cases_lt, lt-ltb, le-ltb}
use Rattle.std.proofs.lemmas.List.{length-map, length-replicate, get_or-replicate, get_or-append-add, get_or_append_left}
use Rattle.std.proofs.lemmas.Map.Keys.{IsStrictlyIncreasing-from_sorted}
use Rattle.std.proofs.lemmas.Option.{same_Some, slice_get_within, get_or_from_slice_get}
use Rattle.venue_types.specs.declared.features.Features.{Features}
use Rattle.venue_types.specs.declared.features.UnitRow.{UnitRow}
use Rattle.venue_types.specs.declared.link.Link.{Link}
use Rattle.venue_types.specs.declared.link.Node.{Node}
use Rattle.venue_types.specs.declared.point.Spot.{Spot}
use Rattle.venue_types.specs.declared.settings.Settings.{Settings}
use Rattle.imdf_access.specs.Categories.{is_walkable, unit_kind_of}
use Rattle.venue_nodes.specs.Members.{members, places_where}
use Rattle.venue_nodes.specs.Nodes.{nodes, carries}
use Rattle.venue_nodes.specs.Rows.{AreRowsOf, row_list, unit_indexes}
use Rattle.venue_nodes.specs.Views.{node_list}
use Rattle.venue_nodes.specs.declared.members.Rows.{Rows}
use Rattle.venue_nodes.proofs.Items.{at_member, member_at, at_map, from_map}
use Rattle.venue_nodes.proofs.Places.{kept_at, places_rise, place_at}
use Rattle.link_graph.specs.declared.parts.Core.{Core}
use Rattle.link_graph.specs.declared.parts.Crossing.{Crossing}
use Rattle.link_graph.specs.Cores.{way_in, links_across, links_across_all, links_across_from, joined_in, IsTableOf}
use Rattle.link_graph.specs.Lengths.{length_between}
use Rattle.link_graph.specs.Links.{spot_of, are_joined, inside_link, links_from, unit_links, way}
use Rattle.link_graph.specs.Making.{AreTables, crossing_of, crossings_from, barred_from}
use Rattle.link_graph.proofs.Joined.{filter_same, flat_map_within}
use Rattle.link_graph.proofs.RoomTables.{kept_so, table_fits}

abbrev pub walks : UnitRow → Bool
walks row = is_walkable row.category

abbrev pub via_of : Crossing → ℕ
via_of crossing = crossing.via

-- ---- their numbers

via_choice : (features : Features) (settings : Settings) (b : Bool) (via : ℕ) (u : UnitRow) (cs : List Crossing) (ps : List ℕ) → map via_of cs ≡ ps
    → map via_of (cond b (crossing_of features settings via u ∷ cs) cs) ≡ cond b (via ∷ ps) ps
via_choice features settings true via u cs ps e = ap (λ (xs : List ℕ). via ∷ xs) e
via_choice features settings false via u cs ps e = e

pub vias_are : (features : Features) (settings : Settings) (via : ℕ) (us : List UnitRow) → map via_of (crossings_from features settings via us) ≡ places_where walks via us
vias_are features settings via [] = refl
vias_are features settings via (u ∷ us) =
    via_choice features settings (walks u) via u (crossings_from features settings (via + 1) us) (places_where walks (via + 1) us) (vias_are features settings (via + 1) us)

pub vias_rise : (features : Features) (settings : Settings) (via : ℕ) (us : List UnitRow) → IsStrictlyIncreasing (map via_of (crossings_from features settings via us))
vias_rise features settings via us =
    subst (λ (xs : List ℕ). IsStrictlyIncreasing xs) (sym (vias_are features settings via us)) (IsStrictlyIncreasing-from_sorted (places_where walks via us) (places_rise walks via us))

pub via_within : (features : Features) (settings : Settings) (via : ℕ) (us : List UnitRow) (crossing : Crossing) → Contains (crossings_from features settings via us) crossing → (via ≤ crossing.via) × (crossing.via < via + length us)
via_within features settings via us crossing h =
    let at = at_member (crossings_from features settings via us) crossing h in
    let number : slice_get (places_where walks via us) at.0 ≡ Some crossing.via = ap (λ (ps : List ℕ). slice_get ps at.0) (sym (vias_are features settings via us)) ∙ at_map via_of (crossings_from features settings via us) at.0 crossing at.1 in
    let place = place_at walks via us at.0 crossing.via number in
    let is : crossing.via ≡ via + place.k = place.is in
    let under : place.k < length us = slice_get_within us place.k place.x place.there in
    (omega arith, omega arith)

choice_many : (features : Features) (settings : Settings) (b : Bool) (via : ℕ) (u : UnitRow) (cs : List Crossing) (us : List UnitRow) → length cs ≡ length us
    → length (cond b (crossing_of features settings via u ∷ cs) cs) ≡ length (cond b (u ∷ us) us)
choice_many features settings true via u cs us e = ap suc e
choice_many features settings false via u cs us e = e

pub crossings_many : (features : Features) (settings : Settings) (via : ℕ) (us : List UnitRow) → length (crossings_from features settings via us) ≡ length (filter walks us)
crossings_many features settings via [] = refl
crossings_many features settings via (u ∷ us) = choice_many features settings (walks u) via u (crossings_from features settings (via + 1) us) (filter walks us) (crossings_many features settings (via + 1) us)

-- ---- the unit of each row

-- behind the first of them those of the rest stand one later
later_kept : (features : Features) (settings : Settings) (via n : ℕ) (y : UnitRow) (ys kept : List UnitRow) (places : List ℕ) (made : List Crossing)
    → ((w p : ℕ) (u : UnitRow) → slice_get kept w ≡ Some u → slice_get places w ≡ Some p → slice_get made w ≡ Some (crossing_of features settings (via + p) u))
    → (b : Bool) (w p : ℕ) (u : UnitRow) → slice_get (cond b (y ∷ kept) kept) w ≡ Some u → slice_get (cond b (n ∷ places) places) w ≡ Some p
    → slice_get (cond b (crossing_of features settings (via + n) y ∷ made) made) w ≡ Some (crossing_of features settings (via + p) u)
later_kept features settings via n y ys kept places made later true zero p u h k =
    ap₂ (λ (m : ℕ) (row : UnitRow). Some (crossing_of features settings (via + m) row)) (same_Some n p k) (same_Some y u h)
later_kept features settings via n y ys kept places made later true (suc w) p u h k = later w p u h k
later_kept features settings via n y ys kept places made later false w p u h k = later w p u h k

crossing_kept : (features : Features) (settings : Settings) (via n : ℕ) (us : List UnitRow) (w p : ℕ) (u : UnitRow) → slice_get (filter walks us) w ≡ Some u → slice_get (places_where walks n us) w ≡ Some p
    → slice_get (crossings_from features settings (via + n) us) w ≡ Some (crossing_of features settings (via + p) u)
crossing_kept features settings via n [] w p u h k = absurd (let no : None ≡ Some u = h in cc)
crossing_kept features settings via n (y ∷ ys) w p u h k =
    let on : via + (n + 1) ≡ via + n + 1 = omega arith in
    later_kept features settings via n y ys (filter walks ys) (places_where walks (n + 1) ys) (crossings_from features settings (via + n + 1) ys)
    (λ v q x i j. subst (λ (m : ℕ). slice_get (crossings_from features settings m ys) v ≡ Some (crossing_of features settings (via + q) x)) on (crossing_kept features settings via (n + 1) ys v q x i j))
    (walks y) w p u h k

-- a row is of the unit at this index, and its unit is this one of those that are crossed
pub record IsRowAt (features : Features) (settings : Settings) (via w k : ℕ) (row : List ℕ) : Type 0 where
  pub u : UnitRow
  pub there : slice_get features.units k ≡ Some u
  pub is : row ≡ members features settings u
  pub crossed : slice_get (crossings_from features settings via features.units) w ≡ Some (crossing_of features settings (via + k) u)

pub row_at : (features : Features) (settings : Settings) (rows : Rows) (via w k : ℕ) (row : List ℕ) → AreRowsOf features settings rows → slice_get (row_list rows) w ≡ Some row → slice_get (unit_indexes rows) w ≡ Some k
    → IsRowAt features settings via w k row
row_at features settings rows via w k row are h number =
    let from = from_map (members features settings) (filter walks features.units) w row (ap (λ (rs : List (List ℕ)). slice_get rs w) (sym are.members_are) ∙ h) in
    let kept = kept_at walks 0 features.units w from.0 from.1 in
    let placed : slice_get (places_where walks 0 features.units) w ≡ Some k = ap (λ (ps : List ℕ). slice_get ps w) (sym are.units_are) ∙ number in
    let same : 0 + kept.k ≡ k = same_Some (0 + kept.k) k (sym kept.placed ∙ placed) in
    let none : via + 0 ≡ via = omega arith in
    let index : kept.k ≡ k = omega (arith, same) in
    record {
      u = from.0;
      there = subst (λ (j : ℕ). slice_get features.units j ≡ Some from.0) index kept.there;
      is = sym from.2;
      crossed = subst (λ (m : ℕ). slice_get (crossings_from features settings m features.units) w ≡ Some (crossing_of features settings (via + k) from.0)) none (crossing_kept features settings via 0 features.units w k from.0 from.1 placed);
    }

-- the same of a unit that is read at the index
pub record IsRowOf (features : Features) (settings : Settings) (via w k : ℕ) (row : List ℕ) (u : UnitRow) : Type 0 where
  pub own : Contains features.units u
  pub is : row ≡ members features settings u
  pub crossed : slice_get (crossings_from features settings via features.units) w ≡ Some (crossing_of features settings (via + k) u)

pub row_of : (features : Features) (settings : Settings) (via w k : ℕ) (row : List ℕ) (units : List UnitRow) (u : UnitRow) → IsRowAt features settings via w k row → units ≡ features.units → u ≡ get_or units k u
    → IsRowOf features settings via w k row u
row_of features settings via w k row units u at whole read =
    let there = subst (λ (us : List UnitRow). slice_get us k ≡ Some at.u) (sym whole) at.there in
    let same : at.u ≡ u = sym (read ∙ get_or_from_slice_get units k at.u u there) in
    subst (IsRowOf features settings via w k row) same (record { own = member_at features.units k at.u at.there; is = at.is; crossed = at.crossed })

-- one more of a list
pub taken_next : (all old new : List Crossing) (w : ℕ) (crossing : Crossing) → old ≡ take w all → slice_get all w ≡ Some crossing → new ≡ old ++ crossing ∷ [] → new ≡ take (w + 1) all
taken_next all old new w crossing before at grown =
    let on : suc w ≡ w + 1 = omega arith in
    grown
    ∙ ap (λ (cs : List Crossing). cs ++ crossing ∷ []) before
    ∙ ap (λ (c : Crossing). take w all ++ c ∷ []) (sym (get_or_from_slice_get all w crossing crossing at))
    ∙ sym (take-suc all w crossing (slice_get_within all w crossing at))
    ∙ ap (λ (n : ℕ). take n all) on

pub all_taken : (all read : List Crossing) (w count : ℕ) → read ≡ take w all → w ≡ count → length all ≡ count → read ≡ all
all_taken all read w count taken last many = taken ∙ ap (λ (n : ℕ). take n all) (last ∙ sym many) ∙ take-length all

-- there is a unit for each row, and its table fits it
pub rows_paired : (features : Features) (settings : Settings) (rows : Rows) (via : ℕ) → AreRowsOf features settings rows → length (crossings_from features settings via features.units) ≡ length (row_list rows)
rows_paired features settings rows via are =
    crossings_many features settings via features.units
    ∙ sym (length-map (filter walks features.units) (members features settings))
    ∙ ap (λ (rs : List (List ℕ)). length rs) (sym are.members_are)

row_table : (features : Features) (settings : Settings) (rows : Rows) (via w : ℕ) (crossing : Crossing) (row : List ℕ) → AreRowsOf features settings rows
    → slice_get (crossings_from features settings via features.units) w ≡ Some crossing → slice_get (row_list rows) w ≡ Some row → IsTableOf crossing row
row_table features settings rows via w crossing row are made h =
    let from = from_map (members features settings) (filter walks features.units) w row (ap (λ (rs : List (List ℕ)). slice_get rs w) (sym are.members_are) ∙ h) in
    let kept = kept_at walks 0 features.units w from.0 from.1 in
    let none : via + 0 ≡ via = omega arith in
    let crossed = subst (λ (m : ℕ). slice_get (crossings_from features settings m features.units) w ≡ Some (crossing_of features settings (via + (0 + kept.k)) from.0)) none
    (crossing_kept features settings via 0 features.units w (0 + kept.k) from.0 from.1 kept.placed) in
    subst (λ (r : List ℕ). IsTableOf crossing r) from.2
    (subst (λ (c : Crossing). IsTableOf c (members features settings from.0)) (same_Some _ crossing (sym crossed ∙ made))
    (table_fits features settings (via + (0 + kept.k)) from.0))

pub tables_fit : (features : Features) (settings : Settings) (rows : Rows) (via : ℕ) → AreRowsOf features settings rows → AreTables (crossings_from features settings via features.units) (row_list rows)
tables_fit features settings rows via are = record {
  paired = rows_paired features settings rows via are;
  each = λ w crossing row made h. row_table features settings rows via w crossing row are made h;
}

-- ---- whether they are restricted

restricted_at : (us : List UnitRow) (j : ℕ) → get_or (map (λ (u : UnitRow). u.restricted) us) j false ≡ option_map_or (λ (u : UnitRow). u.restricted) (slice_get us j) false
restricted_at [] j = refl
restricted_at (u ∷ us) zero = refl
restricted_at (u ∷ us) (suc j) = restricted_at us j

pub barred_is : (count via : ℕ) (us : List UnitRow) → get_or (barred_from count us) via false ≡ option_map_or (λ (u : UnitRow). u.restricted) (cond (nat_lt via count) None (slice_get us (via - count))) false
barred_is count via us =
    let front = replicate count false in
    let back = map (λ (u : UnitRow). u.restricted) us in
    let long : length front ≡ count = length-replicate count false in
    elim (cases_lt via count) [
      | inl under ↦
          let within : via < length front = omega arith in
          get_or_append_left front back false via within
          ∙ get_or-replicate count via false false under
          ∙ ap (λ (b : Bool). option_map_or (λ (u : UnitRow). u.restricted) (cond b None (slice_get us (via - count))) false) (sym (lt-ltb via count under))
      | inr over ↦
          let at : via ≡ length front + (via - count) = omega arith in
          ap (λ (n : ℕ). get_or (front ++ back) n false) at
          ∙ get_or-append-add front back (via - count) false
          ∙ restricted_at us (via - count)
          ∙ ap (λ (b : Bool). option_map_or (λ (u : UnitRow). u.restricted) (cond b None (slice_get us (via - count))) false) (sym (le-ltb via count over))
    ]

-- ---- the links across them

mapped_same : {X Y : Type 0} (f g : X → Y) (xs : List X) → ((x : X) → f x ≡ g x) → map f xs ≡ map g xs
mapped_same f g [] same = refl
mapped_same {X} {Y} f g (x ∷ xs) same = ap₂ (λ (y : Y) (ys : List Y). y ∷ ys) (same x) (mapped_same f g xs same)

-- the graph has the nodes and the settings
pub record HasGround (features : Features) (settings : Settings) (core : Core) : Type 0 where
  pub nodes_are : node_list core.nodes ≡ nodes features settings
  pub kx_is : core.kx ≡ settings.kx
  pub ky_is : core.ky ≡ settings.ky

abbrev spot_at : Option Node → Spot
spot_at found = elim found [ None ↦ record { x = pos 0; y = pos 0 } | Some node ↦ node.spot ]

way_same : (features : Features) (settings : Settings) (core : Core) (a b : ℕ) → HasGround features settings core → way_in core a b ≡ way features settings a b
way_same features settings core a b ground =
    ap (λ (ns : List Node). length_between (spot_at (slice_get ns a)) (spot_at (slice_get ns b)) core.kx core.ky) ground.nodes_are
    ∙ ap₂ (λ (x y : ℕ). length_between (spot_of features settings a) (spot_of features settings b) x y) ground.kx_is ground.ky_is

across_same : (features : Features) (settings : Settings) (core : Core) (via : ℕ) (u : UnitRow) → carries u ≡ false → HasGround features settings core
    → flat_map (λ a. map (λ b. record { from = a; to = b; via = via; cost = way_in core a b; kind = unit_kind_of u.category }) (filter (joined_in (crossing_of features settings via u) (members features settings u) a) (members features settings u))) (members features settings u)
    ≡ flat_map (λ a. map (inside_link features settings via u a) (filter (are_joined features settings u a) (members features settings u))) (members features settings u)
across_same features settings core via u still ground =
    let row = members features settings u in
    flat_map_within _ _ row (λ a own. ap (map (λ b. record { from = a; to = b; via = via; cost = way_in core a b; kind = unit_kind_of u.category }))
    (filter_same (joined_in (crossing_of features settings via u) row a) (are_joined features settings u a) row (λ b h. kept_so features settings via u a b still own h))
    ∙ mapped_same _ _ (filter (are_joined features settings u a) row) (λ b. ap (λ (n : ℕ). record { from = a; to = b; via = via; cost = n; kind = unit_kind_of u.category }) (way_same features settings core a b ground)))

-- where people are carried there are none
moved_same : (features : Features) (settings : Settings) (core : Core) (via : ℕ) (u : UnitRow) (b : Bool) → carries u ≡ b → HasGround features settings core
    → cond (not b) (flat_map (links_across_from core (crossing_of features settings via u) (members features settings u)) (members features settings u)) []
    ≡ cond (not b) (flat_map (links_from features settings via u) (members features settings u)) []
moved_same features settings core via u true carried ground = refl
moved_same features settings core via u false still ground = across_same features settings core via u still ground

unit_same : (features : Features) (settings : Settings) (core : Core) (via : ℕ) (u : UnitRow) → walks u ≡ true → HasGround features settings core
    → links_across core (crossing_of features settings via u) (members features settings u) ≡ unit_links features settings (via, u)
unit_same features settings core via u walked ground =
    let moving = not (carries u) in
    moved_same features settings core via u (carries u) refl ground
    ∙ ap (λ (b : Bool). cond (b && moving) (flat_map (links_from features settings via u) (members features settings u)) []) (sym walked)

solid_none : (features : Features) (settings : Settings) (via : ℕ) (u : UnitRow) → walks u ≡ false → unit_links features settings (via, u) ≡ []
solid_none features settings via u solid =
    let moving = not (carries u) in
    ap (λ (b : Bool). cond (b && moving) (flat_map (links_from features settings via u) (members features settings u)) []) solid

units_step : (features : Features) (settings : Settings) (core : Core) (via : ℕ) (u : UnitRow) (us : List UnitRow) (b : Bool) → walks u ≡ b → HasGround features settings core
    → links_across_all core (crossings_from features settings (via + 1) us) (map (members features settings) (filter walks us)) ≡ flat_map (unit_links features settings) (enumerate_from (via + 1) us)
    → links_across_all core (cond b (crossing_of features settings via u ∷ crossings_from features settings (via + 1) us) (crossings_from features settings (via + 1) us)) (map (members features settings) (cond b (u ∷ filter walks us) (filter walks us)))
    ≡ unit_links features settings (via, u) ++ flat_map (unit_links features settings) (enumerate_from (via + 1) us)
units_step features settings core via u us true e ground rest = ap₂ (λ (xs ys : List Link). xs ++ ys) (unit_same features settings core via u e ground) rest
units_step features settings core via u us false e ground rest = rest ∙ ap (λ (xs : List Link). xs ++ flat_map (unit_links features settings) (enumerate_from (via + 1) us)) (sym (solid_none features settings via u e))

pub units_are : (features : Features) (settings : Settings) (core : Core) (via : ℕ) (us : List UnitRow) → HasGround features settings core
    → links_across_all core (crossings_from features settings via us) (map (members features settings) (filter walks us)) ≡ flat_map (unit_links features settings) (enumerate_from via us)
units_are features settings core via [] ground = refl
units_are features settings core via (u ∷ us) ground = units_step features settings core via u us (walks u) refl ground (units_are features settings core (via + 1) us ground)
