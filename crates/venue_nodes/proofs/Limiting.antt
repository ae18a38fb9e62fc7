-- The limits, from rows to units and back.
use Rattle.std.proofs.Common.{◌≡◌, ℕ, Bool, ◌+◌, ◌*◌, ◌≤◌, ◌<◌, zero, suc, List, [], ◌∷◌, ◌++◌, Option, Some, None, length, map, take, get_or, refl, sym, ap, subst, ◌∙◌, arith, inl, inr}
use Rattle.std.specs.Prelude.{Contains, All, slice_get, sum_by}
use Rattle.std.specs.Option.{option_map, option_to_list}
use Rattle.std.specs.List.Sorted.{IsStrictlySortedBy}
use Rattle.std.proofs.Math.Nat.{mul-le-mul}
use Rattle.std.proofs.lemmas.Bool.{cases_lt}
use Rattle.std.proofs.lemmas.List.Elements.{All-contains}
use Rattle.std.proofs.lemmas.List.Sums.{sum_by-cons, sum_by_more}
use Rattle.std.proofs.lemmas.Option.{same_Some, get_or_from_slice_get, slice_get_within}
use Rattle.venue_types.proofs.Items.{at_member, member_at, at_map}
use Rattle.venue_types.specs.declared.features.Features.{Features}
use Rattle.venue_types.specs.declared.features.UnitRow.{UnitRow}
use Rattle.venue_types.specs.declared.finding.Finding.{Finding}
use Rattle.imdf_access.specs.Categories.{is_walkable}
use Rattle.venue_types.specs.declared.folder_file.File.TheVariants as file
use Rattle.venue_types.specs.FolderFiles.{file_number}
use Rattle.venue_types.specs.declared.settings.Inside.TheVariants.{Straight, Clear}
use Rattle.venue_types.specs.declared.settings.Settings.{Settings}
use Rattle.rule_reports.specs.Reports.{IsReport}
use Rattle.venue_nodes.specs.declared.limits.Crowding.{Crowding}
use Rattle.venue_nodes.specs.declared.limits.Crowding.TheVariants.{Members, Squares, Nodes, Sight}
use Rattle.imdf_schema.specs.declared.rules.Rule.{Rule}
use Rattle.imdf_schema.specs.declared.rules.Rule.TheVariants.{S5, S6, S7, S8}
use Rattle.venue_nodes.specs.declared.members.Rows.{Rows}
use Rattle.venue_nodes.specs.Nodes.{walkable_units}
use Rattle.venue_nodes.specs.Members.{members, places_where}
use Rattle.imdf_schema.specs.Rules.{rule_number}
use Rattle.venue_nodes.specs.Limits.{IsCrowded, HasManyNodes, HasMuchSight, LimitBreaks, BreaksLimit, square_sum}
use Rattle.venue_nodes.specs.Crowds.{Crowds, NoneCrowded, IsRoomyVenue, IsFirstFull, IsRoomy, limit_finding, square_of}
use Rattle.venue_nodes.specs.Rows.{AreRowsOf, node_total, row_list, unit_indexes}
use Rattle.venue_nodes.proofs.Items.{from_map}
use Rattle.venue_nodes.proofs.Places.{places_rise, kept_at, number_of, lesser_number}

abbrev walks : UnitRow → Bool
walks row = is_walkable row.category

-- ---- rows that have room

pub roomy_at : (rows : List (List ℕ)) (w : ℕ) (row : List ℕ) → All IsRoomy rows → slice_get rows w ≡ Some row → length row ≤ 4096
roomy_at rows w row all at = All-contains IsRoomy rows row all (member_at rows w row at)

pub square_few : (n : ℕ) → n ≤ 4096 → n * n ≤ 16777216
square_few n few = mul-le-mul few few

-- one row more in the sum
pub sum_on : (rows : List (List ℕ)) (w sum : ℕ) (row : List ℕ) → slice_get rows w ≡ Some row → sum ≡ sum_by square_of (take w rows) → sum + length row * length row ≡ sum_by square_of (take (w + 1) rows)
sum_on rows w sum row at before =
    let here : get_or rows w row ≡ row = get_or_from_slice_get rows w row row at in
    let more : sum_by square_of (take (w + 1) rows) ≡ sum_by square_of (take w rows) + square_of (get_or rows w row) = sum_by_more square_of rows w row (slice_get_within rows w row at) in
    ap (λ (n : ℕ). n + length row * length row) before ∙ ap (λ (r : List ℕ). sum_by square_of (take w rows) + square_of r) (sym here) ∙ sym more

-- ---- the squares

sum_mapped : {A B : Type 0} (f : A → B) (g : B → ℕ) (xs : List A) → sum_by g (map f xs) ≡ sum_by (λ x. g (f x)) xs
sum_mapped f g [] = refl
sum_mapped f g (x ∷ xs) =
    sum_by-cons g (f x) (map f xs) ∙ ap (λ (n : ℕ). g (f x) + n) (sum_mapped f g xs) ∙ sym (sum_by-cons (λ y. g (f y)) x xs)

pub squares_are : (features : Features) (settings : Settings) (rows : Rows) → AreRowsOf features settings rows → sum_by square_of (row_list rows) ≡ square_sum features settings
squares_are features settings rows are = ap (sum_by square_of) are.members_are ∙ sum_mapped (members features settings) square_of (walkable_units features)

-- ---- the first crowded unit

-- a crowded unit has a row that is too long
crowded_row : (features : Features) (settings : Settings) (rows : Rows) (k : ℕ) → AreRowsOf features settings rows → IsCrowded features settings k
    → (w : ℕ) × (row : List ℕ) × (slice_get (row_list rows) w ≡ Some row) × (4096 < length row) × (slice_get (unit_indexes rows) w ≡ Some k)
crowded_row features settings rows k are crowd =
    let number = number_of walks 0 features.units k crowd.unit crowd.there crowd.walkable in
    let is : 0 + k ≡ k = omega arith in
    let row = members features settings crowd.unit in
    let at : slice_get (map (members features settings) (walkable_units features)) number.w ≡ Some row = at_map (members features settings) (walkable_units features) number.w crowd.unit number.is_kept in (
      number.w,
      row,
      subst (λ (rs : List (List ℕ)). slice_get rs number.w ≡ Some row) (sym are.members_are) at,
      crowd.many,
      subst (λ (ps : List ℕ). slice_get ps number.w ≡ Some k) (sym are.units_are) (number.placed ∙ ap (λ (m : ℕ). Some m) is),
    )

pub none_crowded : (features : Features) (settings : Settings) (rows : Rows) → AreRowsOf features settings rows → All IsRoomy (row_list rows) → NoneCrowded features settings
none_crowded features settings rows are all k crowd =
    let r = crowded_row features settings rows k are crowd in
    let few : length r.1 ≤ 4096 = roomy_at (row_list rows) r.0 r.1 all r.2 in
    let many : 4096 < length r.1 = r.3 in
    omega arith

pub first_crowded : (features : Features) (settings : Settings) (rows : Rows) (w k : ℕ) → AreRowsOf features settings rows → IsFirstFull (row_list rows) w → slice_get (unit_indexes rows) w ≡ Some k
    → LimitBreaks S5 features settings k
first_crowded features settings rows w k are first at =
    let from = from_map (members features settings) (walkable_units features) w first.row (subst (λ (rs : List (List ℕ)). slice_get rs w ≡ Some first.row) are.members_are first.there) in
    let kept = kept_at walks 0 features.units w from.0 from.1 in
    let place : slice_get (places_where walks 0 features.units) w ≡ Some k = subst (λ (ps : List ℕ). slice_get ps w ≡ Some k) are.units_are at in
    let same : 0 + kept.k ≡ k = same_Some (0 + kept.k) k (sym kept.placed ∙ place) in
    let is : kept.k ≡ k = omega arith in
    let full : 4096 < length first.row = first.full in (
      record {
        unit = from.0;
        there = subst (λ (m : ℕ). slice_get features.units m ≡ Some from.0) is kept.there;
        walkable = kept.passes;
        many = subst (λ (row : List ℕ). 4096 < length row) (sym from.2) full;
      },
      λ j under crowd.
          let r = crowded_row features settings rows j are crowd in
          let there : slice_get (places_where walks 0 features.units) r.0 ≡ Some j = subst (λ (ps : List ℕ). slice_get ps r.0 ≡ Some j) are.units_are r.4 in
          let before : r.0 < w = lesser_number (places_where walks 0 features.units) r.0 w j k (places_rise walks 0 features.units) there place under in
          let few : length r.1 ≤ 4096 = first.before r.0 r.1 before r.2 in
          let many : 4096 < length r.1 = r.3 in
          omega arith,
    )

-- ---- walks round walls

pub roomy_venue : (features : Features) (settings : Settings) (rows : Rows) → AreRowsOf features settings rows → All IsRoomy (row_list rows) → sum_by square_of (row_list rows) ≤ 20000000 → IsRoomyVenue features settings
roomy_venue features settings rows are all few = (none_crowded features settings rows are all, subst (λ (n : ℕ). n ≤ 20000000) (squares_are features settings rows are) few)

pub straight_is_none : (features : Features) (settings : Settings) → settings.inside ≡ Straight → (¬ HasManyNodes features settings) × (¬ HasMuchSight features settings)
straight_is_none features settings straight =
    let other : settings.inside ≡ Clear → ⊥ = λ clear. let same : Straight ≡ Clear = sym straight ∙ clear in cc in
    (λ many. other many.0, λ much. other much.0)

pub few_nodes : (features : Features) (settings : Settings) (rows : Rows) (n : ℕ) → AreRowsOf features settings rows → n ≡ node_total rows → n ≤ 400000 → ¬ HasManyNodes features settings
few_nodes features settings rows n are is few many = let total = is ∙ are.nodes_are in let more = many.1 in omega (arith, few, total, more)

-- ---- the report

none_before_S5 : (features : Features) (settings : Settings) (before : Rule) (k : ℕ) → rule_number before < rule_number S5 → ¬ LimitBreaks before features settings k
none_before_S5 features settings S5 k under breaks = omega arith
none_before_S5 features settings S6 k under breaks = omega arith
none_before_S5 features settings S7 k under breaks = omega arith
none_before_S5 features settings S8 k under breaks = omega arith
none_before_S5 features settings _ k under breaks = breaks

only_S5_before_S6 : (features : Features) (settings : Settings) → NoneCrowded features settings → (before : Rule) (k : ℕ) → rule_number before < rule_number S6 → ¬ LimitBreaks before features settings k
only_S5_before_S6 features settings none S5 k under breaks = none k breaks.0
only_S5_before_S6 features settings none S6 k under breaks = omega arith
only_S5_before_S6 features settings none S7 k under breaks = omega arith
only_S5_before_S6 features settings none S8 k under breaks = omega arith
only_S5_before_S6 features settings none _ k under breaks = breaks

-- of a roomy venue the squares keep their limit
few_squares : (features : Features) (settings : Settings) (k : ℕ) → IsRoomyVenue features settings → ¬ LimitBreaks S6 features settings k
few_squares features settings k roomy breaks = let few = roomy.1 in let many = breaks.0 in omega (arith, few, many)

roomy_before_S7 : (features : Features) (settings : Settings) → IsRoomyVenue features settings → (before : Rule) (k : ℕ) → rule_number before < rule_number S7 → ¬ LimitBreaks before features settings k
roomy_before_S7 features settings roomy S5 k under breaks = roomy.0 k breaks.0
roomy_before_S7 features settings roomy S6 k under breaks = few_squares features settings k roomy breaks
roomy_before_S7 features settings roomy S7 k under breaks = omega arith
roomy_before_S7 features settings roomy S8 k under breaks = omega arith
roomy_before_S7 features settings roomy _ k under breaks = breaks

few_before_S8 : (features : Features) (settings : Settings) → IsRoomyVenue features settings → ¬ HasManyNodes features settings → (before : Rule) (k : ℕ) → rule_number before < rule_number S8 → ¬ LimitBreaks before features settings k
few_before_S8 features settings roomy few S5 k under breaks = roomy.0 k breaks.0
few_before_S8 features settings roomy few S6 k under breaks = few_squares features settings k roomy breaks
few_before_S8 features settings roomy few S7 k under breaks = few breaks.0
few_before_S8 features settings roomy few S8 k under breaks = omega arith
few_before_S8 features settings roomy few _ k under breaks = breaks

same_finding : (x y : Finding) → x.rule ≡ y.rule → x.file ≡ y.file → x.index ≡ y.index → x.member ≡ y.member → x ≡ y
same_finding x y rule file index member =
    let made : ℕ → ℕ → ℕ → ℕ → Finding = λ r f i m. record { rule = r; file = f; index = i; member = m } in
    ap (λ (r : ℕ). made r x.file x.index x.member) rule ∙ ap (λ (f : ℕ). made y.rule f x.index x.member) file ∙ ap (λ (i : ℕ). made y.rule y.file i x.member) index ∙ ap (λ (m : ℕ). made y.rule y.file y.index m) member

only_one : {X : Type 0} (x y : X) → Contains (x ∷ []) y → x ≡ y
only_one x y h = let at = at_member (x ∷ []) y h in one_at x y at.0 at.1
  where
    one_at : {X : Type 0} (x y : X) (k : ℕ) → slice_get (x ∷ []) k ≡ Some y → x ≡ y
    one_at x y zero e = same_Some x y e
    one_at x y (suc k) e = absurd (cc)

breaks_members : (features : Features) (settings : Settings) (k : ℕ) → LimitBreaks S5 features settings k → BreaksLimit features settings (limit_finding (Members k))
breaks_members features settings k crowd = record {
  rule = S5;
  number = refl;
  breaks = crowd;
  first = none_before_S5 features settings;
  in_file = refl;
  at_member = refl;
}

breaks_squares : (features : Features) (settings : Settings) → NoneCrowded features settings → 20000000 < square_sum features settings → BreaksLimit features settings (limit_finding Squares)
breaks_squares features settings none many = record {
  rule = S6;
  number = refl;
  breaks = (many, refl);
  first = only_S5_before_S6 features settings none;
  in_file = refl;
  at_member = refl;
}

breaks_nodes : (features : Features) (settings : Settings) → IsRoomyVenue features settings → HasManyNodes features settings → BreaksLimit features settings (limit_finding Nodes)
breaks_nodes features settings roomy many = record {
  rule = S7;
  number = refl;
  breaks = (many, refl);
  first = roomy_before_S7 features settings roomy;
  in_file = refl;
  at_member = refl;
}

breaks_sight : (features : Features) (settings : Settings) → IsRoomyVenue features settings → ¬ HasManyNodes features settings → HasMuchSight features settings → BreaksLimit features settings (limit_finding Sight)
breaks_sight features settings roomy few much = record {
  rule = S8;
  number = refl;
  breaks = (much, refl);
  first = few_before_S8 features settings roomy few;
  in_file = refl;
  at_member = refl;
}

one_first : (features : Features) (settings : Settings) (k j : ℕ) → LimitBreaks S5 features settings k → LimitBreaks S5 features settings j → j ≡ k
one_first features settings k j here there = elim (cases_lt k j) [
  | inl before ↦ absurd (there.1 k before here.0)
  | inr behind ↦ elim (cases_lt j k) [
    | inl under ↦ absurd (here.1 j under there.0)
    | inr over ↦ omega arith
  ]
]

-- no rule before this one is broken
abbrev AreKeptBefore : Rule → Features → Settings → Type 0
AreKeptBefore rule features settings = (before : Rule) (j : ℕ) → rule_number before < rule_number rule → ¬ LimitBreaks before features settings j

told_members : (features : Features) (settings : Settings) (k : ℕ) (x : Finding) → LimitBreaks S5 features settings k → (rule : Rule) → x.rule ≡ rule_number rule → LimitBreaks rule features settings x.index
    → AreKeptBefore rule features settings → x.file ≡ file_number file.Unit → x.member ≡ 0 → x ≡ limit_finding (Members k)
told_members features settings k x crowd S5 number breaks first in_file at_member = same_finding x (limit_finding (Members k)) number in_file (one_first features settings k x.index crowd breaks) at_member
told_members features settings k x crowd S6 number breaks first in_file at_member = absurd (first S5 k (omega arith) crowd)
told_members features settings k x crowd S7 number breaks first in_file at_member = absurd (first S5 k (omega arith) crowd)
told_members features settings k x crowd S8 number breaks first in_file at_member = absurd (first S5 k (omega arith) crowd)
told_members features settings k x crowd _ number breaks first in_file at_member = absurd breaks

told_squares : (features : Features) (settings : Settings) (x : Finding) → NoneCrowded features settings → 20000000 < square_sum features settings → (rule : Rule) → x.rule ≡ rule_number rule → LimitBreaks rule features settings x.index
    → AreKeptBefore rule features settings → x.file ≡ file_number file.Unit → x.member ≡ 0 → x ≡ limit_finding Squares
told_squares features settings x none many S5 number breaks first in_file at_member = absurd (none x.index breaks.0)
told_squares features settings x none many S6 number breaks first in_file at_member = same_finding x (limit_finding Squares) number in_file breaks.1 at_member
told_squares features settings x none many S7 number breaks first in_file at_member = absurd (first S6 0 (omega arith) (many, refl))
told_squares features settings x none many S8 number breaks first in_file at_member = absurd (first S6 0 (omega arith) (many, refl))
told_squares features settings x none many _ number breaks first in_file at_member = absurd breaks

told_nodes : (features : Features) (settings : Settings) (x : Finding) → IsRoomyVenue features settings → HasManyNodes features settings → (rule : Rule) → x.rule ≡ rule_number rule → LimitBreaks rule features settings x.index
    → AreKeptBefore rule features settings → x.file ≡ file_number file.Unit → x.member ≡ 0 → x ≡ limit_finding Nodes
told_nodes features settings x roomy many S5 number breaks first in_file at_member = absurd (roomy.0 x.index breaks.0)
told_nodes features settings x roomy many S6 number breaks first in_file at_member = absurd (few_squares features settings x.index roomy breaks)
told_nodes features settings x roomy many S7 number breaks first in_file at_member = same_finding x (limit_finding Nodes) number in_file breaks.1 at_member
told_nodes features settings x roomy many S8 number breaks first in_file at_member = absurd (first S7 0 (omega arith) (many, refl))
told_nodes features settings x roomy many _ number breaks first in_file at_member = absurd breaks

told_sight : (features : Features) (settings : Settings) (x : Finding) → IsRoomyVenue features settings → ¬ HasManyNodes features settings → (rule : Rule) → x.rule ≡ rule_number rule → LimitBreaks rule features settings x.index
    → x.file ≡ file_number file.Unit → x.member ≡ 0 → x ≡ limit_finding Sight
told_sight features settings x roomy few S5 number breaks in_file at_member = absurd (roomy.0 x.index breaks.0)
told_sight features settings x roomy few S6 number breaks in_file at_member = absurd (few_squares features settings x.index roomy breaks)
told_sight features settings x roomy few S7 number breaks in_file at_member = absurd (few breaks.0)
told_sight features settings x roomy few S8 number breaks in_file at_member = same_finding x (limit_finding Sight) number in_file breaks.1 at_member
told_sight features settings x roomy few _ number breaks in_file at_member = absurd breaks

told_nothing : (features : Features) (settings : Settings) (k : ℕ) → Crowds features settings None → (rule : Rule) → ¬ LimitBreaks rule features settings k
told_nothing features settings k crowds S5 breaks = crowds.0.0 k breaks.0
told_nothing features settings k crowds S6 breaks = few_squares features settings k crowds.0 breaks
told_nothing features settings k crowds S7 breaks = crowds.1 breaks.0
told_nothing features settings k crowds S8 breaks = crowds.2 breaks.0
told_nothing features settings k crowds _ breaks = breaks

listed_one : {P : Finding → Type 0} (x : Finding) → P x → ((y : Finding) → P y → y ≡ x) → IsReport P (x ∷ [])
unfolding IsStrictlySortedBy
listed_one {P} x holds alone = record {
  rises = (tt, tt);
  only = λ y h. subst P (only_one x y h) holds;
  whole = λ y p. member_at (x ∷ []) 0 y (ap (λ (z : Finding). Some z) (sym (alone y p)));
}

listed_none : {P : Finding → Type 0} → ((y : Finding) → ¬ P y) → IsReport P []
unfolding IsStrictlySortedBy
listed_none none = record {
  rises = tt;
  only = λ y h. absurd (omega (arith, h.1));
  whole = λ y p. absurd (none y p);
}

pub report : (features : Features) (settings : Settings) (limit : Option Crowding) → Crowds features settings limit → IsReport (BreaksLimit features settings) (option_to_list (option_map limit_finding limit))
report features settings None crowds = listed_none (λ y b. told_nothing features settings y.index crowds b.rule b.breaks)
report features settings (Some (Members k)) crowds = listed_one (limit_finding (Members k)) (breaks_members features settings k crowds) (λ y b. told_members features settings k y crowds b.rule b.number b.breaks b.first b.in_file b.at_member)
report features settings (Some Squares) crowds = listed_one (limit_finding Squares) (breaks_squares features settings crowds.0 crowds.1) (λ y b. told_squares features settings y crowds.0 crowds.1 b.rule b.number b.breaks b.first b.in_file b.at_member)
report features settings (Some Nodes) crowds = listed_one (limit_finding Nodes) (breaks_nodes features settings crowds.0 crowds.1) (λ y b. told_nodes features settings y crowds.0 crowds.1 b.rule b.number b.breaks b.first b.in_file b.at_member)
report features settings (Some Sight) crowds = listed_one (limit_finding Sight) (breaks_sight features settings crowds.0 crowds.1 crowds.2) (λ y b. told_sight features settings y crowds.0 crowds.1 b.rule b.number b.breaks b.in_file b.at_member)

pub told_one : (none found : List Finding) (x y : Finding) → none ≡ [] → x ≡ y → found ≡ none ++ x ∷ [] → found ≡ y ∷ []
told_one none found x y empty is pushed = pushed ∙ ap (λ (xs : List Finding). xs ++ x ∷ []) empty ∙ ap (λ (z : Finding). z ∷ []) is

pub limits_told : (features : Features) (settings : Settings) (x : Finding) → Crowds features settings None → ¬ BreaksLimit features settings x
limits_told features settings x crowds breaks = told_nothing features settings x.index crowds breaks.rule breaks.breaks
