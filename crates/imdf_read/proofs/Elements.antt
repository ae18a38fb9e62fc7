-- The elements of a relationship, in its item and in its row.
use Rattle.std.proofs.Common.{◌≡◌, ℕ, ◌+◌, ◌<◌, ◌≤◌, List, [], ◌∷◌, length, Option, Some, None, refl, ap, arith}
use Rattle.std.specs.Prelude.{sum_by}
use Rattle.std.specs.List.{filter_map, cons_option}
use Rattle.std.proofs.lemmas.List.Sums.{sum_by-cons}
use Rattle.exact_json.specs.Json.{Json, null, boolean, number, text, items, object}
use Rattle.venue_types.specs.declared.features.Ref.{Ref}
use Rattle.venue_types.specs.declared.features.RelationshipRow.{RelationshipRow}
use Rattle.venue_types.specs.declared.folder_file.File.TheVariants as file
use Rattle.imdf_schema.specs.declared.table.Property.TheVariants as property
use Rattle.imdf_schema.specs.Values.{listed}
use Rattle.imdf_schema.specs.Items as item
use Rattle.imdf_rows.specs.Fields.{ref_of}
use Rattle.imdf_rows.specs.Rows.{IsRelationshipRow}
use Rattle.imdf_schema.specs.declared.rules.Rule.TheVariants.{S4}
use Rattle.imdf_read.specs.Counts.{one_unless_null, elements}
use Rattle.feature_rows.specs.Sound.{element_count}
use Rattle.imdf_read.proofs.Nothing.{BreaksNone, is_feature_of}

abbrev count : Option Ref → ℕ
count None = 0
count (Some r) = 1

-- the row with these ends
abbrev with_ends : RelationshipRow → Option Ref → Option Ref → RelationshipRow
with_ends row origin destination = record { id = row.id; kind = row.kind; directed = row.directed; origin = origin; between = row.between; destination = destination }

counted : (row : RelationshipRow) (origin destination : Option Ref) → element_count (with_ends row origin destination) ≡ count origin + length row.between + count destination
counted row None None = refl
counted row None (Some d) = refl
counted row (Some o) None = refl
counted row (Some o) (Some d) = refl

one_at_most : (o : Option Ref) → count o ≤ 1
one_at_most None = omega arith
one_at_most (Some r) = omega arith

-- null is no reference
reference_count : (v : Json) → count (ref_of v) ≤ one_unless_null v
reference_count null = let none : count (ref_of null) ≡ 0 = refl in omega arith
reference_count (boolean b) = one_at_most (ref_of (boolean b))
reference_count (number t) = one_at_most (ref_of (number t))
reference_count (text s) = one_at_most (ref_of (text s))
reference_count (items js) = one_at_most (ref_of (items js))
reference_count (object ms) = one_at_most (ref_of (object ms))

cons_count : (o : Option Ref) (rs : List Ref) → length (cons_option o rs) ≡ count o + length rs
cons_count None rs = omega arith
cons_count (Some r) rs = omega arith

references_count : (vs : List Json) → length (filter_map ref_of vs) ≤ sum_by one_unless_null vs
references_count [] = omega arith
references_count (v ∷ vs) =
    let here = reference_count v in
    let rest = references_count vs in
    let long : length (cons_option (ref_of v) (filter_map ref_of vs)) ≡ count (ref_of v) + length (filter_map ref_of vs) = cons_count (ref_of v) (filter_map ref_of vs) in
    let sum : sum_by one_unless_null (v ∷ vs) ≡ one_unless_null v + sum_by one_unless_null vs = sum_by-cons one_unless_null v vs in
    omega arith

-- a row has no more than its item
no_more : (v : Json) (row : RelationshipRow) → IsRelationshipRow v row → element_count row ≤ elements v
no_more v row is =
    let all : element_count row ≡ count row.origin + length row.between + count row.destination = counted row row.origin row.destination in
    let first : count row.origin ≡ count (ref_of (item.property v property.Origin)) = ap count is.origin in
    let middle : length row.between ≡ length (filter_map ref_of (listed (item.property v property.Intermediary))) = ap length is.between in
    let last : count row.destination ≡ count (ref_of (item.property v property.Destination)) = ap count is.destination in
    let one = reference_count (item.property v property.Origin) in
    let two = references_count (listed (item.property v property.Intermediary)) in
    let three = reference_count (item.property v property.Destination) in
    omega arith

-- a relationship whose item breaks no rule has few elements
pub few_elements : (v : Json) (row : RelationshipRow) → BreaksNone file.Relationship v → IsRelationshipRow v row → element_count row ≤ 65
few_elements v row keeps is =
    let many : ¬ (65 < elements v) = λ h. keeps S4 0 (refl, is_feature_of file.Relationship v keeps, h, refl) in
    let few : elements v ≤ 65 = omega (arith, many) in
    let less = no_more v row is in
    omega arith
