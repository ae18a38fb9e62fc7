-- What the features name that others have to stand on: each once.
use Rattle.std.proofs.Common.{◌≡◌, ◌∙◌, ℕ, List, [], ◌∷◌, Some, map, refl, sym, ap, subst}
use Rattle.std.specs.Prelude.{Contains, slice_get}
use Rattle.std.proofs.lemmas.Option.{same_Some}
use Rattle.venue_types.proofs.Items.{at_member, member_at, at_map, from_map}
use Rattle.venue_types.specs.declared.feature_id.FeatureId.{FeatureId}
use Rattle.venue_types.specs.declared.features.Features.{Features}
use Rattle.venue_types.specs.declared.features.AnchorRow.{AnchorRow}
use Rattle.venue_types.specs.declared.features.LevelRow.{LevelRow}
use Rattle.venue_types.specs.declared.features.UnitRow.{UnitRow}
use Rattle.venue_types.specs.declared.folder_file.File.{File}
use Rattle.venue_types.specs.declared.folder_file.File.TheVariants as file
use Rattle.imdf_schema.specs.declared.forms.Form.TheVariants as form
use Rattle.imdf_schema.specs.declared.table.Property.TheVariants as property
use Rattle.imdf_schema.specs.declared.table.ReferenceTarget.TheVariants as named
use Rattle.imdf_schema.specs.declared.table.PropertyRow.{PropertyRow}
use Rattle.venue_types.specs.FolderFiles.{file_number}
use Rattle.imdf_schema.specs.Properties.{properties}
use Rattle.feature_rows.specs.Rows.{ids_of, IsFeature, HaveOwnIds}
use Rattle.feature_rows.specs.Named.{IsLevel, IsUnit, IsAnchor}
use Rattle.imdf_refs.specs.References.{Refers, by_id, file_named, references_in, opening_references, unit_references, anchor_references, amenity_references, occupant_references}
use Rattle.imdf_refs.specs.Rules.{IsTyped}
use Rattle.imdf_refs.specs.Laws.{FindsNothing, HasOne, OpeningsHaveLevels, UnitsHaveLevels, AnchorsHaveUnits, AmenitiesHaveUnits, OccupantsHaveAnchors}
use Rattle.venue_types.proofs.FileNumbers.{same_number}
use Rattle.imdf_refs.proofs.OwnIds.{each_its_own}
use Rattle.imdf_refs.proofs.Typed.{name_their_types}

-- one row has the name, and no other
record OneNamed {X : Type 0} (xs : List X) (name : X → FeatureId) (id : FeatureId) : Type 0 where
  row : X
  has : Contains xs row
  named : name row ≡ id
  only : (other : X) → Contains xs other → name other ≡ id → other ≡ row

one_named : {X : Type 0} (features : Features) (own : HaveOwnIds features) (f : File) (xs : List X) (name : X → FeatureId) → ids_of f features ≡ map name xs
    → (id : FeatureId) → IsTyped features id (file_number f) → OneNamed xs name id
one_named {X} features own f xs name ids id t =
    let in_file : IsFeature features f t.place id = subst (λ (g : File). slice_get (ids_of g features) t.place ≡ Some id) (same_number t.source f t.of_file) t.there in
    let at = from_map name xs t.place id (subst (λ (l : List FeatureId). slice_get l t.place ≡ Some id) ids in_file) in record {
      row = at.0;
      has = member_at xs t.place at.0 at.1;
      named = at.2;
      only = λ other h e.
          let k = at_member xs other h in
          let there : slice_get (ids_of f features) k.0 ≡ Some id =
          subst (λ (l : List FeatureId). slice_get l k.0 ≡ Some id) (sym ids) (at_map name xs k.0 other k.1 ∙ ap (λ (i : FeatureId). Some i) e) in
          let same = (own.own f f k.0 t.place id there in_file).1 in
          same_Some other at.0 (sym k.1 ∙ ap (slice_get xs) same ∙ at.1);
    }

module _ (features : Features) (nothing : FindsNothing features) where
  own : HaveOwnIds features
  own = each_its_own features nothing

  level : (id : FeatureId) → IsTyped features id 10 → HasOne (IsLevel features id)
  level id t =
      let one = one_named features own file.Level features.levels (λ (row : LevelRow). row.id) refl id t in
      record { one = one.row; is = record { has = one.has; named = one.named }; only = λ other h. one.only other h.has h.named }

  unit : (id : FeatureId) → IsTyped features id 15 → HasOne (IsUnit features id)
  unit id t =
      let one = one_named features own file.Unit features.units (λ (row : UnitRow). row.id) refl id t in
      record { one = one.row; is = record { has = one.has; named = one.named }; only = λ other h. one.only other h.has h.named }

  anchor : (id : FeatureId) → IsTyped features id 3 → HasOne (IsAnchor features id)
  anchor id t =
      let one = one_named features own file.Anchor features.anchors (λ (row : AnchorRow). row.id) refl id t in
      record { one = one.row; is = record { has = one.has; named = one.named }; only = λ other h. one.only other h.has h.named }

  -- what the one reference of a property names
  typed : (row : PropertyRow) (k : ℕ) (id : FeatureId) (f : ℕ) → Contains properties row → slice_get (references_in features row.file row.property) k ≡ Some (by_id id ∷ []) → file_named row.names (by_id id) ≡ Some f → IsTyped features id f
  typed row k id f listed feature asked = name_their_types features nothing row k 0 (by_id id) f (record { listed = listed; all = by_id id ∷ []; feature = feature; there = refl }) asked

  pub openings_have_levels : OpeningsHaveLevels features
  openings_have_levels opening h =
      let k = at_member features.openings opening h in
      let row : PropertyRow = record { property = property.LevelId; file = file.Opening; form = form.Id; names = named.Level } in
      level opening.level (typed row k.0 opening.level 10 (member_at properties 8 row refl) (at_map (opening_references property.LevelId) features.openings k.0 opening k.1) refl)

  pub units_have_levels : UnitsHaveLevels features
  units_have_levels unit h =
      let k = at_member features.units unit h in
      let row : PropertyRow = record { property = property.LevelId; file = file.Unit; form = form.Id; names = named.Level } in
      level unit.level (typed row k.0 unit.level 10 (member_at properties 7 row refl) (at_map (unit_references property.LevelId) features.units k.0 unit k.1) refl)

  pub anchors_have_units : AnchorsHaveUnits features
  anchors_have_units a h =
      let k = at_member features.anchors a h in
      let row : PropertyRow = record { property = property.UnitId; file = file.Anchor; form = form.Id; names = named.Unit } in
      unit a.unit (typed row k.0 a.unit 15 (member_at properties 12 row refl) (at_map (anchor_references property.UnitId) features.anchors k.0 a k.1) refl)

  pub amenities_have_units : AmenitiesHaveUnits features
  amenities_have_units amenity id h g =
      let k = at_member features.amenities amenity h in
      let p = at_member amenity.units id g in
      let row : PropertyRow = record { property = property.UnitIds; file = file.Amenity; form = form.Ids; names = named.Unit } in
      let there : Refers features row k.0 p.0 (by_id id) = record {
        listed = member_at properties 13 row refl;
        all = map by_id amenity.units;
        feature = at_map (amenity_references property.UnitIds) features.amenities k.0 amenity k.1;
        there = at_map by_id amenity.units p.0 id p.1;
      } in
      unit id (name_their_types features nothing row k.0 p.0 (by_id id) 15 there refl)

  pub occupants_have_anchors : OccupantsHaveAnchors features
  occupants_have_anchors occupant h =
      let k = at_member features.occupants occupant h in
      let row : PropertyRow = record { property = property.AnchorId; file = file.Occupant; form = form.Id; names = named.Anchor } in
      anchor occupant.anchor (typed row k.0 occupant.anchor 3 (member_at properties 14 row refl) (at_map (occupant_references property.AnchorId) features.occupants k.0 occupant k.1) refl)
