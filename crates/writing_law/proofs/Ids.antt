-- Identifiers, written and read again.
use Rattle.std.proofs.Common.{◌≡◌, List, Option, Some, None, refl}
use Rattle.std.specs.Prelude.{All, IfSome}
use Rattle.venue_types.specs.declared.feature_id.FeatureId.{FeatureId}
use Rattle.venue_types.proofs.IdentifierLemmas.{read-identifier_text}
use Rattle.imdf_schema.specs.Values.{id_of}
use Rattle.imdf_rows.specs.Fields.{ids_field}
use Rattle.imdf_write.specs.Values.{list_value, or_null, id_value}
use Rattle.writing_law.specs.Fit.{FitsId}
use Rattle.writing_law.proofs.Lists.{list_back}

pub id_back : (id : FeatureId) → FitsId id → id_of (id_value id) ≡ Some id
id_back id fits = read-identifier_text id fits

pub id_or_none_back : (id : Option FeatureId) → IfSome id FitsId → id_of (or_null id_value id) ≡ id
id_or_none_back None fits = refl
id_or_none_back (Some id) fits = id_back id fits

pub ids_back : (ids : List FeatureId) → All FitsId ids → ids_field (list_value id_value ids) ≡ ids
ids_back ids fits = list_back FitsId id_of id_value id_back ids fits
