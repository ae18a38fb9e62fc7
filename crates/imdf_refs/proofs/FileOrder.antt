-- Where a file of features stands among the files, and how many features it has.
use Rattle.std.proofs.Common.{◌≡◌, ℕ, ◌≤◌, Some, length, refl, arith}
use Rattle.std.specs.Prelude.{slice_get}
use Rattle.venue_types.specs.declared.feature_id.FeatureId.{FeatureId}
use Rattle.venue_types.specs.declared.features.Features.{Features}
use Rattle.venue_types.specs.declared.folder_file.File.{File}
use Rattle.venue_types.specs.declared.folder_file.File.TheVariants as file
use Rattle.venue_types.specs.FolderFiles.{file_number, feature_files}
use Rattle.venue_types.proofs.FileNumbers.{nth_number}
use Rattle.feature_rows.specs.Rows.{ids_of, IsFeature, feature_count}

-- the manifest has no features, and each other file is a feature file
pub place_among : (f : File) (features : Features) (k : ℕ) (id : FeatureId) → IsFeature features f k id → (i : ℕ) × (slice_get feature_files i ≡ Some f)
place_among file.Manifest features k id h = cc
place_among file.Address features k id h = (0, refl)
place_among file.Amenity features k id h = (1, refl)
place_among file.Anchor features k id h = (2, refl)
place_among file.Building features k id h = (3, refl)
place_among file.Detail features k id h = (4, refl)
place_among file.Fixture features k id h = (5, refl)
place_among file.Footprint features k id h = (6, refl)
place_among file.Geofence features k id h = (7, refl)
place_among file.Kiosk features k id h = (8, refl)
place_among file.Level features k id h = (9, refl)
place_among file.Occupant features k id h = (10, refl)
place_among file.Opening features k id h = (11, refl)
place_among file.Relationship features k id h = (12, refl)
place_among file.Section features k id h = (13, refl)
place_among file.Unit features k id h = (14, refl)
place_among file.Venue features k id h = (15, refl)

pub from_one : (f : File) (features : Features) (k : ℕ) (id : FeatureId) → IsFeature features f k id → 1 ≤ file_number f
from_one f features k id h = let at = place_among f features k id h in omega (arith, nth_number at.0 f at.1)

-- a file has no more features than there are
pub few_of_file : (f : File) (features : Features) → length (ids_of f features) ≤ feature_count features
few_of_file file.Manifest features = omega arith
few_of_file file.Address features = omega arith
few_of_file file.Amenity features = omega arith
few_of_file file.Anchor features = omega arith
few_of_file file.Building features = omega arith
few_of_file file.Detail features = omega arith
few_of_file file.Fixture features = omega arith
few_of_file file.Footprint features = omega arith
few_of_file file.Geofence features = omega arith
few_of_file file.Kiosk features = omega arith
few_of_file file.Level features = omega arith
few_of_file file.Occupant features = omega arith
few_of_file file.Opening features = omega arith
few_of_file file.Relationship features = omega arith
few_of_file file.Section features = omega arith
few_of_file file.Unit features = omega arith
few_of_file file.Venue features = omega arith
