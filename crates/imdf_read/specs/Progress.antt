-- How far a folder has been read: up to the file of this number. This is the code's own way and no promise.
use Rattle.std.specs.Prelude.{◌≡◌, ◌≢◌, ℕ, ◌-◌, ◌^◌, ◌≤◌, min, List, Option, Some, Contains, slice_get, sum_by, take, drop, ◌⊎◌}
use Rattle.std.specs.List.{AllZip}
use Rattle.exact_json.specs.Json.{Json}
use Rattle.venue_types.specs.declared.files.Slot.{Slot}
use Rattle.venue_types.specs.declared.finding.Finding.{Finding}
use Rattle.venue_types.specs.declared.finding.Note.{Note}
use Rattle.venue_types.specs.declared.features.Features.{Features}
use Rattle.venue_types.specs.declared.folder_file.File.{File}
use Rattle.venue_types.specs.declared.folder_file.File.TheVariants as file
use Rattle.venue_types.specs.FolderFiles.{file_number, feature_files}
use Rattle.imdf_schema.specs.Contents.{IsContent, content_items}
use Rattle.imdf_rows.specs.Rows.{IsPlainRow, IsAmenityRow, IsAnchorRow, IsBuildingRow, IsDetailRow, IsFixtureRow, IsFootprintRow, IsKioskRow, IsLevelRow, IsOccupantRow, IsOpeningRow, IsRelationshipRow, IsUnitRow, IsVenueRow}
use Rattle.imdf_read.specs.declared.progress.Progress.{Progress}
use Rattle.imdf_read.specs.Counts.{collected, total_positions}
use Rattle.imdf_read.specs.Gathering.{FindsInSlot, FindsInItems, FindsInFile, NotesInFile}

-- a rule is broken by the file as a whole, or by an item of a feature file
abbrev pub FindsAt : File → Slot → Finding → Type 0
FindsAt f slot x = FindsInSlot f slot x ⊎ ((f ≢ file.Manifest) × ((content : Option Json) × IsContent slot content × FindsInItems f (content_items content) x))

-- a rule is broken in one of the files
pub record FoundUpTo (slots : List Slot) (n : ℕ) (x : Finding) : Type 0 where
  pub source : File
  pub under : file_number source ≤ n
  pub slot : Slot
  pub there : slice_get slots (file_number source) ≡ Some slot
  pub finds : FindsAt source slot x

-- a note is due in one of the feature files
pub record NotedUpTo (slots : List Slot) (n : ℕ) (x : Note) : Type 0 where
  pub source : File
  pub features : source ≢ file.Manifest
  pub under : file_number source ≤ n
  pub slot : Slot
  pub there : slice_get slots (file_number source) ≡ Some slot
  pub notes : NotesInFile source slot x

-- what the first feature files hold is counted
pub record CountsUpTo (slots : List Slot) (n items positions : ℕ) : Type 0 where
  pub contents : List (Option Json)
  pub zip : AllZip IsContent (take n (drop 1 slots)) contents
  pub only : (other : List (Option Json)) → AllZip IsContent (take n (drop 1 slots)) other → other ≡ contents
  pub items_are : items ≡ min (sum_by collected contents) (2 ^ 64 - 1)
  pub positions_are : positions ≡ min (total_positions (take n feature_files) contents) (2 ^ 64 - 1)

-- the files up to that number are read
pub record IsUpTo (slots : List Slot) (n : ℕ) (p : Progress) : Type 0 where
  pub findings_only : (x : Finding) → Contains p.gathered.findings.items x → FoundUpTo slots n x
  pub findings_whole : (x : Finding) → FoundUpTo slots n x → Contains p.gathered.findings.items x
  pub notes_only : (x : Note) → Contains p.gathered.notes.items x → NotedUpTo slots n x
  pub notes_whole : (x : Note) → NotedUpTo slots n x → Contains p.gathered.notes.items x
  pub counts : CountsUpTo slots n p.items p.positions

-- the rows of a file, if nothing is found in it
pub record HasRows {Row : Type 0} (IsRow : Json → Row → Type 0) (slots : List Slot) (f : File) (rows : List Row) : Type 0 where
  pub slot : Slot
  pub there : slice_get slots (file_number f) ≡ Some slot
  pub content : Option Json
  pub held : IsContent slot content
  pub each : ((x : Finding) → ¬ FindsInFile f slot x) → AllZip IsRow (content_items content) rows

-- the rows of all files
pub record HaveRows (slots : List Slot) (features : Features) : Type 0 where
  pub addresses : HasRows IsPlainRow slots file.Address features.addresses
  pub amenities : HasRows IsAmenityRow slots file.Amenity features.amenities
  pub anchors : HasRows IsAnchorRow slots file.Anchor features.anchors
  pub buildings : HasRows IsBuildingRow slots file.Building features.buildings
  pub details : HasRows IsDetailRow slots file.Detail features.details
  pub fixtures : HasRows IsFixtureRow slots file.Fixture features.fixtures
  pub footprints : HasRows IsFootprintRow slots file.Footprint features.footprints
  pub geofences : HasRows IsPlainRow slots file.Geofence features.geofences
  pub kiosks : HasRows IsKioskRow slots file.Kiosk features.kiosks
  pub levels : HasRows IsLevelRow slots file.Level features.levels
  pub occupants : HasRows IsOccupantRow slots file.Occupant features.occupants
  pub openings : HasRows IsOpeningRow slots file.Opening features.openings
  pub relationships : HasRows IsRelationshipRow slots file.Relationship features.relationships
  pub sections : HasRows IsPlainRow slots file.Section features.sections
  pub units : HasRows IsUnitRow slots file.Unit features.units
  pub venues : HasRows IsVenueRow slots file.Venue features.venues
