-- What the program prints, and the status with which it ends, over the files that the folders report.
use Rattle.std.specs.Prelude.{◌≡◌, ℕ, List, ◌++◌, Some, None, codes}
use Rattle.std.specs.Fmt.{decimal}
use Rattle.venue_types.specs.declared.feature_id.FeatureId.{FeatureId}
use Rattle.venue_types.specs.declared.folder_file.File.{File}
use Rattle.venue_types.specs.Identifier.{identifier_read}
use Rattle.venue_ports.specs.Files.{StoredFile, file_at}
use Rattle.line_forms.specs.Lines.{line}
use Rattle.route_certificate.specs.declared.table.Table.{Table}
use Rattle.route_certificate.specs.declared.table.WalkIn.{WalkIn}
use Rattle.route_certificate.specs.declared.table.Priced.{Priced}
use Rattle.route_certificate.specs.declared.table.Priced.TheVariants.{Broken, Cost}
use Rattle.route_certificate.specs.Forms.{IsTable, IsWalkText}
use Rattle.route_certificate.specs.Prices.{IsPriced}
use Rattle.venue_commands.specs.declared.status.Status.{Status}
use Rattle.venue_commands.specs.declared.status.Status.TheVariants.{Done, Negative, Wrong}
use Rattle.venue_commands.specs.Commands.{Asked, Price, Verify, Check, Canon, Links, Route, Session, Serve, Gen, IsAsked, words_of}
use Rattle.venue_commands.specs.Files.{Reads, Stops, links_limit, links_name, walk_limit, walk_name}
use Rattle.venue_commands.specs.Verified.{VerifyOutput}
use Rattle.venue_commands.specs.Checked.{NoVenue, CheckOutput}
use Rattle.venue_commands.specs.Written.{CanonOutput}
use Rattle.venue_commands.specs.Linked.{LinksOutput}
use Rattle.venue_commands.specs.Routed.{RouteOutput}
use Rattle.venue_commands.specs.Generated.{GenOutput}

-- a walk's text over a table
abbrev pub WalkForm : Table → List ℕ → WalkIn → Type 0
WalkForm table text walk = IsWalkText text table walk

abbrev pub priced_text : Priced → List ℕ
priced_text (Cost cost) = line (codes "cost " ++ decimal cost)
priced_text (Broken place) = line (codes "broken " ++ decimal place)

abbrev pub priced_status : Priced → Status
priced_status (Cost cost) = Done
priced_status (Broken place) = Negative

-- `price BASE`: the table is judged before the walk is read
pub data PriceOutput (files : List StoredFile) (base : List ℕ) : List ℕ → Status → Type 0 where
  no_table : {text : List ℕ} → Stops IsTable links_limit links_name (file_at files base links_name) text → PriceOutput files base text Wrong
  no_walk : {text : List ℕ} (table : Table) → Reads IsTable links_limit (file_at files base links_name) table
      → Stops (WalkForm table) walk_limit walk_name (file_at files base walk_name) text → PriceOutput files base text Wrong
  priced : (table : Table) (walk : WalkIn) (outcome : Priced) → Reads IsTable links_limit (file_at files base links_name) table
      → Reads (WalkForm table) walk_limit (file_at files base walk_name) walk → IsPriced table walk outcome
      → PriceOutput files base (priced_text outcome) (priced_status outcome)

-- the program: the words ask for nothing, or for a command
pub data Output (words : List (List ℕ)) (files : List StoredFile) : List ℕ → Status → Type 0 where
  other_words : ((asked : Asked) → IsAsked asked → words ≡ words_of asked → ⊥) → Output words files (line (codes "words")) Wrong
  answers_price : {text : List ℕ} {status : Status} (base : List ℕ) → IsAsked (Price base) → words ≡ words_of (Price base) → PriceOutput files base text status
      → Output words files text status
  answers_verify : {text : List ℕ} {status : Status} (base : List ℕ) → IsAsked (Verify base) → words ≡ words_of (Verify base) → VerifyOutput files base text status
      → Output words files text status
  answers_check : {text : List ℕ} {status : Status} (base folder : List ℕ) → IsAsked (Check base folder) → words ≡ words_of (Check base folder) → CheckOutput files base folder text status
      → Output words files text status
  answers_canon : {text : List ℕ} {status : Status} (base folder : List ℕ) (file : File) → IsAsked (Canon base folder file) → words ≡ words_of (Canon base folder file)
      → CanonOutput files base folder file text status → Output words files text status
  answers_links : {text : List ℕ} {status : Status} (base folder profile : List ℕ) → IsAsked (Links base folder profile) → words ≡ words_of (Links base folder profile)
      → LinksOutput files base folder profile text status → Output words files text status
  answers_route : {text : List ℕ} {status : Status} (base folder profile from to : List ℕ) (a b : FeatureId) → IsAsked (Route base folder profile from to)
      → words ≡ words_of (Route base folder profile from to) → identifier_read from ≡ Some a → identifier_read to ≡ Some b
      → RouteOutput files base folder profile a b text status → Output words files text status
  stops_session : {text : List ℕ} {status : Status} (base folder : List ℕ) → IsAsked (Session base folder None) → words ≡ words_of (Session base folder None)
      → NoVenue files base folder text status → Output words files text status
  stops_serve : {text : List ℕ} {status : Status} (base folder address : List ℕ) (workers connections : ℕ) → IsAsked (Serve base folder address workers connections None)
      → words ≡ words_of (Serve base folder address workers connections None) → NoVenue files base folder text status → Output words files text status
  answers_gen : {text : List ℕ} {status : Status} (levels : ℕ) → IsAsked (Gen levels) → words ≡ words_of (Gen levels) → GenOutput levels text status
      → Output words files text status
