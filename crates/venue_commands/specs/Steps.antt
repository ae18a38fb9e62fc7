-- What the parts of the program answer.
use Rattle.std.specs.Prelude.{◌≡◌, ℕ, ◌<◌, ◌≤◌, List, length, Option, Some, None, IfSome, Result, Ok, Err, MatchResult, String, string_bytes, codes}
use Rattle.std.specs.declared.alloc.Global.{Global}
use Rattle.venue_types.specs.declared.files.Files.{Files}
use Rattle.venue_types.specs.Identifier.{identifier_read}
use Rattle.venue_types.specs.declared.feature_id.FeatureId.{FeatureId}
use Rattle.venue_types.specs.declared.finding.Report.{Report}
use Rattle.venue_types.specs.declared.settings.Profile.{Profile}
use Rattle.venue_types.specs.declared.settings.Settings.{Settings}
use Rattle.venue_ports.specs.Causes.{Rose}
use Rattle.venue_ports.specs.Files.{StoredFile}
use Rattle.venue_ports.specs.declared.folders.ReadFault.{ReadFault}
use Rattle.venue_ports.specs.declared.folders.ReadFault.TheVariants.{Failed, OutOfMemory}
use Rattle.line_forms.specs.Lines.{line}
use Rattle.route_answers.specs.Nodes.{place_of}
use Rattle.route_certificate.specs.declared.answer.AnswerIn.{AnswerIn}
use Rattle.route_certificate.specs.Answers.{answer_text}
use Rattle.route_certificate.specs.Forms.{table_text, FitsTable}
use Rattle.route_answers.specs.Tables.{table_of}
use Rattle.route_answers.specs.RouteAnswers.{IsRouteAnswer}
use Rattle.venue_session.specs.Venues.{SeenVenue as Venue}
use Rattle.venue_session.specs.Built.{IsRejected, IsVenueOf}
use Rattle.check_text.specs.Text.{rejected_text}
use Rattle.venue_commands.specs.declared.load.Loaded.{Loaded}
use Rattle.venue_commands.specs.declared.load.Loaded.TheVariants as loaded
use Rattle.venue_commands.specs.declared.printout.Printout.{Printout}
use Rattle.venue_commands.specs.declared.base_venue.Made.{Made}
use Rattle.venue_commands.specs.declared.base_venue.Made.TheVariants as made
use Rattle.venue_commands.specs.declared.status.Status.{Status}
use Rattle.venue_commands.specs.declared.status.Status.TheVariants.{Done, Negative, Wrong, Fault, Memory}
use Rattle.venue_commands.specs.declared.load.Cause.{Cause}
use Rattle.venue_commands.specs.Commands.{Asked, Asks}
use Rattle.venue_commands.specs.FaultOrder.{FailsAt}
use Rattle.venue_commands.specs.Runs.{FoldersRun}
use Rattle.venue_commands.specs.Output.{Output}
use Rattle.venue_commands.specs.Files.{Reads, StopsBy}
use Rattle.venue_commands.specs.Checked.{SettingsForm, settings_limit, IsFaultText, NoSettings, NoVenue, HasVenue}
use Rattle.venue_commands.specs.Linked.{profile_named}
use Rattle.venue_commands.specs.Routed.{claim_status}
use Rattle.venue_settings.specs.declared.fault.SettingsFault.{SettingsFault}
use Rattle.venue_settings.specs.Settings.{IsSettingsOf}

-- what a file is, against its limit
abbrev pub IsLoaded : ℕ → Option (List ℕ) → Loaded → Type 0
IsLoaded limit found loaded.Missing = found ≡ None
IsLoaded limit found loaded.Large = (bytes : List ℕ) × (found ≡ Some bytes) × (limit < length bytes)
IsLoaded limit found (loaded.Whole v) = (found ≡ Some v.items) × (length v.items ≤ limit)

-- a file that was read whole is within its limit
abbrev pub IsSmall : ℕ → Loaded → Type 0
IsSmall limit loaded.Missing = Unit {0}
IsSmall limit loaded.Large = Unit {0}
IsSmall limit (loaded.Whole v) = length v.items ≤ limit

-- a file of the base is read, or stops the command
abbrev pub IsJudged : {X : Type 0} → (List ℕ → X → Type 0) → ℕ → Option (List ℕ) → Result X Cause → Type 0
IsJudged Form limit found judged = MatchResult judged (Reads Form limit found) (StopsBy Form limit found)

-- the statuses that come with a printed line
abbrev pub IsPrinted : Status → Type 0
IsPrinted Done = Unit {0}
IsPrinted Negative = Unit {0}
IsPrinted Wrong = Unit {0}
IsPrinted Fault = ⊥
IsPrinted Memory = ⊥

-- the text is of these settings, or this is the line of its fault
abbrev pub IsJudgedText : List ℕ → Result Settings (String Global) → Type 0
IsJudgedText bytes judged =
    MatchResult judged (SettingsForm bytes) (λ text. (why : SettingsFault) × IsSettingsOf bytes (Err why) × IsFaultText why (string_bytes text))

-- the settings of the base are read, or this line stops the command
abbrev pub IsSettled : Option (List ℕ) → Result Settings (String Global) → Type 0
IsSettled found settled = MatchResult settled (Reads SettingsForm settings_limit found) (λ text. NoSettings found (string_bytes text))

-- the base has a venue in the folder, or this is printed
abbrev pub IsMade : List StoredFile → List ℕ → List ℕ → Made → Type 0
IsMade files base folder (made.Stopped answer) = NoVenue files base folder answer.text answer.status
IsMade files base folder (made.Venue venue) = HasVenue files base folder venue

-- what stops the command is a printed line
abbrev pub IsPlain : Made → Type 0
IsPlain (made.Stopped answer) = IsPrinted answer.status
IsPlain (made.Venue venue) = Unit {0}

-- the files of the folder make this venue under these settings, or their report is printed
abbrev pub IsMadeOf : Files → Settings → Made → Type 0
IsMadeOf files settings (made.Stopped answer) = (report : Report) × IsRejected files settings report × (answer.text ≡ rejected_text report) × (answer.status ≡ Negative)
IsMadeOf files settings (made.Venue venue) = IsVenueOf files settings venue

-- what is printed of a venue where this profile has the name, or none: the table of the links that it may use, or that there is none
abbrev pub IsLinkedFor : Venue → Printout → Option Profile → Type 0
IsLinkedFor venue answer None = (answer.text ≡ line (codes "profile")) × (answer.status ≡ Wrong)
IsLinkedFor venue answer (Some profile) =
    (answer.text ≡ table_text (table_of venue.features venue.settings profile)) × (answer.status ≡ Done) × FitsTable (table_of venue.features venue.settings profile)

-- what is printed of a venue for the name of a profile
abbrev pub IsLinked : Venue → List ℕ → Printout → Type 0
IsLinked venue name answer = IsLinkedFor venue answer (profile_named venue.settings name)

-- what is printed of a venue for somebody with the profile between two nodes: the text of a right answer
pub record IsAnswered (venue : Venue) (profile : Profile) (a b : ℕ) (printed : Printout) : Type 0 where
  pub answer : AnswerIn
  pub right : IsRouteAnswer venue.features venue.settings profile a b answer
  pub text : printed.text ≡ answer_text answer
  pub status : printed.status ≡ claim_status answer.claim

-- what is printed where the end is at this node, or nowhere
abbrev pub IsRoutedTo : Venue → Profile → ℕ → Printout → Option ℕ → Type 0
IsRoutedTo venue profile a printed None = (printed.text ≡ line (codes "place to")) × (printed.status ≡ Wrong)
IsRoutedTo venue profile a printed (Some b) = IsAnswered venue profile a b printed

-- what is printed where the start is at this node, or nowhere
abbrev pub IsRoutedFrom : Venue → Profile → FeatureId → Printout → Option ℕ → Type 0
IsRoutedFrom venue profile to printed None = (printed.text ≡ line (codes "place from")) × (printed.status ≡ Wrong)
IsRoutedFrom venue profile to printed (Some a) = IsRoutedTo venue profile a printed (place_of venue.features to)

-- what is printed where this profile has the name, or none
abbrev pub IsRoutedFor : Venue → FeatureId → FeatureId → Printout → Option Profile → Type 0
IsRoutedFor venue from to printed None = (printed.text ≡ line (codes "profile")) × (printed.status ≡ Wrong)
IsRoutedFor venue from to printed (Some profile) = IsRoutedFrom venue profile to printed (place_of venue.features from)

-- what is printed of a venue for the name of a profile and two places
abbrev pub IsRouted : Venue → List ℕ → FeatureId → FeatureId → Printout → Type 0
IsRouted venue name from to printed = IsRoutedFor venue from to printed (profile_named venue.settings name)

-- the answer to words that no command has
abbrev pub IsUnknown : Printout → Type 0
IsUnknown answer = (answer.text ≡ line (codes "words")) × (answer.status ≡ Wrong)

-- the words ask for a command, in which the folders failed
pub record Fails (words : List (List ℕ)) (files : Option (List StoredFile)) (folders : FoldersRun) : Type 0 where
  pub asked : Asked
  pub asks : Asks words asked
  pub at : FailsAt files folders.asked folders.asked_now asked
  pub cause : Rose folders.faults folders.faults_now

-- what was answered to the words, over folders: what is printed then; that they failed; or that memory ran out
abbrev pub IsAnswer : List (List ℕ) → Option (List StoredFile) → FoldersRun → Result Printout ReadFault → Type 0
IsAnswer words files folders (Ok answer) = IsPrinted answer.status × IfSome files (λ fs. Output words fs answer.text answer.status) × (folders.faults_now ≡ folders.faults)
IsAnswer words files folders (Err Failed) = Fails words files folders
IsAnswer words files folders (Err OutOfMemory) = folders.faults_now ≡ folders.faults
