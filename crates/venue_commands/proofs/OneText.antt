-- The text of settings has one meaning, and a folder of a base is one venue, or none.
use mathlib.Core.HLevel.{is_prop→PathP}
use native.Mathlib.Bridge.{le_prop}
use Rattle.std.proofs.Common.{◌≡◌, ◌<◌, ◌≤◌, ℕ, List, length, Option, Some, None, Ok, Err, sym, subst, ◌∙◌, codes, arith}
use Rattle.std.proofs.lemmas.List.{length-map}
use Rattle.std.proofs.lemmas.Option.{same_Some}
use Rattle.std.specs.Prelude.{pos, MatchOption}
use Rattle.std.specs.Option.{option_and_then}
use Rattle.venue_settings.specs.Data.{Data, Members, integer, get_member, as_str}
use Rattle.venue_settings.specs.Values.{inside_of}
use Rattle.venue_types.specs.declared.files.Files.{Files}
use Rattle.venue_types.specs.declared.finding.Report.{Report}
use Rattle.venue_types.specs.declared.settings.Extras.{Extras}
use Rattle.venue_types.specs.declared.settings.Inside.{Inside}
use Rattle.venue_types.specs.declared.settings.Inside.TheVariants.{Straight}
use Rattle.venue_types.specs.declared.settings.Settings.{Settings}
use Rattle.venue_settings.specs.declared.fault.SettingsFault.{SettingsFault}
use Rattle.venue_settings.specs.declared.fault.SettingsFault.TheVariants as fault
use Rattle.venue_settings.specs.Faults.{first_fault}
use Rattle.venue_settings.specs.Settings.{IsDocument, HasExtras, HasSettings, IsSettingsOf, no_document, faulty, sound, no_memory}
use Rattle.venue_ports.specs.Files.{StoredFile, file_at}
use Rattle.venue_types.specs.FolderFiles.{all_files}
use Rattle.venue_folder.specs.Shelves.{slot_at, folder_path, folder_files}
use Rattle.venue_session.specs.Venues.{SeenVenue as Venue}
use Rattle.venue_session.specs.Built.{IsRejected, IsVenueOf}
use Rattle.venue_commands.specs.declared.status.Status.{Status}
use Rattle.venue_commands.specs.Files.{Reads}
use Rattle.venue_commands.specs.Checked.{IsFaultText, SettingsForm, settings_limit, settings_name, NoSettings, missing, large, unfit, NoVenue, no_settings, rejected, HasVenue}

-- ---- a text of settings

-- bytes are the text of one document
one_table : (bytes : List ℕ) (a b : Members) → IsDocument bytes a → IsDocument bytes b → a ≡ b
one_table bytes a b p q = let same : ◌≡◌ {A = Option Members} (Some a) (Some b) = sym p.parsed ∙ q.parsed in cc

one_number : (found : Option Data) (default a b : ℕ) → MatchOption found (a ≡ default) (λ value. value ≡ integer (pos a)) → MatchOption found (b ≡ default) (λ value. value ≡ integer (pos b)) → a ≡ b
one_number None default a b p q = p ∙ sym q
one_number (Some value) default a b p q = let same : integer (pos a) ≡ integer (pos b) = sym p ∙ q in cc

one_needed : (found : Option Data) (a b : ℕ) → found ≡ Some (integer (pos a)) → found ≡ Some (integer (pos b)) → a ≡ b
one_needed found a b p q = let same : ◌≡◌ {A = Option Data} (Some (integer (pos a))) (Some (integer (pos b))) = sym p ∙ q in cc

one_inside : (found : Option Data) (a b : Inside) → MatchOption found (a ≡ Straight) (λ value. option_and_then inside_of (as_str value) ≡ Some a)
    → MatchOption found (b ≡ Straight) (λ value. option_and_then inside_of (as_str value) ≡ Some b) → a ≡ b
one_inside None a b p q = p ∙ sym q
one_inside (Some value) a b p q = same_Some a b (sym p ∙ q)

one_extras : (table : Members) (a b : Extras) → HasExtras table a → HasExtras table b → a ≡ b
one_extras table a b p q =
    let elevator : a.elevator ≡ b.elevator = one_number (get_member (codes "elevator_extra") table) 0 a.elevator b.elevator p.elevator q.elevator in
    let escalator : a.escalator ≡ b.escalator = one_number (get_member (codes "escalator_extra") table) 0 a.escalator b.escalator p.escalator q.escalator in
    let movingwalkway : a.movingwalkway ≡ b.movingwalkway = one_number (get_member (codes "movingwalkway_extra") table) 0 a.movingwalkway b.movingwalkway p.movingwalkway q.movingwalkway in
    let ramp : a.ramp ≡ b.ramp = one_number (get_member (codes "ramp_extra") table) 0 a.ramp b.ramp p.ramp q.ramp in
    let stairs : a.stairs ≡ b.stairs = one_number (get_member (codes "stairs_extra") table) 0 a.stairs b.stairs p.stairs q.stairs in
    let traversal : a.traversal ≡ b.traversal = one_number (get_member (codes "traversal_extra") table) 0 a.traversal b.traversal p.traversal q.traversal in
    λ i. record {
      elevator = elevator i;
      escalator = escalator i;
      movingwalkway = movingwalkway i;
      ramp = ramp i;
      stairs = stairs i;
      traversal = traversal i;
      elevator_range = is_prop→PathP (λ j. elevator j ≤ 1000000) (λ j. le_prop) a.elevator_range b.elevator_range i;
      escalator_range = is_prop→PathP (λ j. escalator j ≤ 1000000) (λ j. le_prop) a.escalator_range b.escalator_range i;
      movingwalkway_range = is_prop→PathP (λ j. movingwalkway j ≤ 1000000) (λ j. le_prop) a.movingwalkway_range b.movingwalkway_range i;
      ramp_range = is_prop→PathP (λ j. ramp j ≤ 1000000) (λ j. le_prop) a.ramp_range b.ramp_range i;
      stairs_range = is_prop→PathP (λ j. stairs j ≤ 1000000) (λ j. le_prop) a.stairs_range b.stairs_range i;
      traversal_range = is_prop→PathP (λ j. traversal j ≤ 1000000) (λ j. le_prop) a.traversal_range b.traversal_range i;
    }

one_settings : (table : Members) (a b : Settings) → HasSettings table a → HasSettings table b → a ≡ b
one_settings table a b p q =
    let kx : a.kx ≡ b.kx = one_needed (get_member (codes "kx") table) a.kx b.kx p.kx q.kx in
    let ky : a.ky ≡ b.ky = one_needed (get_member (codes "ky") table) a.ky b.ky p.ky q.ky in
    let border : a.border_tol ≡ b.border_tol = one_number (get_member (codes "border_tol") table) 1000 a.border_tol b.border_tol p.border_tol q.border_tol in
    let contain : a.contain_tol ≡ b.contain_tol = one_number (get_member (codes "contain_tol") table) 5000 a.contain_tol b.contain_tol p.contain_tol q.contain_tol in
    let inside : a.inside ≡ b.inside = one_inside (get_member (codes "inside") table) a.inside b.inside p.inside q.inside in
    let extras : a.extras ≡ b.extras = one_extras table a.extras b.extras p.extras q.extras in
    let last : a.last_version ≡ b.last_version = one_number (get_member (codes "last_version") table) 4294967295 a.last_version b.last_version p.last_version q.last_version in
    let keys : a.staff_keys ≡ b.staff_keys = p.staff_keys ∙ sym q.staff_keys in
    let profiles : a.profiles ≡ b.profiles = p.profiles ∙ sym q.profiles in
    λ i. record {
      kx = kx i;
      ky = ky i;
      border_tol = border i;
      contain_tol = contain i;
      inside = inside i;
      extras = extras i;
      last_version = last i;
      staff_keys = keys i;
      profiles = profiles i;
      kx_some = is_prop→PathP (λ j. 1 ≤ kx j) (λ j. le_prop) a.kx_some b.kx_some i;
      kx_range = is_prop→PathP (λ j. kx j ≤ 20000000) (λ j. le_prop) a.kx_range b.kx_range i;
      ky_some = is_prop→PathP (λ j. 1 ≤ ky j) (λ j. le_prop) a.ky_some b.ky_some i;
      ky_range = is_prop→PathP (λ j. ky j ≤ 20000000) (λ j. le_prop) a.ky_range b.ky_range i;
      border_range = is_prop→PathP (λ j. border j ≤ 100000) (λ j. le_prop) a.border_range b.border_range i;
      contain_range = is_prop→PathP (λ j. contain j ≤ 1000000) (λ j. le_prop) a.contain_range b.contain_range i;
      version_some = is_prop→PathP (λ j. 1 ≤ last j) (λ j. le_prop) a.version_some b.version_some i;
      staff_range = is_prop→PathP (λ j. length (keys j) ≤ 64) (λ j. le_prop) a.staff_range b.staff_range i;
      profiles_some = is_prop→PathP (λ j. 1 ≤ length (profiles j)) (λ j. le_prop) a.profiles_some b.profiles_some i;
      profiles_range = is_prop→PathP (λ j. length (profiles j) ≤ 16) (λ j. le_prop) a.profiles_range b.profiles_range i;
    }

same_settings : (bytes : List ℕ) (a b : Settings) → IsSettingsOf bytes (Ok a) → IsSettingsOf bytes (Ok b) → a ≡ b
same_settings bytes a b (sound table a' document none has) (sound table' b' document' none' has') =
    one_settings table a b has (subst (λ (t : Members). HasSettings t b) (one_table bytes table' table document' document) has')

-- what has settings has no fault
not_unfit : (bytes text : List ℕ) (a : Settings) (why : SettingsFault) → IsSettingsOf bytes (Ok a) → IsSettingsOf bytes (Err why) → IsFaultText why text → ⊥
not_unfit bytes text a why (sound table a' document none has) (no_document never) printed = never table document
not_unfit bytes text a why (sound table a' document none has) (faulty table' found document' some) printed =
    let same : first_fault table' ≡ None = subst (λ (t : Members). first_fault t ≡ None) (one_table bytes table table' document document') none in
    absurd cc
not_unfit bytes text a why (sound table a' document none has) no_memory printed = printed

-- ---- a file

-- what is read of a file is one value, where its text is of one
pub read_one : {X : Type 0} (Form : List ℕ → X → Type 0) (limit : ℕ) (found : Option (List ℕ)) (x y : X) → ((bytes : List ℕ) → Form bytes x → Form bytes y → x ≡ y)
    → Reads Form limit found x → Reads Form limit found y → x ≡ y
read_one Form limit found x y one p q =
    one p.bytes p.form (subst (λ (b : List ℕ). Form b y) (same_Some q.bytes p.bytes (sym q.there ∙ p.there)) q.form)

settings_one : (found : Option (List ℕ)) (a b : Settings) → Reads SettingsForm settings_limit found a → Reads SettingsForm settings_limit found b → a ≡ b
settings_one found a b = read_one SettingsForm settings_limit found a b (λ bytes. same_settings bytes a b)

-- settings that are read stop nothing
read_on : (found : Option (List ℕ)) (text : List ℕ) (settings : Settings) → Reads SettingsForm settings_limit found settings → NoSettings found text → ⊥
read_on found text settings reads (missing none) = absurd cc
read_on found text settings reads (large bytes there over) =
    let same = same_Some bytes reads.bytes (sym there ∙ reads.there) in
    let within : length bytes ≤ settings_limit = subst (λ (b : List ℕ). length b ≤ settings_limit) (sym same) reads.within in
    absurd (omega (arith, over, within))
read_on found text settings reads (unfit bytes why there within unfitting printed) =
    let same = same_Some reads.bytes bytes (sym reads.there ∙ there) in
    not_unfit bytes text settings why (subst (λ (b : List ℕ). SettingsForm b settings) same reads.form) unfitting printed

-- ---- a folder of a base

-- no folder is rejected and a venue
abbrev pub NotBoth : Type 0
NotBoth = (files : Files) (settings : Settings) (report : Report) (venue : Venue) → length files.slots ≡ 17 → IsRejected files settings report → IsVenueOf files settings venue → ⊥

-- and none is two venues
abbrev pub OneVenue : Type 0
OneVenue = (files : Files) (settings : Settings) (one other : Venue) → length files.slots ≡ 17 → IsVenueOf files settings one → IsVenueOf files settings other → one ≡ other

seventeen : (fs : List StoredFile) (path : List ℕ) → length (folder_files fs path).slots ≡ 17
seventeen fs path = length-map all_files (slot_at fs path)

pub not_both : NotBoth → (fs : List StoredFile) (base folder text : List ℕ) (status : Status) (venue : Venue) → NoVenue fs base folder text status → HasVenue fs base folder venue → ⊥
not_both law fs base folder text status venue (no_settings stops) has = read_on (file_at fs base settings_name) text venue.settings has.settings stops
not_both law fs base folder text status venue (rejected settings report reads is) has =
    let files = folder_files fs (folder_path base folder) in
    let same = settings_one (file_at fs base settings_name) settings venue.settings reads has.settings in
    law files venue.settings report venue (seventeen fs (folder_path base folder)) (subst (λ (s : Settings). IsRejected files s report) same is) has.made

pub venue_one : OneVenue → (fs : List StoredFile) (base folder : List ℕ) (one other : Venue) → HasVenue fs base folder one → HasVenue fs base folder other → one ≡ other
venue_one law fs base folder one other p q =
    let files = folder_files fs (folder_path base folder) in
    let same = settings_one (file_at fs base settings_name) one.settings other.settings p.settings q.settings in
    law files other.settings one other (seventeen fs (folder_path base folder)) (subst (λ (s : Settings). IsVenueOf files s one) same p.made) q.made
