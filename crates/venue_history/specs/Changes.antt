-- Which reply answers which change, and what becomes of the history.
use Rattle.std.specs.Prelude.{◌≡◌, ℕ, ◌+◌, ◌<◌, List, [], ◌∷◌, ◌++◌, length, filter, Contains, Option, Some, None, IfSome, Bool, true, false, not, if◌then◌else◌, IsTrue}
use Rattle.std.specs.Arc.{arc_value}
use Rattle.venue_types.specs.declared.feature_id.FeatureId.{FeatureId}
use Rattle.venue_types.specs.declared.features.Features.{Features}
use Rattle.venue_types.specs.declared.files.Files.{Files}
use Rattle.venue_types.specs.declared.finding.Report.{Report}
use Rattle.venue_types.specs.declared.query.Change.{Change}
use Rattle.venue_types.specs.declared.query.Change.TheVariants as change
use Rattle.venue_types.specs.declared.query.Closure.{Closure}
use Rattle.venue_types.specs.declared.profile_set.ProfileSet.{ProfileSet}
use Rattle.venue_types.specs.declared.reply.ClosureDone.{ClosureDone}
use Rattle.venue_types.specs.declared.reply.Reply.{Reply}
use Rattle.venue_types.specs.declared.reply.Reply.TheVariants as reply
use Rattle.venue_types.specs.declared.settings.Settings.{Settings}
use Rattle.venue_types.specs.ProfileSets.{has_all_of, has_any_of}
use Rattle.venue_ports.specs.Causes.{Rose}
use Rattle.venue_build.specs.Nodes.{closables}
use Rattle.venue_build.specs.Venues.{SeenVenue as Venue}
use Rattle.venue_build.specs.Built.{IsRejected, IsVenueOf}
use Rattle.venue_folder.specs.Shelves.{Shelf, shelf_files}
use Rattle.venue_history.specs.declared.entry.Act.{Act}
use Rattle.venue_history.specs.declared.entry.Act.TheVariants as act
use Rattle.venue_history.specs.declared.entry.Closing.{Closing}
use Rattle.venue_history.specs.declared.entry.Entry.{Entry}
use Rattle.venue_history.specs.Closed.{Version, is_one_of, closed_set, closed_ids}
use Rattle.venue_history.specs.Named.{named_set, repeated}
use Rattle.venue_history.specs.Versions.{MayFollow}
use Rattle.venue_history.specs.Histories.{Replays}

-- the seventeen files that are read of a folder: where the shelf is told, those that it has under this name
pub record AreRead (shelf : Option Shelf) (folder : List ℕ) (files : Files) : Type 0 where
  pub seventeen : length files.slots ≡ 17
  pub told : IfSome shelf (λ s. files ≡ shelf_files s folder)

-- the files that are read make this venue under the version's settings
pub record Makes (shelf : Option Shelf) (v : Version) (folder : List ℕ) (venue : Venue) : Type 0 where
  pub files : Files
  pub read : AreRead shelf folder files
  pub makes : IsVenueOf files v.settings venue

-- the files that are read are rejected with this report
pub record Breaks (shelf : Option Shelf) (v : Version) (folder : List ℕ) (report : Report) : Type 0 where
  pub files : Files
  pub read : AreRead shelf folder files
  pub breaks : IsRejected files v.settings report

-- whether the feature stands as asked for each profile of the set: closed for all of them, or for none
abbrev pub stands_so : Version → Closure → ProfileSet → Bool
stands_so v asked set = if asked.closed then has_all_of (closed_set v asked.feature) set else not (has_any_of (closed_set v asked.feature) set)

-- the closure is for the profiles of this set, and its feature can be closed
pub record IsClosureFor (v : Version) (asked : Closure) (set : ProfileSet) : Type 0 where
  pub named : named_set v.settings asked.profiles ≡ Some set
  pub closable : Contains (closables v.features) asked.feature

-- the feature can be closed, and stands as asked already
abbrev pub StandsSo : Version → Closure → Type 0
StandsSo v asked = (set : ProfileSet) × IsClosureFor v asked set × IsTrue (stands_so v asked set)

-- the feature can be closed, and stands otherwise
abbrev pub StandsOtherwise : Version → Closure → Type 0
StandsOtherwise v asked = (set : ProfileSet) × IsClosureFor v asked set × ¬ IsTrue (stands_so v asked set)

-- the change would add an entry, if it didn't come late: the feature can be closed and stands otherwise, or the files make a venue
abbrev pub IsDue : Option Shelf → Version → Change → Type 0
IsDue shelf v (change.Closure asked) = StandsOtherwise v asked
IsDue shelf v (change.Publish folder) = (venue : Venue) × Makes shelf v folder venue

-- a change that is due comes late: the version is the last one, and the reply tells its number; or there is room for one version more, but the
-- journal didn't keep the change, and the reply tells how its count of failures rose
abbrev pub IsLate : Version → Reply → Type 0
IsLate v (reply.HistoryFull number) = (number ≡ v.number) × (v.number ≡ v.settings.last_version)
IsLate v (reply.JournalFault before after) = (v.number < v.settings.last_version) × Rose before after
IsLate v _ = ⊥

-- the reply tells, by this number of a version, that the feature stands as asked, and the profiles of the set where some were named; `changed`
-- tells whether it stood otherwise before
pub record TellsClosure (settings : Settings) (number : ℕ) (asked : Closure) (set : ProfileSet) (changed : Bool) (done : ClosureDone) : Type 0 where
  pub number_is : done.number ≡ number
  pub feature_is : done.feature ≡ asked.feature
  pub closed_is : done.closed ≡ asked.closed
  pub changed_is : done.changed ≡ changed
  pub profiles_are : done.profiles ≡ repeated settings asked.profiles set

-- the reply is right where the change leaves the history as it is
abbrev pub Refuses : Option Shelf → Version → Change → Reply → Type 0
Refuses shelf v (change.Closure asked) reply.NoProfile = named_set v.settings asked.profiles ≡ None
Refuses shelf v (change.Closure asked) reply.NoFeature = (set : ProfileSet) × (named_set v.settings asked.profiles ≡ Some set) × ¬ Contains (closables v.features) asked.feature
Refuses shelf v (change.Closure asked) (reply.ClosureDone done) =
    (set : ProfileSet) × IsClosureFor v asked set × IsTrue (stands_so v asked set) × TellsClosure v.settings v.number asked set false done
Refuses shelf v (change.Publish folder) (reply.FolderFault before after) = Rose before after
Refuses shelf v (change.Publish folder) (reply.Rejected report) = Breaks shelf v folder report
Refuses shelf v asked r = IsDue shelf v asked × IsLate v r

-- what is closed, or opened again, is the feature that is asked for, for the profiles for which it is, and it stood otherwise
pub record IsAskedFor (v : Version) (asked : Closure) (it : Closing) : Type 0 where
  pub feature_is : it.feature ≡ asked.feature
  pub closure_for : IsClosureFor v asked it.profiles
  pub stood : ¬ IsTrue (stands_so v asked it.profiles)

-- the act to which the change comes at the version
abbrev pub IsActOf : Option Shelf → Version → Change → Act → Type 0
IsActOf shelf v (change.Closure asked) (act.Closed it) = (asked.closed ≡ true) × IsAskedFor v asked it
IsActOf shelf v (change.Closure asked) (act.Reopened it) = (asked.closed ≡ false) × IsAskedFor v asked it
IsActOf shelf v (change.Publish folder) (act.Published venue) = Makes shelf v folder (arc_value venue)
IsActOf shelf v _ _ = ⊥

-- the closed identifiers that these rows can't close any more, in their order
abbrev pub dropped_ids : Version → Features → List FeatureId
dropped_ids v features = filter (λ id. not (is_one_of (closables features) id)) (closed_ids v)

-- the reply tells that the act was done for the change at the version
abbrev pub TellsOf : Version → Change → Act → Reply → Type 0
TellsOf v (change.Closure asked) (act.Closed it) (reply.ClosureDone done) = TellsClosure v.settings (v.number + 1) asked it.profiles true done
TellsOf v (change.Closure asked) (act.Reopened it) (reply.ClosureDone done) = TellsClosure v.settings (v.number + 1) asked it.profiles true done
TellsOf v (change.Publish folder) (act.Published venue) (reply.Published number dropped) = (number ≡ v.number + 1) × (dropped ≡ dropped_ids v (arc_value venue).features)
TellsOf v _ _ _ = ⊥

-- the change is refused or needless: the history stays
pub record IsRefused (shelf : Option Shelf) (asked : Change) (h : List Entry) (r : Reply) (k : List Entry) : Type 0 where
  pub kept : k ≡ h
  pub version : Version
  pub stands : Replays h version
  pub cause : Refuses shelf version asked r

-- the change is accepted: one entry more, by the worker, which may be made at the version and comes of the change
pub record IsAccepted (shelf : Option Shelf) (worker : ℕ) (asked : Change) (h : List Entry) (r : Reply) (k : List Entry) : Type 0 where
  pub version : Version
  pub stands : Replays h version
  pub entry : Entry
  pub may : MayFollow version entry
  pub by_worker : entry.worker ≡ worker
  pub of_change : IsActOf shelf version asked entry.act
  pub tells : TellsOf version asked entry.act r
  pub grown : k ≡ h ++ entry ∷ []

-- accepted where something changed, and else refused or needless
abbrev pub IsAcceptedIf : Bool → Option Shelf → ℕ → Change → List Entry → Reply → List Entry → Type 0
IsAcceptedIf true shelf worker asked h r k = IsAccepted shelf worker asked h r k
IsAcceptedIf false shelf worker asked h r k = IsRefused shelf asked h r k

-- the worker asks for the change at the history h, the reply is r, and the history is k then; want of memory may stand for
-- every other answer, and changes nothing
abbrev pub Changes : Option Shelf → ℕ → Change → List Entry → Reply → List Entry → Type 0
Changes shelf worker asked h (reply.ClosureDone done) k = IsAcceptedIf done.changed shelf worker asked h (reply.ClosureDone done) k
Changes shelf worker asked h (reply.Published number dropped) k = IsAccepted shelf worker asked h (reply.Published number dropped) k
Changes shelf worker asked h reply.OutOfMemory k = k ≡ h
Changes shelf worker asked h r k = IsRefused shelf asked h r k
