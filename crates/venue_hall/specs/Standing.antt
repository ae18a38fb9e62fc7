-- Records that stand for entries.
use Rattle.std.specs.Prelude.{◌≡◌, List, [], ◌∷◌, Option, Some, None}
use Rattle.std.specs.Arc.{arc_value}
use Rattle.venue_types.specs.declared.settings.Settings.{Settings}
use Rattle.venue_history.specs.Built.{IsVenueOf}
use Rattle.venue_history.specs.declared.entry.Act.{Act}
use Rattle.venue_history.specs.declared.entry.Act.TheVariants.{Published, Closed, Reopened}
use Rattle.venue_history.specs.declared.entry.Entry.{Entry}
use Rattle.venue_history.specs.Openings.{HaveSettings}
use Rattle.venue_hall.specs.Records.{Logged, LoggedAct, published, closed, reopened}

-- what is kept of an act stands for it: of a publication files that make its venue under these settings, of a closure or a reopening its
-- feature and its profiles
abbrev pub StandsForAct : Settings → LoggedAct → Act → Type 0
StandsForAct settings (published slots) (Published venue) = IsVenueOf (record { slots = slots }) settings (arc_value venue)
StandsForAct settings (closed feature profiles) (Closed it) = (it.feature ≡ feature) × (it.profiles.0 ≡ profiles)
StandsForAct settings (reopened feature profiles) (Reopened it) = (it.feature ≡ feature) × (it.profiles.0 ≡ profiles)
StandsForAct settings _ _ = ⊥

-- the record has the entry's worker, and what is kept stands for its act
pub record StandsFor (settings : Settings) (kept : Logged) (entry : Entry) : Type 0 where
  pub worker : kept.worker ≡ entry.worker
  pub act : StandsForAct settings kept.act entry.act

-- the records stand for the entries, place by place
abbrev pub StandFor : Settings → List Logged → List Entry → Type 0
StandFor settings [] [] = Unit {0}
StandFor settings (kept ∷ records) (entry ∷ entries) = StandsFor settings kept entry × StandFor settings records entries
StandFor settings _ _ = ⊥

-- where a log tells its records, they stand for these entries, under the settings of their venues
abbrev pub AreRecordsOf : Option (List Logged) → List Entry → Type 0
AreRecordsOf None entries = Unit {0}
AreRecordsOf (Some records) entries = (settings : Settings) → HaveSettings settings entries → StandFor settings records entries
