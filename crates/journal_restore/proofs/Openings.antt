-- The record of the publication that opens a history.
use Rattle.std.proofs.Common.{◌≡◌, ℕ, List, [], ◌∷◌, ◌++◌, Option, Some, None, option_map, refl, sym, subst, Global}
use Rattle.std.proofs.lemmas.List.Elements.{Contains-push}
use Rattle.std.specs.Arc.{arc_value}
use Rattle.std.specs.declared.sync.Arc.{Arc}
use Rattle.venue_types.specs.declared.files.Files.{Files}
use Rattle.venue_types.specs.declared.settings.Settings.{Settings}
use Rattle.venue_ports.specs.Moments.{Moment}
use Rattle.venue_hall.specs.Act.TheVariants as act
use Rattle.venue_hall.specs.Built.{IsVenueOf}
use Rattle.venue_hall.specs.Entry.{Entry}
use Rattle.venue_hall.specs.Openings.{HaveSettings, opening_history}
use Rattle.venue_hall.specs.Records.{Logged}
use Rattle.venue_hall.specs.Standing.{StandsFor, AreRecordsOf}
use Rattle.venue_hall.specs.Venues.{SeenVenue as Venue}
use Rattle.venue_hall.proofs.Standing.{records_more}
use Rattle.change_journal.specs.Told.{told_records}
use Rattle.journal_restore.specs.Beginnings.{opening_record}

-- it stands for the entry, under the settings of the venue
opening_stands : (files : Files) (given : Settings) (venue : Arc Venue Global) → IsVenueOf files given (arc_value venue)
    → (settings : Settings) → HaveSettings settings (opening_history venue) → StandsFor settings (opening_record files.slots) (record { worker = 0; act = act.Published venue })
opening_stands files given venue made settings all =
    let entry : Entry = record { worker = 0; act = act.Published venue } in
    let own : (arc_value venue).settings ≡ settings = all entry (arc_value venue) (Contains-push [] entry) refl in
    let mine : IsVenueOf files (arc_value venue).settings (arc_value venue) = subst (λ (s : Settings). IsVenueOf files s (arc_value venue)) (sym made.settings_given) made in
    record { worker = refl; act = subst (λ (s : Settings). IsVenueOf files s (arc_value venue)) own mine }

-- no records stand for no entries
nothing_told : (moments : List Moment) → AreRecordsOf (told_records 0 moments) []
nothing_told [] = tt
nothing_told (m ∷ past) = λ settings all. tt

none_told : (count : ℕ) (moments : List Moment) → count ≡ 0 → AreRecordsOf (told_records count moments) []
none_told count moments none = subst (λ (n : ℕ). AreRecordsOf (told_records n moments) []) (sym none) (nothing_told moments)

-- the one record stands for the one entry
pub opening_told : (files : Files) (given : Settings) (venue : Arc Venue Global) (count count' : ℕ) (old new : List Moment) (entries : List Entry)
    → IsVenueOf files given (arc_value venue) → count ≡ 0
    → told_records count' new ≡ option_map (λ front. front ++ opening_record files.slots ∷ []) (told_records count old)
    → entries ≡ opening_history venue → AreRecordsOf (told_records count' new) entries
opening_told files given venue count count' old new entries made none told is =
    subst (AreRecordsOf (told_records count' new)) (sym is)
    (records_more (told_records count old) (told_records count' new) [] (opening_record files.slots) (record { worker = 0; act = act.Published venue })
    (none_told count old none) told (opening_stands files given venue made))
