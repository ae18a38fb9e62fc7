-- What a restart gives back of a history that a journal kept.
use Rattle.std.proofs.Common.{◌≡◌, ℕ, ◌+◌, List, [], ◌∷◌, ◌++◌, All, Some, refl, sym, ◌∙◌, ap, subst, inl, inr}
use Rattle.std.proofs.Math.Logic.{∥∥₁_elim}
use Rattle.std.proofs.lemmas.List.Elements.{All-cons, All-head, All-nil, All-same, All-tail}
use Rattle.std.proofs.lemmas.Option.{same_Some}
use Rattle.std.specs.Arc.{arc_value}
use mathlib.Core.HLevel.{⊥_prop}
use Rattle.venue_types.proofs.Items.{Contains-first}
use Rattle.venue_types.specs.declared.files.Slot.{Slot}
use Rattle.venue_types.specs.declared.profile_set.ProfileSet.{ProfileSet}
use Rattle.venue_types.specs.declared.settings.Settings.{Settings}
use Rattle.venue_ports.specs.Moments.{Moment, Leaves, LeavesOnly, Now}
use Rattle.venue_hall.specs.Act.{Act}
use Rattle.venue_hall.specs.Act.TheVariants.{Published, Closed, Reopened}
use Rattle.venue_hall.specs.Closed.{Version}
use Rattle.venue_hall.specs.Closing.{Closing}
use Rattle.venue_hall.specs.Entry.{Entry}
use Rattle.venue_hall.specs.Histories.{IsLegal, KeepsTheRules, Replays, after_all, opening_of, replay, replay_from}
use Rattle.venue_hall.specs.Openings.{HaveSettings}
use Rattle.venue_hall.specs.Records.{Logged, LoggedAct, IsAct, published, closed, reopened}
use Rattle.venue_hall.specs.Standing.{StandFor, StandsFor, StandsForAct, AreRecordsOf}
use Rattle.venue_hall.specs.Venues.{SeenVenue as Venue}
use Rattle.venue_hall.specs.Versions.{after, still_closed}
use Rattle.board_copies.specs.declared.resuming.Resumed.{Resumed}
use Rattle.board_copies.specs.Stamps.{entries_of}
use Rattle.change_journal.specs.Appends.{IsJournalWith}
use Rattle.change_journal.specs.Reading.{records_in}
use Rattle.change_journal.specs.Texts.{IsJournal, IsRecord}
use Rattle.change_journal.specs.Told.{told_records}
use Rattle.journal_restore.specs.Restarts.{AreSameEntries, IsRestartOf, IsSameAct, IsSameEntry}
use Rattle.journal_restore.specs.Restores.{IsReplayed, IsRestored}
use Rattle.journal_restore.proofs.OnlyRead.{forward, now_maps, only_maps}
use Rattle.journal_restore.proofs.Unfit.{FirstPublished, OneVenue, closed_act, reopened_act}

abbrev pub OneJournal : Type 0
OneJournal = (records others : List Logged) (bytes : List ℕ) → IsJournal records bytes → IsJournal others bytes → records ≡ others

-- acts for which the same is kept
act_itself : (act : Act) → IsSameAct act act
act_itself (Published venue) = refl
act_itself (Closed it) = refl
act_itself (Reopened it) = refl

act_both : (act one other : Act) → one ≡ act → other ≡ act → IsSameAct one other
act_both act one other first second =
    subst (λ (a : Act). IsSameAct one a) (first ∙ sym second) (act_itself one)

same_published : OneVenue → (settings : Settings) (slots : List Slot) (one other : Act) → IsAct (published slots)
    → StandsForAct settings (published slots) one → StandsForAct settings (published slots) other → IsSameAct one other
same_published law settings slots (Published one) (Published other) are first second =
    law (record { slots = slots }) settings (arc_value one) (arc_value other) are.seventeen first second
same_published law settings slots (Published one) (Closed other) are first second = absurd second
same_published law settings slots (Published one) (Reopened other) are first second = absurd second
same_published law settings slots (Closed one) other are first second = absurd first
same_published law settings slots (Reopened one) other are first second = absurd first

same_act : OneVenue → (settings : Settings) (kept : LoggedAct) (one other : Act) → IsAct kept
    → StandsForAct settings kept one → StandsForAct settings kept other → IsSameAct one other
same_act law settings (published slots) one other is first second = same_published law settings slots one other is first second
same_act law settings (closed feature profiles) one other is first second =
    let set : ProfileSet = record { 0 = profiles } in
    act_both (Closed (record { feature = feature; profiles = set })) one other (closed_act settings one feature set first) (closed_act settings other feature set second)
same_act law settings (reopened feature profiles) one other is first second =
    let set : ProfileSet = record { 0 = profiles } in
    act_both (Reopened (record { feature = feature; profiles = set })) one other (reopened_act settings one feature set first) (reopened_act settings other feature set second)

-- entries for which the same record stands, and lists of them
same_entry : OneVenue → (settings : Settings) (kept : Logged) (one other : Entry) → IsRecord kept → StandsFor settings kept one → StandsFor settings kept other
    → IsSameEntry one other
same_entry law settings kept one other is first second = record {
  worker = sym first.worker ∙ second.worker;
  act = same_act law settings kept.act one.act other.act is.loggable.act first.act second.act;
}

same_entries : OneVenue → (settings : Settings) (records : List Logged) (ones others : List Entry) → All IsRecord records
    → StandFor settings records ones → StandFor settings records others → AreSameEntries ones others
same_entries law settings [] [] [] all first second = tt
same_entries law settings [] [] (o ∷ os) all first second = absurd second
same_entries law settings [] (e ∷ es) others all first second = absurd first
same_entries law settings (k ∷ ks) [] others all first second = absurd first
same_entries law settings (k ∷ ks) (e ∷ es) [] all first second = absurd second
same_entries law settings (k ∷ ks) (e ∷ es) (o ∷ os) all first second = (
  same_entry law settings k e o (All-head IsRecord k ks all) first.0 second.0,
  same_entries law settings ks es os (All-tail IsRecord k ks all) first.1 second.1,
)

-- what a journal has are records, also those in front of its last
all_records : (records : List Logged) (bytes : List ℕ) → IsJournal records bytes → All IsRecord records
all_records records bytes (inl fresh) = All-same IsRecord records [] fresh.none (All-nil IsRecord)
all_records records bytes (inr whole) = whole.all

all_front : (records : List Logged) (last : Logged) → All IsRecord (records ++ last ∷ []) → All IsRecord records
all_front [] last all = All-nil IsRecord
all_front (k ∷ ks) last all =
    All-cons IsRecord k ks (All-head IsRecord k (ks ++ last ∷ []) all) (all_front ks last (All-tail IsRecord k (ks ++ last ∷ []) all))

-- entries for which records and one more stand are such for the records, and one more
record EndWith (settings : Settings) (records : List Logged) (kept : Logged) (entries : List Entry) : Type 0 where
  pub front : List Entry
  pub last : Entry
  pub stand : StandFor settings records front
  pub stands : StandsFor settings kept last
  pub whole : entries ≡ front ++ last ∷ []

end_with : (settings : Settings) (records : List Logged) (kept : Logged) (entries : List Entry) → StandFor settings (records ++ kept ∷ []) entries
    → EndWith settings records kept entries
end_with settings [] kept [] stand = absurd stand
end_with settings [] kept (e ∷ []) stand = record { front = []; last = e; stand = tt; stands = stand.0; whole = refl }
end_with settings [] kept (e ∷ (o ∷ os)) stand = absurd stand.1
end_with settings (k ∷ ks) kept [] stand = absurd stand
end_with settings (k ∷ ks) kept (e ∷ es) stand =
    let rest = end_with settings ks kept es stand.1 in
    record {
      front = e ∷ rest.front;
      last = rest.last;
      stand = (stand.0, rest.stand);
      stands = rest.stands;
      whole = ap (λ (l : List Entry). e ∷ l) rest.whole;
    }

-- what is read back of a journal of the records, or of these and one more
stand_again : OneJournal → (settings : Settings) (records : List Logged) (image : List ℕ) (count : ℕ) (restored : List Entry) → IsJournal records image
    → IsReplayed settings count restored image → StandFor settings records restored
stand_again law settings records image count restored is replayed =
    subst (λ (l : List Logged). StandFor settings l restored) (law (records_in count image) records image replayed.journal is) replayed.stand

pub restart_kept : OneJournal → OneVenue → (settings : Settings) (entries : List Entry) (records failed : List Logged) (image : List ℕ) (count : ℕ) (restored : List Entry)
    → StandFor settings records entries → IsJournalWith records failed image → IsReplayed settings count restored image → IsRestartOf settings entries failed restored
restart_kept journal venue settings entries records failed image count restored stand (inl is) replayed = record {
  front = restored;
  same = same_entries venue settings records entries restored (all_records records image is) stand
      (stand_again journal settings records image count restored is replayed);
  whole = inl refl;
}
restart_kept journal venue settings entries records failed image count restored stand (inr (last, among, is)) replayed =
    let again = end_with settings records last restored (stand_again journal settings (records ++ last ∷ []) image count restored is replayed) in
    record {
      front = again.front;
      same = same_entries venue settings records entries again.front (all_front records last (all_records (records ++ last ∷ []) image is)) stand again.stand;
      whole = inr (last, again.last, among, again.stands, again.whole);
    }

-- whatever these bytes are read back to is a restart
abbrev pub GivesBack : Settings → List Entry → List Logged → List ℕ → Type 0
GivesBack settings entries loose image = (count : ℕ) (restored : List Entry) → IsReplayed settings count restored image → IsRestartOf settings entries loose restored

pub restart_now : OneJournal → OneVenue → (settings : Settings) (entries : List Entry) (records loose : List Logged) (moments : List Moment)
    → StandFor settings records entries → Now (λ m. (image : List ℕ) → Leaves m image → IsJournalWith records loose image) moments
    → Now (λ m. (image : List ℕ) (count : ℕ) (restored : List Entry) → Leaves m image → IsReplayed settings count restored image
    → IsRestartOf settings entries loose restored) moments
restart_now journal venue settings entries records loose moments stand now =
    now_maps (λ m. (image : List ℕ) → Leaves m image → IsJournalWith records loose image)
    (λ m. (image : List ℕ) (count : ℕ) (restored : List Entry) → Leaves m image → IsReplayed settings count restored image
    → IsRestartOf settings entries loose restored) moments
    (λ m with image count restored left. restart_kept journal venue settings entries records loose image count restored stand (with image left)) now

pub restart_within : OneJournal → OneVenue → (settings : Settings) (entries : List Entry) (records loose : List Logged) (old new : List Moment)
    → StandFor settings records entries → LeavesOnly (IsJournalWith records loose) old new → LeavesOnly (GivesBack settings entries loose) old new
restart_within journal venue settings entries records loose old new stand only =
    only_maps (IsJournalWith records loose) (GivesBack settings entries loose) old new
    (λ image with count restored. restart_kept journal venue settings entries records loose image count restored stand with) only

-- the same act leads to the same version
after_same : (v : Version) (one other : Act) → IsSameAct one other → after v one ≡ after v other
after_same v (Published one) (Published other) same =
    ap (λ (venue : Venue). record v { number = v.number + 1; features = venue.features; closed = still_closed v venue.features }) same
after_same v (Published one) (Closed other) same = absurd same
after_same v (Published one) (Reopened other) same = absurd same
after_same v (Closed one) (Published other) same = absurd same
after_same v (Closed one) (Closed other) same = ap (λ (it : Closing). after v (Closed it)) same
after_same v (Closed one) (Reopened other) same = absurd same
after_same v (Reopened one) (Published other) same = absurd same
after_same v (Reopened one) (Closed other) same = absurd same
after_same v (Reopened one) (Reopened other) same = ap (λ (it : Closing). after v (Reopened it)) same

all_same : (v : Version) (ones others : List Entry) → AreSameEntries ones others → after_all v ones ≡ after_all v others
all_same v [] [] same = refl
all_same v [] (o ∷ os) same = absurd same
all_same v (e ∷ es) [] same = absurd same
all_same v (e ∷ es) (o ∷ os) same =
    all_same (after v e.act) es os same.1 ∙ ap (λ (w : Version). after_all w os) (after_same v e.act o.act same.0.act)

from_same : (one other : Act) (es os : List Entry) → IsSameAct one other → AreSameEntries es os → replay_from one es ≡ replay_from other os
from_same (Published one) (Published other) es os same rest =
    ap Some (all_same (opening_of (arc_value one)) es os rest ∙ ap (λ (venue : Venue). after_all (opening_of venue) os) same)
from_same (Published one) (Closed other) es os same rest = absurd same
from_same (Published one) (Reopened other) es os same rest = absurd same
from_same (Closed one) (Published other) es os same rest = absurd same
from_same (Closed one) (Closed other) es os same rest = refl
from_same (Closed one) (Reopened other) es os same rest = absurd same
from_same (Reopened one) (Published other) es os same rest = absurd same
from_same (Reopened one) (Closed other) es os same rest = absurd same
from_same (Reopened one) (Reopened other) es os same rest = refl

replay_same : (ones others : List Entry) → AreSameEntries ones others → replay ones ≡ replay others
replay_same [] [] same = refl
replay_same [] (o ∷ os) same = absurd same
replay_same (e ∷ es) [] same = absurd same
replay_same (e ∷ es) (o ∷ os) same = from_same e.act o.act es os same.0.act same.1

pub same_version : (entries others : List Entry) (v w : Version) → AreSameEntries entries others → Replays entries v → Replays others w → v ≡ w
same_version entries others v w same first second = same_Some v w (sym first.leads ∙ replay_same entries others same ∙ second.leads)

-- the settings of a legal history's venues are one, since it opens with a publication
one_settings : FirstPublished → (entries : List Entry) (one other : Settings) → IsLegal entries → HaveSettings one entries → HaveSettings other entries → one ≡ other
one_settings first [] one other legal has had = absurd (∥∥₁_elim legal ⊥_prop (λ (rules : KeepsTheRules []). rules))
one_settings first (e ∷ es) one other legal has had =
    let is = first e es legal in
    let there = Contains-first e es in
    sym (has e is.0 there is.1) ∙ had e is.0 there is.1

-- what was read back may be opened: where the disk tells, its records stand for the entries
pub restored_opens : FirstPublished → (settings : Settings) (old new : List Moment) (count : ℕ) (resumed : Resumed) → IsRestored settings old new count (Some resumed)
    → AreRecordsOf (told_records count new) (entries_of resumed.held.stamp)
restored_opens first settings old [] count resumed is = tt
restored_opens first settings old (m ∷ past) count resumed is =
    let entries = entries_of resumed.held.stamp in
    let now = forward (λ bytes. IsReplayed settings count entries bytes) old (m ∷ past) is.only is.replayed in
    λ other all. subst (λ (s : Settings). StandFor s (records_in count m.reads) entries) (one_settings first entries settings other is.under.legal is.under.all_settings all) now.stand
