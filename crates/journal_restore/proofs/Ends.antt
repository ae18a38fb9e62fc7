-- Where a journal goes on.
use Rattle.std.proofs.Common.{◌≡◌, ℕ, ◌*◌, ◌^◌, ◌≤◌, List, [], ◌∷◌, Option, Some, None, length, refl, sym, ◌∙◌, ap, subst, inl, inr, false, true, zero-le}
use Rattle.std.specs.Prelude.{Contains}
use Rattle.venue_types.proofs.Items.{Contains-nil}
use Rattle.venue_types.specs.declared.settings.Settings.{Settings}
use Rattle.venue_ports.specs.Moments.{Moment, Leaves, Now}
use Rattle.venue_hall.specs.Entry.{Entry}
use Rattle.venue_hall.specs.Closed.{Version}
use Rattle.venue_hall.specs.Histories.{IsPublished, Replays}
use Rattle.venue_hall.specs.Records.{Logged}
use Rattle.venue_hall.specs.Standing.{StandFor}
use Rattle.venue_hall.specs.Venues.{SeenVenue as Venue}
use Rattle.board_copies.specs.declared.resuming.Resumed.{Resumed}
use Rattle.board_copies.specs.declared.resuming.Resuming.{Resuming}
use Rattle.board_copies.specs.Stamps.{entries_of}
use Rattle.change_journal.specs.Places.{AreRecordsTo}
use Rattle.change_journal.specs.Reading.{records_in}
use Rattle.change_journal.specs.Readers.{IsSettled}
use Rattle.change_journal.specs.States.{IsNew, IsReady, IsShut}
use Rattle.change_journal.specs.Texts.{IsClosed}
use Rattle.change_journal.specs.Told.{recorded}
use Rattle.journal_restore.specs.declared.ending.End.{End}
use Rattle.journal_restore.specs.declared.going_on.SoFar.{SoFar}
use Rattle.journal_restore.specs.Ending.{IsEnd, IsFinished, end_count}
use Rattle.journal_restore.specs.Going.{IsAt, IsReadWhole, HasTold}
use Rattle.journal_restore.specs.Judging.{HasSettings, history_entries}
use Rattle.journal_restore.specs.Restores.{IsReplayed, IsRestored, IsUnder, resumed_entries}
use Rattle.journal_restore.proofs.OnlyRead.{backward, now_maps, settled_image, told_then}
use Rattle.venue_hall.proofs.Standing.{stand_count}
use Rattle.journal_restore.proofs.Records.{ClosedThere}

abbrev pub AllSettings : Type 0
AllSettings = (h : List Entry) (v : Version) (e : Entry) (venue : Venue) → Replays h v → Contains h e → IsPublished venue e.act → venue.settings ≡ v.settings

abbrev pub ReadBack : Type 0
ReadBack = (place : ℕ) (records : List Logged) (bytes : List ℕ) → AreRecordsTo place records bytes → records_in (length records) bytes ≡ records

-- the entries are those of the history that was read
pub entries_finished : (history : Option Resuming) (resumed : Option Resumed) → IsFinished history resumed → resumed_entries resumed ≡ history_entries history
entries_finished None None is = refl
entries_finished None (Some resumed) is = absurd is
entries_finished (Some resuming) None is = absurd is
entries_finished (Some resuming) (Some resumed) is = is.0

-- and under its settings
pub under_finished : AllSettings → (settings : Settings) (history : Option Resuming) (resumed : Option Resumed) → HasSettings settings history
    → IsFinished history resumed → IsUnder settings (resumed_entries resumed) resumed
under_finished law settings None None has is = record { legal = tt; settings_are = tt; all_settings = λ e venue contains published. absurd (Contains-nil e contains) }
under_finished law settings None (Some resumed) has is = absurd is
under_finished law settings (Some resuming) None has is = absurd is
under_finished law settings (Some resuming) (Some resumed) has is =
    let same : resumed.held.board.settings ≡ settings = is.1 ∙ has in
    let stands = resumed.held.stands in
    record {
      legal = stands.legal;
      settings_are = same;
      all_settings = λ e venue contains published. law (entries_of resumed.held.stamp) resumed.held.board e venue stands contains published ∙ same;
    }

-- the records in front of a closed gate are a journal's
replayed_whole : ClosedThere → ReadBack → (settings : Settings) (so_far : SoFar) (entries : List Entry) (bytes : List ℕ) → IsReadWhole settings so_far bytes
    → entries ≡ history_entries so_far.history → IsReplayed settings (length entries) entries bytes
replayed_whole closed back settings so_far entries bytes whole same =
    let read = whole.read in
    let count : length entries ≡ length read.records = ap length same ∙ sym (stand_count settings read.records (history_entries so_far.history) read.stand) in
    let records : records_in (length entries) bytes ≡ read.records = ap (λ (n : ℕ). records_in n bytes) count ∙ back so_far.place read.records bytes read.begun.to in
    let is : IsClosed read.records bytes = closed so_far.place read.records bytes read.begun.to whole.closed in
    let stand : StandFor settings read.records entries = subst (StandFor settings read.records) (sym same) read.stand in
    record {
      journal = inr (subst (λ (l : List Logged). IsClosed l bytes) (sym records) is);
      stand = subst (λ (l : List Logged). StandFor settings l entries) (sym records) stand;
    }

shut_whole : ClosedThere → ReadBack → (settings : Settings) (so_far : SoFar) (entries : List Entry) (m : Moment) → IsSettled m → IsReadWhole settings so_far m.reads
    → entries ≡ history_entries so_far.history → IsShut (records_in (length entries) m.reads) so_far.place m
shut_whole closed back settings so_far entries m settled whole same =
    let read = whole.read in
    let count : length entries ≡ length read.records = ap length same ∙ sym (stand_count settings read.records (history_entries so_far.history) read.stand) in
    let records : records_in (length entries) m.reads ≡ read.records = ap (λ (n : ℕ). records_in n m.reads) count ∙ back so_far.place read.records m.reads read.begun.to in
    let is : IsClosed read.records m.reads = closed so_far.place read.records m.reads read.begun.to whole.closed in
    let shut : IsShut read.records so_far.place m = record {
      at_gate = read.begun.to.place_is;
      reads = is;
      images = λ image left. subst (λ (l : List ℕ). IsClosed read.records l) (sym (settled_image m settled image left)) is;
    } in
    subst (λ (l : List Logged). IsShut l so_far.place m) (sym records) shut

ready_whole : ClosedThere → ReadBack → (settings : Settings) (so_far : SoFar) (entries : List Entry) (moments : List Moment) → Now IsSettled moments
    → Now (λ m. IsReadWhole settings so_far m.reads) moments → entries ≡ history_entries so_far.history
    → Now (IsReady (recorded (length entries) moments) so_far.place true) moments
ready_whole closed back settings so_far entries [] settled whole same = tt
ready_whole closed back settings so_far entries (m ∷ past) settled whole same = shut_whole closed back settings so_far entries m settled whole same

-- the end of two bytes or more
pub ends_whole : ClosedThere → ReadBack → AllSettings → (settings : Settings) (count : ℕ) (so_far : SoFar) (resumed : Option Resumed) (moments : List Moment)
    → IsAt settings count so_far → Now IsSettled moments → Now (λ m. IsReadWhole settings so_far m.reads) moments → IsFinished so_far.history resumed
    → IsEnd settings moments (record { gate = so_far.place; is_shut = true; resumed = resumed })
ends_whole closed back law settings count so_far resumed moments at settled whole is =
    let same = entries_finished so_far.history resumed is in
    let counts : so_far.count ≡ length (resumed_entries resumed) = at.counted ∙ ap length (sym same) in
    record {
      under = under_finished law settings so_far.history resumed at.settings_are is;
      replayed = now_maps (λ m. IsReadWhole settings so_far m.reads) (λ m. IsReplayed settings (length (resumed_entries resumed)) (resumed_entries resumed) m.reads) moments
          (λ m is. replayed_whole closed back settings so_far (resumed_entries resumed) m.reads is same) whole;
      ready = ready_whole closed back settings so_far (resumed_entries resumed) moments settled whole same;
      room = subst (λ (n : ℕ). so_far.place ≤ n * 2 ^ 30) counts at.room;
    }

-- the end of at most one byte
new_few : (m : Moment) → IsSettled m → length m.reads ≤ 1 → IsNew [] 0 m
new_few m settled few = record {
  none = refl;
  at_gate = refl;
  reads = few;
  images = λ image left. subst (λ (l : List ℕ). length l ≤ 1) (sym (settled_image m settled image left)) few;
}

ready_few : (moments : List Moment) → Now IsSettled moments → Now (λ m. length m.reads ≤ 1) moments → Now (IsReady (recorded 0 moments) 0 false) moments
ready_few [] settled few = tt
ready_few (m ∷ past) settled few = inl (new_few m settled few)

pub ends_few : (settings : Settings) (moments : List Moment) → Now IsSettled moments → Now (λ m. length m.reads ≤ 1) moments
    → IsEnd settings moments (record { gate = 0; is_shut = false; resumed = None })
ends_few settings moments settled few = record {
  under = record { legal = tt; settings_are = tt; all_settings = λ e venue contains published. absurd (Contains-nil e contains) };
  replayed = now_maps (λ m. length m.reads ≤ 1) (λ m. IsReplayed settings 0 [] m.reads) moments
      (λ m short. record { journal = inl (record { none = refl; short = short }); stand = tt }) few;
  ready = ready_few moments settled few;
  room = zero-le;
}

-- what was read back, from the call on
settled_now : (moments : List Moment) → Now IsSettled moments → Now (λ m. (image : List ℕ) → Leaves m image → image ≡ m.reads) moments
settled_now moments settled = now_maps IsSettled (λ m. (image : List ℕ) → Leaves m image → image ≡ m.reads) moments settled_image settled

pub restores : (settings : Settings) (old mid new : List Moment) (end : End) → HasTold old mid → HasTold mid new → IsEnd settings new end
    → IsRestored settings old new (end_count end) end.resumed
restores settings old mid new end one two is =
    let all = told_then old mid new one two in
    let P : List ℕ → Type 0 = λ bytes. IsReplayed settings (end_count end) (resumed_entries end.resumed) bytes in
    record {
      counted = refl;
      under = is.under;
      replayed = backward P old new all.only all.told is.replayed;
      settled = settled_now new all.settled;
      only = all.only;
      told = all.told;
    }
