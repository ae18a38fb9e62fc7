-- Histories that go on while files are judged, and what their seat tells then.
use Rattle.std.proofs.Common.{◌≡◌, ◌∙◌, ℕ, ◌≤◌, List, [], ◌∷◌, ◌++◌, Option, Some, refl, sym, subst, arith, Global}
use Rattle.std.proofs.lemmas.Option.{same_Some}
use Rattle.std.specs.Prelude.{Result, Ok, Err, IfErr}
use Rattle.std.specs.Arc.{arc_value}
use Rattle.std.specs.declared.sync.Arc.{Arc}
use mathlib.Core.List.{IsPrefix}
use Rattle.venue_types.specs.declared.files.Files.{Files}
use Rattle.venue_types.specs.declared.query.Change.{Change}
use Rattle.venue_types.specs.declared.query.Change.TheVariants.{Publish}
use Rattle.venue_types.specs.declared.reply.Reply.{Reply}
use Rattle.venue_types.specs.declared.reply.Reply.TheVariants as reply
use Rattle.venue_types.specs.declared.settings.Settings.{Settings}
use Rattle.venue_ports.specs.Causes.{Rose}
use Rattle.venue_hall.specs.Act.{Act}
use Rattle.venue_hall.specs.Act.TheVariants as act
use Rattle.venue_hall.specs.Built.{IsVenueOf}
use Rattle.venue_hall.specs.Changes.{AreRead, Changes}
use Rattle.venue_hall.specs.Closed.{Version}
use Rattle.venue_hall.specs.Entry.{Entry}
use Rattle.venue_hall.specs.Facts.{Facts, IsChanged}
use Rattle.venue_hall.specs.Histories.{IsPublished, Replays, replay_from}
use Rattle.venue_hall.specs.Replies.{told, IsOutsideFault}
use Rattle.venue_hall.specs.Shelves.{Shelf}
use Rattle.venue_hall.specs.Venues.{SeenVenue as Venue}
use Rattle.board_copies.proofs.Entering.{stays}
use Rattle.board_copies.proofs.Fronts.{prefix_trans}
use Rattle.board_copies.specs.Making.{IsUnmade, IsUnread, Leaves}
use Rattle.shared_hall.specs.Judging.{AreSettingsOf, HasLooked, IsJudgedAt}

-- the settings of a version are those of the venue that opened its history
abbrev pub OpeningSettings : Type 0
OpeningSettings = (e : Entry) (es : List Entry) (venue : Venue) (v : Version) → Replays (e ∷ es) v → IsPublished venue e.act → v.settings ≡ venue.settings

-- what leads to a version begins with a publication
opening_venue : (a : Act) (es : List Entry) (v : Version) → replay_from a es ≡ Some v → (venue : Venue) × IsPublished venue a
opening_venue (act.Published venue) es v leads = (arc_value venue, refl)
opening_venue (act.Closed it) es v leads = absurd (cc leads)
opening_venue (act.Reopened it) es v leads = absurd (cc leads)

-- a history that goes on keeps its settings
same_settings : OpeningSettings → (h k : List Entry) (v w : Version) → IsPrefix h k → Replays h v → Replays k w → w.settings ≡ v.settings
same_settings law [] k v w begins stands later = absurd (cc stands.leads)
same_settings law (e ∷ es) k v w begins stands later =
    let first = opening_venue e.act es v stands.leads in
    let longer : Replays (e ∷ (es ++ begins.0)) w = subst (λ (l : List Entry). Replays l w) (sym begins.1) later in
    law e (es ++ begins.0) first.0 w longer first.1 ∙ sym (law e es first.0 v stands first.1)

-- so what was judged is judged at every later history
pub judged_later : OpeningSettings → (h k : List Entry) (v : Version) (files : Files) (venue : Arc Venue Global) → IsPrefix h k → Replays h v → IsJudgedAt h files venue
    → IsJudgedAt k files venue
judged_later law h k v files venue begins stands judged w later =
    subst (λ (s : Settings). IsVenueOf files s (arc_value venue)) (sym (same_settings law h k v w begins stands later)) (judged v stands)

-- what was judged by the settings of a history is judged at it
pub judged_at : (h : List Entry) (settings : Settings) (files : Files) (venue : Arc Venue Global) → AreSettingsOf h settings → IsVenueOf files settings (arc_value venue) → IsJudgedAt h files venue
judged_at h settings files venue are of v stands = subst (λ (s : Settings). IsVenueOf files s (arc_value venue)) (sym (are v stands)) of

-- a history leads to one version
pub one_version : (h : List Entry) (v w : Version) → Replays h v → Replays h w → v ≡ w
one_version h v w one other = same_Some v w (sym one.leads ∙ other.leads)

-- what follows from an error follows from each result that may be one
pub err_maps : {X E : Type 0} (P Q : E → Type 0) (found : Result X E) → ((e : E) → P e → Q e) → IfErr found P → IfErr found Q
err_maps P Q (Ok x) maps given = tt
err_maps P Q (Err e) maps given = maps e given

-- a folder that wasn't read leaves the history
unread_leaves : (shelf : Option Shelf) (v : Version) (folder : List ℕ) (before now : ℕ) (r : Reply) → IsUnread before now r → Leaves shelf v (Publish folder) r
unread_leaves shelf v folder before now (reply.FolderFault earlier later) is = rw (is.0, is.1) is.3
unread_leaves shelf v folder before now reply.OutOfMemory is = tt
unread_leaves shelf v folder before now _ is = absurd is

pub unread_changes : (shelf : Option Shelf) (v : Version) (worker : ℕ) (folder : List ℕ) (h : List Entry) (before now : ℕ) (r : Reply) → Replays h v → IsUnread before now r
    → Changes shelf worker (Publish folder) h r h
unread_changes shelf v worker folder h before now r stands is = stays shelf v worker (Publish folder) h h r stands (unread_leaves shelf v folder before now r is) refl

pub unread_untold : (before now : ℕ) (r : Reply) → IsUnread before now r → told r ≡ 0
unread_untold before now (reply.FolderFault earlier later) is = refl
unread_untold before now reply.OutOfMemory is = refl
unread_untold before now _ is = absurd is

-- files that make no venue leave it too
unmade_leaves : (shelf : Option Shelf) (v : Version) (folder : List ℕ) (settings : Settings) (files : Files) (r : Reply) → v.settings ≡ settings → AreRead shelf folder files
    → IsUnmade files settings r → Leaves shelf v (Publish folder) r
unmade_leaves shelf v folder settings files (reply.Rejected report) same read is = record { files = files; read = read; breaks = rw same is }
unmade_leaves shelf v folder settings files reply.OutOfMemory same read is = tt
unmade_leaves shelf v folder settings files _ same read is = absurd is

pub unmade_changes : (shelf : Option Shelf) (v : Version) (worker : ℕ) (folder : List ℕ) (h : List Entry) (settings : Settings) (files : Files) (r : Reply) → Replays h v
    → AreSettingsOf h settings → AreRead shelf folder files → IsUnmade files settings r → Changes shelf worker (Publish folder) h r h
unmade_changes shelf v worker folder h settings files r stands are read is =
    stays shelf v worker (Publish folder) h h r stands (unmade_leaves shelf v folder settings files r (are v stands) read is) refl

pub unmade_untold : (settings : Settings) (files : Files) (r : Reply) → IsUnmade files settings r → told r ≡ 0
unmade_untold settings files (reply.Rejected report) is = refl
unmade_untold settings files reply.OutOfMemory is = refl
unmade_untold settings files _ is = absurd is

-- and they are no fault
pub unmade_inside : (settings : Settings) (files : Files) (r : Reply) → IsUnmade files settings r → IsOutsideFault r → ⊥
unmade_inside settings files (reply.Rejected report) is outside = outside
unmade_inside settings files reply.OutOfMemory is outside = outside
unmade_inside settings files _ is outside = absurd is

-- a change at a later look is one since the first
pub changed_since : (old mid new : Facts) (asked : Change) (r : Reply) → HasLooked old mid → IsChanged mid new asked r → IsChanged old new asked r
changed_since old mid new asked r looked changed =
    let at = subst (λ (n : ℕ). Changes mid.files n asked changed.0 r new.seen) looked.same.worker changed.2 in
    (changed.0, prefix_trans old.seen mid.seen changed.0 looked.grows changed.1, subst (λ (s : Option Shelf). Changes s old.worker asked changed.0 r new.seen) looked.same.files at)

-- the same of two looks
pub looked_twice : (old mid new : Facts) → HasLooked old mid → HasLooked mid new → HasLooked old new
looked_twice old mid new first second = record {
  grows = prefix_trans old.seen mid.seen new.seen first.grows second.grows;
  legal = second.legal;
  faults = omega (arith, first.faults, second.faults);
  looks = omega (arith, first.looks, second.looks);
  same = record {
    worker = second.same.worker ∙ first.same.worker;
    parts = second.same.parts ∙ first.same.parts;
    files = second.same.files ∙ first.same.files;
  };
}

-- a count that rose later rose since the first look
pub rose_since : (old mid new : ℕ) → old ≤ mid → Rose mid new → Rose old new
rose_since old mid new first second = omega (arith, first, second)
