-- To one change at one history belongs one kind of reply, where the shelf is told.
use Rattle.std.proofs.Common.{◌≡◌, ◌≢◌, ◌∙◌, ℕ, ◌<◌, List, length, refl, sym, subst, arith, inl, inr, Option, Some, None, Bool}
use Rattle.std.specs.Prelude.{Contains, if◌then◌else◌, IsTrue}
use Rattle.std.specs.Arc.{arc_value}
use Rattle.std.proofs.lemmas.Option.{same_Some}
use Rattle.venue_types.specs.declared.feature_id.FeatureId.{FeatureId}
use Rattle.venue_types.specs.declared.files.Files.{Files}
use Rattle.venue_types.specs.declared.finding.Report.{Report}
use Rattle.venue_types.specs.declared.query.Change.{Change}
use Rattle.venue_types.specs.declared.query.Change.TheVariants as change
use Rattle.venue_types.specs.declared.query.Closure.{Closure}
use Rattle.venue_types.specs.declared.profile_set.ProfileSet.{ProfileSet}
use Rattle.venue_types.specs.declared.reply.ClosureDone.{ClosureDone}
use Rattle.venue_types.specs.declared.reply.Reply.{Reply}
use Rattle.venue_types.specs.declared.reply.Reply.TheVariants as reply
use Rattle.venue_types.specs.declared.settings.Settings.{Settings}
use Rattle.venue_build.specs.Nodes.{closables}
use Rattle.venue_build.specs.Venues.{SeenVenue as Venue}
use Rattle.venue_build.specs.Built.{IsRejected, IsVenueOf}
use Rattle.venue_folder.specs.Shelves.{Shelf}
use Rattle.venue_history.specs.declared.entry.Act.{Act}
use Rattle.venue_history.specs.declared.entry.Act.TheVariants as act
use Rattle.venue_history.specs.declared.entry.Entry.{Entry}
use Rattle.venue_history.specs.Closed.{Version}
use Rattle.venue_history.specs.Histories.{Replays}
use Rattle.venue_history.specs.Replies.{ReplyKind, kind_of, told, IsOutsideFault}
use Rattle.venue_history.specs.Replies as kind
use Rattle.venue_history.specs.Changes.{Makes, Breaks, stands_so, IsClosureFor, StandsOtherwise, IsActOf, TellsOf, Refuses, Changes}
use Rattle.venue_history.specs.Named.{named_set}
use Rattle.venue_history.proofs.Changing.{closure_way}

-- what the kind of a reply to a closure says, and whether it tells an accepted change
data ClosureCause (v : Version) (asked : Closure) : ReplyKind → ℕ → Type 0 where
  unnamed : named_set v.settings asked.profiles ≡ None → ClosureCause v asked kind.no_profile 0
  missing : (set : ProfileSet) → named_set v.settings asked.profiles ≡ Some set → ¬ Contains (closables v.features) asked.feature → ClosureCause v asked kind.no_feature 0
  same : (set : ProfileSet) → IsClosureFor v asked set → IsTrue (stands_so v asked set) → ClosureCause v asked kind.closure_done 0
  full : StandsOtherwise v asked → v.number ≡ v.settings.last_version → ClosureCause v asked kind.history_full 0
  done : StandsOtherwise v asked → v.number < v.settings.last_version → ClosureCause v asked kind.closure_done 1

-- what that of a reply to a publication says
data PublishCause (shelf : Option Shelf) (v : Version) (folder : List ℕ) : ReplyKind → ℕ → Type 0 where
  rejected : (report : Report) → Breaks shelf v folder report → PublishCause shelf v folder kind.rejected 0
  full : (venue : Venue) → Makes shelf v folder venue → v.number ≡ v.settings.last_version → PublishCause shelf v folder kind.history_full 0
  done : (venue : Venue) → Makes shelf v folder venue → v.number < v.settings.last_version → PublishCause shelf v folder kind.published 1

refused_closure : (shelf : Option Shelf) (v : Version) (asked : Closure) (r : Reply) → ¬ IsOutsideFault r
    → Refuses shelf v (change.Closure asked) r → ClosureCause v asked (kind_of r) (told r)
refused_closure shelf v asked reply.NoProfile inside is = unnamed is
refused_closure shelf v asked reply.NoFeature inside is = missing is.0 is.1 is.2
refused_closure shelf v asked (reply.ClosureDone it) inside is =
    subst (λ (b : Bool). ClosureCause v asked kind.closure_done (if b then 1 else 0)) (sym is.3.changed_is) (same is.0 is.1 is.2)
refused_closure shelf v asked (reply.HistoryFull number) inside is = full is.0 is.1.1
refused_closure shelf v asked (reply.JournalFault before after) inside is = absurd (inside tt)
refused_closure shelf v asked _ inside is = absurd is.1

refused_publish : (shelf : Option Shelf) (v : Version) (folder : List ℕ) (r : Reply) → ¬ IsOutsideFault r
    → Refuses shelf v (change.Publish folder) r → PublishCause shelf v folder (kind_of r) (told r)
refused_publish shelf v folder (reply.FolderFault before after) inside is = absurd (inside tt)
refused_publish shelf v folder (reply.Rejected report) inside is = rejected report is
refused_publish shelf v folder (reply.HistoryFull number) inside is = full is.0.0 is.0.1 is.1.1
refused_publish shelf v folder (reply.JournalFault before after) inside is = absurd (inside tt)
refused_publish shelf v folder _ inside is = absurd is.1

stands_otherwise : (shelf : Option Shelf) (v : Version) (asked : Closure) (a : Act) → IsActOf shelf v (change.Closure asked) a → StandsOtherwise v asked
stands_otherwise shelf v asked (act.Closed it) is = (it.profiles, is.1.closure_for, is.1.stood)
stands_otherwise shelf v asked (act.Reopened it) is = (it.profiles, is.1.closure_for, is.1.stood)
stands_otherwise shelf v asked _ is = absurd is

not_published : (shelf : Option Shelf) (v : Version) (asked : Closure) (a : Act) (number : ℕ) (dropped : List FeatureId)
    → IsActOf shelf v (change.Closure asked) a → TellsOf v (change.Closure asked) a (reply.Published number dropped) → ⊥
not_published shelf v asked (act.Closed it) number dropped is tells = tells
not_published shelf v asked (act.Reopened it) number dropped is tells = tells
not_published shelf v asked (act.Published venue) number dropped is tells = is

made_of : (shelf : Option Shelf) (v : Version) (folder : List ℕ) (a : Act) → IsActOf shelf v (change.Publish folder) a → (venue : Venue) × Makes shelf v folder venue
made_of shelf v folder (act.Published venue) is = (arc_value venue, is)
made_of shelf v folder _ is = absurd is

not_closed : (shelf : Option Shelf) (v : Version) (folder : List ℕ) (a : Act) (it : ClosureDone)
    → IsActOf shelf v (change.Publish folder) a → TellsOf v (change.Publish folder) a (reply.ClosureDone it) → ⊥
not_closed shelf v folder (act.Published venue) it is tells = tells
not_closed shelf v folder (act.Closed closing) it is tells = is
not_closed shelf v folder (act.Reopened closing) it is tells = is

-- a reply to a closure at the version of the history, and its cause
record ClosureAt (asked : Closure) (h : List Entry) (r : Reply) : Type 0 where
  version : Version
  stands : Replays h version
  cause : ClosureCause version asked (kind_of r) (told r)

closure_at : (shelf : Option Shelf) (worker : ℕ) (asked : Closure) (h k : List Entry) (r : Reply) → r ≢ reply.OutOfMemory → ¬ IsOutsideFault r
    → Changes shelf worker (change.Closure asked) h r k → ClosureAt asked h r
closure_at shelf worker asked h k reply.OutOfMemory some inside is = absurd (some refl)
closure_at shelf worker asked h k (reply.ClosureDone it) some inside is = elim (closure_way shelf worker (change.Closure asked) h k it is) [
  | inl (e, made) ↦ record {
    version = made.version;
    stands = made.stands;
    cause = subst (λ (b : Bool). ClosureCause made.version asked kind.closure_done (if b then 1 else 0)) (sym e)
        (done (stands_otherwise shelf made.version asked made.entry.act made.of_change) made.may.room);
  }
  | inr (e, left) ↦ record { version = left.version; stands = left.stands; cause = refused_closure shelf left.version asked (reply.ClosureDone it) inside left.cause }
]
closure_at shelf worker asked h k (reply.Published number dropped) some inside is =
    absurd (not_published shelf is.version asked is.entry.act number dropped is.of_change is.tells)
closure_at shelf worker asked h k r some inside is = record { version = is.version; stands = is.stands; cause = refused_closure shelf is.version asked r inside is.cause }

-- a reply to a publication at the version of the history, and its cause
record PublishAt (shelf : Option Shelf) (folder : List ℕ) (h : List Entry) (r : Reply) : Type 0 where
  version : Version
  stands : Replays h version
  cause : PublishCause shelf version folder (kind_of r) (told r)

publish_at : (shelf : Option Shelf) (worker : ℕ) (folder : List ℕ) (h k : List Entry) (r : Reply) → r ≢ reply.OutOfMemory → ¬ IsOutsideFault r
    → Changes shelf worker (change.Publish folder) h r k → PublishAt shelf folder h r
publish_at shelf worker folder h k reply.OutOfMemory some inside is = absurd (some refl)
publish_at shelf worker folder h k (reply.ClosureDone it) some inside is = absurd (elim (closure_way shelf worker (change.Publish folder) h k it is) [
  | inl (e, made) ↦ not_closed shelf made.version folder made.entry.act it made.of_change made.tells
  | inr (e, left) ↦ left.cause.1
])
publish_at shelf worker folder h k (reply.Published number dropped) some inside is =
    let made = made_of shelf is.version folder is.entry.act is.of_change in
    record { version = is.version; stands = is.stands; cause = done made.0 made.1 is.may.room }
publish_at shelf worker folder h k r some inside is = record { version = is.version; stands = is.stands; cause = refused_publish shelf is.version folder r inside is.cause }

one_version : (h : List Entry) (u v : Version) → Replays h u → Replays h v → u ≡ v
one_version h u v r s = same_Some u v (sym r.leads ∙ s.leads)

-- the same kind, and both tell an accepted change or neither does
Same : ReplyKind → ReplyKind → ℕ → ℕ → Type 0
Same k l m n = (k ≡ l) × (m ≡ n)

-- a feature doesn't stand both as asked and otherwise
not_both_ways : (v : Version) (asked : Closure) (set : ProfileSet) → IsClosureFor v asked set → IsTrue (stands_so v asked set) → StandsOtherwise v asked → ⊥
not_both_ways v asked set one so other =
    other.2 (subst (λ (it : ProfileSet). IsTrue (stands_so v asked it)) (same_Some set other.0 (sym one.named ∙ other.1.named)) so)

one_closure : (v : Version) (asked : Closure) (k l : ReplyKind) (m n : ℕ) → ClosureCause v asked k m → ClosureCause v asked l n → Same k l m n
unfolding Same
one_closure v asked _ _ _ _ (unnamed n) (unnamed n') = (refl, refl)
one_closure v asked _ _ _ _ (unnamed n) (missing s' n' a') = absurd (cc (n, n'))
one_closure v asked _ _ _ _ (unnamed n) (same s' c' so') = absurd (cc (n, c'.named))
one_closure v asked _ _ _ _ (unnamed n) (full o' e') = absurd (cc (n, o'.1.named))
one_closure v asked _ _ _ _ (unnamed n) (done o' l') = absurd (cc (n, o'.1.named))
one_closure v asked _ _ _ _ (missing s n a) (unnamed n') = absurd (cc (n', n))
one_closure v asked _ _ _ _ (missing s n a) (missing s' n' a') = (refl, refl)
one_closure v asked _ _ _ _ (missing s n a) (same s' c' so') = absurd (a c'.closable)
one_closure v asked _ _ _ _ (missing s n a) (full o' e') = absurd (a o'.1.closable)
one_closure v asked _ _ _ _ (missing s n a) (done o' l') = absurd (a o'.1.closable)
one_closure v asked _ _ _ _ (same s c so) (unnamed n') = absurd (cc (n', c.named))
one_closure v asked _ _ _ _ (same s c so) (missing s' n' a') = absurd (a' c.closable)
one_closure v asked _ _ _ _ (same s c so) (same s' c' so') = (refl, refl)
one_closure v asked _ _ _ _ (same s c so) (full o' e') = absurd (not_both_ways v asked s c so o')
one_closure v asked _ _ _ _ (same s c so) (done o' l') = absurd (not_both_ways v asked s c so o')
one_closure v asked _ _ _ _ (full o e) (unnamed n') = absurd (cc (n', o.1.named))
one_closure v asked _ _ _ _ (full o e) (missing s' n' a') = absurd (a' o.1.closable)
one_closure v asked _ _ _ _ (full o e) (same s' c' so') = absurd (not_both_ways v asked s' c' so' o)
one_closure v asked _ _ _ _ (full o e) (full o' e') = (refl, refl)
one_closure v asked _ _ _ _ (full o e) (done o' l') = absurd (omega arith)
one_closure v asked _ _ _ _ (done o l) (unnamed n') = absurd (cc (n', o.1.named))
one_closure v asked _ _ _ _ (done o l) (missing s' n' a') = absurd (a' o.1.closable)
one_closure v asked _ _ _ _ (done o l) (same s' c' so') = absurd (not_both_ways v asked s' c' so' o)
one_closure v asked _ _ _ _ (done o l) (full o' e') = absurd (omega arith)
one_closure v asked _ _ _ _ (done o l) (done o' l') = (refl, refl)

-- files are rejected or make a venue, and not both
abbrev pub OneOutcome : Type 0
OneOutcome = (files : Files) (settings : Settings) (report : Report) (venue : Venue) → length files.slots ≡ 17 → IsRejected files settings report → IsVenueOf files settings venue → ⊥

not_both : OneOutcome → (s : Shelf) (v : Version) (folder : List ℕ) (report : Report) (venue : Venue) → Breaks (Some s) v folder report → Makes (Some s) v folder venue → ⊥
not_both outcome s v folder report venue b m =
    outcome b.files v.settings report venue b.read.seventeen b.breaks
    (subst (λ (files : Files). IsVenueOf files v.settings venue) (m.read.told ∙ sym b.read.told) m.makes)

one_publish : OneOutcome → (s : Shelf) (v : Version) (folder : List ℕ) (k l : ReplyKind) (m n : ℕ) → PublishCause (Some s) v folder k m → PublishCause (Some s) v folder l n → Same k l m n
unfolding Same
one_publish outcome s v folder _ _ _ _ (rejected a b) (rejected c d) = (refl, refl)
one_publish outcome s v folder _ _ _ _ (rejected a b) (full c d e) = absurd (not_both outcome s v folder a c b d)
one_publish outcome s v folder _ _ _ _ (rejected a b) (done c d e) = absurd (not_both outcome s v folder a c b d)
one_publish outcome s v folder _ _ _ _ (full c d e) (rejected a b) = absurd (not_both outcome s v folder a c b d)
one_publish outcome s v folder _ _ _ _ (full a b c) (full d e f) = (refl, refl)
one_publish outcome s v folder _ _ _ _ (full a b c) (done d e f) = absurd (omega arith)
one_publish outcome s v folder _ _ _ _ (done c d e) (rejected a b) = absurd (not_both outcome s v folder a c b d)
one_publish outcome s v folder _ _ _ _ (done a b c) (full d e f) = absurd (omega arith)
one_publish outcome s v folder _ _ _ _ (done a b c) (done d e f) = (refl, refl)

same_closure : (asked : Closure) (h : List Entry) (r s : Reply) → ClosureAt asked h r → ClosureAt asked h s → Same (kind_of r) (kind_of s) (told r) (told s)
same_closure asked h r s a b =
    let moved = subst (λ (v : Version). ClosureCause v asked (kind_of s) (told s)) (one_version h b.version a.version b.stands a.stands) b.cause in
    one_closure a.version asked (kind_of r) (kind_of s) (told r) (told s) a.cause moved

same_publish : OneOutcome → (shelf : Shelf) (folder : List ℕ) (h : List Entry) (r s : Reply) → PublishAt (Some shelf) folder h r → PublishAt (Some shelf) folder h s
    → Same (kind_of r) (kind_of s) (told r) (told s)
same_publish outcome shelf folder h r s a b =
    let moved = subst (λ (v : Version). PublishCause (Some shelf) v folder (kind_of s) (told s)) (one_version h b.version a.version b.stands a.stands) b.cause in
    one_publish outcome shelf a.version folder (kind_of r) (kind_of s) (told r) (told s) a.cause moved

-- one kind, but for want of memory and faults of the outside
pub one_reply : OneOutcome → (shelf : Shelf) (worker : ℕ) (asked : Change) (h k l : List Entry) (r s : Reply)
    → r ≢ reply.OutOfMemory → s ≢ reply.OutOfMemory → ¬ IsOutsideFault r → ¬ IsOutsideFault s
    → Changes (Some shelf) worker asked h r k → Changes (Some shelf) worker asked h s l → (kind_of r ≡ kind_of s) × (told r ≡ told s)
unfolding Same
one_reply outcome shelf worker (change.Closure asked) h k l r s some some' inside inside' is also =
    same_closure asked h r s (closure_at (Some shelf) worker asked h k r some inside is) (closure_at (Some shelf) worker asked h l s some' inside' also)
one_reply outcome shelf worker (change.Publish folder) h k l r s some some' inside inside' is also =
    same_publish outcome shelf folder h r s (publish_at (Some shelf) worker folder h k r some inside is) (publish_at (Some shelf) worker folder h l s some' inside' also)
