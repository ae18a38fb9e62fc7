-- What is asked for gets what it asks for.
use Rattle.std.proofs.Common.{◌≡◌, ◌∙◌, ◌⊎◌, ℕ, ◌<◌, inl, inr, List, length, refl, sym, subst, arith, Option, Some, IsTrue, Bool, true, false}
use Rattle.venue_types.specs.declared.files.Files.{Files}
use Rattle.venue_types.specs.declared.finding.Report.{Report}
use Rattle.venue_types.specs.declared.profile_set.ProfileSet.{ProfileSet}
use Rattle.venue_types.specs.declared.query.Ask.{Ask}
use Rattle.venue_types.specs.declared.query.Ask.TheVariants as ask
use Rattle.venue_types.specs.declared.query.Change.{Change}
use Rattle.venue_types.specs.declared.query.Change.TheVariants as change
use Rattle.venue_types.specs.declared.query.Closure.{Closure}
use Rattle.venue_types.specs.declared.query.Query.{Query}
use Rattle.venue_types.specs.declared.reply.Reply.{Reply}
use Rattle.venue_types.specs.declared.reply.Reply.TheVariants as reply
use Rattle.venue_types.specs.declared.reply.Which.TheVariants as which
use Rattle.venue_types.specs.declared.settings.Settings.{Settings}
use Rattle.std.proofs.lemmas.List.Elements.{All-contains}
use mathlib.Core.List.{IsPrefix}
use Rattle.venue_hall.specs.Venues.{SeenVenue as Venue}
use Rattle.venue_hall.specs.Built.{IsRejected, IsVenueOf}
use Rattle.venue_hall.specs.Shelves.{Shelf}
use Rattle.venue_types.specs.declared.feature_id.FeatureId.{FeatureId}
use Rattle.venue_hall.specs.Act.{Act}
use Rattle.venue_hall.specs.Act.TheVariants as act
use Rattle.venue_hall.specs.Entry.{Entry}
use Rattle.venue_hall.specs.Answers.{IsTooEarly, IsPlace, AnswersAsk, Answers}
use Rattle.venue_hall.specs.Changes.{Makes, Breaks, IsActOf, TellsOf, Refuses, StandsSo, StandsOtherwise, stands_so, IsRefused, IsAccepted, IsAcceptedIf, Changes}
use Rattle.venue_hall.specs.Closed.{Version}
use Rattle.venue_hall.specs.Histories.{Replays}
use Rattle.venue_hall.specs.Replies.{kind_of, closure_done, out_of_memory}
use Rattle.venue_wire.specs.declared.messages.Message.{Message}
use Rattle.wire_replies.specs.declared.response.Response.{Response}
use Rattle.wire_replies.specs.declared.response.Response.TheVariants.{Of, No, Bare}
use Rattle.venue_session.specs.Complete.{CanBeMade, HasRoom, IsMadeKind, IsOfKind, IsReplyOf, IsThere}
use Rattle.venue_session.specs.Headline.{Exchange, IsExchange, IsRight}

told_kind : (v : Version) (asked : Ask) (r : Reply) → IsThere v asked → AnswersAsk v asked r → IsOfKind asked (kind_of r)
told_kind v ask.Version (reply.Version number closed count) there is = refl
told_kind v ask.Places (reply.Places number rows) there is = refl
told_kind v (ask.Place id) (reply.NoPlace which.Id) there is = absurd (cc (is, there.1))
told_kind v (ask.Place id) (reply.Place it) there is = refl
told_kind v ask.Closures (reply.Closures it) there is = refl
told_kind v (ask.Route from to name certificate) reply.NoProfile there is = absurd (cc (is, there.0.1))
told_kind v (ask.Route from to name certificate) (reply.NoPlace which.From) there is = absurd (cc (is.1, there.1.1))
told_kind v (ask.Route from to name certificate) (reply.NoPlace which.To) there is = absurd (cc (is.2, there.2.1))
told_kind v (ask.Route from to name certificate) (reply.Route number from' to' name' start cost steps potentials) there is = inl refl
told_kind v (ask.Route from to name certificate) (reply.NoRoute number from' to' name' reached) there is = inr refl
told_kind v (ask.Tour asked) reply.NoProfile there is = absurd (cc (is, there.0.1))
told_kind v (ask.Tour asked) (reply.NoPlace which.From) there is = absurd (cc (is.1, there.1.1))
told_kind v (ask.Tour asked) (reply.NoPlace which.To) there is = absurd (cc (is.2, there.2.1))
told_kind v (ask.Tour asked) (reply.NoPlace which.Stop) there is = absurd (let stands = All-contains (IsPlace v) asked.stops is.3 there.3 is.4 in cc (is.5, stands.1))
told_kind v (ask.Tour asked) (reply.Tour it) there is = inl refl
told_kind v (ask.Tour asked) (reply.NoTour it) there is = inr refl
told_kind v (ask.Nearest asked) reply.NoProfile there is = absurd (cc (is, there.0.1))
told_kind v (ask.Nearest asked) (reply.NoPlace which.From) there is = absurd (cc (is.1, there.1.1))
told_kind v (ask.Nearest asked) (reply.Nearest it) there is = refl
told_kind v _ _ there is = absurd is

too_early : (v : Version) (since : Option ℕ) (n : ℕ) → since ≡ Some n → v.number < n → IsTooEarly v since
too_early v since n e less = subst (IsTooEarly v) (sym e) less

pub question_told : (v : Version) (query : Query) (r : Reply) → (IsTooEarly v query.since → ⊥) → IsThere v query.what → Answers v query r
    → IsOfKind query.what (kind_of r) ⊎ (kind_of r ≡ out_of_memory)
question_told v query reply.OutOfMemory new there is = inr refl
question_told v query (reply.Ahead since number) new there is = absurd (new (too_early v query.since since is.0 is.1))
question_told v query r new there is = inl (told_kind v query.what r there is.1)

-- files are rejected or make a venue, and not both
abbrev pub OneOutcome : Type 0
OneOutcome = (files : Files) (settings : Settings) (report : Report) (venue : Venue) → length files.slots ≡ 17 → IsRejected files settings report → IsVenueOf files settings venue → ⊥

not_both : OneOutcome → (s : Shelf) (v : Version) (folder : List ℕ) (report : Report) (venue : Venue) → Breaks (Some s) v folder report → Makes (Some s) v folder venue → ⊥
not_both outcome s v folder report venue b m =
    outcome b.files v.settings report venue b.read.seventeen b.breaks
    (subst (λ (files : Files). IsVenueOf files v.settings venue) (m.read.told ∙ sym b.read.told) m.makes)

-- a change that can be made, with room for one version more, is refused for no cause of its own
not_refused : OneOutcome → (s : Shelf) (v : Version) (asked : Change) (r : Reply) → HasRoom v → CanBeMade (Some s) v asked → Refuses (Some s) v asked r → IsMadeKind asked (kind_of r)
not_refused outcome s v (change.Closure closure) reply.NoProfile room can is = absurd (cc (is, can.1.named))
not_refused outcome s v (change.Closure closure) reply.NoFeature room can is = absurd (is.2 can.1.closable)
not_refused outcome s v (change.Closure closure) (reply.ClosureDone it) room can is = inl refl
not_refused outcome s v (change.Closure closure) (reply.HistoryFull number) room can is = absurd (omega (arith, room, is.1.1))
not_refused outcome s v (change.Closure closure) (reply.JournalFault before after) room can is = inr refl
not_refused outcome s v (change.Closure closure) _ room can is = absurd is.1
not_refused outcome s v (change.Publish folder) (reply.FolderFault before after) room can is = inr (inl refl)
not_refused outcome s v (change.Publish folder) (reply.Rejected report) room can is = absurd (not_both outcome s v folder report can.0 is can.1)
not_refused outcome s v (change.Publish folder) (reply.HistoryFull number) room can is = absurd (omega (arith, room, is.1.1))
not_refused outcome s v (change.Publish folder) (reply.JournalFault before after) room can is = inr (inr refl)
not_refused outcome s v (change.Publish folder) _ room can is = absurd is.1

-- an act is told by the kind of reply that its change asks for
act_told : (shelf : Option Shelf) (v : Version) (asked : Change) (a : Act) (r : Reply) → IsActOf shelf v asked a → TellsOf v asked a r → IsMadeKind asked (kind_of r)
act_told shelf v (change.Closure closure) (act.Closed closing) (reply.ClosureDone it) is tells = inl refl
act_told shelf v (change.Closure closure) (act.Reopened closing) (reply.ClosureDone it) is tells = inl refl
act_told shelf v (change.Publish folder) (act.Published venue) (reply.Published number dropped) is tells = inl refl
act_told shelf v (change.Closure closure) (act.Closed closing) _ is tells = absurd tells
act_told shelf v (change.Closure closure) (act.Reopened closing) _ is tells = absurd tells
act_told shelf v (change.Publish folder) (act.Published venue) _ is tells = absurd tells
act_told shelf v _ _ r is tells = absurd is

some_version : (u v : Version) → Some u ≡ Some v → u ≡ v
some_version u v e = cc e

one_version : (h : List Entry) (u v : Version) → Replays h u → Replays h v → u ≡ v
one_version h u v r s = some_version u v (sym r.leads ∙ s.leads)

refused_here : (shelf : Option Shelf) (asked : Change) (h : List Entry) (u v : Version) (r : Reply) → Replays h u → Replays h v → Refuses shelf u asked r → Refuses shelf v asked r
refused_here shelf asked h u v r one other is = subst (λ (w : Version). Refuses shelf w asked r) (one_version h u v one other) is

either : (changed : Bool) (shelf : Option Shelf) (worker : ℕ) (asked : Change) (h k : List Entry) (r : Reply) → IsAcceptedIf changed shelf worker asked h r k
    → IsAccepted shelf worker asked h r k ⊎ IsRefused shelf asked h r k
either true shelf worker asked h k r is = inl is
either false shelf worker asked h k r is = inr is

pub change_told : OneOutcome → (shelf : Shelf) (worker : ℕ) (asked : Change) (h k : List Entry) (v : Version) (r : Reply) → Replays h v → HasRoom v
    → CanBeMade (Some shelf) v asked → Changes (Some shelf) worker asked h r k → IsMadeKind asked (kind_of r) ⊎ (kind_of r ≡ out_of_memory)
change_told outcome shelf worker asked h k v reply.OutOfMemory stands room can is = inr refl
change_told outcome shelf worker asked h k v (reply.ClosureDone it) stands room can is = inl (elim (either it.changed (Some shelf) worker asked h k (reply.ClosureDone it) is) [
  | inl made ↦ act_told (Some shelf) made.version asked made.entry.act (reply.ClosureDone it) made.of_change made.tells
  | inr left ↦ not_refused outcome shelf v asked (reply.ClosureDone it) room can
      (refused_here (Some shelf) asked h left.version v (reply.ClosureDone it) left.stands stands left.cause)
])
change_told outcome shelf worker asked h k v (reply.Published number dropped) stands room can is =
    inl (act_told (Some shelf) is.version asked is.entry.act (reply.Published number dropped) is.of_change is.tells)
change_told outcome shelf worker asked h k v r stands room can is =
    inl (not_refused outcome shelf v asked r room can (refused_here (Some shelf) asked h is.version v r is.stands stands is.cause))

some_set : (a b : ProfileSet) → Some a ≡ Some b → a ≡ b
some_set a b e = cc e

-- a closure that stands so doesn't stand otherwise
not_otherwise : (v : Version) (closure : Closure) → StandsSo v closure → StandsOtherwise v closure → ⊥
not_otherwise v closure so other =
    let same = some_set so.0 other.0 (sym so.1.named ∙ other.1.named) in
    other.2 (subst (λ (set : ProfileSet). IsTrue (stands_so v closure set)) same so.2)

-- a closure that stands so already is told so
not_moved : (shelf : Option Shelf) (v : Version) (closure : Closure) (r : Reply) → StandsSo v closure → Refuses shelf v (change.Closure closure) r
    → kind_of r ≡ closure_done
not_moved shelf v closure reply.NoProfile so is = absurd (cc (is, so.1.named))
not_moved shelf v closure reply.NoFeature so is = absurd (is.2 so.1.closable)
not_moved shelf v closure (reply.ClosureDone it) so is = refl
not_moved shelf v closure (reply.HistoryFull number) so is = absurd (not_otherwise v closure so is.0)
not_moved shelf v closure (reply.JournalFault before after) so is = absurd (not_otherwise v closure so is.0)
not_moved shelf v closure _ so is = absurd is.1

-- no closure is told as a publication
published_never : (v : Version) (closure : Closure) (a : Act) (number : ℕ) (dropped : List FeatureId)
    → TellsOf v (change.Closure closure) a (reply.Published number dropped) → ⊥
published_never v closure (act.Closed closing) number dropped tells = tells
published_never v closure (act.Reopened closing) number dropped tells = tells
published_never v closure (act.Published venue) number dropped tells = tells

pub standing_told : (shelf : Option Shelf) (worker : ℕ) (closure : Closure) (h k : List Entry) (v : Version) (r : Reply) → Replays h v
    → StandsSo v closure → Changes shelf worker (change.Closure closure) h r k → (kind_of r ≡ closure_done) ⊎ (kind_of r ≡ out_of_memory)
standing_told shelf worker closure h k v reply.OutOfMemory stands so is = inr refl
standing_told shelf worker closure h k v (reply.ClosureDone it) stands so is = inl refl
standing_told shelf worker closure h k v (reply.Published number dropped) stands so is =
    absurd (published_never is.version closure is.entry.act number dropped is.tells)
standing_told shelf worker closure h k v r stands so is =
    inl (not_moved shelf v closure r so (refused_here shelf (change.Closure closure) h is.version v r is.stands stands is.cause))

-- ---- the same of an exchange

right_asked : (shelf : Option Shelf) (worker : ℕ) (before : List Entry) (query : Query) (answer : Response) (seen : List Entry) (v : Version)
    → IsRight shelf worker before (Message.Ask query) answer seen → Replays seen v → (IsTooEarly v query.since → ⊥) → IsThere v query.what
    → IsReplyOf (IsOfKind query.what) answer
right_asked shelf worker before query (Of r) seen v (u, stands, answers) leads new there =
    question_told v query r new there (subst (λ (w : Version). Answers w query r) (one_version seen u v stands leads) answers)
right_asked shelf worker before query (No refusal) seen v is leads new there = absurd is
right_asked shelf worker before query (Bare refusal) seen v is leads new there = absurd is

pub exchange_asked : (keys : List (List ℕ)) (shelf : Option Shelf) (worker : ℕ) (before : List Entry) (bytes : List ℕ) (x : Exchange) (query : Query) (v : Version)
    → IsExchange keys shelf worker before bytes x → x.message ≡ Message.Ask query → Replays x.seen v → (IsTooEarly v query.since → ⊥) → IsThere v query.what
    → IsReplyOf (IsOfKind query.what) x.answer
exchange_asked keys shelf worker before bytes x query v exchange is leads new there =
    right_asked shelf worker before query x.answer x.seen v (subst (λ (m : Message). IsRight shelf worker before m x.answer x.seen) is exchange.right) leads new there

changed_here : OneOutcome → (shelf : Shelf) (worker : ℕ) (asked : Change) (h k : List Entry) (r : Reply) → Changes (Some shelf) worker asked h r k
    → ((v : Version) → Replays h v → HasRoom v × CanBeMade (Some shelf) v asked) → IsMadeKind asked (kind_of r) ⊎ (kind_of r ≡ out_of_memory)
changed_here outcome shelf worker asked h k reply.OutOfMemory is may = inr refl
changed_here outcome shelf worker asked h k (reply.ClosureDone it) is may = elim (either it.changed (Some shelf) worker asked h k (reply.ClosureDone it) is) [
  | inl made ↦ (let can = may made.version made.stands in change_told outcome shelf worker asked h k made.version (reply.ClosureDone it) made.stands can.0 can.1 is)
  | inr left ↦ (let can = may left.version left.stands in change_told outcome shelf worker asked h k left.version (reply.ClosureDone it) left.stands can.0 can.1 is)
]
changed_here outcome shelf worker asked h k (reply.Published number dropped) is may =
    let can = may is.version is.stands in
    change_told outcome shelf worker asked h k is.version (reply.Published number dropped) is.stands can.0 can.1 is
changed_here outcome shelf worker asked h k r is may =
    let can = may is.version is.stands in change_told outcome shelf worker asked h k is.version r is.stands can.0 can.1 is

right_changed : OneOutcome → (shelf : Shelf) (worker : ℕ) (before : List Entry) (asked : Change) (answer : Response) (seen : List Entry)
    → IsRight (Some shelf) worker before (Message.Do asked) answer seen
    → ((h : List Entry) (v : Version) → IsPrefix before h → Replays h v → HasRoom v × CanBeMade (Some shelf) v asked) → IsReplyOf (IsMadeKind asked) answer
right_changed outcome shelf worker before asked (Of r) seen (h, grows, changes) may =
    changed_here outcome shelf worker asked h seen r changes (λ v stands. may h v grows stands)
right_changed outcome shelf worker before asked (No refusal) seen is may = absurd is
right_changed outcome shelf worker before asked (Bare refusal) seen is may = absurd is

pub exchange_changed : OneOutcome → (keys : List (List ℕ)) (shelf : Shelf) (worker : ℕ) (before : List Entry) (bytes : List ℕ) (x : Exchange) (asked : Change)
    → IsExchange keys (Some shelf) worker before bytes x → x.message ≡ Message.Do asked
    → ((h : List Entry) (v : Version) → IsPrefix before h → Replays h v → HasRoom v × CanBeMade (Some shelf) v asked) → IsReplyOf (IsMadeKind asked) x.answer
exchange_changed outcome keys shelf worker before bytes x asked exchange is may =
    right_changed outcome shelf worker before asked x.answer x.seen
    (subst (λ (m : Message). IsRight (Some shelf) worker before m x.answer x.seen) is exchange.right) may

standing_here : (shelf : Option Shelf) (worker : ℕ) (closure : Closure) (h k : List Entry) (r : Reply)
    → Changes shelf worker (change.Closure closure) h r k → ((v : Version) → Replays h v → StandsSo v closure)
    → (kind_of r ≡ closure_done) ⊎ (kind_of r ≡ out_of_memory)
standing_here shelf worker closure h k reply.OutOfMemory is so = inr refl
standing_here shelf worker closure h k (reply.ClosureDone it) is so = inl refl
standing_here shelf worker closure h k (reply.Published number dropped) is so =
    standing_told shelf worker closure h k is.version (reply.Published number dropped) is.stands (so is.version is.stands) is
standing_here shelf worker closure h k r is so = standing_told shelf worker closure h k is.version r is.stands (so is.version is.stands) is

right_standing : (shelf : Option Shelf) (worker : ℕ) (before : List Entry) (closure : Closure) (answer : Response) (seen : List Entry)
    → IsRight shelf worker before (Message.Do (change.Closure closure)) answer seen
    → ((h : List Entry) (v : Version) → IsPrefix before h → Replays h v → StandsSo v closure) → IsReplyOf (λ kind. kind ≡ closure_done) answer
right_standing shelf worker before closure (Of r) seen (h, grows, changes) so =
    standing_here shelf worker closure h seen r changes (λ v stands. so h v grows stands)
right_standing shelf worker before closure (No refusal) seen is so = absurd is
right_standing shelf worker before closure (Bare refusal) seen is so = absurd is

pub exchange_standing : (keys : List (List ℕ)) (shelf : Option Shelf) (worker : ℕ) (before : List Entry) (bytes : List ℕ) (x : Exchange) (closure : Closure)
    → IsExchange keys shelf worker before bytes x → x.message ≡ Message.Do (change.Closure closure)
    → ((h : List Entry) (v : Version) → IsPrefix before h → Replays h v → StandsSo v closure) → IsReplyOf (λ kind. kind ≡ closure_done) x.answer
exchange_standing keys shelf worker before bytes x closure exchange is so =
    right_standing shelf worker before closure x.answer x.seen
    (subst (λ (m : Message). IsRight shelf worker before m x.answer x.seen) is exchange.right) so
