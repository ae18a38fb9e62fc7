-- What a change that closes a feature leads to.
use Rattle.std.proofs.Common.{◌≡◌, ◌≢◌, ◌∙◌, sym, ap, refl, subst, ℕ, ◌<◌, arith, List, [], ◌∷◌, ◌++◌, Option, Some, None, IsTrue, Bool, true, false, ◌⊎◌, inl, inr}
use Rattle.venue_types.specs.declared.feature_id.FeatureId.{FeatureId}
use Rattle.venue_types.specs.declared.profile_set.ProfileSet.{ProfileSet}
use Rattle.venue_types.specs.ProfileSets.{has_all_of}
use Rattle.venue_types.specs.declared.query.Change.{Change}
use Rattle.venue_types.specs.declared.query.Change.TheVariants as change
use Rattle.venue_types.specs.declared.reply.Reply.{Reply}
use Rattle.venue_types.specs.declared.reply.Reply.TheVariants as reply
use Rattle.venue_folder.specs.Shelves.{Shelf}
use Rattle.version_board.specs.Act.{Act}
use Rattle.version_board.specs.Act.TheVariants as act
use Rattle.version_board.specs.Entry.{Entry}
use Rattle.version_board.specs.Changes.{Changes, IsRefused, IsAccepted, IsAcceptedIf, IsActOf, TellsOf}
use Rattle.version_board.specs.Closed.{Version, closed_set, everybody}
use Rattle.version_board.specs.Histories.{Replays}
use Rattle.version_board.specs.Replies.{IsJournalFault}
use Rattle.version_board.specs.Versions.{after, Fits, MayFollow}
use Rattle.venue_commands.specs.BuildingReports.{IsNamed, IsBehindClosing, closing}
use Rattle.venue_commands.specs.Costs.{IsBehindChange}
use Rattle.venue_commands.proofs.Seeing.{one_version}

-- an entry that may be made leads on
abbrev Enters : Type 0
Enters = (h : List Entry) (v : Version) (e : Entry) → Replays h v → MayFollow v e → Replays (h ++ e ∷ []) (after v e.act)

abbrev closure_of : FeatureId → Change
closure_of id = change.Closure (record { feature = id; closed = true; profiles = None })

some_set : (a b : ProfileSet) → Some a ≡ Some b → a ≡ b
some_set a b e = cc e

same_closing : (f g : FeatureId) (p q : ProfileSet) → f ≡ g → p ≡ q → act.Closed (record { feature = f; profiles = p }) ≡ act.Closed (record { feature = g; profiles = q })
same_closing f g p q e d = cc (e, d)

closes : (shelf : Option Shelf) (v : Version) (id : FeatureId) (done : Act) → IsActOf shelf v (closure_of id) done → done ≡ closing v id
closes shelf v id (act.Closed it) is = same_closing it.feature id it.profiles (everybody v.settings) is.1.feature_is (sym (some_set (everybody v.settings) it.profiles is.1.closure_for.named))
closes shelf v id (act.Reopened it) is = absurd (let e : true ≡ false = is.0 in cc e)
closes shelf v id (act.Published venue) is = absurd is

fits_not : (v : Version) (id : FeatureId) (set : ProfileSet) → Some (everybody v.settings) ≡ Some set → IsTrue (has_all_of (closed_set v id) set) → ¬ Fits v (closing v id)
fits_not v id set named all fits =
    fits.2 (subst (λ (s : ProfileSet). IsTrue (has_all_of (closed_set v id) s)) (sym (some_set (everybody v.settings) set named)) all)

accepted_behind : (enters : Enters) (shelf : Option Shelf) (id : FeatureId) (h k : List Entry) (r : Reply)
    → IsAccepted shelf 1 (closure_of id) h r k → (v w : Version) → Replays h v → Replays k w → IsBehindChange id v w
accepted_behind enters shelf id h k r is v w before behind =
    let same : is.version ≡ v = one_version h is.version v is.stands before in
    let done : is.entry.act ≡ closing is.version id = closes shelf is.version id is.entry.act is.of_change in
    let next : Replays k (after is.version is.entry.act) =
    subst (λ (es : List Entry). Replays es (after is.version is.entry.act)) (sym is.grown) (enters h is.version is.entry is.stands is.may) in
    let leads : w ≡ after is.version is.entry.act = one_version k w (after is.version is.entry.act) behind next in
    let fits = subst (λ (a : Act). Fits is.version a) done is.may.fits in
    inl (
      subst (λ (u : Version). Fits u (closing u id)) same fits,
      leads ∙ ap (λ (a : Act). after is.version a) done ∙ ap (λ (u : Version). after u (closing u id)) same,
    )

published_never : (v : Version) (id : FeatureId) (done : Act) (number : ℕ) (dropped : List FeatureId) → TellsOf v (closure_of id) done (reply.Published number dropped) → ⊥
published_never v id (act.Closed it) number dropped tells = tells
published_never v id (act.Reopened it) number dropped tells = tells
published_never v id (act.Published venue) number dropped tells = tells

stays : (id : FeatureId) (h k : List Entry) (u v w : Version) → k ≡ h → Replays h u → Replays h v → Replays k w → ¬ Fits u (closing u id) → IsBehindChange id v w
stays id h k u v w kept stands before behind unfit =
    let same : u ≡ v = one_version h u v stands before in
    inr (
      subst (λ (x : Version). ¬ Fits x (closing x id)) same unfit,
      one_version h w v (subst (λ (es : List Entry). Replays es w) kept behind) before,
    )

full_never : (h : List Entry) (u v : Version) → Replays h u → Replays h v → u.number ≡ u.settings.last_version → v.number < v.settings.last_version → ⊥
full_never h u v one other full room =
    let open_u = subst (λ (x : Version). x.number < x.settings.last_version) (one_version h v u other one) room in
    omega (arith, full, open_u)

either : (changed : Bool) (shelf : Option Shelf) (worker : ℕ) (asked : Change) (h k : List Entry) (r : Reply) → IsAcceptedIf changed shelf worker asked h r k
    → IsAccepted shelf worker asked h r k ⊎ IsRefused shelf asked h r k
either true shelf worker asked h k r made = inl made
either false shelf worker asked h k r left = inr left

pub behind_change : (enters : Enters) (shelf : Option Shelf) (id : FeatureId) (h k : List Entry) (r : Reply) → r ≢ reply.OutOfMemory → ¬ IsJournalFault r
    → Changes shelf 1 (closure_of id) h r k
    → (v w : Version) → v.number < v.settings.last_version → Replays h v → Replays k w → IsBehindChange id v w
behind_change enters shelf id h k (reply.ClosureDone it) some kept is v w room before behind = elim (either it.changed shelf 1 (closure_of id) h k (reply.ClosureDone it) is) [
  | inl made ↦ accepted_behind enters shelf id h k (reply.ClosureDone it) made v w before behind
  | inr left ↦ stays id h k left.version v w left.kept left.stands before behind (fits_not left.version id left.cause.0 left.cause.1.named left.cause.2)
]
behind_change enters shelf id h k (reply.Published number dropped) some kept is v w room before behind =
    absurd (published_never is.version id is.entry.act number dropped is.tells)
behind_change enters shelf id h k reply.NoFeature some kept is v w room before behind =
    stays id h k is.version v w is.kept is.stands before behind (λ fits. is.cause.2 fits.1)
behind_change enters shelf id h k (reply.JournalFault earlier later) some kept is v w room before behind = absurd (kept tt)
behind_change enters shelf id h k (reply.HistoryFull number) some kept is v w room before behind =
    absurd (full_never h is.version v is.stands before is.cause.1.1 room)
behind_change enters shelf id h k reply.OutOfMemory some kept is v w room before behind = absurd (some refl)
behind_change enters shelf id h k (reply.Route number from to name start cost steps potentials) some kept is v w room before behind = absurd is.cause.1
behind_change enters shelf id h k (reply.NoRoute number from to name reached) some kept is v w room before behind = absurd is.cause.1
behind_change enters shelf id h k (reply.Tour it) some kept is v w room before behind = absurd is.cause.1
behind_change enters shelf id h k (reply.NoTour it) some kept is v w room before behind = absurd is.cause.1
behind_change enters shelf id h k (reply.Nearest it) some kept is v w room before behind = absurd is.cause.1
behind_change enters shelf id h k reply.NoProfile some kept is v w room before behind = absurd (cc is.cause)
behind_change enters shelf id h k (reply.NoPlace end) some kept is v w room before behind = absurd is.cause.1
behind_change enters shelf id h k (reply.Ahead since number) some kept is v w room before behind = absurd is.cause.1
behind_change enters shelf id h k (reply.Version number closed count) some kept is v w room before behind = absurd is.cause.1
behind_change enters shelf id h k (reply.Places number rows) some kept is v w room before behind = absurd is.cause.1
behind_change enters shelf id h k (reply.Place it) some kept is v w room before behind = absurd is.cause.1
behind_change enters shelf id h k (reply.Closures it) some kept is v w room before behind = absurd is.cause.1
behind_change enters shelf id h k (reply.FolderFault earlier later) some kept is v w room before behind = absurd is.cause.1
behind_change enters shelf id h k (reply.Rejected report) some kept is v w room before behind = absurd is.cause.1

some_id : (x y : FeatureId) → Some x ≡ Some y → x ≡ y
some_id x y e = cc e

pub behind_number : (number : ℕ) (id : FeatureId) (v w : Version) → IsNamed number id → IsBehindChange id v w → IsBehindClosing number v w
behind_number number id v w named (inl (fits, leads)) = inl (id, named, fits, leads)
behind_number number id v w named (inr (unfit, same)) =
    inr ((λ other is fits. unfit (subst (λ (x : FeatureId). Fits v (closing v x)) (some_id other id (sym is ∙ named)) fits)), same)
