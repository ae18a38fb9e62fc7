-- What a board's answer to an act says of the change that asked for it.
use Rattle.std.proofs.Common.{◌≡◌, ◌∙◌, ℕ, ◌+◌, Bool, true, false, not, refl, sym, ap, subst, List, Option, Some, None}
use Rattle.std.proofs.lemmas.List.Elements.{All-contains}
use Rattle.std.specs.Prelude.{All, Contains, IsTrue, if◌then◌else◌}
use Rattle.venue_types.specs.declared.files.Files.{Files}
use Rattle.venue_types.specs.declared.profile_set.ProfileSet.{ProfileSet}
use Rattle.venue_types.specs.declared.query.Change.TheVariants.{Closure as AskedClosure, Publish}
use Rattle.venue_types.specs.declared.query.Closure.{Closure}
use Rattle.venue_types.specs.declared.reply.ClosureDone.{ClosureDone}
use Rattle.venue_types.specs.declared.reply.Reply.TheVariants as reply
use Rattle.venue_types.specs.ProfileSets.{is_empty, has_all_of, has_any_of}
use Rattle.venue_types.proofs.ProfileSetLemmas.{has_all_of_nobody}
use Rattle.route_search.specs.Nodes.{closables}
use Rattle.venue_history.specs.Venues.{SeenVenue as Venue}
use Rattle.venue_history.specs.Built.{IsVenueOf}
use Rattle.venue_history.specs.Shelves.{Shelf}
use Rattle.venue_history.specs.declared.entry.Act.{Act}
use Rattle.venue_history.specs.declared.entry.Act.TheVariants.{Closed, Reopened}
use Rattle.venue_history.specs.Changes.{AreRead, StandsOtherwise, TellsOf, stands_so}
use Rattle.venue_history.specs.Closed.{Version, closed_set, closed_ids}
use Rattle.venue_history.specs.Named.{named_set, repeated}
use Rattle.venue_history.specs.Versions.{Fits, after}
use Rattle.venue_history.proofs.Closings.{empty_nobody}
use Rattle.venue_history.proofs.Fitting.{some_there}
use Rattle.venue_state.specs.declared.prepared.NextBoard.{NextBoard}
use Rattle.venue_state.specs.Preparing.{IsReady, IsUnready, LacksFeature, IsDone}
use Rattle.venue_state.specs.declared.unready.Unready.TheVariants as unready
use Rattle.venue_state.specs.Making.{closure_act, Brings, IsMade, Leaves}
use Rattle.venue_state.proofs.Replying.{there, listed_any}

-- the act that closes what is asked for these profiles, or opens it again
abbrev act_by : Closure → ProfileSet → Bool → Act
act_by asked set closed = if closed then Closed (record { feature = asked.feature; profiles = set }) else Reopened (record { feature = asked.feature; profiles = set })

-- ---- how the feature stands

module _ (v : Version) (asked : Closure) (set : ProfileSet) where
  all : Bool
  all = has_all_of (closed_set v asked.feature) set

  any : Bool
  any = has_any_of (closed_set v asked.feature) set

other_closed : (closed all any : Bool) → closed ≡ true → ¬ IsTrue all → ¬ IsTrue (if closed then all else not any)
other_closed true all any e other = other
other_closed false all any e other = absurd (cc e)

other_open : (closed all any : Bool) → closed ≡ false → ¬ ¬ IsTrue any → ¬ IsTrue (if closed then all else not any)
other_open true all any e is = absurd (cc e)
other_open false all true e is = λ so. absurd (cc so)
other_open false all false e is = λ so. is (λ no. absurd (cc no))

-- ---- closures that aren't made ready

has_by : (v : Version) (asked : Closure) (set : ProfileSet) (closed : Bool) → ¬ LacksFeature v (act_by asked set closed) → Contains (closables v.features) asked.feature
has_by v asked set true some = there (closables v.features) asked.feature some
has_by v asked set false some = there (closables v.features) asked.feature some

-- it stands otherwise
undone_by : (v : Version) (asked : Closure) (set : ProfileSet) (closed : Bool) → asked.closed ≡ closed → Contains (closables v.features) asked.feature
    → ¬ IsDone v (act_by asked set closed) → ¬ IsTrue (stands_so v asked set)
unfolding all any
undone_by v asked set true e has undone = other_closed asked.closed (all v asked set) (any v asked set) e (λ is. undone (has, is))
undone_by v asked set false e has undone = other_open asked.closed (all v asked set) (any v asked set) e (λ not_any. undone (has, not_any))

pub due_closure : (v : Version) (asked : Closure) (set : ProfileSet) → named_set v.settings asked.profiles ≡ Some set → IsUnready v (closure_act asked set) unready.Full
    → StandsOtherwise v asked
due_closure v asked set named full =
    let has = has_by v asked set asked.closed full.0 in
    (set, record { named = named; closable = has }, undone_by v asked set asked.closed refl has full.1)

-- for nobody it stands as asked, if it can be closed
nobody_by : (v : Version) (asked : Closure) (set : ProfileSet) (closed : Bool) → IsTrue (is_empty set) → Contains (closables v.features) asked.feature
    → IsDone v (act_by asked set closed)
nobody_by v asked set true empty has =
    (has, subst (λ (s : ProfileSet). IsTrue (has_all_of (closed_set v asked.feature) s)) (sym (empty_nobody set empty)) (has_all_of_nobody (closed_set v asked.feature)))
nobody_by v asked set false empty has = (has, λ any. some_there (closed_set v asked.feature) set any empty)

pub done_for_nobody : (v : Version) (asked : Closure) (set : ProfileSet) → IsTrue (is_empty set) → Contains (closables v.features) asked.feature
    → IsUnready v (closure_act asked set) unready.Unchanged
done_for_nobody v asked set empty has = nobody_by v asked set asked.closed empty has

-- ---- closures that are made ready

-- the reply that tells of a closure
abbrev done_at : ℕ → Closure → Option (List (List ℕ)) → ClosureDone
done_at number asked names = record { number = number; feature = asked.feature; closed = asked.closed; changed = true; profiles = names }

brought_by : (shelf : Option Shelf) (v : Version) (asked : Closure) (set : ProfileSet) (closed : Bool) → asked.closed ≡ closed
    → named_set v.settings asked.profiles ≡ Some set → All (Contains (closables v.features)) (closed_ids v) → Fits v (act_by asked set closed)
    → Brings shelf v (AskedClosure asked) (act_by asked set closed) None
unfolding all any
brought_by shelf v asked set true e named all_can fits = (
  e,
  record {
    feature_is = refl;
    closure_for = record { named = named; closable = fits.1 };
    stood = other_closed asked.closed (all v asked set) (any v asked set) e fits.2;
  },
)
brought_by shelf v asked set false e named all_can fits = (
  e,
  record {
    feature_is = refl;
    closure_for = record {
      named = named;
      closable = All-contains (Contains (closables v.features)) (closed_ids v) asked.feature all_can (listed_any v.closed asked.feature set fits.1);
    };
    stood = other_open asked.closed (all v asked set) (any v asked set) e (λ no. no fits.1);
  },
)

tells_by : (v : Version) (asked : Closure) (set : ProfileSet) (number : ℕ) (names : Option (List (List ℕ))) (closed : Bool) → number ≡ v.number + 1
    → names ≡ repeated v.settings asked.profiles set → TellsOf v (AskedClosure asked) (act_by asked set closed) (reply.ClosureDone (done_at number asked names))
tells_by v asked set number names true next told = record { number_is = next; feature_is = refl; closed_is = refl; changed_is = refl; profiles_are = told }
tells_by v asked set number names false next told = record { number_is = next; feature_is = refl; closed_is = refl; changed_is = refl; profiles_are = told }

pub made_closure : (shelf : Option Shelf) (v : Version) (worker : ℕ) (asked : Closure) (set : ProfileSet) (ready : NextBoard) (number : ℕ) (names : Option (List (List ℕ)))
    → All (Contains (closables v.features)) (closed_ids v) → named_set v.settings asked.profiles ≡ Some set → names ≡ repeated v.settings asked.profiles set
    → IsReady v (closure_act asked set) worker ready → number ≡ v.number + 1
    → IsMade shelf v worker (AskedClosure asked) ready (reply.ClosureDone (done_at number asked names)) None
made_closure shelf v worker asked set ready number names all_can named told is next =
    let fits : Fits v (closure_act asked set) = subst (Fits v) is.act_is is.may.fits in
    record {
      by_worker = is.worker_is;
      may = is.may;
      next_is = is.next_is ∙ ap (after v) (sym is.act_is);
      brings = subst (λ (a : Act). Brings shelf v (AskedClosure asked) a None) (sym is.act_is) (brought_by shelf v asked set asked.closed refl named all_can fits);
      tells =
          subst (λ (a : Act). TellsOf v (AskedClosure asked) a (reply.ClosureDone (done_at number asked names))) (sym is.act_is)
          (tells_by v asked set number names asked.closed next told);
    }

pub full_publication : (shelf : Option Shelf) (v : Version) (folder : List ℕ) (files : Files) (venue : Venue) (number : ℕ)
    → AreRead shelf folder files → IsVenueOf files v.settings venue → number ≡ v.number → v.number ≡ v.settings.last_version → Leaves shelf v (Publish folder) (reply.HistoryFull number)
full_publication shelf v folder files venue number read of at last = ((venue, record { files = files; read = read; makes = of }), (at, last))
