-- The act that is asked for, where the feature stands otherwise, is one that can be done.
use Rattle.std.proofs.Common.{◌≡◌, refl, sym, subst, Bool, true, false, not}
use Rattle.std.specs.Prelude.{Contains, IsTrue, if◌then◌else◌}
use Rattle.venue_types.specs.declared.feature_id.FeatureId.{FeatureId}
use Rattle.venue_types.specs.declared.profile_set.ProfileSet.{ProfileSet}
use Rattle.venue_types.specs.declared.query.Closure.{Closure}
use Rattle.venue_types.specs.ProfileSets.{has, nobody, is_empty, has_all_of, has_any_of}
use Rattle.venue_types.proofs.ProfileSetLemmas.{has_all_of_nobody, none_from, has_nobody}
use Rattle.std.proofs.lemmas.Bool.{both_ways}
use Rattle.venue_build.specs.Nodes.{closables}
use Rattle.venue_history.specs.declared.entry.Act.TheVariants.{Closed, Reopened}
use Rattle.venue_history.specs.declared.entry.Closing.{Closing}
use Rattle.venue_history.specs.Closed.{Version, closed_set}
use Rattle.venue_history.specs.Versions.{Fits}
use Rattle.venue_history.specs.Changes.{IsAskedFor}
use Rattle.venue_history.proofs.Closings.{empty_nobody}
use Rattle.venue_history.proofs.Naming.{named_within}

-- there is somebody among those who aren't all in a set
pub some_lacked : (set other : ProfileSet) → ¬ IsTrue (has_all_of set other) → ¬ IsTrue (is_empty other)
some_lacked set other lacks empty =
    lacks (subst (λ (one : ProfileSet). IsTrue (has_all_of set one)) (sym (empty_nobody other empty)) (has_all_of_nobody set))

-- and among those of whom one is
pub some_there : (set other : ProfileSet) → IsTrue (has_any_of set other) → ¬ IsTrue (is_empty other)
some_there set other any empty =
    none_from set nobody (λ k in_nobody in_set. both_ways (has k nobody) (has_nobody k) in_nobody)
    (subst (λ (one : ProfileSet). IsTrue (has_any_of set one)) (empty_nobody other empty) any)

lacks_one : (closes all any : Bool) → closes ≡ true → ¬ IsTrue (if closes then all else not any) → ¬ IsTrue all
lacks_one true all any e stood = stood
lacks_one false all any e stood = absurd (cc e)

has_one : (closes all any : Bool) → closes ≡ false → ¬ IsTrue (if closes then all else not any) → IsTrue any
has_one true all any e stood = absurd (cc e)
has_one false all true e stood = refl
has_one false all false e stood = absurd (stood refl)

-- a closure that is asked for
pub closing_fits : (v : Version) (asked : Closure) (it : Closing) → asked.closed ≡ true → IsAskedFor v asked it → Fits v (Closed it)
closing_fits v asked it closes is =
    let lacks : ¬ IsTrue (has_all_of (closed_set v it.feature) it.profiles) =
    subst (λ (id : FeatureId). ¬ IsTrue (has_all_of (closed_set v id) it.profiles)) (sym is.feature_is)
    (lacks_one asked.closed (has_all_of (closed_set v asked.feature) it.profiles) (has_any_of (closed_set v asked.feature) it.profiles) closes is.stood) in (
      record {
        some = some_lacked (closed_set v it.feature) it.profiles lacks;
        known = named_within v.settings asked.profiles it.profiles is.closure_for.named;
      },
      subst (Contains (closables v.features)) (sym is.feature_is) is.closure_for.closable,
      lacks,
    )

-- a reopening that is asked for
pub reopening_fits : (v : Version) (asked : Closure) (it : Closing) → asked.closed ≡ false → IsAskedFor v asked it → Fits v (Reopened it)
reopening_fits v asked it opens is =
    let any : IsTrue (has_any_of (closed_set v it.feature) it.profiles) =
    subst (λ (id : FeatureId). IsTrue (has_any_of (closed_set v id) it.profiles)) (sym is.feature_is)
    (has_one asked.closed (has_all_of (closed_set v asked.feature) it.profiles) (has_any_of (closed_set v asked.feature) it.profiles) opens is.stood) in (
      record {
        some = some_there (closed_set v it.feature) it.profiles any;
        known = named_within v.settings asked.profiles it.profiles is.closure_for.named;
      },
      any,
    )
