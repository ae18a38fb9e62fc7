-- The profiles that a change names are profiles of the settings.
use Rattle.std.proofs.Common.{◌≡◌, ℕ, ◌+◌, ◌^◌, ◌<◌, suc, List, [], ◌∷◌, length, refl, subst, arith, Bool, true, false, Option, Some, None}
use Rattle.std.proofs.Math.Pow.{pow-lt}
use Rattle.std.proofs.lemmas.Bool.{lt-ltb}
use Rattle.std.proofs.lemmas.Option.{same_Some}
use Rattle.std.specs.Prelude.{IsTrue, if◌then◌else◌}
use Rattle.std.specs.List.{position_from}
use Rattle.std.specs.Option.{option_map, option_and_then}
use Rattle.std.specs.Str.{bytes_eq}
use Rattle.venue_types.specs.declared.profile_set.ProfileSet.{ProfileSet}
use Rattle.venue_types.specs.declared.settings.Profile.{Profile}
use Rattle.venue_types.specs.declared.settings.Settings.{Settings}
use Rattle.venue_types.specs.ProfileSets.{just, joined, is_within}
use Rattle.venue_types.proofs.ProfileSetLemmas.{nobody_within, all_of_within, joined_within}
use Rattle.venue_history.specs.Named.{set_of_names, named_set}
use Rattle.venue_history.specs.Ways.{profile_number}

place_more : (found : Bool) (first place count : ℕ) (later : Option ℕ) → (later ≡ Some place → place < first + 1 + count)
    → (if found then Some first else later) ≡ Some place → place < first + suc count
place_more true first place count later below e = let here = same_Some first place e in omega arith
place_more false first place count later below e = let further = below e in omega arith

-- a place that is found lies in the list
place_below : {X : Type 0} (test : X → Bool) (xs : List X) (first place : ℕ) → position_from test first xs ≡ Some place → place < first + length xs
place_below test [] first place e = absurd (cc e)
place_below test (x ∷ xs) first place e =
    place_more (test x) first place (length xs) (position_from test (first + 1) xs) (place_below test xs (first + 1) place) e

-- the number of a profile is below how many there are
pub number_below : (settings : Settings) (name : List ℕ) (k : ℕ) → profile_number settings name ≡ Some k → k < length settings.profiles
unfolding profile_number
number_below settings name k e =
    let below = place_below (λ (p : Profile). bytes_eq p.name name) settings.profiles 0 k e in
    omega arith

-- the settings have a profile whose number is below how many there are
pub just_within : (count k : ℕ) → k < count → IsTrue (is_within count (just k))
unfolding is_within
just_within count k below = lt-ltb (2 ^ k) (2 ^ count) (pow-lt below)

more_within : (count : ℕ) (place : Option ℕ) (rest : Option ProfileSet) (set : ProfileSet)
    → ((k : ℕ) → place ≡ Some k → k < count) → ((other : ProfileSet) → rest ≡ Some other → IsTrue (is_within count other))
    → option_and_then (λ k. option_map (joined (just k)) rest) place ≡ Some set → IsTrue (is_within count set)
more_within count None rest set below within e = absurd (cc e)
more_within count (Some k) None set below within e = absurd (cc e)
more_within count (Some k) (Some other) set below within e =
    subst (λ (one : ProfileSet). IsTrue (is_within count one)) (same_Some (joined (just k) other) set e)
    (joined_within count (just k) other (just_within count k (below k refl)) (within other refl))

names_within : (settings : Settings) (names : List (List ℕ)) (set : ProfileSet) → set_of_names settings names ≡ Some set
    → IsTrue (is_within (length settings.profiles) set)
names_within settings [] set e = subst (λ (one : ProfileSet). IsTrue (is_within (length settings.profiles) one)) (same_Some _ set e) (nobody_within (length settings.profiles))
names_within settings (name ∷ names) set e =
    more_within (length settings.profiles) (profile_number settings name) (set_of_names settings names) set (number_below settings name) (names_within settings names) e

-- so are all that a change names, or doesn't
pub named_within : (settings : Settings) (names : Option (List (List ℕ))) (set : ProfileSet) → named_set settings names ≡ Some set
    → IsTrue (is_within (length settings.profiles) set)
named_within settings None set e =
    subst (λ (one : ProfileSet). IsTrue (is_within (length settings.profiles) one)) (same_Some _ set e) (all_of_within (length settings.profiles))
named_within settings (Some names) set e = names_within settings names set e
