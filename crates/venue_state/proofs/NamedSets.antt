-- Sets of profiles by the names of these.
use Rattle.std.proofs.Common.{◌≡◌, ◌∙◌, ℕ, ◌+◌, ◌≤◌, ◌<◌, List, ◌∷◌, length, drop, refl, sym, ap, Bool, true, false, Option, Some, None, inl, inr, arith}
use Rattle.std.specs.Prelude.{◌||◌, slice_index_or, nat_eq, nat_lt, IsTrue, ◌↔◌}
use Rattle.std.specs.Option.{option_map}
use Rattle.std.proofs.lemmas.Bool.Decides.{nat_tests}
use Rattle.std.proofs.lemmas.Nat.Bits.{bit_at-pow_same, bit_at-pow_other}
use Rattle.venue_types.specs.declared.profile_set.ProfileSet.{ProfileSet}
use Rattle.venue_types.specs.declared.settings.Settings.{Settings}
use Rattle.venue_types.specs.ProfileSets.{has, nobody, all_of, just, joined}
use Rattle.venue_types.proofs.ProfileSetLemmas.{has_joined, has_of_all, same_set, empty_has, all_of_within, nobody_joined}
use Rattle.venue_history.specs.Closed.{everybody}
use Rattle.venue_history.specs.Named.{set_of_names}
use Rattle.venue_history.specs.Versions.{AreProfiles}
use Rattle.venue_history.specs.Ways.{profile_number}
use Rattle.venue_state.proofs.Marking.{tested}
use Rattle.venue_state.proofs.NameLemmas.{rest_at}

-- all profiles of settings are some, and known
pub all_are_profiles : (settings : Settings) → AreProfiles settings (everybody settings)
all_are_profiles settings =
    let count = length settings.profiles in
    let some : 1 ≤ count = settings.profiles_some in
    let first : nat_lt 0 count ≡ true = grind (arith, nat_tests) in
    record {
      some = λ e. empty_has (all_of count) e 0 (has_of_all count 0 ∙ first);
      known = all_of_within count;
    }

-- ---- sets that are made of names

same_tests : (a b : Bool) → IsTrue a ↔ IsTrue b → a ≡ b
same_tests true true e = refl
same_tests true false e = sym (e.0 refl)
same_tests false true e = e.1 refl
same_tests false false e = refl

has_just : (n k : ℕ) → has k (just n) ≡ nat_eq k n
unfolding has
has_just n k = elim (tested (nat_eq k n)) [
  | inl same ↦ let e : k ≡ n = grind (arith, nat_tests) in rw e (let one = bit_at-pow_same n in grind (arith, nat_tests))
  | inr other ↦ let none = bit_at-pow_other n k (λ e. grind (arith, nat_tests)) in grind (arith, nat_tests)
]

or_assoc : (a b c : Bool) → ((a || b) || c) ≡ (a || (b || c))
or_assoc true b c = refl
or_assoc false b c = refl

-- a set has the profile that came to it
grown_by : (set grown others : ProfileSet) (n : ℕ) → ((i : ℕ) → IsTrue (has i grown) ↔ IsTrue (has i set || nat_eq i n))
    → joined grown others ≡ joined set (joined (just n) others)
grown_by set grown others n more = same_set (joined grown others) (joined set (joined (just n) others)) (λ k.
    has_joined grown others k
    ∙ ap (λ (b : Bool). b || has k others) (same_tests (has k grown) (has k set || nat_eq k n) (more k))
    ∙ or_assoc (has k set) (nat_eq k n) (has k others)
    ∙ ap (λ (b : Bool). has k set || (b || has k others)) (sym (has_just n k))
    ∙ ap (λ (b : Bool). has k set || b) (sym (has_joined (just n) others k))
    ∙ sym (has_joined set (joined (just n) others) k))

pub none_yet : (o : Option ProfileSet) → option_map (joined nobody) o ≡ o
none_yet None = refl
none_yet (Some set) = ap (λ (s : ProfileSet). Some s) (nobody_joined set)

grown_all : (set grown : ProfileSet) (n : ℕ) (o : Option ProfileSet) → ((i : ℕ) → IsTrue (has i grown) ↔ IsTrue (has i set || nat_eq i n))
    → option_map (joined grown) o ≡ option_map (joined set) (option_map (joined (just n)) o)
grown_all set grown n None more = refl
grown_all set grown n (Some others) more = ap (λ (s : ProfileSet). Some s) (grown_by set grown others n more)

found : (settings : Settings) (name : List ℕ) (names : List (List ℕ)) (n : ℕ) → profile_number settings name ≡ Some n
    → set_of_names settings (name ∷ names) ≡ option_map (joined (just n)) (set_of_names settings names)
found settings name names n e = rw e refl

-- one name more
pub named_more : (settings : Settings) (names : List (List ℕ)) (i : ℕ) (d : List ℕ) (set grown : ProfileSet) (n : ℕ) (whole : Option ProfileSet) → i < length names
    → profile_number settings (slice_index_or names i d) ≡ Some n → ((i : ℕ) → IsTrue (has i grown) ↔ IsTrue (has i set || nat_eq i n))
    → option_map (joined set) (set_of_names settings (drop i names)) ≡ whole
    → option_map (joined grown) (set_of_names settings (drop (i + 1) names)) ≡ whole
named_more settings names i d set grown n whole within number more so =
    grown_all set grown n (set_of_names settings (drop (i + 1) names)) more
    ∙ ap (option_map (joined set)) (sym (found settings (slice_index_or names i d) (drop (i + 1) names) n number))
    ∙ ap (λ (rest : List (List ℕ)). option_map (joined set) (set_of_names settings rest)) (sym (rest_at names i d within)) ∙ so
