-- Who is blind, who hosts whom, and who is joined.
use Rattle.std.proofs.Common.{◌≡◌, ◌⊎◌, ◌↔◌, ℕ, zero, suc, Bool, true, false, not, ◌&&◌, ◌||◌, ◌==◌, ◌<◌, ◌≤◌, cond, get_or, List, [], ◌∷◌, filter, Option, Some, None, Any, refl, sym, ap, subst, ◌∙◌, arith, inl, inr}
use Rattle.std.specs.Prelude.{Contains}
use Rattle.std.specs.List.{list_all}
use Rattle.std.specs.Option.{option_map_or}
use Rattle.std.proofs.lemmas.Bool.{cases_Bool, cases_eq, cond_both, or_cases, or_left, or_right, and_parts, and_cases, and_from, and_left, or_from, false_from_ne_true, eqb-true, eqb-false, eq-eqb, ne_eqb, not_from_false}
use Rattle.std.proofs.lemmas.List.Elements.{All-contains, Contains-get_or, All-filter, All-contains_itself, filter_passes}
use Rattle.std.proofs.lemmas.List.Sums.{AllPass-from_list_all}
use Rattle.unit_sight.specs.Joined.{is_blind, are_blind, seeing, host_of, is_guest_of, is_joined}
use Rattle.unit_sight.proofs.NearestLemmas.{IsNoFurther, IsFirst, nearest_first, nearest_none}

-- ---- tests and lists

false_from_not : (x : Bool) → not x ≡ true → x ≡ false
false_from_not true h = absurd (cc)
false_from_not false h = refl

true_from_not : (x : Bool) → not x ≡ false → x ≡ true
true_from_not true h = refl
true_from_not false h = absurd (cc)

both_true_false : {A : Type 0} (x : Bool) → x ≡ true → x ≡ false → A
both_true_false x one other = absurd (cc)

and_when : (x y : Bool) → (x ≡ true → y ≡ true) → (x && y) ≡ x
and_when true y h = h refl
and_when false y h = refl

passes_at : (test : ℕ → Bool) (xs : List ℕ) (b : ℕ) → list_all test xs ≡ true → Contains xs b → test b ≡ true
passes_at test xs b h at = All-contains (λ x. test x ≡ true) xs b (AllPass-from_list_all test xs h) at

-- where not all pass, some member doesn't
fails_at : (test : ℕ → Bool) (xs : List ℕ) → list_all test xs ≡ false → (b : ℕ) × Contains xs b × (test b ≡ false)
fails_at test [] h = absurd (cc)
fails_at test (x ∷ xs) h = elim (and_cases (test x) (list_all test xs) h) [
  | inl here ↦ (x, (0, omega arith, refl), here)
  | inr further ↦ let (b, at, is) = fails_at test xs further in (b, (suc at.0, omega (arith, at.1), at.2), is)
]

first_or_more : (x : ℕ) (xs : List ℕ) (z : ℕ) → Contains (x ∷ xs) z → (x ≡ z) ⊎ Contains xs z
first_or_more x xs z (zero, within, is) = inl is
first_or_more x xs z (suc k, within, is) = inr (k, omega (arith, within), is)

filter_has : (test : ℕ → Bool) (xs : List ℕ) (b : ℕ) → Contains xs b → test b ≡ true → Contains (filter test xs) b
filter_has test [] b at h = absurd (omega (arith, at.1))
filter_has test (x ∷ xs) b at h =
    cond_both (test x) (x ∷ filter test xs) (filter test xs) (λ (ys : List ℕ). Contains ys b)
    (λ here. elim (first_or_more x xs b at) [
      | inl same ↦ (0, omega arith, same)
      | inr more ↦ let rest = filter_has test xs b more h in (suc rest.0, omega (arith, rest.1), rest.2)
    ])
    (λ fails. elim (first_or_more x xs b at) [
      | inl same ↦ both_true_false (test b) h (ap test (sym same) ∙ fails)
      | inr more ↦ filter_has test xs b more h
    ])

filter_is : (test : ℕ → Bool) (xs : List ℕ) (b : ℕ) → Contains (filter test xs) b → Contains xs b × (test b ≡ true)
filter_is test xs b at = (
  All-contains (Contains xs) (filter test xs) b (All-filter test (Contains xs) xs (All-contains_itself xs)) at,
  All-contains (λ x. test x ≡ true) (filter test xs) b (filter_passes test xs) at,
)

some_or_none : (o : Option ℕ) → (o ≡ None) ⊎ ((b : ℕ) × (o ≡ Some b))
some_or_none None = inl refl
some_or_none (Some b) = inr (b, refl)

to_any : (P : ℕ → Type 0) (xs : List ℕ) (b : ℕ) → Contains xs b → P b → Any P xs
to_any P xs b at is = (at.0, b, at.1, at.2, is)

-- ---- who is blind

blind_sees_none : (sees : ℕ → ℕ → Bool) (members : List ℕ) (a b : ℕ) → is_blind sees members a ≡ true → Contains members b → ¬ (a ≡ b) → sees a b ≡ false
blind_sees_none sees members a b blind at other = elim (or_cases (a == b) (not (sees a b)) (passes_at (λ c. (a == c) || not (sees a c)) members b blind at)) [
  | inl same ↦ absurd (other (eqb-true a b same))
  | inr none ↦ false_from_not (sees a b) none
]

or_false_parts : (x y : Bool) → (x || not y) ≡ false → (x ≡ false) × (y ≡ true)
or_false_parts true y h = absurd (cc)
or_false_parts false y h = (refl, true_from_not y h)

seeing_sees_some : (sees : ℕ → ℕ → Bool) (members : List ℕ) (a : ℕ) → is_blind sees members a ≡ false
    → (b : ℕ) × Contains members b × ((¬ (a ≡ b)) × (sees a b ≡ true))
seeing_sees_some sees members a not_blind =
    let (b, at, fails) = fails_at (λ c. (a == c) || not (sees a c)) members not_blind in
    let parts = or_false_parts (a == b) (sees a b) fails in
    (b, at, (eqb-false a b parts.0, parts.1))

not_all_blind : (sees : ℕ → ℕ → Bool) (members : List ℕ) (c : ℕ) → Contains members c → is_blind sees members c ≡ false → are_blind sees members ≡ true → ⊥
not_all_blind sees members c at sighted all = both_true_false (is_blind sees members c) (passes_at (is_blind sees members) members c all at) sighted

-- ---- hosts

pub host_sees : (sees : ℕ → ℕ → Bool) (far : ℕ → ℕ → ℕ) (members : List ℕ) (a b : ℕ) → host_of sees far members a ≡ Some b → Contains members b × (is_blind sees members b ≡ false)
host_sees sees far members a b is =
    let first : IsFirst (far a) (seeing sees members) b = (nearest_first (far a) (seeing sees members) b).0 is in
    let parts = filter_is (λ c. not (is_blind sees members c)) members b first.has in
    (parts.0, false_from_not (is_blind sees members b) parts.1)

has_host : (sees : ℕ → ℕ → Bool) (far : ℕ → ℕ → ℕ) (members : List ℕ) (a c : ℕ) → Contains members c → is_blind sees members c ≡ false → (b : ℕ) × (host_of sees far members a ≡ Some b)
has_host sees far members a c at sighted = elim (some_or_none (host_of sees far members a)) [
  | inl none ↦
      let empty : seeing sees members ≡ [] = (nearest_none (far a) (seeing sees members)).0 none in
      let has : Contains (seeing sees members) c = filter_has (λ d. not (is_blind sees members d)) members c at (not_from_false (is_blind sees members c) sighted) in
      let nowhere : Contains [] c = subst (λ (ys : List ℕ). Contains ys c) empty has in
      absurd (omega (arith, nowhere.1))
  | inr some ↦ some
]

pub hosted : (sees : ℕ → ℕ → Bool) (far : ℕ → ℕ → ℕ) (members : List ℕ) (a c : ℕ) → Contains members c → is_blind sees members c ≡ false → Any (λ b. host_of sees far members a ≡ Some b) members
hosted sees far members a c at sighted =
    let (b, is) = has_host sees far members a c at sighted in
    to_any (λ (d : ℕ). host_of sees far members a ≡ Some d) members b (host_sees sees far members a b is).0 is

-- who isn't blind differs from who is
differs : (sees : ℕ → ℕ → Bool) (members : List ℕ) (a b : ℕ) → is_blind sees members a ≡ true → is_blind sees members b ≡ false → ¬ (a ≡ b)
differs sees members a b blind sighted same = both_true_false (is_blind sees members b) (ap (is_blind sees members) (sym same) ∙ blind) sighted

is_that_host : (o : Option ℕ) (b : ℕ) → option_map_or (λ host. host == b) o false ≡ true → o ≡ Some b
is_that_host None b h = absurd (cc)
is_that_host (Some c) b h = ap Some (eqb-true c b h)

that_host_is : (o : Option ℕ) (b : ℕ) → o ≡ Some b → option_map_or (λ host. host == b) o false ≡ true
that_host_is o b is = ap (λ (p : Option ℕ). option_map_or (λ host. host == b) p false) is ∙ eq-eqb b b refl

guest_parts : (sees : ℕ → ℕ → Bool) (far : ℕ → ℕ → ℕ) (members : List ℕ) (a b : ℕ) → is_guest_of sees far members a b ≡ true → (is_blind sees members a ≡ true) × (host_of sees far members a ≡ Some b)
guest_parts sees far members a b h =
    let parts = and_parts (is_blind sees members a) (option_map_or (λ host. host == b) (host_of sees far members a) false) h in
    (parts.0, is_that_host (host_of sees far members a) b parts.1)

guest_from : (sees : ℕ → ℕ → Bool) (far : ℕ → ℕ → ℕ) (members : List ℕ) (a b : ℕ) → is_blind sees members a ≡ true → host_of sees far members a ≡ Some b → is_guest_of sees far members a b ≡ true
guest_from sees far members a b blind is =
    and_from (is_blind sees members a) (option_map_or (λ host. host == b) (host_of sees far members a) false) blind (that_host_is (host_of sees far members a) b is)

-- ---- who is joined

-- the test of joined, by its parts
abbrev joined_by : Bool → Bool → Bool → Bool → Bool → Bool
joined_by same seen guest host blind = not same && (seen || ((guest || host) || blind))

by_parts : (same seen guest host blind : Bool) → joined_by same seen guest host blind ≡ true
    → (same ≡ false) × ((seen ≡ true) ⊎ ((guest ≡ true) ⊎ ((host ≡ true) ⊎ (blind ≡ true))))
by_parts same seen guest host blind h =
    let parts = and_parts (not same) (seen || ((guest || host) || blind)) h in (
      false_from_not same parts.0,
      elim (or_cases seen ((guest || host) || blind) parts.1) [
        | inl one ↦ inl one
        | inr others ↦ elim (or_cases (guest || host) blind others) [
          | inl tied ↦ elim (or_cases guest host tied) [ inl two ↦ inr (inl two) | inr three ↦ inr (inr (inl three)) ]
          | inr four ↦ inr (inr (inr four))
        ]
      ],
    )

joined_parts : (sees : ℕ → ℕ → Bool) (far : ℕ → ℕ → ℕ) (members : List ℕ) (a b : ℕ) → is_joined sees far members a b ≡ true
    → (¬ (a ≡ b)) × ((sees a b ≡ true) ⊎ ((is_guest_of sees far members a b ≡ true) ⊎ ((is_guest_of sees far members b a ≡ true) ⊎ (are_blind sees members ≡ true))))
unfolding is_joined
joined_parts sees far members a b h =
    let parts = by_parts (a == b) (sees a b) (is_guest_of sees far members a b) (is_guest_of sees far members b a) (are_blind sees members) h in
    (eqb-false a b parts.0, parts.1)

by_sight : (sees : ℕ → ℕ → Bool) (far : ℕ → ℕ → ℕ) (members : List ℕ) (a b : ℕ) → ¬ (a ≡ b) → sees a b ≡ true → is_joined sees far members a b ≡ true
unfolding is_joined
by_sight sees far members a b other seen =
    let guest = is_guest_of sees far members a b || is_guest_of sees far members b a in
    and_from (not (a == b)) (sees a b || (guest || are_blind sees members)) (not_from_false (a == b) (ne_eqb a b other)) (or_left (sees a b) (guest || are_blind sees members) seen)

by_host : (sees : ℕ → ℕ → Bool) (far : ℕ → ℕ → ℕ) (members : List ℕ) (a b : ℕ) → ¬ (a ≡ b) → is_guest_of sees far members a b ≡ true → is_joined sees far members a b ≡ true
unfolding is_joined
by_host sees far members a b other is =
    let back = is_guest_of sees far members b a in
    let guest = is_guest_of sees far members a b || back in
    and_from (not (a == b)) (sees a b || (guest || are_blind sees members)) (not_from_false (a == b) (ne_eqb a b other))
    (or_right (sees a b) (guest || are_blind sees members) (or_left guest (are_blind sees members) (or_left (is_guest_of sees far members a b) back is)))

-- where all are blind, any two are joined
pub blind_whole : (sees : ℕ → ℕ → Bool) (far : ℕ → ℕ → ℕ) (members : List ℕ) (a b : ℕ) → are_blind sees members ≡ true → is_joined sees far members a b ≡ not (a == b)
unfolding is_joined
blind_whole sees far members a b all =
    let guest = is_guest_of sees far members a b || is_guest_of sees far members b a in
    and_when (not (a == b)) (sees a b || (guest || are_blind sees members))
    (λ other. or_right (sees a b) (guest || are_blind sees members) (or_right guest (are_blind sees members) all))

-- where all see all others, any two are joined
pub seeing_whole : (sees : ℕ → ℕ → Bool) (far : ℕ → ℕ → ℕ) (members : List ℕ) (a b : ℕ) → ((c d : ℕ) → Contains members c → Contains members d → ¬ (c ≡ d) → sees c d ≡ true)
    → Contains members a → Contains members b → is_joined sees far members a b ≡ not (a == b)
unfolding is_joined
seeing_whole sees far members a b all at at' =
    let guest = is_guest_of sees far members a b || is_guest_of sees far members b a in
    and_when (not (a == b)) (sees a b || (guest || are_blind sees members))
    (λ other. or_left (sees a b) (guest || are_blind sees members) (all a b at at' (eqb-false a b (false_from_not (a == b) other))))

-- a blind member is joined to its host alone
pub guest_alone : (sees : ℕ → ℕ → Bool) (far : ℕ → ℕ → ℕ) (members : List ℕ) (a b c : ℕ) → Contains members c → is_blind sees members c ≡ false → is_blind sees members a ≡ true → Contains members b
    → (is_joined sees far members a b ≡ true) ↔ (host_of sees far members a ≡ Some b)
guest_alone sees far members a b c at sighted blind at' = (
  (λ h.
      let parts = joined_parts sees far members a b h in
      elim parts.1 [
        | inl seen ↦ both_true_false (sees a b) seen (blind_sees_none sees members a b blind at' parts.0)
        | inr (inl guest) ↦ (guest_parts sees far members a b guest).1
        | inr (inr (inl host)) ↦
            let back = guest_parts sees far members b a host in
            both_true_false (is_blind sees members a) blind (host_sees sees far members b a back.1).1
        | inr (inr (inr all)) ↦ absurd (not_all_blind sees members c at sighted all)
      ]),
  (λ is. by_host sees far members a b (differs sees members a b blind (host_sees sees far members a b is).1) (guest_from sees far members a b blind is)),
)

-- ---- each is joined to some other

joined_to : (sees : ℕ → ℕ → Bool) (far : ℕ → ℕ → ℕ) (members : List ℕ) (a b : ℕ) → Contains members b → is_joined sees far members a b ≡ true → Any (λ d. is_joined sees far members a d ≡ true) members
joined_to sees far members a b at is = to_any (λ (d : ℕ). is_joined sees far members a d ≡ true) members b at is

-- a blind member among some that aren't all blind
guest_joined : (sees : ℕ → ℕ → Bool) (far : ℕ → ℕ → ℕ) (members : List ℕ) (a : ℕ) → is_blind sees members a ≡ true → are_blind sees members ≡ false → Any (λ d. is_joined sees far members a d ≡ true) members
guest_joined sees far members a blind some =
    let (c, at, sighted) = fails_at (is_blind sees members) members some in
    let (b, is) = has_host sees far members a c at sighted in
    let sees_one = host_sees sees far members a b is in
    joined_to sees far members a b sees_one.0 ((guest_alone sees far members a b c at sighted blind sees_one.0).1 is)

sighted_joined : (sees : ℕ → ℕ → Bool) (far : ℕ → ℕ → ℕ) (members : List ℕ) (a : ℕ) → is_blind sees members a ≡ false → Any (λ d. is_joined sees far members a d ≡ true) members
sighted_joined sees far members a sighted =
    let (b, at, seen) = seeing_sees_some sees members a sighted in
    joined_to sees far members a b at (by_sight sees far members a b seen.0 seen.1)

-- another member than a
one_joined : (sees : ℕ → ℕ → Bool) (far : ℕ → ℕ → ℕ) (members : List ℕ) (a c : ℕ) → Contains members c → ¬ (a ≡ c) → Any (λ d. is_joined sees far members a d ≡ true) members
one_joined sees far members a c at other = elim (cases_Bool (are_blind sees members)) [
  | inl all ↦ joined_to sees far members a c at (blind_whole sees far members a c all ∙ not_from_false (a == c) (ne_eqb a c other))
  | inr some ↦ elim (cases_Bool (is_blind sees members a)) [
    | inl blind ↦ guest_joined sees far members a blind some
    | inr sighted ↦ sighted_joined sees far members a sighted
  ]
]

pub each_joined : (sees : ℕ → ℕ → Bool) (far : ℕ → ℕ → ℕ) (members : List ℕ) (a c d : ℕ) → Contains members c → Contains members d → ¬ (c ≡ d) → Any (λ b. is_joined sees far members a b ≡ true) members
each_joined sees far members a c d at at' two = elim (cases_eq a c) [
  | inl same ↦ one_joined sees far members a d at' (λ e. two (sym same ∙ e))
  | inr other ↦ one_joined sees far members a c at other
]

-- ---- which member is the host

-- b is the first of those that aren't blind
abbrev IsFirstSighted : (ℕ → ℕ → Bool) → (ℕ → ℕ) → List ℕ → ℕ → Type 0
IsFirstSighted sees far members b =
    Contains members b × (is_blind sees members b ≡ false) × ((c : ℕ) → Contains members c → is_blind sees members c ≡ false → (far b < far c) ⊎ ((far b ≡ far c) × (b ≤ c)))

first_from : (sees : ℕ → ℕ → Bool) (far : ℕ → ℕ) (members : List ℕ) (b : ℕ) → IsFirst far (seeing sees members) b → IsFirstSighted sees far members b
first_from sees far members b first =
    let test : ℕ → Bool = λ c. not (is_blind sees members c) in
    let parts = filter_is test members b first.has in (
      parts.0,
      false_from_not (is_blind sees members b) parts.1,
      λ c at sighted.
          All-contains (IsNoFurther far b) (seeing sees members) c first.least (filter_has test members c at (not_from_false (is_blind sees members c) sighted)),
    )

first_to : (sees : ℕ → ℕ → Bool) (far : ℕ → ℕ) (members : List ℕ) (b : ℕ) → IsFirstSighted sees far members b → IsFirst far (seeing sees members) b
first_to sees far members b is =
    let test : ℕ → Bool = λ c. not (is_blind sees members c) in
    record {
      has = filter_has test members b is.0 (not_from_false (is_blind sees members b) is.1);
      least = λ k d within.
          let parts = filter_is test members (get_or (seeing sees members) k d) (Contains-get_or (seeing sees members) k d within) in
          is.2 (get_or (seeing sees members) k d) parts.0 (false_from_not (is_blind sees members (get_or (seeing sees members) k d)) parts.1);
    }

pub host_first : (sees : ℕ → ℕ → Bool) (far : ℕ → ℕ → ℕ) (members : List ℕ) (a b : ℕ) → (host_of sees far members a ≡ Some b) ↔ IsFirstSighted sees (far a) members b
host_first sees far members a b = (
  (λ is. first_from sees (far a) members b ((nearest_first (far a) (seeing sees members) b).0 is)),
  (λ first. (nearest_first (far a) (seeing sees members) b).1 (first_to sees (far a) members b first)),
)

-- where none passes, nothing is kept
filter_none : (test : ℕ → Bool) (xs : List ℕ) → list_all (λ x. test x) xs ≡ true → filter (λ x. not (test x)) xs ≡ []
filter_none test [] h = refl
filter_none test (x ∷ xs) h =
    let parts = and_parts (test x) (list_all (λ y. test y) xs) h in
    ap (λ (b : Bool). cond (not b) (x ∷ filter (λ y. not (test y)) xs) (filter (λ y. not (test y)) xs)) parts.0 ∙ filter_none test xs parts.1

pub host_none : (sees : ℕ → ℕ → Bool) (far : ℕ → ℕ → ℕ) (members : List ℕ) (a : ℕ) → (host_of sees far members a ≡ None) ↔ (are_blind sees members ≡ true)
host_none sees far members a = (
  (λ none. elim (cases_Bool (are_blind sees members)) [
    | inl all ↦ all
    | inr some ↦
        let (c, at, sighted) = fails_at (is_blind sees members) members some in
        let (b, is) = has_host sees far members a c at sighted in
        absurd (cc)
  ]),
  (λ all. (nearest_none (far a) (seeing sees members)).1 (filter_none (is_blind sees members) members all)),
)

-- ---- two members that aren't blind

not_guest : (sees : ℕ → ℕ → Bool) (far : ℕ → ℕ → ℕ) (members : List ℕ) (a b : ℕ) → is_blind sees members a ≡ false → is_guest_of sees far members a b ≡ false
not_guest sees far members a b sighted = and_left (is_blind sees members a) (option_map_or (λ host. host == b) (host_of sees far members a) false) sighted

only_seen : (same seen guest host blind : Bool) → guest ≡ false → host ≡ false → blind ≡ false → joined_by same seen guest host blind ≡ (not same && seen)
only_seen same true guest host blind one two three = refl
only_seen same false guest host blind one two three = ap (λ (x : Bool). not same && x) (or_from (guest || host) blind (or_from guest host one two) three)

pub sighted_see : (sees : ℕ → ℕ → Bool) (far : ℕ → ℕ → ℕ) (members : List ℕ) (a b : ℕ) → Contains members a → is_blind sees members a ≡ false → is_blind sees members b ≡ false
    → is_joined sees far members a b ≡ (not (a == b) && sees a b)
unfolding is_joined
sighted_see sees far members a b at one other =
    only_seen (a == b) (sees a b) (is_guest_of sees far members a b) (is_guest_of sees far members b a) (are_blind sees members)
    (not_guest sees far members a b one) (not_guest sees far members b a other) (false_from_ne_true (are_blind sees members) (not_all_blind sees members a at one))
