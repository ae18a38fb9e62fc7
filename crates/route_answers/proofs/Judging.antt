-- The tests of what a profile passes say what is meant by it.
use Rattle.std.proofs.Common.{◌≡◌, ◌↔◌, Bool, true, false, not, ◌&&◌, ◌||◌, IsTrue, refl, sym}
use Rattle.venue_types.specs.declared.kind.Kind.{Kind}
use Rattle.venue_types.specs.declared.link.Link.{Link}
use Rattle.venue_types.specs.declared.link.LinkFacts.{LinkFacts}
use Rattle.venue_types.specs.declared.settings.Profile.{Profile}
use Rattle.imdf_access.specs.declared.parts.EndFacts.{EndFacts}
use Rattle.imdf_access.specs.Access.{IsAllowed, is_allowed, passes}
use Rattle.imdf_access.specs.Parts.{MayGo, PassesFacts}
use Rattle.link_graph.specs.Networks.{Network, link_facts}
use Rattle.route_answers.specs.Passing.{passes_by, passes_facts, passes_node, passes_link}

-- ---- tests

pub same_test : (b c : Bool) → (IsTrue b → IsTrue c) → (IsTrue c → IsTrue b) → b ≡ c
same_test true c f g = sym (f refl)
same_test false true f g = absurd (let no : false ≡ true = g refl in cc)
same_test false false f g = refl

first_of_both : (a b : Bool) → IsTrue (a && b) → IsTrue a
first_of_both true b h = refl
first_of_both false b h = absurd (cc)

second_of_both : (a b : Bool) → IsTrue (a && b) → IsTrue b
second_of_both true b h = h
second_of_both false b h = absurd (cc)

both : (a b : Bool) → IsTrue a → IsTrue b → IsTrue (a && b)
both true b h k = k
both false b h k = absurd (cc)

granted : (a p : Bool) → IsTrue (not a || p) → IsTrue a → IsTrue p
granted true p h asked = h
granted false p h asked = absurd (cc)

grants : (a p : Bool) → (IsTrue a → IsTrue p) → IsTrue (not a || p)
grants true p f = f refl
grants false p f = refl

is_false : (p : Bool) → IsTrue (not p) → p ≡ false
is_false true h = absurd (let no : false ≡ true = h in cc)
is_false false h = refl

not_false : (p : Bool) → p ≡ false → IsTrue (not p)
not_false true e = absurd (cc)
not_false false e = refl

-- ---- what they say

pub allowed_is : (profile : Profile) (facts : LinkFacts) → IsTrue (is_allowed profile facts) ↔ IsAllowed profile facts
unfolding is_allowed
allowed_is profile facts = (
  λ h. let five = first_of_both _ (not facts.unmarked || not profile.marked) h in
      let four = first_of_both _ (not facts.turnstile || profile.turnstile) five in
      let three = first_of_both _ (not facts.revolving || profile.revolving) four in
      let two = first_of_both _ (not facts.restricted || profile.restricted) three in
      record {
        in_service = is_false facts.out (first_of_both (not facts.out) (passes profile facts.kind) two);
        kind = second_of_both (not facts.out) (passes profile facts.kind) two;
        restricted = granted facts.restricted profile.restricted (second_of_both _ (not facts.restricted || profile.restricted) three);
        revolving = granted facts.revolving profile.revolving (second_of_both _ (not facts.revolving || profile.revolving) four);
        turnstile = granted facts.turnstile profile.turnstile (second_of_both _ (not facts.turnstile || profile.turnstile) five);
        marked = λ asked. is_false profile.marked (granted facts.unmarked (not profile.marked) (second_of_both _ (not facts.unmarked || not profile.marked) h) asked);
      },
  λ h. both _ _ (both _ _ (both _ _ (both _ _ (both _ _ (not_false facts.out h.in_service) h.kind) (grants facts.restricted profile.restricted h.restricted)) (grants facts.revolving profile.revolving h.revolving)) (grants facts.turnstile profile.turnstile h.turnstile))
      (grants facts.unmarked (not profile.marked) (λ asked. not_false profile.marked (h.marked asked))),
)

pub by_is : (profile : Profile) (kind : Kind) (restricted : Bool) → IsTrue (passes_by profile kind restricted) ↔ MayGo profile kind restricted
unfolding passes_by
by_is profile kind restricted = (
  λ h. record {
    kind_granted = first_of_both (passes profile kind) (not restricted || profile.restricted) h;
    unit_granted = granted restricted profile.restricted (second_of_both (passes profile kind) (not restricted || profile.restricted) h);
  },
  λ h. both _ _ h.kind_granted (grants restricted profile.restricted h.unit_granted),
)

pub facts_are : (profile : Profile) (facts : EndFacts) → IsTrue (passes_facts profile facts) ↔ PassesFacts profile facts
unfolding passes_facts
facts_are profile facts = (
  λ h. let four = first_of_both _ (not facts.unmarked || not profile.marked) h in
      let three = first_of_both _ (not facts.turnstile || profile.turnstile) four in
      let two = first_of_both _ (not facts.revolving || profile.revolving) three in
      record {
        in_service = is_false facts.out (first_of_both (not facts.out) (not facts.restricted || profile.restricted) two);
        restricted = granted facts.restricted profile.restricted (second_of_both (not facts.out) (not facts.restricted || profile.restricted) two);
        revolving = granted facts.revolving profile.revolving (second_of_both _ (not facts.revolving || profile.revolving) three);
        turnstile = granted facts.turnstile profile.turnstile (second_of_both _ (not facts.turnstile || profile.turnstile) four);
        marked = λ asked. is_false profile.marked (granted facts.unmarked (not profile.marked) (second_of_both _ (not facts.unmarked || not profile.marked) h) asked);
      },
  λ h. both _ _ (both _ _ (both _ _ (both _ _ (not_false facts.out h.in_service) (grants facts.restricted profile.restricted h.restricted)) (grants facts.revolving profile.revolving h.revolving)) (grants facts.turnstile profile.turnstile h.turnstile))
      (grants facts.unmarked (not profile.marked) (λ asked. not_false profile.marked (h.marked asked))),
)

-- ---- a link by its parts

abbrev pub PartsLaw : Type 0
PartsLaw = (given : Network) (profile : Profile) (link : Link) → IsAllowed profile (link_facts given link) ↔ MayGo profile link.kind (given.barred link.via) × PassesFacts profile (given.ends link.from) × PassesFacts profile (given.ends link.to)

pub link_passes : PartsLaw → (given : Network) (profile : Profile) (link : Link) → passes_link given profile link
    ≡ (passes_by profile link.kind (given.barred link.via) && (passes_node given profile link.from && passes_node given profile link.to))
unfolding passes_link passes_node
link_passes law given profile link =
    let way = passes_by profile link.kind (given.barred link.via) in
    let from = passes_facts profile (given.ends link.from) in
    let to = passes_facts profile (given.ends link.to) in
    let facts = link_facts given link in
    same_test (is_allowed profile facts) (way && (from && to))
    (λ h. let parts = (law given profile link).0 ((allowed_is profile facts).0 h) in
    both way (from && to) ((by_is profile link.kind (given.barred link.via)).1 parts.0)
    (both from to ((facts_are profile (given.ends link.from)).1 parts.1) ((facts_are profile (given.ends link.to)).1 parts.2)))
    (λ h. let ends = second_of_both way (from && to) h in
    (allowed_is profile facts).1 ((law given profile link).1 (
      (by_is profile link.kind (given.barred link.via)).0 (first_of_both way (from && to) h),
      (facts_are profile (given.ends link.from)).0 (first_of_both from to ends),
      (facts_are profile (given.ends link.to)).0 (second_of_both from to ends),
    )))
