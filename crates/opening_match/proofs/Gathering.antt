-- Places are gathered entry by entry and branch by branch.
use Rattle.std.proofs.Common.{◌≡◌, ◌≢◌, ◌∙◌, ℕ, ◌+◌, ◌-◌, ◌<◌, ◌≤◌, List, [], ◌∷◌, ◌++◌, length, get_or, take, append_assoc, refl, sym, ap, subst, arith, inl, inr}
use Rattle.std.specs.Prelude.{Contains, IsPermutation}
use Rattle.std.proofs.lemmas.Bool.{cases_lt}
use Rattle.std.proofs.lemmas.List.{take_all, length-append, get_or_append_left, get_or-append-add, get_or-append_right, get_or_default}
use Rattle.std.proofs.lemmas.List.Elements.{Contains-append_left, Contains-append_right, Contains-append_cases, Contains-push_cases, Contains-get_or}
use Rattle.std.proofs.lemmas.List.Sorted.{Contains-permutation, IsPermutation-sym}
use Rattle.venue_types.proofs.Items.{Contains-nil}
use Rattle.venue_types.specs.declared.feature_id.FeatureId.{FeatureId}
use Rattle.venue_types.specs.declared.features.UnitRow.{UnitRow}
use Rattle.venue_types.specs.declared.point.Point.{Point}
use Rattle.venue_types.specs.declared.point.Shape.{Shape}
use Rattle.plane_exact.specs.Figure.{AllNearby, all_edges, vertices, IsNear}
use Rattle.plane_exact.specs.Plane.{IsNearby}
use Rattle.plane_exact.specs.Segment.{IsNearEdge}
use Rattle.opening_match.specs.declared.around.Sought.{Sought}
use Rattle.opening_match.specs.declared.edges.Edge.{Edge}
use Rattle.opening_match.specs.declared.entries.Entry.{Entry}
use Rattle.opening_match.specs.declared.extents.Extent.{Extent}
use Rattle.opening_match.specs.Around.{AreAround, AddsAround, AddsOfLevel, AreCandidates}
use Rattle.opening_match.specs.Edges.{AreEdges, IsAtEdge, kept_edge}
use Rattle.opening_match.specs.Entries.{AreApart, start_of}
use Rattle.opening_match.specs.Extents.{IsWithin}
use Rattle.opening_match.specs.Places.{AreDistinct}
use Rattle.opening_match.proofs.Items.{one_more}
use Rattle.opening_match.proofs.Placing.{places_none, taken, passed, all_taken}

-- ---- items one by one

-- none of the first items, nor of one more
pub none_of_more : {X : Type 0} (P : X → Type 0) (xs : List X) (i : ℕ) (x : X) → i < length xs → x ≡ get_or xs i x → ((y : X) → Contains (take i xs) y → ¬ P y) → ¬ P x → (y : X) → Contains (take (i + 1) xs) y → ¬ P y
none_of_more {X} P xs i x within is before fails y h = elim (Contains-push_cases (take i xs) x y (subst (λ (ys : List X). Contains ys y) (one_more xs i x within is) h)) [
  | inl there ↦ before y there
  | inr here ↦ λ holds. fails (subst P (sym here) holds)
]

pub none_of_all : {X : Type 0} (P : X → Type 0) (xs : List X) (i : ℕ) → length xs ≤ i → ((y : X) → Contains (take i xs) y → ¬ P y) → (y : X) → Contains xs y → ¬ P y
none_of_all {X} P xs i past none y h = none y (subst (λ (ys : List X). Contains ys y) (sym (take_all i xs past)) h)

-- ---- the entries of a level

abbrev place_of : Entry → ℕ
place_of e = e.place

abbrev pub HasLevel : FeatureId → Entry → Type 0
HasLevel level e = e.level ≡ level

-- levels of one number are one level
pub same_level : (a b : FeatureId) → a.0 ≡ b.0 → a ≡ b
same_level a b e = ap made e where
  made : ℕ → FeatureId
  made n = record { 0 = n }

appended_none : (old : List ℕ) → old ≡ old ++ []
appended_none [] = refl
appended_none (o ∷ old) = ap (λ (xs : List ℕ). o ∷ xs) (appended_none old)

pub level_none : (level : FeatureId) (old : List ℕ) → AddsOfLevel level [] old old
level_none level old = ([], appended_none old, places_none place_of (HasLevel level))

pub level_taken : (level : FeatureId) (entries : List Entry) (i : ℕ) (e : Entry) (old now next : List ℕ) → AreApart entries → i < length entries → e ≡ get_or entries i e → e.level ≡ level → next ≡ now ++ e.place ∷ [] → AddsOfLevel level (take i entries) old now → AddsOfLevel level (take (i + 1) entries) old next
level_taken level entries i e old now next apart within is holds more (added, from, are) = (
  added ++ e.place ∷ [],
  more ∙ ap (λ (xs : List ℕ). xs ++ e.place ∷ []) from ∙ append_assoc old added (e.place ∷ []),
  taken place_of (HasLevel level) entries i e added (added ++ e.place ∷ []) apart within is holds refl are,
)

pub level_passed : (level : FeatureId) (entries : List Entry) (i : ℕ) (e : Entry) (old now : List ℕ) → i < length entries → e ≡ get_or entries i e → ¬ (e.level ≡ level) → AddsOfLevel level (take i entries) old now → AddsOfLevel level (take (i + 1) entries) old now
level_passed level entries i e old now within is fails (added, from, are) = (added, from, passed place_of (HasLevel level) entries i e added within is fails are)

pub level_all : (level : FeatureId) (entries : List Entry) (i : ℕ) (old now : List ℕ) → length entries ≤ i → AddsOfLevel level (take i entries) old now → AddsOfLevel level entries old now
level_all level entries i old now past (added, from, are) = (added, from, all_taken place_of (HasLevel level) entries i added past are)

-- ---- branch by branch

-- the level of an entry within an extent is one of the extent
pub has_its_level : (extent : Extent) (e : Entry) (level : FeatureId) → e.level ≡ level → IsWithin extent e → (extent.least.0 ≤ level.0) × (level.0 ≤ extent.greatest.0)
has_its_level extent e level same within = subst (λ (l : FeatureId). (extent.least.0 ≤ l.0) × (l.0 ≤ extent.greatest.0)) same (within.least, within.greatest)

-- all of the level are more than enough
pub level_around : (sought : Sought) (entries : List Entry) (old new : List ℕ) → AddsOfLevel sought.level entries old new → AddsAround sought entries old new
level_around sought entries old new (added, from, are) = (
  added,
  from,
  record {
    only = λ o h. are.only o h;
    whole = λ e edge own level has at. are.whole e own level;
    distinct = are.distinct;
  },
)

-- no entry is at an edge
pub none_around : (sought : Sought) (entries : List Entry) (old : List ℕ) → ((e : Entry) (edge : Edge) → Contains entries e → e.level ≡ sought.level → Contains sought.edges.now edge → IsAtEdge sought.tolerance e edge → ⊥) → AddsAround sought entries old old
none_around sought entries old none = (
  [],
  appended_none old,
  record {
    only = λ o h. absurd (Contains-nil o h);
    whole = λ e edge own level has at. absurd (none e edge own level has at);
    distinct = λ i j d under within. absurd (omega (arith, within));
  },
)

distinct_both : (xs ys : List ℕ) → AreDistinct xs → AreDistinct ys → ((x y : ℕ) → Contains xs x → Contains ys y → x ≢ y) → AreDistinct (xs ++ ys)
distinct_both xs ys first second across i j d under within same = elim (cases_lt j (length xs)) [
  | inl low ↦ first i j d under low (sym (get_or_append_left xs ys d i (omega (arith, under, low))) ∙ same ∙ get_or_append_left xs ys d j low)
  | inr high ↦
      let behind : j - length xs < length ys = omega (arith, within, high, length-append xs ys) in
      let there = get_or-append_right xs ys (length xs) j d refl high in
      elim (cases_lt i (length xs)) [
        | inl low ↦ across (get_or xs i d) (get_or ys (j - length xs) d) (Contains-get_or xs i d low) (Contains-get_or ys (j - length xs) d behind) (sym (get_or_append_left xs ys d i low) ∙ same ∙ there)
        | inr far ↦ second (i - length xs) (j - length xs) d (omega (arith, under, far)) behind (sym (get_or-append_right xs ys (length xs) i d refl far) ∙ same ∙ there)
      ]
]

apart_across : (front back : List Entry) → AreApart (front ++ back) → (e f : Entry) → Contains front e → Contains back f → e.place ≢ f.place
apart_across front back apart e f (i, low, here) (j, far, there) same =
    let within : length front + j < length (front ++ back) = omega (arith, far, length-append front back) in
    apart i (length front + j) e (omega (arith, low)) within
    (ap place_of (get_or_append_left front back e i low ∙ here) ∙ same ∙ sym (ap place_of (get_or-append-add front back j e ∙ get_or_default back j e f far ∙ there)))

-- the halves of entries that lie apart lie apart
pub apart_front : (whole front back : List Entry) → whole ≡ front ++ back → AreApart whole → AreApart front
apart_front whole front back parts apart i j d under within same =
    let halves : AreApart (front ++ back) = subst AreApart parts apart in
    halves i j d under (omega (arith, within, length-append front back))
    (ap place_of (get_or_append_left front back d i (omega (arith, under, within))) ∙ same ∙ sym (ap place_of (get_or_append_left front back d j within)))

pub apart_back : (whole front back : List Entry) → whole ≡ front ++ back → AreApart whole → AreApart back
apart_back whole front back parts apart i j d under within same =
    let halves : AreApart (front ++ back) = subst AreApart parts apart in
    halves (length front + i) (length front + j) d (omega (arith, under)) (omega (arith, within, length-append front back))
    (ap place_of (get_or-append-add front back i d) ∙ same ∙ sym (ap place_of (get_or-append-add front back j d)))

pub both_around : (sought : Sought) (whole front back : List Entry) (old between new : List ℕ) → whole ≡ front ++ back → AreApart whole → AddsAround sought front old between → AddsAround sought back between new → AddsAround sought whole old new
both_around sought whole front back old between new parts apart (first, from, one) (second, next, two) =
    let across = apart_across front back (subst AreApart parts apart) in (
      first ++ second,
      next ∙ ap (λ (xs : List ℕ). xs ++ second) from ∙ append_assoc old first second,
      record {
        only = λ o h. elim (Contains-append_cases first second o h) [
          | inl there ↦ let w = one.only o there in (w.0, subst (λ (es : List Entry). Contains es w.0) (sym parts) (Contains-append_left front back w.0 w.1), w.2, w.3)
          | inr there ↦ let w = two.only o there in (w.0, subst (λ (es : List Entry). Contains es w.0) (sym parts) (Contains-append_right front back w.0 w.1), w.2, w.3)
        ];
        whole = λ e edge own level has at. elim (Contains-append_cases front back e (subst (λ (es : List Entry). Contains es e) parts own)) [
          | inl there ↦ Contains-append_left first second e.place (one.whole e edge there level has at)
          | inr there ↦ Contains-append_right first second e.place (two.whole e edge there level has at)
        ];
        distinct = distinct_both first second one.distinct two.distinct (λ x y h k same.
            let v = one.only x h in
            let w = two.only y k in
            across v.0 w.0 v.1 w.1 (v.2 ∙ same ∙ sym w.2));
      },
    )

-- ---- near a border

-- where a position is near a shape, it is near one of the edges that are kept
near_kept : (p : Point) (shape : Shape) (t : ℕ) (kept : List Edge) → AreEdges (all_edges shape) (vertices shape) kept → AllNearby (p ∷ vertices shape) → IsNear p shape t
    → (edge : Edge) × Contains kept edge × IsNearby edge.from edge.to × IsNearby edge.from p × IsNearEdge p edge.from edge.to t
unfolding IsNear
near_kept p shape t kept are close (k, edge, within, at, near) =
    let own = are.has edge (k, within, at) in
    elim (are.only (kept_edge edge) own) [
      | inl none ↦ absurd (Contains-nil (kept_edge edge) none)
      | inr ends ↦ let from = Contains-append_right (p ∷ []) (vertices shape) edge.from ends.0 in
          let to = Contains-append_right (p ∷ []) (vertices shape) edge.to ends.1 in
          (kept_edge edge, own, close.near edge.from edge.to from to, close.near edge.from p from (0, omega arith, refl), near)
    ]

pub candidates_of : (sought : Sought) (unit : UnitRow) (kept : List Edge) (entries : List Entry) (old places : List ℕ) → sought.level ≡ unit.level → sought.edges.now ≡ kept → AreEdges (all_edges unit.shape) (vertices unit.shape) kept → old ≡ [] → AddsAround sought entries old places → AreCandidates sought.tolerance unit entries places
candidates_of sought unit kept entries old places same is are empty (added, from, around) =
    let all : added ≡ places = sym (from ∙ ap (λ (xs : List ℕ). xs ++ added) empty) in
    let here = subst (λ (xs : List ℕ). AreAround sought entries xs) all around in
    record {
      only = λ o h. let w = here.only o h in (w.0, w.1, w.2, w.3 ∙ same);
      whole = λ e own level close near.
          let w = near_kept (start_of e) unit.shape sought.tolerance kept are close near in
          here.whole e w.0 own (level ∙ sym same) (subst (λ (edges : List Edge). Contains edges w.0) (sym is) w.1) (record { span = w.2; close = w.3; near = w.4 });
      distinct = here.distinct;
    }

-- the same entries in another order
pub moved_candidates : (t : ℕ) (unit : UnitRow) (entries moved : List Entry) (places : List ℕ) → IsPermutation entries moved → AreCandidates t unit moved places → AreCandidates t unit entries places
moved_candidates t unit entries moved places same among = record {
  only = λ o h. let w = among.only o h in (w.0, Contains-permutation moved entries w.0 (IsPermutation-sym entries moved same) w.1, w.2, w.3);
  whole = λ e own level close near. among.whole e (Contains-permutation entries moved e same own) level close near;
  distinct = among.distinct;
}
