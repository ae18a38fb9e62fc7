-- The nodes of the amenities of a category, in one pass over the amenities.
use Rattle.std.proofs.Common.{◌≡◌, ◌≢◌, ◌∙◌, ℕ, zero, suc, ◌+◌, ◌<◌, ◌≤◌, List, [], ◌∷◌, ◌++◌, length, map, get_or, All, Some, true, false, sym, ap, subst, arith, inl, inr}
use Rattle.std.specs.Prelude.{Contains, slice_get, bytes_eq}
use Rattle.std.proofs.lemmas.Bool.{cases_lt}
use Rattle.std.proofs.lemmas.List.{get_or_default, length-append, length-map}
use Rattle.std.proofs.lemmas.List.Elements.{Contains-append_left, Contains-append_right, Contains-append_cases}
use Rattle.std.proofs.lemmas.Option.{slice_get_within}
use Rattle.std.proofs.lemmas.Slice.Eq.{bytes_eq-Decides}
use Rattle.venue_types.specs.declared.features.AmenityRow.{AmenityRow}
use Rattle.venue_types.specs.declared.features.AnchorRow.{AnchorRow}
use Rattle.venue_types.specs.declared.features.Features.{Features}
use Rattle.venue_types.specs.declared.features.OpeningRow.{OpeningRow}
use Rattle.venue_types.specs.declared.features.UnitRow.{UnitRow}
use Rattle.venue_types.specs.declared.settings.Settings.{Settings}
use Rattle.venue_types.proofs.Items.{Contains-nil, Contains-only, Contains-first, IsStrictlyIncreasing-push, at_map}
use Rattle.venue_history.specs.Nodes.{NodeRow, amenity, anchor, opening, unit, node_of_row, place_node_rows, room_corners, node_rows, nodes, walkable_units}
use Rattle.venue_history.specs.Nearest.{AreCandidates, IsCandidate}
use Rattle.venue_state.specs.Nearing.{AreCandidatesTo}

-- ---- texts

pub equal_text : (a b : List ℕ) → bytes_eq a b ≡ true → a ≡ b
equal_text a b is = (bytes_eq-Decides a b).0 is

pub different_text : (a b : List ℕ) → bytes_eq a b ≡ false → a ≢ b
different_text a b is same = let there : bytes_eq a b ≡ true = (bytes_eq-Decides a b).1 same in absurd (cc)

-- ---- amenities are the first nodes

-- no amenity stands there
abbrev Lacks : AmenityRow → List NodeRow → Type 0
Lacks row rows = (n : ℕ) → slice_get rows n ≡ Some (amenity row) → ⊥

lacks_units : (row : AmenityRow) (us : List UnitRow) → Lacks row (map unit us)
lacks_units row [] n e = absurd (cc)
lacks_units row (u ∷ us) zero e = absurd (cc)
lacks_units row (u ∷ us) (suc n) e = lacks_units row us n e

lacks_openings : (row : AmenityRow) (os : List OpeningRow) → Lacks row (map opening os)
lacks_openings row [] n e = absurd (cc)
lacks_openings row (o ∷ os) zero e = absurd (cc)
lacks_openings row (o ∷ os) (suc n) e = lacks_openings row os n e

lacks_anchors : (row : AmenityRow) (bs : List AnchorRow) → Lacks row (map anchor bs)
lacks_anchors row [] n e = absurd (cc)
lacks_anchors row (b ∷ bs) zero e = absurd (cc)
lacks_anchors row (b ∷ bs) (suc n) e = lacks_anchors row bs n e

-- what isn't behind stands in front
in_front : (row : AmenityRow) (rows rest : List NodeRow) → Lacks row rest → (n : ℕ) → slice_get (rows ++ rest) n ≡ Some (amenity row) → slice_get rows n ≡ Some (amenity row)
in_front row [] rest lacks n e = absurd (lacks n e)
in_front row (r ∷ rows) rest lacks zero e = e
in_front row (r ∷ rows) rest lacks (suc n) e = in_front row rows rest lacks n e

-- what stands in front stands in all
in_all : (row : NodeRow) (rows rest : List NodeRow) (n : ℕ) → slice_get rows n ≡ Some row → slice_get (rows ++ rest) n ≡ Some row
in_all row [] rest n e = absurd (cc)
in_all row (r ∷ rows) rest zero e = e
in_all row (r ∷ rows) rest (suc n) e = in_all row rows rest n e

node_low : (features : Features) (row : AmenityRow) (n : ℕ) → slice_get (place_node_rows features) n ≡ Some (amenity row) → n < length features.amenities
unfolding place_node_rows
node_low features row n e =
    let ams = map amenity features.amenities in
    let bs = map anchor features.anchors in
    let os = map opening features.openings in
    let us = map unit (walkable_units features) in
    let here = in_front row ams bs (lacks_anchors row features.anchors) n
    (in_front row (ams ++ bs) os (lacks_openings row features.openings) n (in_front row (ams ++ bs ++ os) us (lacks_units row (walkable_units features)) n e)) in
    let low : n < length ams = slice_get_within ams n (amenity row) here in
    omega (arith, low, length-map features.amenities amenity)

node_there : (features : Features) (n : ℕ) (row : AmenityRow) → slice_get features.amenities n ≡ Some row → slice_get (place_node_rows features) n ≡ Some (amenity row)
unfolding place_node_rows
node_there features n row e =
    let ams = map amenity features.amenities in
    let bs = map anchor features.anchors in
    let os = map opening features.openings in
    let us = map unit (walkable_units features) in
    in_all (amenity row) (ams ++ bs ++ os) us n (in_all (amenity row) (ams ++ bs) os n (in_all (amenity row) ams bs n (at_map amenity features.amenities n row e)))

same_amenity : (a b : AmenityRow) → Some (amenity a) ≡ Some (amenity b) → a ≡ b
same_amenity a b e = cc e

-- ---- one amenity after another

pub begins : (features : Features) (category : List ℕ) → AreCandidatesTo features category 0 []
begins features category = record {
  rising = λ k below. absurd (omega arith);
  exact = λ n. ((λ h. absurd (Contains-nil n h)), (λ (h : (n < 0) × IsCandidate features category n). absurd (omega (arith, h.0))));
}

-- of the amenity at a place
at_place : (features : Features) (category : List ℕ) (k : ℕ) (row : AmenityRow) → slice_get features.amenities k ≡ Some row → IsCandidate features category k → row.category ≡ category
at_place features category k row at is =
    let same : is.0 ≡ row = same_amenity is.0 row (sym is.1 ∙ node_there features k row at) in
    ap (λ (r : AmenityRow). r.category) (sym same) ∙ is.2

pub passed : (features : Features) (category : List ℕ) (k : ℕ) (row : AmenityRow) (found : List ℕ) → slice_get features.amenities k ≡ Some row → row.category ≢ category
    → AreCandidatesTo features category k found → AreCandidatesTo features category (k + 1) found
passed features category k row found at other are = record {
  rising = are.rising;
  exact = λ n. (
    (λ h. let is = (are.exact n).0 h in (omega (arith, is.0), is.1)),
    (λ (is : (n < k + 1) × IsCandidate features category n). elim (cases_lt n k) [
      | inl low ↦ (are.exact n).1 (low, is.1)
      | inr high ↦
          let same : n ≡ k = omega (arith, is.0, high) in
          absurd (other (at_place features category k row at (subst (IsCandidate features category) same is.1)))
    ]),
  );
}

pub taken : (features : Features) (category : List ℕ) (k : ℕ) (row : AmenityRow) (found : List ℕ) → slice_get features.amenities k ≡ Some row → row.category ≡ category
    → AreCandidatesTo features category k found → AreCandidatesTo features category (k + 1) (found ++ k ∷ [])
taken features category k row found at here are = record {
  rising = IsStrictlyIncreasing-push found k are.rising (λ i within. ((are.exact (get_or found i 0)).0 (i, within, get_or_default found i (get_or found i 0) 0 within)).0);
  exact = λ n. (
    (λ h. elim (Contains-append_cases found (k ∷ []) n h) [
      | inl before ↦ (let is = (are.exact n).0 before in (omega (arith, is.0), is.1))
      | inr last ↦
          let same : k ≡ n = Contains-only k n last in
          (omega (arith, same), subst (IsCandidate features category) same (row, node_there features k row at, here))
    ]),
    (λ (is : (n < k + 1) × IsCandidate features category n). elim (cases_lt n k) [
      | inl low ↦ Contains-append_left found (k ∷ []) n ((are.exact n).1 (low, is.1))
      | inr high ↦
          let same : k ≡ n = omega (arith, is.0, high) in
          subst (λ (m : ℕ). Contains (found ++ k ∷ []) m) same (Contains-append_right found (k ∷ []) k (Contains-first k []))
    ]),
  );
}

-- ---- all of them

pub whole : (features : Features) (category : List ℕ) (count : ℕ) (found : List ℕ) → length features.amenities ≡ count → AreCandidatesTo features category count found
    → AreCandidates features category found
whole features category count found all are = record {
  rising = are.rising;
  exact = λ n. (
    (λ h. ((are.exact n).0 h).1),
    (λ (is : IsCandidate features category n). (are.exact n).1 (omega (arith, all, node_low features is.0 n is.1), is)),
  );
}

nodes_many : (features : Features) (settings : Settings) → length (place_node_rows features) ≤ length (nodes features settings)
unfolding nodes node_rows
nodes_many features settings = omega (arith, length-map (place_node_rows features ++ room_corners features settings) node_of_row, length-append (place_node_rows features) (room_corners features settings))

-- amenities are no more than nodes
pub few_amenities : (features : Features) (settings : Settings) → length features.amenities ≤ length (nodes features settings)
unfolding place_node_rows
few_amenities features settings =
    let ams = map amenity features.amenities in
    let bs = map anchor features.anchors in
    let os = map opening features.openings in
    let us = map unit (walkable_units features) in
    omega (arith, nodes_many features settings, length-append (ams ++ bs ++ os) us, length-append (ams ++ bs) os, length-append ams bs, length-map features.amenities amenity)

pub within : (features : Features) (settings : Settings) (category candidates : List ℕ) → AreCandidates features category candidates → All (λ (n : ℕ). n < length (nodes features settings)) candidates
within features settings category candidates are k d inside =
    let n = get_or candidates k d in
    let is = (are.exact n).0 (k, inside, get_or_default candidates k n d inside) in
    let low : n < length (place_node_rows features) = slice_get_within (place_node_rows features) n (amenity is.0) is.1 in
    omega (arith, low, nodes_many features settings)
