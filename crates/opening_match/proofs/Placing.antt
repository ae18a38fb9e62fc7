-- Places of some items, told item by item.
use Rattle.std.proofs.Common.{◌≡◌, ◌≢◌, ℕ, ◌+◌, ◌<◌, ◌≤◌, List, [], ◌∷◌, ◌++◌, length, get_or, take, subst, sym, ◌∙◌, arith, inl, inr}
use Rattle.std.specs.Prelude.{Contains, AllPairs}
use Rattle.std.proofs.lemmas.List.{take_all}
use Rattle.std.proofs.lemmas.List.Elements.{Contains-append_left, Contains-push, Contains-push_cases, Contains-get_or}
use Rattle.std.proofs.lemmas.List.Quantifiers.{all_pairs_push}
use Rattle.venue_types.proofs.Items.{Contains-nil}
use Rattle.opening_match.specs.Places.{ArePlaces}
use Rattle.opening_match.proofs.Items.{one_more, apart_before}

pub places_none : {X : Type 0} (f : X → ℕ) (P : X → Type 0) → ArePlaces f P [] []
places_none f P = record { only = λ o h. absurd (Contains-nil o h); whole = λ x h holds. absurd (Contains-nil x h); distinct = λ i j d under within. absurd (omega arith) }

with_item : {X : Type 0} (f : X → ℕ) (P : X → Type 0) (xs : List X) (x : X) (places : List ℕ) → ((y : X) → Contains xs y → f y ≢ f x) → P x → ArePlaces f P xs places → ArePlaces f P (xs ++ x ∷ []) (places ++ f x ∷ [])
with_item {X} f P xs x places apart holds are = record {
  only = λ o h. elim (Contains-push_cases places (f x) o h) [
    | inl before ↦ let w = are.only o before in (w.0, Contains-append_left xs (x ∷ []) w.0 w.1, w.2, w.3)
    | inr here ↦ (x, Contains-push xs x, here, holds)
  ];
  whole = λ y h own. elim (Contains-push_cases xs x y h) [
    | inl before ↦ Contains-append_left places (f x ∷ []) (f y) (are.whole y before own)
    | inr here ↦ subst (λ (z : X). Contains (places ++ f x ∷ []) (f z)) here (Contains-push places (f x))
  ];
  distinct = all_pairs_push (λ (a b : ℕ). a ≢ b) places (f x) are.distinct (λ k d within same.
      let w = are.only (get_or places k d) (Contains-get_or places k d within) in
      apart w.0 w.1 (w.2 ∙ same));
}

without_item : {X : Type 0} (f : X → ℕ) (P : X → Type 0) (xs : List X) (x : X) (places : List ℕ) → ¬ P x → ArePlaces f P xs places → ArePlaces f P (xs ++ x ∷ []) places
without_item {X} f P xs x places fails are = record {
  only = λ o h. let w = are.only o h in (w.0, Contains-append_left xs (x ∷ []) w.0 w.1, w.2, w.3);
  whole = λ y h own. elim (Contains-push_cases xs x y h) [
    | inl before ↦ are.whole y before own
    | inr here ↦ absurd (fails (subst P (sym here) own))
  ];
  distinct = are.distinct;
}

-- the item at hand is taken
pub taken : {X : Type 0} (f : X → ℕ) (P : X → Type 0) (xs : List X) (i : ℕ) (x : X) (old new : List ℕ) → AllPairs (λ (a b : X). f a ≢ f b) xs → i < length xs → x ≡ get_or xs i x → P x → new ≡ old ++ f x ∷ [] → ArePlaces f P (take i xs) old → ArePlaces f P (take (i + 1) xs) new
taken {X} f P xs i x old new pairs within is holds more are =
    subst (λ (ys : List X). ArePlaces f P ys new) (sym (one_more xs i x within is))
    (subst (λ (places : List ℕ). ArePlaces f P (take i xs ++ x ∷ []) places) (sym more) (with_item f P (take i xs) x old (apart_before f xs i x pairs within is) holds are))

-- it is passed over
pub passed : {X : Type 0} (f : X → ℕ) (P : X → Type 0) (xs : List X) (i : ℕ) (x : X) (places : List ℕ) → i < length xs → x ≡ get_or xs i x → ¬ P x → ArePlaces f P (take i xs) places → ArePlaces f P (take (i + 1) xs) places
passed {X} f P xs i x places within is fails are = subst (λ (ys : List X). ArePlaces f P ys places) (sym (one_more xs i x within is)) (without_item f P (take i xs) x places fails are)

pub all_taken : {X : Type 0} (f : X → ℕ) (P : X → Type 0) (xs : List X) (i : ℕ) (places : List ℕ) → length xs ≤ i → ArePlaces f P (take i xs) places → ArePlaces f P xs places
all_taken {X} f P xs i places past are = subst (λ (ys : List X). ArePlaces f P ys places) (take_all i xs past) are
