-- The values of a key, as they stand in a query and decoded.
use Rattle.std.proofs.Common.{◌≡◌, ℕ, ◌<◌, Bool, true, false, List, [], ◌∷◌, length, map, refl, ap, arith}
use Rattle.std.specs.Prelude.{bytes_eq, if◌then◌else◌, flat_map}
use Rattle.form_urlencoded.specs.Form.{raw_pairs, split}
use Rattle.venue_wire.specs.Finding.{raw_values}
use Rattle.venue_wire.specs.Queries.{text_of, values_of}

-- the values of the pairs of this name
picked : List ℕ → List (List ℕ × List ℕ) → List (List ℕ)
picked key pairs = flat_map (λ pair. if bytes_eq pair.0 key then pair.1 ∷ [] else []) pairs

texts : List (List ℕ × List ℕ) → List (List ℕ × List ℕ)
texts pairs = map (λ pair. (text_of pair.0, text_of pair.1)) pairs

-- decoding goes with picking
decoded_values : (key : List ℕ) (pairs : List (List ℕ × List ℕ)) → picked key (texts pairs) ≡ map text_of (raw_values key pairs)
unfolding picked texts
decoded_values key [] = refl
decoded_values key (pair ∷ pairs) = by_test (bytes_eq (text_of pair.0) key) refl (decoded_values key pairs)
  where
    by_test : (test : Bool) → bytes_eq (text_of pair.0) key ≡ test → picked key (texts pairs) ≡ map text_of (raw_values key pairs)
        → picked key (texts (pair ∷ pairs)) ≡ map text_of (raw_values key (pair ∷ pairs))
    by_test true is later = rw is (ap (λ (rest : List (List ℕ)). text_of pair.1 ∷ rest) later)
    by_test false is later = rw is later

pub decoded_of : (key query : List ℕ) → values_of key query ≡ map text_of (raw_values key (raw_pairs query))
unfolding picked texts
decoded_of key query = decoded_values key (raw_pairs query)

-- more than one value is two and others
pub two_values : (values : List (List ℕ)) → 1 < length values
    → (value : List ℕ) × (other : List ℕ) × (others : List (List ℕ)) × (map text_of values ≡ value ∷ other ∷ others)
two_values [] more = absurd (omega arith)
two_values (value ∷ []) more = absurd (omega arith)
two_values (value ∷ other ∷ others) more = (text_of value, text_of other, map text_of others, refl)

-- an empty query has no values
pub no_values : (key query : List ℕ) → length query ≡ 0 → values_of key query ≡ []
unfolding raw_pairs split
no_values key [] e = refl
no_values key (b ∷ query) e = absurd (omega arith)
