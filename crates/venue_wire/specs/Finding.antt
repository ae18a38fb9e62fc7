-- How the code goes about a query: values are found as they stand there, and decoded later. No definition of the public contract.
use Rattle.std.specs.Prelude.{◌≡◌, ℕ, Bool, List, [], ◌∷◌, flat_map, if◌then◌else◌, bytes_eq}
use Rattle.std.specs.Cow.{cow_str_bytes}
use Rattle.venue_wire.specs.Queries.{text_of}
use Rattle.venue_wire.specs.declared.query_pairs.Sought.{Sought}
use Rattle.venue_wire.specs.declared.query_pairs.Sought.TheVariants.{Absent, Once, Several}

-- the pair's name stands for this key
abbrev pub is_pair_of : List ℕ → List ℕ × List ℕ → Bool
is_pair_of key pair = bytes_eq (text_of pair.0) key

-- the values of a key as they stand in the query
abbrev pub raw_values : List ℕ → List (List ℕ × List ℕ) → List (List ℕ)
raw_values key pairs = flat_map (λ pair. if is_pair_of key pair then pair.1 ∷ [] else []) pairs

-- no value, one with this text, or more
abbrev pub AreTexts : Sought → List (List ℕ) → Type 0
AreTexts Absent values = values ≡ []
AreTexts (Once text) values = values ≡ cow_str_bytes text ∷ []
AreTexts Several values = (value other : List ℕ) × (others : List (List ℕ)) × (values ≡ value ∷ other ∷ others)
