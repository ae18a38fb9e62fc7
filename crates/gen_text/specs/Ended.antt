-- The code's own way, no promise: each item is written with a comma after it, and the last comma is taken back.
use Rattle.std.specs.Prelude.{◌≡◌, ℕ, List, [], ◌∷◌, ◌++◌, flat_map}
use Rattle.venue_types.specs.declared.files.Slot.{Slot}
use Rattle.gen_text.specs.Texts.{collection_front, feature_file}

-- an item and a comma
abbrev pub with_comma : List ℕ → List ℕ
with_comma text = text ++ 44 ∷ []

-- items that each have a comma behind them
abbrev pub ended : List (List ℕ) → List ℕ
ended items = flat_map with_comma items

-- the file of the features that a text has behind its front, each with a comma
abbrev pub IsEndOf : List ℕ → Slot → Type 0
IsEndOf text slot = (item : List ℕ) (items : List (List ℕ)) → text ≡ collection_front ++ ended (item ∷ items) → slot ≡ feature_file (item ∷ items)
