-- What is read of a body.
use Rattle.std.proofs.Common.{◌≡◌, ℕ, suc, ◌<◌, Bool, true, false, ◌&&◌, nat_lt, nat_le, List, [], ◌∷◌, length, Option, None, Some, is_some, refl, arith}
use Rattle.std.specs.List.{list_all}
use Rattle.std.specs.Prelude.{if◌then◌else◌, option_and_then, option_map}
use Rattle.serde_json.proofs.OnLiterals.{serde_json_on_literals}
use Rattle.serde_json.specs.Data.{Data}
use Rattle.serde_json.specs.Find.{as_str}
use Rattle.serde_json.specs.Read.{read}
use Rattle.serde_json.specs.View.{view, items_view}
use Rattle.serde_json.specs.declared.value.Value.{Value}
use Rattle.venue_wire.specs.Bodies.{IsBody, few, texts_of}

nothing_read : read [] ≡ None
unfolding serde_json_on_literals
nothing_read = refl

-- a body that is a value has a byte
pub body_some : (body : List ℕ) (value : Data) → IsBody body value → 0 < length body
body_some [] value is = let reads = is.reads in let none = nothing_read in absurd (cc)
body_some (b ∷ body) value is = omega arith

-- a value is a text
abbrev is_text : Value → Bool
is_text value = is_some (as_str (view value))

-- values have their texts where each is one
texts_all : (values : List Value) → is_some (texts_of (items_view values)) ≡ list_all is_text values
texts_all [] = refl
texts_all (value ∷ values) = by_text (as_str (view value)) (texts_of (items_view values)) (texts_all values)
  where
    by_text : (text : Option (List ℕ)) (texts : Option (List (List ℕ))) → is_some texts ≡ list_all is_text values
        → is_some (option_and_then (λ first. option_map (λ (others : List (List ℕ)). first ∷ others) texts) text) ≡ (is_some text && list_all is_text values)
    by_text None texts later = refl
    by_text (Some text) None later = later
    by_text (Some text) (Some texts) later = later

-- and as many as there are values
texts_count : (values : List Value) (texts : List (List ℕ)) → texts_of (items_view values) ≡ Some texts → length texts ≡ length values
texts_count [] texts is = let none : texts ≡ [] = cc in rw none
texts_count (value ∷ values) texts is = by_text (as_str (view value)) (texts_of (items_view values)) (texts_count values) is
  where
    by_text : (text : Option (List ℕ)) (others : Option (List (List ℕ))) → ((rest : List (List ℕ)) → others ≡ Some rest → length rest ≡ length values)
        → option_and_then (λ first. option_map (λ (rest : List (List ℕ)). first ∷ rest) others) text ≡ Some texts → length texts ≡ suc (length values)
    by_text None others later is = absurd (cc)
    by_text (Some text) None later is = absurd (cc)
    by_text (Some text) (Some rest) later is =
        let joined : texts ≡ text ∷ rest = cc in
        let count = later rest refl in
        rw joined (omega arith)

-- of two tests, where the second doesn't hold
no : (first second : Bool) → false ≡ second → false ≡ (first && second)
no true second none = none
no false second none = refl

-- and where it does
found : {A : Type 0} (first second : Bool) (value : A) → true ≡ second → is_some (if first then Some value else None) ≡ (first && second)
found true second value all = all
found false second value all = refl

-- 1 to 16 values that are texts
pub few_all : (values : List Value)
    → is_some (option_and_then few (texts_of (items_view values))) ≡ ((nat_lt 0 (length values) && nat_le (length values) 16) && list_all is_text values)
few_all values = by_texts (texts_of (items_view values)) (texts_all values) (texts_count values)
  where
    by_texts : (texts : Option (List (List ℕ))) → is_some texts ≡ list_all is_text values
        → ((some : List (List ℕ)) → texts ≡ Some some → length some ≡ length values)
        → is_some (option_and_then few texts) ≡ ((nat_lt 0 (length values) && nat_le (length values) 16) && list_all is_text values)
    by_texts None all count = no (nat_lt 0 (length values) && nat_le (length values) 16) _ all
    by_texts (Some texts) all count = rw (count texts refl) (found (nat_lt 0 (length values) && nat_le (length values) 16) _ texts all)
