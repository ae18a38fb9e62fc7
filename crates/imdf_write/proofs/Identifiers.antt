-- No byte of a printed identifier needs an escape.
use Rattle.std.proofs.Common.{◌≡◌, ℕ, zero, suc, ◌<◌, List, [], ◌∷◌, ◌++◌, Bool, true, false, cond, ◌||◌, ◌==◌, nat_lt, refl, sym, ap, ◌∙◌, arith, append_assoc}
use Rattle.std.proofs.lemmas.Bool.Decides.{nat_tests}
use Rattle.std.specs.Int.{w128, to_be_bytes}
use Rattle.uuid.specs.Text.{lower, by_index, hex_digit, nibble, digit_place, is_hyphen_place}
use Rattle.uuid.proofs.TextLemmas.{nibble_small}
use Rattle.venue_types.specs.declared.feature_id.FeatureId.{FeatureId}
use Rattle.venue_types.specs.Identifier.{identifier_text}
use Rattle.json_text.specs.Compact.{escaped_byte, escaped}

escaped-append : (xs ys : List ℕ) → escaped (xs ++ ys) ≡ escaped xs ++ escaped ys
escaped-append [] ys = refl
escaped-append (x ∷ xs) ys = ap (λ s. escaped_byte x ++ s) (escaped-append xs ys) ∙ sym (append_assoc (escaped_byte x) (escaped xs) (escaped ys))

escaped-push : (xs : List ℕ) (x : ℕ) → escaped xs ≡ xs → escaped_byte x ≡ x ∷ [] → escaped (xs ++ x ∷ []) ≡ xs ++ x ∷ []
escaped-push xs x p q = escaped-append xs (x ∷ []) ∙ ap (λ s. s ++ (escaped_byte x ++ [])) p ∙ ap (λ (s : List ℕ). xs ++ (s ++ [])) q

escaped-by_index : (n : ℕ) (f : ℕ → ℕ) → ((k : ℕ) → escaped_byte (f k) ≡ f k ∷ []) → escaped (by_index n f) ≡ by_index n f
unfolding by_index
escaped-by_index zero f h = refl
escaped-by_index (suc n) f h = escaped-push (by_index n f) (f n) (escaped-by_index n f h) (h n)

last_of : (control quote backslash : Bool) (a b c : List ℕ) → control ≡ false → quote ≡ false → backslash ≡ false → cond control a (cond (quote || backslash) b c) ≡ c
last_of control quote backslash a b c p q r = rw (p, q, r) refl

digit_is_plain : (d : ℕ) → d < 16 → escaped_byte (hex_digit lower d) ≡ hex_digit lower d ∷ []
digit_is_plain d small =
    last_of (nat_lt (hex_digit lower d) 32) (hex_digit lower d == 34) (hex_digit lower d == 92) _ _ (hex_digit lower d ∷ [])
    (grind (arith, nat_tests)) (grind (arith, nat_tests)) (grind (arith, nat_tests))

place_is_plain : (b : Bool) (d : ℕ) → d < 16 → escaped_byte (cond b 45 (hex_digit lower d)) ≡ cond b 45 (hex_digit lower d) ∷ []
place_is_plain true d small = refl
place_is_plain false d small = digit_is_plain d small

pub escaped-identifier_text : (id : FeatureId) → escaped (identifier_text id) ≡ identifier_text id
unfolding identifier_text
escaped-identifier_text id =
    let bytes = to_be_bytes w128 id.0 in
    escaped-by_index 36 _ (λ k. place_is_plain (is_hyphen_place k) (nibble bytes (digit_place k)) (nibble_small bytes (digit_place k)))
