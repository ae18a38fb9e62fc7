-- The stops in a text.
use Rattle.std.proofs.Common.{◌≡◌, ◌∙◌, ℕ, suc, ◌+◌, ◌<◌, ◌≤◌, ◌==◌, true, not, nat_lt, List, [], ◌∷◌, ◌++◌, length, map, drop, get_or, Bor, Option, None, Some, Result, Ok, Err, IfOk, IfSome, refl, sym, ap, append_assoc, arith}
use Rattle.std.specs.List.{count_by}
use Rattle.std.specs.Prelude.{option_and_then, option_map}
use Rattle.std.proofs.lemmas.Bool.Decides.{nat_tests}
use Rattle.std.proofs.lemmas.List.{at_drop_more}
use Rattle.std.proofs.lemmas.List.Splits.{length-slice_split}
use Rattle.venue_types.specs.Identifier.{identifier_read}
use Rattle.venue_types.specs.declared.feature_id.FeatureId.{FeatureId}
use Rattle.venue_wire.specs.Queries.{comma_parts, identifiers_read}

-- a text has one part more than commas
parts_count : (text : List ℕ) → length (comma_parts text) ≡ count_by (λ byte. byte == 44) text + 1
parts_count text = length-slice_split (λ byte. byte == 44) text

below_eight : (n m : ℕ) → m ≡ n + 1 → nat_lt n 8 ≡ not (nat_lt 8 m)
below_eight n m e = grind (arith, nat_tests)

pub few_parts : (text : List ℕ) → nat_lt (count_by (λ byte. byte == 44) text) 8 ≡ not (nat_lt 8 (length (comma_parts text)))
few_parts text = below_eight _ _ (parts_count text)

-- as many identifiers are read as there are texts
read_count : (texts : List (List ℕ)) (ids : List FeatureId) → identifiers_read texts ≡ Some ids → length ids ≡ length texts
read_count [] ids is = let none : ids ≡ [] = cc in rw none
read_count (text ∷ texts) ids is = by_first (identifier_read text) (identifiers_read texts) (read_count texts) is
  where
    by_first : (first : Option FeatureId) (others : Option (List FeatureId)) → ((rest : List FeatureId) → others ≡ Some rest → length rest ≡ length texts)
        → option_and_then (λ id. option_map (λ (rest : List FeatureId). id ∷ rest) others) first ≡ Some ids → length ids ≡ suc (length texts)
    by_first None others later is = absurd (cc)
    by_first (Some id) None later is = absurd (cc)
    by_first (Some id) (Some rest) later is =
        let joined : ids ≡ id ∷ rest = cc in
        let count = later rest refl in
        rw joined (omega arith)

stops_some : (text : List ℕ) (ids : List FeatureId) → Some ids ≡ identifiers_read (comma_parts text) → 1 ≤ length ids
stops_some text ids is = omega (arith, read_count (comma_parts text) ids (sym is), parts_count text)

stops_few : (text : List ℕ) (ids : List FeatureId) → not (nat_lt 8 (length (comma_parts text))) ≡ true → Some ids ≡ identifiers_read (comma_parts text)
    → length ids ≤ 8
stops_few text ids few is = let count = read_count (comma_parts text) ids (sym is) in rw count (at_most _ few)
  where
    at_most : (n : ℕ) → not (nat_lt 8 n) ≡ true → n ≤ 8
    at_most n few = grind (arith, nat_tests)

-- what is read of the parts of a text: one identifier or more
pub some_read : {E : Type 0} (text : List ℕ) (texts : List (List ℕ)) (r : Result (Option (List FeatureId)) E) → texts ≡ comma_parts text
    → IfOk r (λ ids. ids ≡ identifiers_read texts) → IfOk r (λ stops. IfSome stops (λ ids. 1 ≤ length ids))
some_read text texts (Err e) same is = tt
some_read text texts (Ok None) same is = tt
some_read text texts (Ok (Some ids)) same is = stops_some text ids (is ∙ ap identifiers_read same)

-- and eight at most
pub few_read : {E : Type 0} (text : List ℕ) (texts : List (List ℕ)) (r : Result (Option (List FeatureId)) E) → texts ≡ comma_parts text
    → not (nat_lt 8 (length (comma_parts text))) ≡ true → IfOk r (λ ids. ids ≡ identifiers_read texts)
    → IfOk r (λ stops. IfSome stops (λ ids. length ids ≤ 8))
few_read text texts (Err e) same few is = tt
few_read text texts (Ok None) same few is = tt
few_read text texts (Ok (Some ids)) same few is = stops_few text ids few (is ∙ ap identifiers_read same)

-- one identifier more is read
one_more : (ids : List FeatureId) (id : FeatureId) (others : Option (List FeatureId))
    → option_map (λ (rest : List FeatureId). ids ++ rest) (option_map (λ (rest : List FeatureId). id ∷ rest) others)
    ≡ option_map (λ (rest : List FeatureId). (ids ++ id ∷ []) ++ rest) others
one_more ids id None = refl
one_more ids id (Some rest) = ap Some (sym (append_assoc ids (id ∷ []) rest))

front_read : (ids : List FeatureId) (id : FeatureId) (text : List ℕ) (texts : List (List ℕ)) → identifier_read text ≡ Some id
    → option_map (λ (rest : List FeatureId). ids ++ rest) (identifiers_read (text ∷ texts))
    ≡ option_map (λ (rest : List FeatureId). (ids ++ id ∷ []) ++ rest) (identifiers_read texts)
front_read ids id text texts is = rw is (one_more ids id (identifiers_read texts))

-- the text at a place of a list
abbrev pub text_at : List (Bor (List ℕ)) → ℕ → List ℕ
text_at texts i = (get_or texts i (record { ref_ptr = (0, 0); now = [] })).now

-- of the texts from a place on the first is read
pub read_on : (texts : List (Bor (List ℕ))) (i : ℕ) (ids : List FeatureId) (id : FeatureId) → i < length texts → identifier_read (text_at texts i) ≡ Some id
    → option_map (λ (rest : List FeatureId). ids ++ rest) (identifiers_read (map (λ text. text.now) (drop i texts)))
    ≡ option_map (λ (rest : List FeatureId). (ids ++ id ∷ []) ++ rest) (identifiers_read (map (λ text. text.now) (drop (i + 1) texts)))
read_on texts i ids id lt is =
    at_drop_more (λ (left : List (Bor (List ℕ))). option_map (λ (rest : List FeatureId). ids ++ rest) (identifiers_read (map (λ text. text.now) left)))
    texts i (record { ref_ptr = (0, 0); now = [] }) lt
    ∙ front_read ids id (text_at texts i) (map (λ text. text.now) (drop (i + 1) texts)) is
