-- What is read of any value fits: identifiers of sixteen bytes, references to features, and texts in UTF-8.
use Rattle.std.proofs.Common.{◌≡◌, ◌≢◌, ℕ, zero, suc, ◌+◌, ◌*◌, ◌^◌, ◌<◌, Bool, true, false, cond, ◌&&◌, ◌==◌, List, [], ◌∷◌, length, map, get_or, take, drop, Option, Some, None, unwrap_or, Ordering, Less, Equal, Greater, refl, sym, subst, arith, codes}
use Rattle.std.specs.Prelude.{All, IfSome, option_map}
use Rattle.std.specs.List.{AllByRecursion, filter_map, cons_option, list_all}
use Rattle.std.specs.Int.{w128, from_be_bytes}
use Rattle.std.specs.Str.{IsUtf8}
use Rattle.std.specs.Cmp.Lexicographic.{slice_cmp}
use Rattle.std.specs.BTreeMap.{insert_entry}
use Rattle.std.specs.Ordering.{nat_cmp, match_ordering}
use Rattle.std.proofs.lemmas.Bool.{and_parts}
use Rattle.std.proofs.lemmas.Bool.Decides.{nat_tests}
use Rattle.std.proofs.lemmas.List.Elements.{All-nil, All-cons}
use Rattle.uuid.specs.Text.{by_index, is_hex_digit, value_of, byte_of_digits, parsed_simple, parsed_hyphenated, parsed_braced, parsed_urn, parsed, digits_of}
use Rattle.uuid.proofs.TextLemmas.{by_index_at}
use Rattle.exact_json.specs.Json.{Json, null, number, boolean, text, items, object, member, HasTexts}
use Rattle.venue_types.specs.declared.feature_id.FeatureId.{FeatureId}
use Rattle.venue_types.specs.declared.folder_file.File.{File}
use Rattle.venue_types.specs.declared.folder_file.File.TheVariants as file
use Rattle.venue_types.specs.Identifier.{identifier_of}
use Rattle.venue_types.specs.FolderFiles.{type_name, feature_files, file_among, file_of_type}
use Rattle.std.specs.Str.{bytes_eq}
use Rattle.imdf_schema.specs.Values.{listed, pairs_of, id_of}
use Rattle.imdf_schema.specs.Forms.{type_of}
use Rattle.imdf_rows.specs.Fields.{id_field, text_field, ids_field, ref_of, ref_of_both, refs_field, with_text, with_texts, label, labels_field}
use Rattle.imdf_rows.specs.Laws.{PairHasTexts}
use Rattle.imdf_rows.proofs.Texts.{text_has, pairs_have}
use Rattle.imdf_rows.proofs.LabelLists.{labels_are}
use Rattle.writing_law.specs.Fit.{FitsId, FitsRef, FitsLabel, FitsName}

-- ---- identifiers

value_small : (c : ℕ) → is_hex_digit c ≡ true → value_of c < 16
value_small c h = grind (arith, nat_tests, h)

zero_small : value_of 0 < 16
zero_small = omega arith

digit_small : (hex : List ℕ) (i : ℕ) → list_all is_hex_digit hex ≡ true → value_of (get_or hex i 0) < 16
digit_small [] i h = zero_small
digit_small (c ∷ hex) zero h = value_small c (and_parts (is_hex_digit c) (list_all is_hex_digit hex) h).0
digit_small (c ∷ hex) (suc i) h = digit_small hex i (and_parts (is_hex_digit c) (list_all is_hex_digit hex) h).1

byte_small : (hex : List ℕ) (j : ℕ) → list_all is_hex_digit hex ≡ true → byte_of_digits hex j < 256
byte_small hex j h = two (value_of (get_or hex (2 * j) 0)) (value_of (get_or hex (2 * j + 1) 0)) (digit_small hex (2 * j) h) (digit_small hex (2 * j + 1) h)
  where
    two : (a b : ℕ) → a < 16 → b < 16 → a * 16 + b < 256
    two a b p q = omega (arith, p, q)

sum_small : (bytes : List ℕ) → ((k : ℕ) → k < 16 → get_or bytes k 0 < 256) → from_be_bytes w128 bytes < 2 ^ 128
sum_small bytes small =
    let s0 = small 0 (omega arith) in
    let s1 = small 1 (omega arith) in
    let s2 = small 2 (omega arith) in
    let s3 = small 3 (omega arith) in
    let s4 = small 4 (omega arith) in
    let s5 = small 5 (omega arith) in
    let s6 = small 6 (omega arith) in
    let s7 = small 7 (omega arith) in
    let s8 = small 8 (omega arith) in
    let s9 = small 9 (omega arith) in
    let s10 = small 10 (omega arith) in
    let s11 = small 11 (omega arith) in
    let s12 = small 12 (omega arith) in
    let s13 = small 13 (omega arith) in
    let s14 = small 14 (omega arith) in
    let s15 = small 15 (omega arith) in
    omega (arith, s0, s1, s2, s3, s4, s5, s6, s7, s8, s9, s10, s11, s12, s13, s14, s15)

abbrev IsSmall : Option (List ℕ) → Type 0
IsSmall o = IfSome o (λ bytes. from_be_bytes w128 bytes < 2 ^ 128)

either_small : (b : Bool) (o p : Option (List ℕ)) → IsSmall o → IsSmall p → IsSmall (cond b o p)
either_small true o p h k = h
either_small false o p h k = k

guarded_small : (b : Bool) (bytes : List ℕ) → (b ≡ true → from_be_bytes w128 bytes < 2 ^ 128) → IsSmall (cond b (Some bytes) None)
guarded_small true bytes h = h refl
guarded_small false bytes h = tt

simple_small : (hex : List ℕ) → IsSmall (parsed_simple hex)
simple_small hex = guarded_small ((length hex == 32) && list_all is_hex_digit hex) (by_index 16 (byte_of_digits hex))
    (λ e.
    let all = (and_parts (length hex == 32) (list_all is_hex_digit hex) e).1 in
    sum_small (by_index 16 (byte_of_digits hex)) (λ k below. subst (λ n. n < 256) (sym (by_index_at 16 (byte_of_digits hex) k 0 below)) (byte_small hex k all)))

hyphenated_small : (s : List ℕ) → IsSmall (parsed_hyphenated s)
hyphenated_small s = either_small _ (parsed_simple (digits_of s)) None (simple_small (digits_of s)) tt

parsed_small : (s : List ℕ) → IsSmall (parsed s)
parsed_small s =
    either_small (length s == 32) (parsed_simple s) _ (simple_small s)
    (either_small (length s == 36) (parsed_hyphenated s) _ (hyphenated_small s)
    (either_small (length s == 38) (parsed_braced s) _ (either_small _ (parsed_hyphenated (take 36 (drop 1 s))) None (hyphenated_small (take 36 (drop 1 s))) tt)
    (either_small (length s == 45) (parsed_urn s) None (either_small _ (parsed_hyphenated (drop 9 s)) None (hyphenated_small (drop 9 s)) tt) tt)))

seen_small : (o : Option (List ℕ)) → IsSmall o → IfSome (option_map identifier_of o) FitsId
unfolding identifier_of
seen_small None h = tt
seen_small (Some bytes) h = h

pub id_fits : (v : Json) → IfSome (id_of v) FitsId
id_fits null = tt
id_fits (boolean b) = tt
id_fits (number t) = tt
id_fits (text s) = seen_small (parsed s) (parsed_small s)
id_fits (items js) = tt
id_fits (object ms) = tt

or_zero : (o : Option FeatureId) → IfSome o FitsId → FitsId (unwrap_or o (record { 0 = 0 }))
or_zero None h = omega arith
or_zero (Some id) h = h

pub id_field_fits : (v : Json) → FitsId (id_field v)
id_field_fits v = or_zero (id_of v) (id_fits v)

more_fits : {A : Type 0} (Fit : A → Type 0) (o : Option A) (xs : List A) → IfSome o Fit → All Fit xs → All Fit (cons_option o xs)
more_fits Fit None xs h rest = rest
more_fits Fit (Some x) xs h rest = All-cons Fit x xs h rest

filter_fits : {A : Type 0} (Fit : A → Type 0) (read : Json → Option A) → ((v : Json) → IfSome (read v) Fit) → (vs : List Json) → All Fit (filter_map read vs)
filter_fits Fit read each [] = All-nil Fit
filter_fits Fit read each (v ∷ vs) = more_fits Fit (read v) (filter_map read vs) (each v) (filter_fits Fit read each vs)

pub ids_field_fits : (v : Json) → All FitsId (ids_field v)
ids_field_fits v = filter_fits FitsId id_of id_fits (listed v)

-- ---- references

abbrev HasFeatures : File → Type 0
HasFeatures f = f ≢ file.Manifest

found_fits : (b : Bool) (f : File) (o : Option File) → HasFeatures f → IfSome o HasFeatures → IfSome (cond b (Some f) o) HasFeatures
found_fits true f o h rest = h
found_fits false f o h rest = rest

among_fits : (fs : List File) (name : List ℕ) → AllByRecursion HasFeatures fs → IfSome (file_among fs name) HasFeatures
among_fits [] name all = tt
among_fits (f ∷ fs) name all = found_fits (bytes_eq (type_name f) name) f (file_among fs name) all.0 (among_fits fs name all.1)

feature_files_fit : AllByRecursion HasFeatures feature_files
feature_files_fit = (
  (λ e. cc),
  ((λ e. cc), ((λ e. cc), ((λ e. cc), ((λ e. cc), ((λ e. cc), ((λ e. cc), ((λ e. cc), ((λ e. cc), ((λ e. cc), ((λ e. cc), ((λ e. cc), ((λ e. cc), ((λ e. cc), ((λ e. cc), ((λ e. cc), tt))))))))))))))),
)

type_fits : (v : Json) → IfSome (type_of v) HasFeatures
unfolding type_of file_of_type
type_fits null = tt
type_fits (boolean b) = tt
type_fits (number t) = tt
type_fits (text s) = among_fits feature_files s feature_files_fit
type_fits (items js) = tt
type_fits (object ms) = tt

both_fit : (o : Option FeatureId) (p : Option File) → IfSome o FitsId → IfSome p HasFeatures → IfSome (ref_of_both o p) FitsRef
both_fit None p h k = tt
both_fit (Some id) None h k = tt
both_fit (Some id) (Some f) h k = record { id = h; target = f; features = k; number = refl }

pub ref_fits : (v : Json) → IfSome (ref_of v) FitsRef
ref_fits v = both_fit (id_of (member v (codes "id"))) (type_of (member v (codes "feature_type"))) (id_fits (member v (codes "id"))) (type_fits (member v (codes "feature_type")))

pub refs_field_fits : (v : Json) → All FitsRef (refs_field v)
refs_field_fits v = filter_fits FitsRef ref_of ref_fits (listed v)

-- ---- names

abbrev Entries : Type 0
Entries = List (List ℕ × List ℕ)

abbrev AreTexts : List ℕ × List ℕ → Type 0
AreTexts e = IsUtf8 e.0 × IsUtf8 e.1

placed : (o : Ordering) (a b c : Entries) → AllByRecursion AreTexts a → AllByRecursion AreTexts b → AllByRecursion AreTexts c → AllByRecursion AreTexts (match_ordering o a b c)
placed Less a b c p q r = p
placed Equal a b c p q r = q
placed Greater a b c p q r = r

put_texts : (es : Entries) (k v : List ℕ) → AllByRecursion AreTexts es → IsUtf8 k → IsUtf8 v → AllByRecursion AreTexts (insert_entry (slice_cmp nat_cmp) es k v)
put_texts [] k v all tag value = ((tag, value), tt)
put_texts (x ∷ es) k v all tag value =
    placed (slice_cmp nat_cmp k x.0) ((k, v) ∷ x ∷ es) ((x.0, v) ∷ es) (x ∷ insert_entry (slice_cmp nat_cmp) es k v) ((tag, value), all) ((all.0.0, value), all.1) (all.0, put_texts es k v all.1 tag value)

all_put : (es : Entries) (pairs : List (List ℕ × Json)) → AllByRecursion AreTexts es → AllByRecursion PairHasTexts pairs → AllByRecursion AreTexts (with_texts es pairs)
all_put es [] all have = all
all_put es (p ∷ pairs) all have = all_put (with_text es p) pairs (put_texts es p.0 (text_field p.1) all have.0.0 (text_has p.1 have.0.1)) have.1

label_fits : (e : List ℕ × List ℕ) → AreTexts e → FitsLabel (label e)
label_fits e h = record { tag = h.0; text = h.1 }

labels_fit : (es : Entries) → AllByRecursion AreTexts es → All FitsLabel (map label es)
labels_fit [] h = All-nil FitsLabel
labels_fit (e ∷ es) h = All-cons FitsLabel (label e) (map label es) (label_fits e h.0) (labels_fit es h.1)

pub name_fits : (v : Json) → HasTexts v → FitsName (labels_field v)
name_fits v h = record { ascend = (labels_are v).ascend; each = labels_fit (with_texts [] (pairs_of v)) (all_put [] (pairs_of v) tt (pairs_have v h)) }
