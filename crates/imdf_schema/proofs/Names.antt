-- An object is one of texts where the last value of each of its names is a text.
use Rattle.std.proofs.Common.{◌≡◌, ◌∙◌, ℕ, zero, suc, not, length, drop, map, List, [], ◌∷◌, Option, Some, None, Bool, true, false, cond, ◌&&◌, is_some, unwrap_or, refl, sym, ap, subst}
use Rattle.std.specs.Borrow.{Bor}
use Rattle.std.specs.BTreeSet.{BTreeSet}
use Rattle.std.specs.Str.{bytes_eq}
use Rattle.std.specs.List.{list_all, list_any}
use Rattle.std.specs.Cmp.Lexicographic.{slice_cmp}
use Rattle.std.specs.Ordering.{nat_cmp, is_eq}
use Rattle.exact_json.specs.Json.{Json, null, object, Members, no_pairs, pair, members_list, last_member, first_of_two, object_members}
use Rattle.exact_json.specs.View.{pair_view, members_of, members_view}
use Rattle.exact_json.specs.declared.tree.Pair.{Pair}
use Rattle.std.proofs.lemmas.Slice.Eq.{bytes_eq-Decides}
use Rattle.std.proofs.lemmas.Option.{same_Some}
use Rattle.imdf_schema.specs.Values.{is_text, has_texts}
use Rattle.imdf_schema.specs.Names.{has_name}
use Rattle.imdf_schema.specs.Forms.{is_name}

-- the last of a pair's name is a text
abbrev counts : Members → List ℕ × Json → Bool
counts ms p = is_text (unwrap_or (last_member p.0 ms) null)

-- the last of each name is a text
abbrev pub LastAreTexts : Members → Type 0
LastAreTexts ms = (name : List ℕ) (j : Json) → last_member name ms ≡ Some j → is_text j ≡ true

-- the names of the pairs are in the set, and the last of each is a text
pub record AreSeen (names : BTreeSet (Bor (List ℕ))) (ms : Members) : Type 0 where
  pub known : (name : List ℕ) → has_name names name ≡ is_some (last_member name ms)
  pub texts : LastAreTexts ms

bytes_same : (k name : List ℕ) → bytes_eq k name ≡ true → k ≡ name
bytes_same k name e = (bytes_eq-Decides k name).0 e

same_bytes : (k : List ℕ) → bytes_eq k k ≡ true
same_bytes k = (bytes_eq-Decides k k).1 refl

both_from : (a b : Bool) → a ≡ true → b ≡ true → (a && b) ≡ true
both_from a b p q = ap (λ (x : Bool). x && b) p ∙ q

first_both : (a b : Bool) → (a && b) ≡ true → a ≡ true
first_both true b e = refl
first_both false b e = e

second_both : (a b : Bool) → (a && b) ≡ true → b ≡ true
second_both true b e = e
second_both false b e = cc

first_fails : (a b : Bool) → a ≡ false → (a && b) ≡ false
first_fails a b e = ap (λ (x : Bool). x && b) e

second_fails : (a b : Bool) → b ≡ false → (a && b) ≡ false
second_fails true b e = e
second_fails false b e = refl

-- a name that is there has a last value
some_behind : (o p : Option Json) → first_of_two o p ≡ None → o ≡ None
some_behind None p e = refl
some_behind (Some w) p e = cc

none_here : (o : Option Json) (k : List ℕ) (v : Json) → first_of_two o (cond (bytes_eq k k) (Some v) None) ≡ None → ⊥
none_here (Some w) k v e = cc
none_here None k v e = let t : bytes_eq k k ≡ true = same_bytes k in cc

text_of_last : (ms : Members) (k : List ℕ) (o : Option Json) → last_member k ms ≡ o → (o ≡ None → ⊥) → ((j : Json) → last_member k ms ≡ Some j → is_text j ≡ true) → is_text (unwrap_or o null) ≡ true
text_of_last ms k None e there last = absurd (there refl)
text_of_last ms k (Some j) e there last = last j e

all_counts : (ms ns : Members) → ((name : List ℕ) → last_member name ms ≡ None → last_member name ns ≡ None) → LastAreTexts ms → list_all (counts ms) (members_list ns) ≡ true
all_counts ms no_pairs within last = refl
all_counts ms (pair k v rest) within last =
    both_from (counts ms (k, v)) _
    (text_of_last ms k (last_member k ms) refl (λ e. none_here (last_member k rest) k v (within k e)) (last k))
    (all_counts ms rest (λ name e. some_behind (last_member name rest) _ (within name e)) last)

-- where the last of each name is a text, they count as texts
pub texts_count : (ms : Members) → LastAreTexts ms → has_texts (object ms) ≡ true
texts_count ms last = all_counts ms ms (λ name e. e) last

fails_here : (ms : Members) (a k : List ℕ) (w : Json) (rest : Bool) → a ≡ k → is_text (unwrap_or (last_member k ms) null) ≡ false → (counts ms (a, w) && rest) ≡ false
fails_here ms a k w rest same fails = first_fails (counts ms (a, w)) rest (ap (λ (n : List ℕ). is_text (unwrap_or (last_member n ms) null)) same ∙ fails)

-- a last value among the pairs that are left
fails_at : (ms : Members) (a k : List ℕ) (w v : Json) (o : Option Json) (b rest : Bool) → b ≡ bytes_eq a k → first_of_two o (cond b (Some w) None) ≡ Some v → is_text (unwrap_or (last_member k ms) null) ≡ false
    → (o ≡ Some v → rest ≡ false) → (counts ms (a, w) && rest) ≡ false
fails_at ms a k w v (Some x) b rest is e fails behind = second_fails (counts ms (a, w)) rest (behind e)
fails_at ms a k w v None true rest is e fails behind = fails_here ms a k w rest (bytes_same a k (sym is)) fails
fails_at ms a k w v None false rest is e fails behind = cc

one_fails : (ms ns : Members) (k : List ℕ) (v : Json) → last_member k ns ≡ Some v → is_text (unwrap_or (last_member k ms) null) ≡ false → list_all (counts ms) (members_list ns) ≡ false
one_fails ms no_pairs k v e fails = cc
one_fails ms (pair a w rest) k v e fails =
    fails_at ms a k w v (last_member k rest) (bytes_eq a k) (list_all (counts ms) (members_list rest)) refl e fails (λ at. one_fails ms rest k v at fails)

-- where the last of a name is no text, they don't
no_text_counts : (ms : Members) (k : List ℕ) (v : Json) → last_member k ms ≡ Some v → is_text v ≡ false → has_texts (object ms) ≡ false
no_text_counts ms k v e fails = one_fails ms ms k v e (ap (λ (o : Option Json). is_text (unwrap_or o null)) e ∙ fails)

some_first : (o : Option Json) (b : Bool) (v : Json) → cond b true (is_some o) ≡ is_some (first_of_two o (cond b (Some v) None))
some_first None true v = refl
some_first None false v = refl
some_first (Some w) true v = refl
some_first (Some w) false v = refl

-- the last of a name, in a pair and what is behind it
text_here : (names : BTreeSet (Bor (List ℕ))) (ms : Members) (k name : List ℕ) (v j : Json) (o : Option Json) (b : Bool) → AreSeen names ms → b ≡ bytes_eq k name → o ≡ last_member name ms
    → first_of_two o (cond b (Some v) None) ≡ Some j → (has_name names k ≡ false → is_text v ≡ true) → is_text j ≡ true
text_here names ms k name v j (Some w) b seen is behind e text = seen.texts name j (sym behind ∙ e)
text_here names ms k name v j None true seen is behind e text =
    let own : v ≡ j = cc in
    let new : has_name names k ≡ false = seen.known k ∙ ap is_some (ap (λ (n : List ℕ). last_member n ms) (bytes_same k name (sym is)) ∙ sym behind) in
    sym (ap is_text own) ∙ text new
text_here names ms k name v j None false seen is behind e text = cc

-- one pair more, in front of them
pub seen_more : (names more : BTreeSet (Bor (List ℕ))) (ms : Members) (k : List ℕ) (v : Json) → AreSeen names ms → ((name : List ℕ) → has_name more name ≡ cond (bytes_eq k name) true (has_name names name))
    → (has_name names k ≡ false → is_text v ≡ true) → AreSeen more (pair k v ms)
seen_more names more ms k v seen has text = record {
  known = λ name. has name ∙ ap (cond (bytes_eq k name) true) (seen.known name) ∙ some_first (last_member name ms) (bytes_eq k name) v;
  texts = λ name j e. text_here names ms k name v j (last_member name ms) (bytes_eq k name) seen refl refl e text;
}

none_of : (o : Option Json) → is_some o ≡ false → o ≡ None
none_of None e = refl
none_of (Some j) e = cc

-- the last of a name among the pairs from a place on is that of all
last_whole : (xs : List Pair) (i : ℕ) (name : List ℕ) (j : Json) → last_member name (members_view (drop i xs)) ≡ Some j → last_member name (members_view xs) ≡ Some j
last_whole [] zero name j e = e
last_whole [] (suc i) name j e = e
last_whole (x ∷ xs) zero name j e = e
last_whole (x ∷ xs) (suc i) name j e = ap (λ (o : Option Json). first_of_two o (cond (bytes_eq (pair_view x).0 name) (Some (pair_view x).1) None)) (last_whole xs i name j e)

-- a new name whose value is no text
pub new_fails : (names : BTreeSet (Bor (List ℕ))) (xs : List Pair) (i : ℕ) (k : List ℕ) (v : Json) → members_view (drop i xs) ≡ pair k v (members_view (drop (suc i) xs)) → AreSeen names (members_view (drop (suc i) xs))
    → has_name names k ≡ false → is_text v ≡ false → has_texts (object (members_view xs)) ≡ false
new_fails names xs i k v front seen new fails =
    let behind : last_member k (members_view (drop (suc i) xs)) ≡ None = none_of _ (sym (seen.known k) ∙ new) in
    let here : last_member k (members_view (drop i xs)) ≡ Some v =
    ap (last_member k) front ∙ ap (λ (o : Option Json). first_of_two o (cond (bytes_eq k k) (Some v) None)) behind ∙ ap (λ (b : Bool). cond b (Some v) None) (same_bytes k) in
    no_text_counts (members_view xs) k v (last_whole xs i k v here) fails

-- the pairs from a place on
pub none_past : (xs : List Pair) → members_view (drop (length xs) xs) ≡ no_pairs
none_past [] = refl
none_past (x ∷ xs) = none_past xs

pub none_seen : (names : BTreeSet (Bor (List ℕ))) (ms : Members) → ms ≡ no_pairs → names.keys ≡ [] → AreSeen names ms
none_seen names ms none empty =
    let P : Members → Type 0 = AreSeen names in
    subst P (sym none) (record {
      known = λ name. ap (λ (keys : List (Bor (List ℕ))). list_any (λ key. is_eq (slice_cmp nat_cmp name key.now)) keys) empty;
      texts = λ name j e. cc;
    })

all_last : (o : Option Json) (b : Bool) (v j : Json) → first_of_two o (cond b (Some v) None) ≡ Some j → is_text v ≡ true → (o ≡ Some j → is_text j ≡ true) → is_text j ≡ true
all_last (Some w) b v j e text behind = behind e
all_last None true v j e text behind = let own : v ≡ j = cc in sym (ap is_text own) ∙ text
all_last None false v j e text behind = cc

-- where each value is a text, so is the last of each name
pub texts_last : (xs : List Pair) → list_all (λ p. is_text p.1) (map pair_view xs) ≡ true → LastAreTexts (members_view xs)
texts_last [] all name j e = cc
texts_last (x ∷ xs) all name j e =
    all_last (last_member name (members_view xs)) (bytes_eq (pair_view x).0 name) (pair_view x).1 j e (first_both (is_text (pair_view x).1) _ all) (λ at. texts_last xs (second_both (is_text (pair_view x).1) _ all) name j at)

members_back : (ms : Members) → members_of (members_list ms) ≡ ms
members_back no_pairs = refl
members_back (pair k j ms) = ap (pair k j) (members_back ms)

-- an object's pairs stand for its members
pub same_members : (xs : List Pair) (ms : Members) → map pair_view xs ≡ members_list ms → members_view xs ≡ ms
same_members xs ms e = ap members_of e ∙ members_back ms

pub object_is : (v : Json) (ms : Members) → object_members v ≡ Some ms → is_name v ≡ has_texts (object ms)
object_is (object qs) ms e = ap (λ (x : Members). has_texts (object x)) (same_Some qs ms e)
object_is v ms e = cc

pub no_object : (v : Json) → object_members v ≡ None → is_name v ≡ false
no_object v e = rw e refl

pub was_new : (new had : Bool) → new ≡ not had → new ≡ true → had ≡ false
was_new new true e f = cc
was_new new false e f = refl

pub had_it : (new had : Bool) → new ≡ not had → new ≡ false → had ≡ true
had_it new true e f = refl
had_it new false e f = cc
