-- Lists of trees and pairs that grow at their end.
use Rattle.std.proofs.Common.{◌≡◌, ℕ, Bool, true, false, cond, ◌∙◌, List, [], ◌∷◌, ◌++◌, ◌+◌, ◌<◌, length, take, slice_index_or, Option, Some, None, refl, ap, sym, map, option_map, Bor}
use Rattle.std.proofs.lemmas.List.{take_more}
use Rattle.std.specs.Str.{bytes_eq}
use Rattle.exact_json.specs.Json.{Json, Items, first_of_two, last_member, items_list, members_list}
use Rattle.exact_json.specs.View.{text_view, tree_view, items_of, members_of, items_view, members_view}
use Rattle.exact_json.specs.declared.tree.Pair.{Pair}
use Rattle.exact_json.specs.declared.tree.Tree.{Tree}

latest : (b : Bool) (j : Json) (o p : Option Json) → first_of_two (cond b (Some j) o) p ≡ cond b (Some j) (first_of_two o p)
latest true j o p = refl
latest false j o p = refl

pub last_member-push : (name : List ℕ) (ms : List Pair) (m : Pair)
    → last_member name (members_view (ms ++ m ∷ [])) ≡ cond (bytes_eq (text_view m.name) name) (Some (tree_view m.value)) (last_member name (members_view ms))
last_member-push name [] m = refl
last_member-push name (n ∷ ms) m =
    ap (λ o. first_of_two o (cond (bytes_eq (text_view n.name) name) (Some (tree_view n.value)) None)) (last_member-push name ms m) ∙ latest (bytes_eq (text_view m.name) name) (tree_view m.value) _ _

-- the pairs up to one, by whether that has the name
pub last_member-step : (name : List ℕ) (xs : List Pair) (i : ℕ) (d : Pair) {b : List ℕ} {hit : Bool} → i < length xs → b ≡ text_view (slice_index_or xs i d).name → bytes_eq b name ≡ hit
    → last_member name (members_view (take (i + 1) xs)) ≡ cond hit (Some (tree_view (slice_index_or xs i d).value)) (last_member name (members_view (take i xs)))
last_member-step name xs i d {b} {hit} less is same =
    let m = slice_index_or xs i d in
    ap (λ ys. last_member name (members_view ys)) (take_more xs i d less) ∙ last_member-push name (take i xs) m
    ∙ ap (λ h. cond h (Some (tree_view m.value)) (last_member name (members_view (take i xs)))) (ap (λ c. bytes_eq c name) (sym is) ∙ same)

pub list_of_items : (js : List Json) → items_list (items_of js) ≡ js
list_of_items [] = refl
list_of_items (j ∷ js) = ap (λ l. j ∷ l) (list_of_items js)

pub list_of_members : (ps : List (List ℕ × Json)) → members_list (members_of ps) ≡ ps
list_of_members [] = refl
list_of_members (p ∷ ps) = ap (λ l. p ∷ l) (list_of_members ps)

-- the values of a list that was found
pub values_seen : (found : Option (Bor (List Tree))) (o : Option Items) → option_map (λ s. items_view s.now) found ≡ o → option_map (λ s. map tree_view s.now) found ≡ option_map items_list o
values_seen None o h = ap (option_map items_list) h
values_seen (Some s) o h = ap Some (sym (list_of_items (map tree_view s.now))) ∙ ap (option_map items_list) h
