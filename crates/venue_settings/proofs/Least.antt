-- In a map the keys ascend, so the first that passes a test is the least that does.
use Rattle.std.proofs.Common.{◌≡◌, ℕ, Bool, ◌||◌, subst, not, cond, List, [], ◌∷◌, map, filter, Option, Some, None, option_map, String, Global, Less, string_bytes, nat_cmp, refl, ap, sym, ◌∙◌, inl, inr}
use Rattle.std.proofs.lemmas.Bool.{cases_Bool}
use Rattle.std.proofs.lemmas.Cmp.{nat_list_cmp_total}
use Rattle.std.proofs.lemmas.Option.{same_Some}
use Rattle.std.specs.Cmp.Lexicographic.{slice_cmp}
use Rattle.std.specs.List.{AllByRecursion, find, list_any}
use Rattle.std.specs.List.Sorted.{IsStrictlySortedBy}
use Rattle.std.specs.Map.{keys_of}
use Rattle.std.specs.Str.{bytes_eq}
use Rattle.std.specs.String.{string_cmp}
use Rattle.toml.specs.View.{members_view}
use Rattle.toml.specs.declared.value.Value.{Value}
use Rattle.venue_settings.specs.declared.fault.SettingsFault.TheVariants as fault
use Rattle.venue_settings.specs.declared.keys.Key.{Key}
use Rattle.venue_settings.specs.Faults.{keys_in, least, lesser, unknown_fault}
use Rattle.venue_settings.specs.Table.{row_of}

keys_in-members_view : (es : List (String Global × Value)) → keys_in (members_view es) ≡ map string_bytes (keys_of es)
keys_in-members_view [] = refl
keys_in-members_view (e ∷ es) = ap (λ ks. string_bytes e.0 ∷ ks) (keys_in-members_view es)

-- what is found is one of the list
find_all : (P : String Global → Type 0) (p : String Global → Bool) (ks : List (String Global)) (y : String Global) → AllByRecursion P ks → find p ks ≡ Some y → P y
find_all P p [] y all e = absurd (cc)
find_all P p (k ∷ ks) y all e =
    elim (cases_Bool (p k)) [
      | inl passes ↦ let first : cond (p k) (Some k) (find p ks) ≡ Some k = rw passes in let same : k ≡ y = same_Some _ _ (sym first ∙ e) in subst P same all.0
      | inr fails ↦ let next : cond (p k) (Some k) (find p ks) ≡ find p ks = rw fails in find_all P p ks y all.1 (sym next ∙ e)
    ]

-- a text before another stays the lesser
lesser_first : (k : List ℕ) (found : Option (String Global)) → ((y : String Global) → found ≡ Some y → slice_cmp nat_cmp k (string_bytes y) ≡ Less) → lesser k (option_map string_bytes found) ≡ k
lesser_first k None below = refl
lesser_first k (Some y) below = rw (nat_list_cmp_total.antisymm (string_bytes y) k, below y refl)

least_first : (q : List ℕ → Bool) (ks : List (String Global)) → IsStrictlySortedBy string_cmp ks → least (filter q (map string_bytes ks)) ≡ option_map string_bytes (find (λ k. q (string_bytes k)) ks)
unfolding IsStrictlySortedBy
least_first q [] sorted = refl
least_first q (k ∷ ks) sorted =
    let more = least_first q ks sorted.1 in
    elim (cases_Bool (q (string_bytes k))) [
      | inl passes ↦ rw (passes, more) (ap Some (lesser_first (string_bytes k) _ (λ y e. find_all (λ z. string_cmp k z ≡ Less) _ ks y sorted.0 e)))
      | inr fails ↦ rw fails more
    ]

among_rows : (keys : List Key) (k : List ℕ) → list_any (λ row. bytes_eq row.name k) (map row_of keys) ≡ list_any (λ key. bytes_eq key.name.now k) keys
among_rows [] k = refl
among_rows (key ∷ keys) k = ap (λ b. bytes_eq key.name.now k || b) (among_rows keys k)

two_maps : (found : Option (String Global)) → option_map fault.Unknown (option_map string_bytes found) ≡ option_map (λ name. fault.Unknown (string_bytes name)) found
two_maps None = refl
two_maps (Some name) = refl

-- the first key that is none of the program's is the least that is none of the rows
pub unknown_is : (keys : List Key) (es : List (String Global × Value)) (found : Option (String Global))
    → found ≡ find (λ name. not (list_any (λ key. bytes_eq key.name.now (string_bytes name)) keys)) (keys_of es)
    → IsStrictlySortedBy string_cmp (keys_of es)
    → unknown_fault (map row_of keys) (members_view es) ≡ option_map (λ name. fault.Unknown (string_bytes name)) found
unknown_is keys es found e sorted =
    let q : List ℕ → Bool = λ k. not (list_any (λ row. bytes_eq row.name k) (map row_of keys)) in
    let the_least : least (filter q (map string_bytes (keys_of es))) ≡ option_map string_bytes (find (λ k. q (string_bytes k)) (keys_of es)) = least_first q (keys_of es) sorted in
    let found_too : find (λ k. q (string_bytes k)) (keys_of es) ≡ found = simp among_rows (sym e) in
    rw (keys_in-members_view es) (ap (option_map fault.Unknown) (the_least ∙ ap (option_map string_bytes) found_too) ∙ two_maps found)
