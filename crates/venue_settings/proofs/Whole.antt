-- From the parts that were judged to the whole document.
use Rattle.std.proofs.Common.{◌≡◌, ◌≢◌, ℕ, suc, Bool, true, false, ◌&&◌, ◌≤◌, List, [], ◌∷◌, ◌++◌, length, map, codes, Option, Some, None, Result, Ok, Err, OnOk, IfOk, option_and_then, refl, ◌∙◌, arith}
use Rattle.std.proofs.lemmas.Bool.Decides.{nat_tests}
use Rattle.std.proofs.lemmas.List.{length-map}
use Rattle.std.specs.List.{cons_option, filter_map}
use Rattle.imdf_access.specs.Profiles.{built_in_profiles}
use Rattle.toml.specs.Data.{Data, Items, Members, as_array, as_str, as_table, get_member}
use Rattle.venue_types.specs.declared.settings.Settings.{Settings}
use Rattle.venue_settings.specs.declared.fault.SettingsFault.{SettingsFault}
use Rattle.venue_settings.specs.declared.fault.SettingsFault.TheVariants as fault
use Rattle.venue_settings.specs.Faults.{first_fault, first_of, found_fault, items_at, items_in, profile_faults, profile_tables, table_faults, twice_fault, value_fault}
use Rattle.venue_settings.specs.Judged.{IsFault, IsJudged}
use Rattle.venue_settings.specs.Keys.{optional, settings_rows}
use Rattle.venue_settings.specs.declared.keys.Form.TheVariants.{Profiles, StaffKeys}
use Rattle.venue_settings.specs.Settings.{HasSettings, IsDocument, IsSettingsOf, no_document, faulty, sound, no_memory, profile_of}
use Rattle.venue_settings.specs.Sound.{IsSound}
use Rattle.venue_settings.specs.Values.{is_between, judgement, judged_profile_list, judged_staff_list, on_list}
use Rattle.venue_settings.proofs.Phases.{first_of-found, first_of-none, none_each}

-- without a fault each key is good
keys_sound : (root : Members) → first_of (table_faults settings_rows root) ≡ None → IsSound root
keys_sound root h = (none_each (table_faults settings_rows root) h).1

pub sound_if_judged : (root : Members) (r : Result (Unit {0}) SettingsFault) → IsJudged (first_of (table_faults settings_rows root)) r → OnOk r (IsSound root)
sound_if_judged root (Ok x) h = keys_sound root h
sound_if_judged root (Err e) h = tt

first_of-one : (x : Option SettingsFault) → first_of (x ∷ []) ≡ x
first_of-one None = refl
first_of-one (Some x) = refl

-- a last judgement, behind others that are good
pub judged_last : {T : Type 0} (xs : List (Option SettingsFault)) (x : Option SettingsFault) (r : Result T SettingsFault) → first_of xs ≡ None → IsJudged x r → IsJudged (first_of (xs ++ x ∷ [])) r
judged_last xs x r good h = rw (first_of-none xs (x ∷ []) good ∙ first_of-one x) h

-- the profiles' faults and then the names, as the document has them behind its keys
abbrev pub later_faults : Members → List (Option SettingsFault)
later_faults root = profile_faults (profile_tables root) ++ twice_fault (profile_tables root) ∷ []

pub first_fault-keys : (root : Members) (e : SettingsFault) → first_of (table_faults settings_rows root) ≡ Some e → first_fault root ≡ Some e
unfolding first_fault
first_fault-keys root e h = first_of-found (table_faults settings_rows root) (later_faults root) e h

pub first_fault-later : (root : Members) → first_of (table_faults settings_rows root) ≡ None → first_fault root ≡ first_of (later_faults root)
unfolding first_fault
first_fault-later root h = first_of-none (table_faults settings_rows root) (later_faults root) h

-- a document's fault, or want of memory
pub faulty_or : (bytes : List ℕ) (root : Members) (e : SettingsFault) → IsDocument bytes root → IsFault (first_fault root) e → IsSettingsOf bytes (Err e)
faulty_or bytes root fault.NotToml doc h = faulty root _ doc (h (λ s. cc))
faulty_or bytes root (fault.Missing k) doc h = faulty root _ doc (h (λ s. cc))
faulty_or bytes root (fault.WrongKind k) doc h = faulty root _ doc (h (λ s. cc))
faulty_or bytes root (fault.Range k) doc h = faulty root _ doc (h (λ s. cc))
faulty_or bytes root (fault.Unknown k) doc h = faulty root _ doc (h (λ s. cc))
faulty_or bytes root (fault.Twice k) doc h = faulty root _ doc (h (λ s. cc))
faulty_or bytes root fault.OutOfMemory doc h = no_memory

pub none_or : (bytes : List ℕ) (e : SettingsFault) → (e ≢ fault.OutOfMemory → (e ≡ fault.NotToml) × ((root : Members) → ¬ IsDocument bytes root)) → IsSettingsOf bytes (Err e)
none_or bytes fault.NotToml h = no_document (h (λ s. cc)).1
none_or bytes (fault.Missing k) h = absurd (let e = (h (λ s. cc)).0 in cc)
none_or bytes (fault.WrongKind k) h = absurd (let e = (h (λ s. cc)).0 in cc)
none_or bytes (fault.Range k) h = absurd (let e = (h (λ s. cc)).0 in cc)
none_or bytes (fault.Unknown k) h = absurd (let e = (h (λ s. cc)).0 in cc)
none_or bytes (fault.Twice k) h = absurd (let e = (h (λ s. cc)).0 in cc)
none_or bytes fault.OutOfMemory h = no_memory

pub read_is : (bytes : List ℕ) (root : Members) (r : Result Settings SettingsFault) → IsDocument bytes root → IsJudged (first_fault root) r → IfOk r (HasSettings root) → IsSettingsOf bytes r
read_is bytes root (Ok settings) doc h has = sound root settings doc h has
read_is bytes root (Err e) doc h has = faulty_or bytes root e doc h

length-choice : {X : Type 0} (one : Option X) (more : List X) (ds : List Data) → length more ≤ length ds → length (cons_option one more) ≤ suc (length ds)
length-choice None more ds h = omega arith
length-choice (Some x) more ds h = omega arith

-- both are true where their conjunction is
both_hold : (a b : Bool) → (a && b) ≡ true → a ≡ true
both_hold true b h = refl
both_hold false b h = h

-- a choice of some values is no longer than they are
length-filter_map : {X : Type 0} (choose : Data → Option X) (ds : List Data) → length (filter_map choose ds) ≤ length ds
length-filter_map choose [] = omega arith
length-filter_map choose (d ∷ ds) = length-choice (choose d) (filter_map choose ds) ds (length-filter_map choose ds)

within_range : (key : List ℕ) (right_kind in_range : Bool) → value_fault key (judgement right_kind in_range) ≡ None → in_range ≡ true
within_range key true true h = refl
within_range key true false h = absurd (cc)
within_range key false in_range h = absurd (cc)

at_most : (greatest n : ℕ) → is_between 0 greatest n ≡ true → n ≤ greatest
at_most greatest n h = grind (arith, nat_tests)

few_in : (items : Option Items) → value_fault (codes "profile") (on_list (judged_profile_list 0 14) items) ≡ None → length (items_in items) ≤ 14
few_in None h = omega arith
few_in (Some items) h = at_most 14 _ (within_range (codes "profile") _ _ h)

few_items : (value : Option Data) → found_fault (optional (codes "profile") Profiles 0 14) value ≡ None → length (items_in (option_and_then as_array value)) ≤ 14
few_items None h = omega arith
few_items (Some value) h = few_in (as_array value) h

-- a sound table has few profiles
pub few_profiles : (root : Members) → IsSound root → length (built_in_profiles ++ map profile_of (profile_tables root)) ≤ 16
few_profiles root h =
    let items : length (items_at (codes "profile") root) ≤ 14 = few_items (get_member (codes "profile") root) h.1.1.1.1.1.1.1.1.1.1.1.1.1.0 in
    omega (arith, length-filter_map as_table (items_at (codes "profile") root), length-map (profile_tables root) profile_of)

few_keys_in : (items : Option Items) → value_fault (codes "staff_keys") (on_list (judged_staff_list 0 64) items) ≡ None → length (items_in items) ≤ 64
few_keys_in None h = omega arith
few_keys_in (Some items) h = at_most 64 _ (both_hold _ _ (within_range (codes "staff_keys") _ _ h))

few_keys : (value : Option Data) → found_fault (optional (codes "staff_keys") StaffKeys 0 64) value ≡ None → length (items_in (option_and_then as_array value)) ≤ 64
few_keys None h = omega arith
few_keys (Some value) h = few_keys_in (as_array value) h

-- and few staff keys
pub few_staff_keys : (root : Members) → IsSound root → length (filter_map as_str (items_at (codes "staff_keys") root)) ≤ 64
few_staff_keys root h =
    let items : length (items_at (codes "staff_keys") root) ≤ 64 = few_keys (get_member (codes "staff_keys") root) h.1.1.1.1.1.1.1.1.1.1.1.1.0 in
    omega (arith, length-filter_map as_str (items_at (codes "staff_keys") root))
