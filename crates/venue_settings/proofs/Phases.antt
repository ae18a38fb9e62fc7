-- One judgement after another, and one table after another.
use Rattle.std.proofs.Common.{◌≡◌, ℕ, ◌+◌, ◌<◌, List, [], ◌∷◌, ◌++◌, length, get_or, drop, map, Option, Some, None, refl}
use Rattle.std.proofs.lemmas.List.{drop_more}
use Rattle.std.specs.List.{AllByRecursion, filter_map}
use Rattle.toml.specs.Data.{Members, as_table}
use Rattle.toml.specs.View.{view}
use Rattle.toml.specs.declared.value.Value.{Value}
use Rattle.venue_settings.specs.declared.fault.SettingsFault.{SettingsFault}
use Rattle.venue_settings.specs.Faults.{first_of}

pub first_of-found : (xs ys : List (Option SettingsFault)) (e : SettingsFault) → first_of xs ≡ Some e → first_of (xs ++ ys) ≡ Some e
first_of-found [] ys e h = absurd (cc)
first_of-found (None ∷ xs) ys e h = first_of-found xs ys e h
first_of-found (Some x ∷ xs) ys e h = h

pub first_of-none : (xs ys : List (Option SettingsFault)) → first_of xs ≡ None → first_of (xs ++ ys) ≡ first_of ys
first_of-none [] ys h = refl
first_of-none (None ∷ xs) ys h = first_of-none xs ys h
first_of-none (Some x ∷ xs) ys h = absurd (cc)

-- without a fault each judgement is good
pub none_each : (xs : List (Option SettingsFault)) → first_of xs ≡ None → AllByRecursion (λ x. x ≡ None) xs
none_each [] h = tt
none_each (None ∷ xs) h = (refl, none_each xs h)
none_each (Some x ∷ xs) h = absurd (cc)

-- the tables among the values
abbrev pub tables_of : List Value → List Members
tables_of vs = filter_map as_table (map view vs)

-- a value that is a table, and those after it
pub tables_of-drop : (vs : List Value) (i : ℕ) (item : Value) (t : Members) → i < length vs → item ≡ get_or vs i item → Some t ≡ as_table (view item) → tables_of (drop i vs) ≡ t ∷ tables_of (drop (i + 1) vs)
tables_of-drop vs i item t within is seen = rw (drop_more vs i item within, ← is, ← seen)
