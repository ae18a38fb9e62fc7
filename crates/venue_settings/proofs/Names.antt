-- One profile after another: the list so far, and the first name that is repeated.
use Rattle.std.proofs.Common.{◌≡◌, ℕ, Bool, true, false, ◌||◌, if◌then◌else◌, List, [], ◌∷◌, ◌++◌, map, codes, Option, Some, None, option_map, refl, ap, sym, append_assoc}
use Rattle.std.proofs.lemmas.List.{map-append}
use Rattle.std.specs.List.{list_any}
use Rattle.std.specs.Str.{bytes_eq}
use Rattle.toml.specs.Data.{Members}
use Rattle.venue_types.specs.declared.settings.Profile.{Profile}
use Rattle.venue_settings.specs.declared.fault.SettingsFault.{SettingsFault}
use Rattle.venue_settings.specs.declared.fault.SettingsFault.TheVariants as fault
use Rattle.venue_settings.specs.Faults.{first_repeated, text_at}
use Rattle.venue_settings.specs.Settings.{profile_of}

abbrev pub name_of : Profile → List ℕ
name_of profile = profile.name

-- the fault of a name that is there
abbrev pub repeats : Bool → List ℕ → Option SettingsFault
repeats there name = if there then Some (fault.Twice name) else None

abbrev pub has_name : List Profile → List ℕ → Bool
has_name profiles name = list_any (λ profile. bytes_eq profile.name name) profiles

any_names : (ps : List Profile) (name : List ℕ) → list_any (λ other. bytes_eq other name) (map name_of ps) ≡ has_name ps name
any_names [] name = refl
any_names (p ∷ ps) name = ap (λ b. bytes_eq p.name name || b) (any_names ps name)

repeats_some : (there : Bool) (name : List ℕ) (rest : Option (List ℕ)) (e : SettingsFault) → repeats there name ≡ Some e → option_map fault.Twice (if there then Some name else rest) ≡ Some e
repeats_some true name rest e h = h
repeats_some false name rest e h = absurd (cc)

repeats_none : (there : Bool) (name : List ℕ) (rest : Option (List ℕ)) → repeats there name ≡ None → (if there then Some name else rest) ≡ rest
repeats_none true name rest h = absurd (cc)
repeats_none false name rest h = refl

pub made_next : (ps new all : List Profile) (t : Members) (ts : List Members) → new ≡ ps ++ profile_of t ∷ [] → ps ++ map profile_of (t ∷ ts) ≡ all → new ++ map profile_of ts ≡ all
made_next ps new all t ts e h = rw (e, append_assoc) h

pub repeated_found : (ps : List Profile) (t : Members) (ts : List Members) (e : SettingsFault) → repeats (has_name ps (text_at (codes "name") t)) (text_at (codes "name") t) ≡ Some e
    → option_map fault.Twice (first_repeated (map name_of ps) (map (text_at (codes "name")) (t ∷ ts))) ≡ Some e
repeated_found ps t ts e h = rw (any_names ps (text_at (codes "name") t)) (repeats_some _ _ _ e h)

pub repeated_next : (ps new : List Profile) (t : Members) (ts : List Members) → new ≡ ps ++ profile_of t ∷ [] → repeats (has_name ps (text_at (codes "name") t)) (text_at (codes "name") t) ≡ None
    → first_repeated (map name_of new) (map (text_at (codes "name")) ts) ≡ first_repeated (map name_of ps) (map (text_at (codes "name")) (t ∷ ts))
repeated_next ps new t ts e h = rw (e, map-append, any_names ps (text_at (codes "name") t)) (sym (repeats_none _ _ _ h))
