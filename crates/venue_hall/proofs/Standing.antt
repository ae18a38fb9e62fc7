-- Records that stand for entries, one more and as they were.
use Rattle.std.proofs.Common.{◌≡◌, List, [], ◌∷◌, ◌++◌, length, Option, Some, None, option_map, refl, sym, subst, arith}
use Rattle.std.proofs.lemmas.List.Elements.{Contains-append_left, Contains-append_right}
use Rattle.venue_types.specs.declared.settings.Settings.{Settings}
use Rattle.venue_history.specs.Openings.{HaveSettings}
use Rattle.venue_history.specs.declared.entry.Entry.{Entry}
use Rattle.venue_hall.specs.Records.{Logged, AreKept}
use Rattle.venue_hall.specs.Standing.{StandsFor, StandFor, AreRecordsOf}

-- records one by one stand for entries one by one
pub stand_more : (settings : Settings) (records : List Logged) (entries : List Entry) (kept : Logged) (entry : Entry) → StandFor settings records entries
    → StandsFor settings kept entry → StandFor settings (records ++ kept ∷ []) (entries ++ entry ∷ [])
stand_more settings [] [] kept entry stand one = (one, tt)
stand_more settings [] (e ∷ es) kept entry stand one = absurd stand
stand_more settings (k ∷ ks) [] kept entry stand one = absurd stand
stand_more settings (k ∷ ks) (e ∷ es) kept entry stand one = (stand.0, stand_more settings ks es kept entry stand.1 one)

pub stand_count : (settings : Settings) (records : List Logged) (entries : List Entry) → StandFor settings records entries → length records ≡ length entries
stand_count settings [] [] stand = refl
stand_count settings [] (e ∷ es) stand = absurd stand
stand_count settings (k ∷ ks) [] stand = absurd stand
stand_count settings (k ∷ ks) (e ∷ es) stand = let rest = stand_count settings ks es stand.1 in omega arith

-- settings that all entries have, those in front have and the last has
settings_front : (settings : Settings) (entries : List Entry) (entry : Entry) → HaveSettings settings (entries ++ entry ∷ []) → HaveSettings settings entries
settings_front settings entries entry all e venue there is = all e venue (Contains-append_left entries (entry ∷ []) e there) is

settings_last : (settings : Settings) (entries : List Entry) (entry : Entry) → HaveSettings settings (entries ++ entry ∷ []) → HaveSettings settings (entry ∷ [])
settings_last settings entries entry all e venue there is = all e venue (Contains-append_right entries (entry ∷ []) e there) is

-- one record more stands for one entry more
pub records_more : (old new : Option (List Logged)) (entries : List Entry) (kept : Logged) (entry : Entry) → AreRecordsOf old entries
    → new ≡ option_map (λ front. front ++ kept ∷ []) old → ((settings : Settings) → HaveSettings settings (entry ∷ []) → StandsFor settings kept entry)
    → AreRecordsOf new (entries ++ entry ∷ [])
records_more None new entries kept entry stand is one = subst (λ (told : Option (List Logged)). AreRecordsOf told (entries ++ entry ∷ [])) (sym is) tt
records_more (Some records) new entries kept entry stand is one =
    let more : AreRecordsOf (Some (records ++ kept ∷ [])) (entries ++ entry ∷ []) =
    λ settings all. stand_more settings records entries kept entry (stand settings (settings_front settings entries entry all)) (one settings (settings_last settings entries entry all)) in
    subst (λ (told : Option (List Logged)). AreRecordsOf told (entries ++ entry ∷ [])) (sym is) more

-- records that are as they were, or no longer told, stand for what they stood for
pub records_kept : (old new : Option (List Logged)) (entries : List Entry) → AreRecordsOf old entries → AreKept old new → AreRecordsOf new entries
records_kept old None entries stand kept = tt
records_kept old (Some records) entries stand kept = subst (λ (told : Option (List Logged)). AreRecordsOf told entries) kept stand
