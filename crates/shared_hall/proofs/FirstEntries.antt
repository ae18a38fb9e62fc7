-- The entries in front of others, and the first of them.
use Rattle.std.proofs.Common.{◌≡◌, ◌≢◌, List, [], ◌∷◌, ◌++◌, refl, sym, subst, ◌∙◌, append_assoc, Global}
use Rattle.std.proofs.lemmas.List.Elements.{Contains-append_left, Contains-push}
use Rattle.std.specs.Prelude.{Contains}
use Rattle.std.specs.Arc.{arc_value}
use Rattle.std.specs.declared.sync.Arc.{Arc}
use mathlib.Core.List.{IsPrefix}
use Rattle.venue_types.specs.declared.settings.Settings.{Settings}
use Rattle.venue_hall.specs.Venues.{SeenVenue as Venue}
use Rattle.venue_hall.specs.Act.{Act}
use Rattle.venue_hall.specs.Act.TheVariants.{Published}
use Rattle.venue_hall.specs.Entry.{Entry}
use Rattle.venue_hall.specs.Histories.{IsPublished, IsLegal}

-- what a beginning of a legal history is
abbrev pub Beginnings : Type 0
Beginnings = (begin whole : List Entry) → IsPrefix begin whole → begin ≢ [] → IsLegal whole → IsLegal begin

some_last : (h : List Entry) (e : Entry) → h ++ e ∷ [] ≢ []
some_last [] e = λ none. absurd (cc none)
some_last (d ∷ h) e = λ none. absurd (cc none)

-- the entries in front of others are a legal history
pub front_legal : Beginnings → (h k whole : List Entry) (e : Entry) → h ++ e ∷ k ≡ whole → IsLegal whole → IsLegal (h ++ e ∷ [])
front_legal law h k whole e split legal = law (h ++ e ∷ []) whole (k, append_assoc h (e ∷ []) k ∙ split) (some_last h e) legal

-- the first of entries is one of them
pub first_in : (e : Entry) (k whole : List Entry) → e ∷ k ≡ whole → Contains whole e
first_in e k whole split = subst (λ (l : List Entry). Contains l e) split (Contains-append_left (e ∷ []) k e (Contains-push [] e))

-- the venue of a publication has the settings of each venue that the act publishes
pub published_settings : (a : Act) (venue : Arc Venue Global) (settings : Settings) → a ≡ Published venue
    → ((v : Venue) → IsPublished v a → v.settings ≡ settings) → (arc_value venue).settings ≡ settings
published_settings a venue settings is under = under (arc_value venue) (subst (IsPublished (arc_value venue)) (sym is) refl)
