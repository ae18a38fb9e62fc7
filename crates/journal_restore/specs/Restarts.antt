-- What a restart gives back of a history that a journal kept.
use Rattle.std.specs.Prelude.{◌≡◌, ◌⊎◌, List, [], ◌∷◌, ◌++◌, Contains}
use Rattle.std.specs.Arc.{arc_value}
use Rattle.venue_types.specs.declared.settings.Settings.{Settings}
use Rattle.venue_hall.specs.Act.{Act}
use Rattle.venue_hall.specs.Act.TheVariants.{Published, Closed, Reopened}
use Rattle.venue_hall.specs.Entry.{Entry}
use Rattle.venue_hall.specs.Records.{Logged}
use Rattle.venue_hall.specs.Standing.{StandsFor}

-- the same act: venues that are the same, or the same feature and profiles
abbrev pub IsSameAct : Act → Act → Type 0
IsSameAct (Published one) (Published other) = arc_value one ≡ arc_value other
IsSameAct (Closed one) (Closed other) = one ≡ other
IsSameAct (Reopened one) (Reopened other) = one ≡ other
IsSameAct _ _ = ⊥

-- the same act by the same worker
pub record IsSameEntry (one other : Entry) : Type 0 where
  pub worker : one.worker ≡ other.worker
  pub act : IsSameAct one.act other.act

-- the same entries, place by place
abbrev pub AreSameEntries : List Entry → List Entry → Type 0
AreSameEntries [] [] = Unit {0}
AreSameEntries (one ∷ ones) (other ∷ others) = IsSameEntry one other × AreSameEntries ones others
AreSameEntries _ _ = ⊥

-- the entries are these, or these and one more, for which one of the loose records stands
pub record IsRestartOf (settings : Settings) (entries : List Entry) (loose : List Logged) (restored : List Entry) : Type 0 where
  pub front : List Entry
  pub same : AreSameEntries entries front
  pub whole : (restored ≡ front) ⊎ ((kept : Logged) × (last : Entry) × Contains loose kept × StandsFor settings kept last × (restored ≡ front ++ last ∷ []))
