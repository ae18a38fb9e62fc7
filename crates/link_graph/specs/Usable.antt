-- The links that somebody may use, and the law of the way across a unit.
use Rattle.std.specs.Prelude.{◌≡◌, ℕ, ◌+◌, ◌≤◌, List, Contains, slice_get, Some, IsTrue, ◌≢◌}
use Rattle.venue_types.specs.declared.feature_id.FeatureId.{FeatureId}
use Rattle.venue_types.specs.declared.features.Features.{Features}
use Rattle.venue_types.specs.declared.features.UnitRow.{UnitRow}
use Rattle.venue_types.specs.declared.link.Link.{Link}
use Rattle.venue_types.specs.declared.settings.Profile.{Profile}
use Rattle.venue_types.specs.declared.settings.Settings.{Settings}
use Rattle.imdf_access.specs.Access.{IsAllowed}
use Rattle.venue_nodes.specs.Members.{members}
use Rattle.link_graph.specs.Links.{links, are_joined, first_unit}
use Rattle.link_graph.specs.Facts.{facts_at, IsOpen}

-- it is one of the links, the profile allows it, and nothing at it is closed
pub record IsUsable (features : Features) (settings : Settings) (closed : List FeatureId) (profile : Profile) (link : Link) : Type 0 where
  pub there : Contains (links features settings) link
  pub allowed : IsAllowed profile (facts_at features settings link)
  pub free : IsOpen features settings closed link

-- the unit of this closable number
abbrev pub IsUnitBy : Features → ℕ → UnitRow → Type 0
IsUnitBy features via u = (k : ℕ) × (via ≡ first_unit features + k) × (slice_get features.units k ≡ Some u)

-- any two members of the unit are joined: everybody in it sees everybody
pub record IsWhole (features : Features) (settings : Settings) (u : UnitRow) : Type 0 where
  pub joined : (a b : ℕ) → Contains (members features settings u) a → Contains (members features settings u) b → a ≢ b → IsTrue (are_joined features settings u a b)

-- a link by the same way from the start of one link to the end of the other, which costs no more than both
pub record IsWayAcross (first second across : Link) : Type 0 where
  pub from : across.from ≡ first.from
  pub to : across.to ≡ second.to
  pub via : across.via ≡ first.via
  pub cost : across.cost ≤ first.cost + second.cost

-- from the start of the first link to the end of the second there is a usable way across that costs no more than both
abbrev pub HasWayAcross : Features → Settings → List FeatureId → Profile → Link → Link → Type 0
HasWayAcross features settings closed profile first second =
    (across : Link) × IsUsable features settings closed profile across × IsWayAcross first second across
