-- The link across a unit over the features whose graph a network is.
use Rattle.std.proofs.Common.{◌≡◌, ℕ, ◌+◌, ◌≤◌, List, refl, sym, subst, arith}
use Rattle.std.specs.Prelude.{◌↔◌, Contains, IsTrue}
use Rattle.venue_types.specs.declared.feature_id.FeatureId.{FeatureId}
use Rattle.venue_types.specs.declared.features.Features.{Features}
use Rattle.venue_types.specs.declared.features.UnitRow.{UnitRow}
use Rattle.venue_types.specs.declared.link.Link.{Link}
use Rattle.venue_types.specs.declared.settings.Profile.{Profile}
use Rattle.venue_types.specs.declared.settings.Settings.{Settings}
use Rattle.link_graph.specs.Inside.{GoesInside}
use Rattle.link_graph.specs.Links.{are_joined, first_unit, way}
use Rattle.link_graph.specs.Networks.{Network, IsNetworkOf, IsPassable}
use Rattle.link_graph.specs.Usable.{IsUsable, IsUnitBy, HasWayAcross}
use Rattle.link_graph.proofs.Insides.{unit_link, link_there}

-- the law of the way across over a network
abbrev pub AcrossLaw : Network → Type 0
AcrossLaw given = (closed : List FeatureId) (profile : Profile) (first second across : Link) → IsPassable given closed profile first → IsPassable given closed profile second
    → second.from ≡ first.to → second.via ≡ first.via → given.first_unit ≤ first.via
    → Contains given.links across → across.from ≡ first.from → across.to ≡ second.to → across.via ≡ first.via
    → IsPassable given closed profile across × (across.cost ≤ first.cost + second.cost)

-- the law that what can be passed is what can be used
abbrev pub PassableLaw : Type 0
PassableLaw = (features : Features) (settings : Settings) (given : Network) (closed : List FeatureId) (profile : Profile) (link : Link)
    → IsNetworkOf features settings given → IsPassable given closed profile link ↔ IsUsable features settings closed profile link

-- what is known of two links and their unit
pub record AreBehind (features : Features) (settings : Settings) (closed : List FeatureId) (profile : Profile) (first second : Link) (u : UnitRow) : Type 0 where
  pub first_usable : IsUsable features settings closed profile first
  pub second_usable : IsUsable features settings closed profile second
  pub behind : second.from ≡ first.to
  pub same_way : second.via ≡ first.via
  pub unit : IsUnitBy features first.via u
  pub joined : IsTrue (are_joined features settings u first.from second.to)

behind_units : (first via k : ℕ) → via ≡ first + k → first ≤ via
behind_units first via k is = omega (arith, is)

pub has_way : PassableLaw → (given : Network) → AcrossLaw given → (features : Features) (settings : Settings) → IsNetworkOf features settings given
    → (closed : List FeatureId) (profile : Profile) (first second : Link) (u : UnitRow) → AreBehind features settings closed profile first second u → HasWayAcross features settings closed profile first second
has_way passable given law features settings is closed profile first second u h =
    let link : Link = record { from = first.from; to = second.to; via = first.via; cost = way features settings first.from second.to; kind = first.kind } in
    let one = unit_link features settings first u h.unit h.first_usable.there in
    let two = unit_link features settings second u (subst (λ (via : ℕ). IsUnitBy features via u) (sym h.same_way) h.unit) h.second_usable.there in
    let goes : GoesInside features settings u link = record { walked = one.walked; start = one.start; finish = two.finish; joined = h.joined; cost = refl; kind = one.kind } in
    let there : Contains given.links link = subst (λ (ls : List Link). Contains ls link) (sym is.links_are) (link_there features settings link u h.unit goes) in
    let unit : given.first_unit ≤ first.via = subst (λ (n : ℕ). n ≤ first.via) (sym is.first_unit_is) (behind_units (first_unit features) first.via h.unit.0 h.unit.1) in
    let leads = law closed profile first second link
    ((passable features settings given closed profile first is).1 h.first_usable) ((passable features settings given closed profile second is).1 h.second_usable)
    h.behind h.same_way unit there refl refl refl in
    (link, (passable features settings given closed profile link is).0 leads.0, record { from = refl; to = refl; via = refl; cost = leads.1 })
