-- What the way of a link and each of its ends ask apart, of who uses the link.
use Rattle.std.specs.Prelude.{◌≡◌, Bool, false, not, Option, IsTrue}
use Rattle.std.specs.Option.{option_map_or}
use Rattle.venue_types.specs.declared.features.OpeningRow.{OpeningRow}
use Rattle.venue_types.specs.declared.features.UnitRow.{UnitRow}
use Rattle.venue_types.specs.declared.kind.Kind.{Kind}
use Rattle.venue_types.specs.declared.settings.Profile.{Profile}
use Rattle.imdf_access.specs.declared.parts.EndFacts.{EndFacts}
use Rattle.imdf_access.specs.Access.{End, unit, opening, elsewhere, is_unit, is_opening, passes}

-- whether a restricted unit is crossed; a link by a relationship crosses none
abbrev pub is_restricted : Option UnitRow → Bool
is_restricted via = option_map_or (λ row. row.restricted) via false

-- somebody with the profile may go by the kind, and across a unit that is restricted or not
pub record MayGo (profile : Profile) (kind : Kind) (restricted : Bool) : Type 0 where
  pub kind_granted : IsTrue (passes profile kind)
  pub unit_granted : IsTrue restricted → IsTrue profile.restricted

-- somebody with the profile may use the way of a link, whatever stands at its ends
abbrev pub PassesWay : (profile : Profile) (kind : Kind) (via : Option UnitRow) → Type 0
PassesWay profile kind via = MayGo profile kind (is_restricted via)

-- somebody with the profile may pass the opening: it is in service, its door is granted, and it is marked if marks are asked for
pub record PassesOpening (profile : Profile) (row : OpeningRow) : Type 0 where
  pub in_service : row.out ≡ false
  pub revolving : IsTrue row.revolving → IsTrue profile.revolving
  pub turnstile : IsTrue row.turnstile → IsTrue profile.turnstile
  pub marked : IsTrue profile.marked → IsTrue row.marked

-- somebody with the profile may pass what stands at an end of a link: a unit unless it is restricted and that isn't granted, an
-- opening as above, and a place with no say on access always
abbrev pub PassesEnd : (profile : Profile) (end : End) → Type 0
PassesEnd profile (unit row) = IsTrue row.restricted → IsTrue profile.restricted
PassesEnd profile (opening row) = PassesOpening profile row
PassesEnd profile elsewhere = Unit {0}

-- what stands at an end, as five truth values
abbrev pub end_facts : End → EndFacts
end_facts end = record {
  restricted = is_unit (λ row. row.restricted) end;
  revolving = is_opening (λ row. row.revolving) end;
  turnstile = is_opening (λ row. row.turnstile) end;
  unmarked = is_opening (λ row. not row.marked) end;
  out = is_opening (λ row. row.out) end;
}

-- somebody with the profile may pass an end of which this holds
pub record PassesFacts (profile : Profile) (facts : EndFacts) : Type 0 where
  pub in_service : facts.out ≡ false
  pub restricted : IsTrue facts.restricted → IsTrue profile.restricted
  pub revolving : IsTrue facts.revolving → IsTrue profile.revolving
  pub turnstile : IsTrue facts.turnstile → IsTrue profile.turnstile
  pub marked : IsTrue facts.unmarked → profile.marked ≡ false
