-- What a link asks of who uses it, and who may.
use Rattle.std.specs.Prelude.{◌≡◌, Bool, true, false, not, ◌&&◌, ◌||◌, Option, IsTrue}
use Rattle.std.specs.Option.{option_map_or}
use Rattle.venue_types.specs.declared.features.OpeningRow.{OpeningRow}
use Rattle.venue_types.specs.declared.features.UnitRow.{UnitRow}
use Rattle.venue_types.specs.declared.kind.Kind.{Kind}
use Rattle.venue_types.specs.declared.kind.Kind.TheVariants.{Floor, Elevator, Escalator, Movingwalkway, Ramp, Stairs, Traversal}
use Rattle.venue_types.specs.declared.link.LinkFacts.{LinkFacts}
use Rattle.venue_types.specs.declared.settings.Profile.{Profile}

-- what stands at an end of a link: a unit, an opening, or a place with no say on access
pub data End : Type 0 where
  unit : UnitRow → End
  opening : OpeningRow → End
  elsewhere : End

-- whether a unit stands there that has this
abbrev pub is_unit : (UnitRow → Bool) → End → Bool
is_unit has (unit row) = has row
is_unit has (opening row) = false
is_unit has elsewhere = false

-- whether an opening stands there that has this
abbrev pub is_opening : (OpeningRow → Bool) → End → Bool
is_opening has (unit row) = false
is_opening has (opening row) = has row
is_opening has elsewhere = false

-- whether it holds at one of two ends
abbrev pub at_either : (End → Bool) → End → End → Bool
at_either holds from to = holds from || holds to

-- the facts of a link of the kind between two ends, by a unit or, where there is none, by a relationship
abbrev pub facts_of : Kind → Option UnitRow → End → End → LinkFacts
facts_of kind via from to = record {
  kind = kind;
  restricted = option_map_or (λ row. row.restricted) via false || at_either (is_unit (λ row. row.restricted)) from to;
  revolving = at_either (is_opening (λ row. row.revolving)) from to;
  turnstile = at_either (is_opening (λ row. row.turnstile)) from to;
  unmarked = at_either (is_opening (λ row. not row.marked)) from to;
  out = at_either (is_opening (λ row. row.out)) from to;
}

-- whether the profile passes links of the kind
abbrev pub passes : Profile → Kind → Bool
passes profile Floor = true
passes profile Traversal = true
passes profile Elevator = profile.elevator
passes profile Escalator = profile.escalator
passes profile Movingwalkway = profile.movingwalkway
passes profile Ramp = profile.ramp
passes profile Stairs = profile.stairs

-- somebody with the profile may use a link with these facts
pub record IsAllowed (profile : Profile) (facts : LinkFacts) : Type 0 where
  pub in_service : facts.out ≡ false
  pub kind : IsTrue (passes profile facts.kind)
  pub restricted : IsTrue facts.restricted → IsTrue profile.restricted
  pub revolving : IsTrue facts.revolving → IsTrue profile.revolving
  pub turnstile : IsTrue facts.turnstile → IsTrue profile.turnstile
  pub marked : IsTrue facts.unmarked → profile.marked ≡ false

-- the same as a test, by which lists of links are filtered
unfoldable pub is_allowed : Profile → LinkFacts → Bool
is_allowed profile facts =
    ((((not facts.out && passes profile facts.kind) && (not facts.restricted || profile.restricted)) && (not facts.revolving || profile.revolving))
    && (not facts.turnstile || profile.turnstile))
    && (not facts.unmarked || not profile.marked)
