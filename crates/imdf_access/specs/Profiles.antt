-- The profiles that every venue has.
use Rattle.std.specs.Prelude.{List, [], ◌∷◌, true, false, codes}
use Rattle.venue_types.specs.declared.settings.Profile.{Profile}

-- on foot: everything but restricted units
abbrev pub walk_profile : Profile
walk_profile = record {
  name = codes "walk";
  elevator = true;
  escalator = true;
  movingwalkway = true;
  ramp = true;
  stairs = true;
  revolving = true;
  turnstile = true;
  restricted = false;
  marked = false;
}

-- step-free: elevators and ramps, by no revolving door and no turnstile
abbrev pub wheelchair_profile : Profile
wheelchair_profile = record {
  name = codes "wheelchair";
  elevator = true;
  escalator = false;
  movingwalkway = false;
  ramp = true;
  stairs = false;
  revolving = false;
  turnstile = false;
  restricted = false;
  marked = false;
}

-- the built-in profiles, in order
abbrev pub built_in_profiles : List Profile
built_in_profiles = walk_profile ∷ wheelchair_profile ∷ []
