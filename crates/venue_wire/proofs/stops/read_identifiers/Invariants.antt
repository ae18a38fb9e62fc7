use Rattle.std.proofs.Common.{◌≡◌, List, ◌++◌, drop, map, option_map}
use Rattle.venue_types.specs.declared.feature_id.FeatureId.{FeatureId}
use Rattle.venue_wire.specs.Queries.{identifiers_read}
use Rattle.venue_wire.proofs.stops.read_identifiers.Given as goal

-- the identifiers of all are those read and those of what is left
abbrev pub invariant-loop-text : goal.invariant-loop-text
invariant-loop-text l =
    identifiers_read (map (λ text. text.now) l.texts)
    ≡ option_map (λ (others : List FeatureId). l.ids ++ others) (identifiers_read (map (λ text. text.now) (drop l.text-index l.texts)))
