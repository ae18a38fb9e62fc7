use Rattle.std.proofs.Common.{◌≡◌, ◌++◌, map, drop}
use Rattle.imdf_refs.proofs.identifiers.ids.Given as goal

-- the identifiers so far and those that are left are all
abbrev pub invariant-loop-feature : goal.invariant-loop-feature
invariant-loop-feature g l = l.ids.items ++ map g.R.HasReferences.id_of (drop l.feature-index l.features) ≡ map g.R.HasReferences.id_of l.features
