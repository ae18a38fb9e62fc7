use Rattle.std.proofs.Common.{◌∷◌, take, drop}
use Rattle.plane_exact.specs.Figure.{AllNearby}
use Rattle.plane_trees.specs.Octagons.{IsRound}
use Rattle.plane_trees.proofs.octagons.octagon_of.Given as goal

-- round the points so far
abbrev pub invariant-loop-q : goal.invariant-loop-q
invariant-loop-q l = IsRound l.octagon l.origin (l.fn.start ∷ take l.q-index l.rest)
