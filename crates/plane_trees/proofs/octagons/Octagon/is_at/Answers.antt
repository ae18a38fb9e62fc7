use Rattle.std.proofs.Common.{◌*◌, pos, sym, ◌∙◌, arith}
use Rattle.std.proofs.lemmas.Int.{ints}
use Rattle.plane_exact.specs.Plane.{IsWithin}
use Rattle.plane_trees.specs.Line.{Longitude, Latitude, Rising, Falling}
use Rattle.plane_trees.specs.Octagons.{IsAtBand}
use Rattle.plane_trees.proofs.octagons.Octagon.is_at.Goals as goal

pub is_at-requires-clause-number : goal.is_at-requires-clause-number
is_at-requires-clause-number c =
    let h : IsWithin 1600000000 c.args.place.now.x (pos 0) = c.requires.place Longitude in
    record { above = omega (arith, ints); below = omega (arith, ints) }

pub is_at-requires-2-clause-number : goal.is_at-requires-2-clause-number
is_at-requires-2-clause-number c =
    let h : IsWithin 1600000000 c.args.place.now.y (pos 0) = c.requires.place Latitude in
    record { above = omega (arith, ints); below = omega (arith, ints) }

pub is_at-requires-3-clause-number : goal.is_at-requires-3-clause-number
is_at-requires-3-clause-number c =
    let h : IsWithin 1600000000 c.args.place.now.sum (pos 0) = c.requires.place Rising in
    record { above = omega (arith, ints); below = omega (arith, ints) }

pub is_at-requires-4-clause-number : goal.is_at-requires-4-clause-number
is_at-requires-4-clause-number c =
    let h : IsWithin 1600000000 c.args.place.now.difference (pos 0) = c.requires.place Falling in
    record { above = omega (arith, ints); below = omega (arith, ints) }

pub returns-then-not-is_at : goal.returns-then-not-is_at
returns-then-not-is_at c all =
    let h : IsAtBand c.args.self.now.x c.args.place.now.x (1 * c.args.t) = all Longitude in
    sym c.if-not-is_at.true ∙ c.is_at.ensures.1 (record { least = omega (arith, ints); greatest = omega (arith, ints) })

pub returns-then-not-is_at-2 : goal.returns-then-not-is_at-2
returns-then-not-is_at-2 c all =
    let h : IsAtBand c.args.self.now.y c.args.place.now.y (1 * c.args.t) = all Latitude in
    sym c.if-not-is_at-2.true ∙ c.is_at-2.ensures.1 (record { least = omega (arith, ints); greatest = omega (arith, ints) })

pub returns-then-not-is_at-3 : goal.returns-then-not-is_at-3
returns-then-not-is_at-3 c all =
    let h : IsAtBand c.args.self.now.sum c.args.place.now.sum (2 * c.args.t) = all Rising in
    sym c.if-not-is_at-3.true ∙ c.is_at-3.ensures.1 (record { least = omega (arith, ints); greatest = omega (arith, ints) })

pub returns : goal.returns
returns c all =
    let h : IsAtBand c.args.self.now.difference c.args.place.now.difference (2 * c.args.t) = all Falling in
    c.is_at-4.ensures.1 (record { least = omega (arith, ints); greatest = omega (arith, ints) })
