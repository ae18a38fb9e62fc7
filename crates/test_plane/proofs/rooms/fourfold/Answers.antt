use Rattle.std.proofs.Common.{All, subst, sym}
use Rattle.venue_types.specs.declared.point.Shape.{Shape}
use Rattle.plane_exact.specs.Figure.{vertices}
use Rattle.test_figures.specs.Boxes.{IsInWideBox}
use Rattle.test_figures.proofs.BoxLemmas.{wide_vertices}
use Rattle.test_plane.proofs.rooms.fourfold.Goals as goal

pub returns-in-Ok : goal.returns-in-Ok
returns-in-Ok c = subst (λ (shape : Shape). All IsInWideBox (vertices shape)) (sym c.in-Ok.ensures) (wide_vertices c.args.room.now c.requires)
