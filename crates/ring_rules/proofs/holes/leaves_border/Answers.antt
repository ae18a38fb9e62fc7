use Rattle.std.proofs.Common.{List, ◌↔◌, Any, IsTrue, sym, subst}
use Rattle.plane_exact.specs.Figure.{AllClose}
use Rattle.std.specs.Prelude.{◌++◌}
use Rattle.venue_types.specs.declared.point.Point.{Point}
use Rattle.ring_rules.specs.Judged.{IsOutside}
use Rattle.ring_rules.proofs.EdgeLemmas.{leaves_by}
use Rattle.ring_rules.proofs.holes.leaves_border.Goals as goal

pub has_outside-requires : goal.has_outside-requires
has_outside-requires c = subst (λ (points : List Point). AllClose (points ++ c.args.border.now.points)) (sym c.as_slice.ensures) c.requires

pub returns : goal.returns
returns c = leaves_by c.args.hole.now c.args.border.now c.has_outside.result
    (subst (λ (points : List Point). IsTrue c.has_outside.result ↔ Any (IsOutside c.args.border.now) points) c.as_slice.ensures c.has_outside.ensures)
