use Rattle.std.proofs.Common.{◌≡◌, [], ap, sym, ◌∙◌, arith}
use Rattle.std.proofs.lemmas.List.{nil_from_length}
use Rattle.plane_exact.specs.Figure.{edges}
use Rattle.plane_exact.specs.Looks.{look_at}
use Rattle.plane_exact.proofs.LookLemmas.{look_at-nil}
use Rattle.plane_exact.proofs.sights.look_at_ring.Goals as goal

pub returns-in-empty : goal.returns-in-empty
returns-in-empty c =
    let empty : c.args.ring.now.points ≡ [] = sym c.as_slice.ensures ∙ nil_from_length c.as_slice.result.now (omega arith) in
    c.blank.ensures ∙ sym (look_at-nil c.args.way) ∙ ap (λ points. look_at c.args.way (edges points) points) (sym empty)
