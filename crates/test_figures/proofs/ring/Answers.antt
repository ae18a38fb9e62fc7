use Rattle.std.proofs.Common.{[], ◌∷◌, arith}
use Rattle.std.proofs.lemmas.List.{length-append}
use Rattle.std.proofs.lemmas.List.Elements.{All-same, All-push}
use Rattle.test_figures.specs.Boxes.{IsInBox}
use Rattle.test_figures.proofs.ring.Goals as goal

pub loop-point-preserved : goal.loop-point-preserved
loop-point-preserved c = record {
  inside = All-same IsInBox _ _ c.in_ok-push.ensures.items (All-push IsInBox c.loop-point.list.items c.at.result c.loop-point.invariant.inside c.at.ensures);
  count = rw c.in_ok-push.ensures.items (omega (arith, length-append c.loop-point.list.items (c.at.result ∷ []), c.loop-point.invariant.count));
}
