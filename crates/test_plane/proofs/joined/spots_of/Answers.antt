use Rattle.std.proofs.lemmas.List.Elements.{All-same, All-push}
use Rattle.test_figures.specs.Boxes.{IsInDoubledBox}
use Rattle.test_plane.proofs.joined.spots_of.Goals as goal

pub loop-place-preserved : goal.loop-place-preserved
loop-place-preserved c = All-same IsInDoubledBox _ _ c.in_ok-push.ensures.items (All-push IsInDoubledBox c.loop-place.spots.items c.spot_of.result c.loop-place.invariant c.spot_of.ensures)
