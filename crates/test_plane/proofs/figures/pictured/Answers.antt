use Rattle.std.proofs.Common.{◌∙◌}
use Rattle.test_figures.proofs.BoxLemmas.{two_polygons}
use Rattle.test_plane.proofs.figures.pictured.Goals as goal

pub returns : goal.returns
returns c =
    two_polygons c.in_ok-outer.outer c.in_ok-hole.hole c.in_ok-notch.notch c.from_vec.result c.new.result c.from_vec-2.result
    (c.from_vec-2.ensures ∙ c.in_ok-vec-2.ensures.items) (c.from_vec.ensures ∙ c.in_ok-vec.ensures.items) c.new.ensures
    c.in_ok-outer.ensures c.in_ok-hole.ensures c.in_ok-notch.ensures
