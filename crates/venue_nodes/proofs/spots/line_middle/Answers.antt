use Rattle.std.proofs.Common.{◌∙◌, refl}
use Rattle.venue_nodes.proofs.Boxes.{line_middle_is}
use Rattle.venue_nodes.proofs.spots.line_middle.Goals as goal

pub returns-in-len1-up : goal.returns-in-len1-up
returns-in-len1-up c = c.middle.ensures ∙ line_middle_is c.args.points.now _ _ c.in-len1-up.len_at_least refl
