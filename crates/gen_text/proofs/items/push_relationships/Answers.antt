use Rattle.std.proofs.Common.{append_assoc, append-nil}
use Rattle.gen_text.specs.Texts.{relationship_items}
use Rattle.gen_text.proofs.items.push_relationships.Goals as goal

pub returns : goal.returns
unfolding relationship_items
returns c =
    simp
    (c.in_ok-push_lift_relationship.ensures, c.in_ok-push_stairs_relationship.ensures, append-nil, append_assoc)
