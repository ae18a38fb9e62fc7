use Rattle.gen_text.specs.Texts.{stairs_relationship_item, relationship_item}
use Rattle.gen_text.proofs.items.push_stairs_relationship.Goals as goal

pub returns : goal.returns
unfolding stairs_relationship_item relationship_item
returns c = simp (c.relationship_number-number.ensures, c.opening_number-origin.ensures, c.opening_number-destination.ensures, c.in_ok-push_relationship.ensures)
