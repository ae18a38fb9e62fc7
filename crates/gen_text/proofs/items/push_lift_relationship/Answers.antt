use Rattle.gen_text.specs.Texts.{lift_relationship_item, relationship_item}
use Rattle.gen_text.proofs.items.push_lift_relationship.Goals as goal

pub returns : goal.returns
unfolding lift_relationship_item relationship_item
returns c = simp (c.relationship_number-number.ensures, c.unit_number-origin.ensures, c.unit_number-destination.ensures, c.in_ok-push_relationship.ensures)
