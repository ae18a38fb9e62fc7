use Rattle.std.proofs.Common.{List, ap, ◌∙◌}
use Rattle.venue_types.specs.declared.files.Files.{Files}
use Rattle.venue_types.specs.declared.files.Slot.{Slot}
use Rattle.gen_text.specs.Texts.{building_files}
use Rattle.gen_text.proofs.FileLemmas.{all_slots}
use Rattle.gen_text.proofs.files.gen_files.Goals as goal

pub returns : goal.returns
unfolding building_files
returns c =
    let files : List Slot → Files = λ slots. record { slots = slots } in
    ap files
    (c.from_vec.ensures
    ∙ (c.in_ok-slots.ensures.items
    ∙ all_slots c.args.levels c.in_ok-manifest.manifest c.in_ok-level.level c.in_ok-opening.opening c.in_ok-relationship.relationship c.in_ok-unit.unit c.in_ok-venue.venue
    c.in_ok-manifest.ensures c.in_ok-level.ensures c.in_ok-opening.ensures c.in_ok-relationship.ensures c.in_ok-unit.ensures c.in_ok-venue.ensures))
