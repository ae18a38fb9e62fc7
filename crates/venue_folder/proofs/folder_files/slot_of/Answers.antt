use Rattle.venue_folder.proofs.Slots.{slot_absent, slot_held}
use Rattle.venue_folder.proofs.folder_files.slot_of.Goals as goal

pub returns-in-Ok-None-clause-told : goal.returns-in-Ok-None-clause-told
returns-in-Ok-None-clause-told g c =
    slot_absent (g.F.Folders.files c.args.folders.now) c.args.path.now c.name.result.now c.args.file c.in-Ok-None.field-0 c.name.ensures c.in-Ok-None.ensures.bytes c.in-Ok-None.field-0-is

pub returns-in-Ok-Some-clause-told : goal.returns-in-Ok-Some-clause-told
returns-in-Ok-Some-clause-told g c =
    slot_held (g.F.Folders.files c.args.folders.now) c.args.path.now c.name.result.now c.args.file c.in-Ok-Some.field-0 c.in-Ok-Some.bytes c.from_vec.result c.name.ensures
    c.in-Ok-Some.ensures.bytes c.in-Ok-Some.field-0-is c.from_vec.ensures
