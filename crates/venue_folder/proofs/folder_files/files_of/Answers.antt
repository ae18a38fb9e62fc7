use Rattle.std.proofs.Common.{refl}
use Rattle.venue_types.specs.FolderFiles.{all_files}
use Rattle.venue_folder.proofs.Slots.{files_held}
use Rattle.venue_folder.proofs.folder_files.files_of.Goals as goal

pub returns-clause-told : goal.returns-clause-told
returns-clause-told g c =
    files_held (g.F.Folders.files c.args.folders.now) c.args.path.now all_files c.in_ok-slots.slots.items c.from_vec.result c.from_vec.ensures refl c.in_ok-slots.ensures.told
