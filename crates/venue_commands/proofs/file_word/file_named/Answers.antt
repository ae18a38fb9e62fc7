use Rattle.std.proofs.Common.{◌≡◌, Option, sym, subst}
use Rattle.std.specs.Prelude.{IfSome, IfNone}
use Rattle.venue_types.specs.declared.folder_file.File.{File}
use Rattle.venue_types.specs.FolderFiles.{file_name, all_files}
use Rattle.venue_commands.proofs.FileNaming.{named_so, named_none}
use Rattle.venue_commands.proofs.file_word.file_named.Goals as goal

pub returns-clause-found : goal.returns-clause-found
returns-clause-found c =
    subst (λ (found : Option File). IfSome found (λ g. c.args.name.now ≡ file_name g)) (sym c.find.ensures) (named_so all_files c.args.name.now)

pub returns-clause-none : goal.returns-clause-none
returns-clause-none c =
    subst (λ (found : Option File). IfNone found ((g : File) → c.args.name.now ≡ file_name g → ⊥)) (sym c.find.ensures) (named_none c.args.name.now)
