-- From reads that failed to where the folders failed a command.
use Rattle.std.proofs.Common.{◌≡◌, ℕ, List, [], ◌∷◌, Option, Some, None, Result, Ok, Err, true, false, inl, inr, subst}
use Rattle.std.specs.Prelude.{IfErr, IfSome, IsErrOf, String}
use Rattle.std.specs.declared.alloc.Global.{Global}
use Rattle.venue_types.specs.FolderFiles.{all_files}
use Rattle.venue_types.specs.declared.folder_file.File.{File}
use Rattle.venue_types.specs.declared.settings.Settings.{Settings}
use Rattle.venue_ports.specs.Asked.{AskedFile, HaveAsked}
use Rattle.venue_ports.specs.Files.{StoredFile, file_at}
use Rattle.venue_ports.specs.declared.folders.ReadFault.{ReadFault}
use Rattle.venue_ports.specs.declared.folders.ReadFault.TheVariants.{Failed, OutOfMemory}
use Rattle.venue_ports.proofs.AskedLemmas.{asked_joined}
use Rattle.venue_folder.specs.AskedFolders.{AskedUntil}
use Rattle.venue_folder.specs.Shelves.{folder_path}
use Rattle.route_certificate.specs.declared.table.Table.{Table}
use Rattle.route_certificate.specs.Forms.{IsTable}
use Rattle.venue_commands.specs.declared.load.Cause.{Cause}
use Rattle.venue_commands.specs.Checked.{SettingsForm, settings_limit, settings_name}
use Rattle.venue_commands.specs.FaultOrder.{read_at, HasTable, HasSettings, FailsOverTable, FailsInFolder}
use Rattle.venue_commands.specs.Files.{links_limit, links_name}
use Rattle.venue_commands.specs.Steps.{IsJudged, IsSettled}

has_table : (files : Option (List StoredFile)) (base : List ℕ) (judged : Result Table Cause) (table : Table)
    → IfSome files (λ fs. IsJudged IsTable links_limit (file_at fs base links_name) judged) → judged ≡ Ok table → HasTable files base
has_table None base judged table told is = tt
has_table (Some fs) base judged table told is = (table, subst (IsJudged IsTable links_limit (file_at fs base links_name)) is told)

-- there is a table, and the folders failed at the file that is read over it
pub over_table : (files : Option (List StoredFile)) (base name : List ℕ) (judged : Result Table Cause) (table : Table) (b m n : Option (List AskedFile))
    → IfSome files (λ fs. IsJudged IsTable links_limit (file_at fs base links_name) judged) → judged ≡ Ok table
    → HaveAsked (read_at base links_name false ∷ []) b m → HaveAsked (read_at base name true ∷ []) m n → FailsOverTable files b n base name
over_table files base name judged table b m n told is first second =
    inr (has_table files base judged table told is, asked_joined (read_at base links_name false ∷ []) (read_at base name true ∷ []) b m n first second)

has_settings : (files : Option (List StoredFile)) (base : List ℕ) (settled : Result Settings (String Global)) (settings : Settings)
    → IfSome files (λ fs. IsSettled (file_at fs base settings_name) settled) → settled ≡ Ok settings → HasSettings files base
has_settings None base settled settings told is = tt
has_settings (Some fs) base settled settings told is = (settings, subst (IsSettled (file_at fs base settings_name)) is told)

-- there are settings, and the folders failed at a file of the folder
pub in_folder : (files : Option (List StoredFile)) (base folder : List ℕ) (settled : Result Settings (String Global)) (settings : Settings) (b m n : Option (List AskedFile))
    → IfSome files (λ fs. IsSettled (file_at fs base settings_name) settled) → settled ≡ Ok settings
    → HaveAsked (read_at base settings_name false ∷ []) b m → AskedUntil (folder_path base folder) all_files m n Failed → FailsInFolder files b n base folder
in_folder files base folder settled settings b m n told is first until = inr (has_settings files base settled settings told is, (m, first, until))

-- the files of a folder were asked for until one failed
pub until_failed : {T : Type 0} (path named : List ℕ) (files : List File) (b n : Option (List AskedFile)) (r : Result T ReadFault) → path ≡ named
    → IfErr r (AskedUntil path files b n) → IsErrOf r Failed → AskedUntil named files b n Failed
until_failed path named files b n (Ok x) same until is = absurd cc
until_failed path named files b n (Err Failed) same until is = subst (λ (p : List ℕ). AskedUntil p files b n Failed) same until
until_failed path named files b n (Err OutOfMemory) same until is = absurd cc
