-- At which file of a command the folders may fail: each is asked for once, in order, and only where nothing before it stops the command.
use Rattle.std.specs.Prelude.{◌⊎◌, ℕ, List, [], ◌∷◌, Option, IfSome, Bool, true, false}
use Rattle.venue_types.specs.FolderFiles.{all_files}
use Rattle.venue_types.specs.declared.settings.Settings.{Settings}
use Rattle.venue_ports.specs.Asked.{AskedFile, HaveAsked}
use Rattle.venue_ports.specs.Files.{StoredFile, file_at}
use Rattle.venue_ports.specs.declared.folders.ReadFault.TheVariants.{Failed}
use Rattle.venue_folder.specs.AskedFolders.{AskedUntil}
use Rattle.venue_folder.specs.Shelves.{folder_path}
use Rattle.route_certificate.specs.declared.table.Table.{Table}
use Rattle.route_certificate.specs.Forms.{IsTable}
use Rattle.venue_commands.specs.Checked.{SettingsForm, settings_limit, settings_name}
use Rattle.venue_commands.specs.Commands.{Asked, Price, Verify, Check, Canon, Links, Route, Session, Serve, Gen}
use Rattle.venue_commands.specs.Files.{Reads, links_limit, links_name, walk_name, answer_name}

-- a read of a file of the base
abbrev pub read_at : List ℕ → List ℕ → Bool → AskedFile
read_at base name failed = record { folder = base; file = name; failed = failed }

-- the base has a table of links
abbrev pub HasTable : Option (List StoredFile) → List ℕ → Type 0
HasTable files base = IfSome files (λ fs. (table : Table) × Reads IsTable links_limit (file_at fs base links_name) table)

-- the base has settings
abbrev pub HasSettings : Option (List StoredFile) → List ℕ → Type 0
HasSettings files base = IfSome files (λ fs. (settings : Settings) × Reads SettingsForm settings_limit (file_at fs base settings_name) settings)

-- the folders failed at the table of links; or there is one, and they failed at the file that is read over it
abbrev pub FailsOverTable : Option (List StoredFile) → Option (List AskedFile) → Option (List AskedFile) → List ℕ → List ℕ → Type 0
FailsOverTable files before now base name =
    HaveAsked (read_at base links_name true ∷ []) before now
    ⊎ (HasTable files base × HaveAsked (read_at base links_name false ∷ read_at base name true ∷ []) before now)

-- the folders failed at the settings; or there are some, and they failed at a file of the folder, behind which none was asked for
abbrev pub FailsInFolder : Option (List StoredFile) → Option (List AskedFile) → Option (List AskedFile) → List ℕ → List ℕ → Type 0
FailsInFolder files before now base folder =
    HaveAsked (read_at base settings_name true ∷ []) before now
    ⊎ (HasSettings files base
    × ((between : Option (List AskedFile)) × HaveAsked (read_at base settings_name false ∷ []) before between × AskedUntil (folder_path base folder) all_files between now Failed))

-- where the folders failed in a command
abbrev pub FailsAt : Option (List StoredFile) → Option (List AskedFile) → Option (List AskedFile) → Asked → Type 0
FailsAt files before now (Price base) = FailsOverTable files before now base walk_name
FailsAt files before now (Verify base) = FailsOverTable files before now base answer_name
FailsAt files before now (Check base folder) = FailsInFolder files before now base folder
FailsAt files before now (Canon base folder file) = FailsInFolder files before now base folder
FailsAt files before now (Links base folder profile) = FailsInFolder files before now base folder
FailsAt files before now (Route base folder profile from to) = FailsInFolder files before now base folder
FailsAt files before now (Session base folder journal) = FailsInFolder files before now base folder
FailsAt files before now (Serve base folder address workers connections journal) = FailsInFolder files before now base folder
FailsAt files before now (Gen levels) = ⊥
