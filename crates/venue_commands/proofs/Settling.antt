-- From what venue.toml is to the settings, or to the line that stops the command.
use Rattle.std.proofs.Common.{◌≡◌, ℕ, List, ◌++◌, Option, Some, None, Result, Ok, Err, sym, ap, subst, ◌∙◌, append_assoc, codes}
use Rattle.std.specs.Prelude.{IfOk, IfSome, Vec, String, string_bytes}
use Rattle.std.specs.declared.alloc.Global.{Global}
use Rattle.line_forms.specs.Lines.{line}
use Rattle.venue_types.specs.declared.settings.Settings.{Settings}
use Rattle.venue_ports.specs.Files.{StoredFile, file_at}
use Rattle.venue_ports.specs.declared.folders.ReadFault.{ReadFault}
use Rattle.venue_settings.specs.declared.fault.SettingsFault.{SettingsFault}
use Rattle.venue_settings.specs.Settings.{IsSettingsOf}
use Rattle.venue_commands.specs.declared.load.Loaded.{Loaded}
use Rattle.venue_commands.specs.declared.load.Loaded.TheVariants as loaded
use Rattle.venue_commands.specs.Steps.{IsLoaded, IsJudgedText, IsSettled}
use Rattle.venue_commands.specs.Checked.{settings_name, settings_limit, NoSettings, missing, large, unfit, IsFaultText}

-- what is told of the file that was loaded, where it is this one
told_as : (fs : List StoredFile) (base : List ℕ) (file known : Loaded) → file ≡ known → IsLoaded settings_limit (file_at fs base settings_name) file → IsLoaded settings_limit (file_at fs base settings_name) known
told_as fs base file known is told = subst (IsLoaded settings_limit (file_at fs base settings_name)) is told

pub settles_missing : (files : Option (List StoredFile)) (base : List ℕ) (file : Loaded) (text : String Global) → IfSome files (λ fs. IsLoaded settings_limit (file_at fs base settings_name) file)
    → file ≡ loaded.Missing → string_bytes text ≡ line (codes "missing venue.toml") → IfSome files (λ fs. IsSettled (file_at fs base settings_name) (Err text))
settles_missing None base file text told is printed = tt
settles_missing (Some fs) base file text told is printed =
    subst (NoSettings (file_at fs base settings_name)) (sym printed) (missing (told_as fs base file loaded.Missing is told))

pub settles_large : (files : Option (List StoredFile)) (base : List ℕ) (file : Loaded) (text : String Global) → IfSome files (λ fs. IsLoaded settings_limit (file_at fs base settings_name) file)
    → file ≡ loaded.Large → string_bytes text ≡ line (codes "large venue.toml") → IfSome files (λ fs. IsSettled (file_at fs base settings_name) (Err text))
settles_large None base file text told is printed = tt
settles_large (Some fs) base file text told is printed =
    let over = told_as fs base file loaded.Large is told in
    subst (NoSettings (file_at fs base settings_name)) (sym printed) (large over.0 over.1 over.2)

-- a file that was read whole, and what its text is judged to be
settled_as : (fs : List StoredFile) (base : List ℕ) (bytes : Vec ℕ Global) (text : List ℕ) (judged : Result Settings (String Global)) → IsLoaded settings_limit (file_at fs base settings_name) (loaded.Whole bytes)
    → text ≡ bytes.items → IsJudgedText text judged → IsSettled (file_at fs base settings_name) judged
settled_as fs base bytes text (Ok settings) whole same fits =
    record { bytes = bytes.items; there = whole.0; within = whole.1; form = subst (λ (t : List ℕ). IsSettingsOf t (Ok settings)) same fits }
settled_as fs base bytes text (Err printed) whole same fits =
    unfit bytes.items fits.0 whole.0 whole.1 (subst (λ (t : List ℕ). IsSettingsOf t (Err fits.0)) same fits.1) fits.2

pub settles : (files : Option (List StoredFile)) (base : List ℕ) (file : Loaded) (bytes : Vec ℕ Global) (text : List ℕ) (r : Result (Result Settings (String Global)) ReadFault)
    → IfSome files (λ fs. IsLoaded settings_limit (file_at fs base settings_name) file) → file ≡ loaded.Whole bytes → text ≡ bytes.items → IfOk r (IsJudgedText text)
    → IfOk r (λ settled. IfSome files (λ fs. IsSettled (file_at fs base settings_name) settled))
settles files base file bytes text (Err e) told is same fits = tt
settles None base file bytes text (Ok judged) told is same fits = tt
settles (Some fs) base file bytes text (Ok judged) told is same fits = settled_as fs base bytes text judged (told_as fs base file (loaded.Whole bytes) is told) same fits

-- the pieces of the line of a fault that names something
abbrev pub keyed_pieces : List ℕ → List ℕ → List ℕ
keyed_pieces front key = front ++ (codes " " ++ (key ++ codes "\n"))

pub keyed_line : (front key text : List ℕ) → text ≡ key → keyed_pieces front text ≡ line (front ++ (codes " " ++ key))
keyed_line front key text same =
    let joined : keyed_pieces front key ≡ line (front ++ (codes " " ++ key)) = simp append_assoc in
    ap (keyed_pieces front) same ∙ joined

-- a fault's line is that of the fault that it is
pub fault_line : (given known : SettingsFault) (text : List ℕ) → given ≡ known → IsFaultText known text → IsFaultText given text
fault_line given known text is printed = subst (λ (f : SettingsFault). IsFaultText f text) (sym is) printed
