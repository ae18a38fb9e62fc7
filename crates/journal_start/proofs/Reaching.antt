-- From what the parts of a start say to what it comes to.
use Rattle.std.proofs.Common.{◌≡◌, ℕ, List, [], ◌∷◌, Option, Some, None, Result, Ok, Err, refl, sym, subst, ap, ◌∙◌, false}
use Rattle.std.specs.Prelude.{IfErr, IfOk, IfSome, String, string_bytes, length}
use Rattle.std.specs.declared.alloc.Global.{Global}
use Rattle.venue_types.specs.declared.settings.Settings.{Settings}
use Rattle.venue_ports.specs.Asked.{AskedFile, HaveAsked}
use Rattle.venue_ports.specs.Disks.{OpensDisk}
use Rattle.venue_ports.specs.Files.{StoredFile, file_at}
use Rattle.venue_ports.specs.Moments.{Moment, Now}
use Rattle.venue_commands.specs.Checked.{settings_name}
use Rattle.venue_commands.specs.Steps.{IsSettled}
use Rattle.board_copies.specs.declared.resuming.Resumed.{Resumed}
use Rattle.journal_restore.specs.declared.restored.RestoreFault.{RestoreFault}
use Rattle.journal_restore.specs.declared.restored.RestoreFault.TheVariants as fault
use Rattle.journal_restore.specs.Restores.{IsCause, IsReplayed, IsRestored}
use Rattle.journal_start.specs.declared.stop.Why.{Why}
use Rattle.journal_start.specs.declared.stop.Why.TheVariants as why
use Rattle.journal_start.specs.Starts.{HasBegun, IsFolderStop, IsStarted, IsStopped, IsStoppedOver, IsStoppedUnder, restored, begun}
use Rattle.journal_start.specs.Stops.{AreSettingsOf, IsWhyOf, damaged, unfit, rejected}

-- what follows of what is there
pub some_maps : {X : Type 0} (P Q : X → Type 0) (found : Option X) → ((x : X) → P x → Q x) → IfSome found P → IfSome found Q
some_maps P Q None so holds = tt
some_maps P Q (Some x) so holds = so x holds

pub ok_maps : {X E : Type 0} (P Q : X → Type 0) (found : Result X E) → ((x : X) → P x → Q x) → IfOk found P → IfOk found Q
ok_maps P Q (Ok x) so holds = so x holds
ok_maps P Q (Err e) so holds = tt

pub ok_joins : {X E : Type 0} (P Q R : X → Type 0) (found : Result X E) → ((x : X) → P x → Q x → R x) → IfOk found P → IfOk found Q → IfOk found R
ok_joins P Q R (Ok x) so one other = so x one other
ok_joins P Q R (Err e) so one other = tt

pub err_maps : {X E : Type 0} (P Q : E → Type 0) (found : Result X E) → ((e : E) → P e → Q e) → IfErr found P → IfErr found Q
err_maps P Q (Ok x) so holds = tt
err_maps P Q (Err e) so holds = so e holds

pub text_as : {E : Type 0} (made : Result (String Global) E) (a b : List ℕ) → a ≡ b → IfOk made (λ text. string_bytes text ≡ a) → IfOk made (λ text. string_bytes text ≡ b)
text_as (Ok text) a b same is = is ∙ same
text_as (Err e) a b same is = tt

-- a journal that was read back to nothing has no record
count_none : (settings : Settings) (old new : List Moment) (count : ℕ) → IsRestored settings old new count None → IsRestored settings old new 0 None
count_none settings old new count is = subst (λ (n : ℕ). IsRestored settings old new n None) is.counted is

pub none_restored : (settings : Settings) (old new : List Moment) (count : ℕ) (resumed : Option Resumed) → resumed ≡ None → IsRestored settings old new count resumed
    → IsRestored settings old new 0 None
none_restored settings old new count resumed none is = count_none settings old new count (subst (λ (o : Option Resumed). IsRestored settings old new count o) none is)

-- what stops the folder of a journal without a record
pub folder_stops : (files : Option (List StoredFile)) (base folder : List ℕ) (settings : Settings) (old new : List Moment) (w : Why) → IsRestored settings old new 0 None
    → IsFolderStop files base folder settings w → IsStoppedOver files base folder settings old w
folder_stops files base folder settings old new (why.Printed answer) is stop = rejected is.replayed stop
folder_stops files base folder settings old new why.FolderFault is stop = tt
folder_stops files base folder settings old new why.DiskFault is stop = tt
folder_stops files base folder settings old new why.OutOfMemory is stop = tt

-- what stops a journal that isn't read back
pub journal_stops : (files : Option (List StoredFile)) (base folder : List ℕ) (settings : Settings) (old : List Moment) (f : RestoreFault) (w : Why)
    → Now (λ m. IsCause settings f m.reads) old → IsWhyOf f w → IsStoppedOver files base folder settings old w
journal_stops files base folder settings old fault.Failed w cause is = subst (IsStoppedOver files base folder settings old) (sym is) tt
journal_stops files base folder settings old fault.OutOfMemory w cause is = subst (IsStoppedOver files base folder settings old) (sym is) tt
journal_stops files base folder settings old (fault.Damaged place) (why.Printed answer) cause is = damaged place cause is.0 is.1
journal_stops files base folder settings old (fault.Damaged place) why.OutOfMemory cause is = tt
journal_stops files base folder settings old (fault.Damaged place) why.FolderFault cause is = absurd is
journal_stops files base folder settings old (fault.Damaged place) why.DiskFault cause is = absurd is
journal_stops files base folder settings old (fault.Unfit number) (why.Printed answer) cause is = unfit number cause is.0 is.1
journal_stops files base folder settings old (fault.Unfit number) why.OutOfMemory cause is = tt
journal_stops files base folder settings old (fault.Unfit number) why.FolderFault cause is = absurd is
journal_stops files base folder settings old (fault.Unfit number) why.DiskFault cause is = absurd is

-- the same start, of which less is asked
start_maps : (files : Option (List StoredFile)) (base folder : List ℕ) (settings : Settings) (opened : List Moment) (U V : Type 0) (count : ℕ) (resumed : Resumed) (now : List Moment)
    → (U → V) → IsStarted files base folder settings opened U count resumed now → IsStarted files base folder settings opened V count resumed now
start_maps files base folder settings opened U V count resumed now so (restored is unread) = restored is (so unread)
start_maps files base folder settings opened U V count resumed now so (begun read is has) = begun read is has

asked_same : (asked : List AskedFile) (before mid now : Option (List AskedFile)) → HaveAsked asked before mid → now ≡ mid → HaveAsked asked before now
asked_same asked before mid now have same = subst (HaveAsked asked before) (sym same) have

-- the start under settings that were read before
pub started_under : (files mid : Option (List StoredFile)) (base folder : List ℕ) (settings own : Settings) (opened : List Moment) (asked : List AskedFile)
    (before between now : Option (List AskedFile)) (count : ℕ) (resumed : Resumed) (moments : List Moment) → mid ≡ files → own ≡ settings → HaveAsked asked before between
    → IsStarted mid base folder settings opened (now ≡ between) count resumed moments → IsStarted files base folder own opened (HaveAsked asked before now) count resumed moments
started_under files mid base folder settings own opened asked before between now count resumed moments same is have started =
    let here : IsStarted files base folder settings opened (now ≡ between) count resumed moments =
    subst (λ (f : Option (List StoredFile)). IsStarted f base folder settings opened (now ≡ between) count resumed moments) same started in
    let mine : IsStarted files base folder own opened (now ≡ between) count resumed moments =
    subst (λ (s : Settings). IsStarted files base folder s opened (now ≡ between) count resumed moments) (sym is) here in
    start_maps files base folder own opened (now ≡ between) (HaveAsked asked before now) count resumed moments (λ later. asked_same asked before between now have later) mine

-- the stop under settings that were read before
pub stopped_under : {K : Type 0} (files mid held : Option (List StoredFile)) (base folder journal : List ℕ) (settings : Settings) (disk : Option K) (w : Why) → mid ≡ files
    → AreSettingsOf files base settings → IsStoppedUnder mid held base folder journal settings disk w → IsStopped files held base folder journal disk w
stopped_under files mid held base folder journal settings None (why.Printed answer) same are stop = absurd stop
stopped_under files mid held base folder journal settings None why.FolderFault same are stop = tt
stopped_under files mid held base folder journal settings None why.DiskFault same are stop = tt
stopped_under files mid held base folder journal settings None why.OutOfMemory same are stop = tt
stopped_under files mid held base folder journal settings (Some disk) w same are (opened, opens, over) =
    (settings, opened, are, opens, subst (λ (f : Option (List StoredFile)). IsStoppedOver f base folder settings opened w) same over)

-- the settings that were read
pub settings_read : (files : Option (List StoredFile)) (base : List ℕ) (settled : Result Settings (String Global)) (settings : Settings)
    → IfSome files (λ fs. IsSettled (file_at fs base settings_name) settled) → settled ≡ Ok settings → AreSettingsOf files base settings
settings_read files base settled settings told is = subst (λ (s : Result Settings (String Global)). IfSome files (λ fs. IsSettled (file_at fs base settings_name) s)) is told
