-- Words of a command that keeps a journal ask for nothing else.
use Rattle.std.proofs.Common.{◌≡◌, ℕ, List, Option, Some, None, sym, ◌∙◌, true, false}
use Rattle.venue_ports.specs.Files.{StoredFile}
use Rattle.venue_commands.specs.declared.command.JournalOf.{JournalOf}
use Rattle.venue_commands.specs.declared.command.KeptServiceOf.{KeptServiceOf}
use Rattle.venue_commands.specs.declared.status.Status.{Status}
use Rattle.venue_commands.specs.Commands.{Session, Serve, Asks, AskNoConsole, AskNoDoors, AskNoJournal, words_of}
use Rattle.venue_commands.specs.Headlines.{SaysHeadline}
use Rattle.venue_commands.specs.ReadCommands.{kept_session_asked, kept_service_asked}
use Rattle.venue_commands.specs.Runs.{Run}

no_plain_session : (words : List (List ℕ)) (base folder journal base' folder' : List ℕ) → words ≡ words_of (Session base folder (Some journal))
    → words ≡ words_of (Session base' folder' None) → ⊥
no_plain_session words base folder journal base' folder' is is' = let same : words_of (Session base folder (Some journal)) ≡ words_of (Session base' folder' None) = sym is ∙ is' in cc

no_session : (words : List (List ℕ)) (base folder address journal base' folder' : List ℕ) (workers connections : ℕ)
    → words ≡ words_of (Serve base folder address workers connections (Some journal)) → words ≡ words_of (Session base' folder' None) → ⊥
no_session words base folder address journal base' folder' workers connections is is' =
    let same : words_of (Serve base folder address workers connections (Some journal)) ≡ words_of (Session base' folder' None) = sym is ∙ is' in cc

-- the headline of plain sessions says nothing of them
pub session_headline : (words : List (List ℕ)) (told : Option (List StoredFile)) (run : Run) (status : Status) (it : JournalOf) → Asks words (kept_session_asked it)
    → SaysHeadline words told run status
session_headline words told run status it asks base' folder' files came before form spelled is left written ends =
    absurd (no_plain_session words it.of.base.now it.of.folder.now it.journal.now base' folder' asks.spelled spelled)

pub service_headline : (words : List (List ℕ)) (told : Option (List StoredFile)) (run : Run) (status : Status) (it : KeptServiceOf) → Asks words (kept_service_asked it)
    → SaysHeadline words told run status
service_headline words told run status it asks base' folder' files came before form spelled is left written ends =
    absurd (no_session words it.service.of.base.now it.service.of.folder.now it.service.address.now it.journal.now base' folder' it.service.workers it.service.connections asks.spelled spelled)

-- they ask for a console, for doors, and for a journal
pub session_console : (words : List (List ℕ)) (it : JournalOf) → Asks words (kept_session_asked it) → AskNoConsole words → ⊥
session_console words it asks none = let same : true ≡ false = none (kept_session_asked it) asks in absurd cc

pub service_doors : (words : List (List ℕ)) (it : KeptServiceOf) → Asks words (kept_service_asked it) → AskNoDoors words → ⊥
service_doors words it asks none = let same : true ≡ false = none (kept_service_asked it) asks in absurd cc

pub session_journal : (words : List (List ℕ)) (it : JournalOf) → Asks words (kept_session_asked it) → AskNoJournal words → ⊥
session_journal words it asks none = let same : true ≡ false = none (kept_session_asked it) asks in absurd cc

pub service_journal : (words : List (List ℕ)) (it : KeptServiceOf) → Asks words (kept_service_asked it) → AskNoJournal words → ⊥
service_journal words it asks none = let same : true ≡ false = none (kept_service_asked it) asks in absurd cc
