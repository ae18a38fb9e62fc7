-- From how a run ends to the number with which the process ends.
use Rattle.std.proofs.Common.{◌≡◌, ℕ, List, [], Option, Result, Ok, Err, sym, subst, ap, ◌∙◌}
use Rattle.std.specs.Prelude.{map, Vec, String, string_bytes}
use Rattle.std.specs.declared.alloc.Global.{Global}
use Rattle.venue_ports.specs.Files.{StoredFile}
use Rattle.venue_commands.specs.declared.status.Status.{Status}
use Rattle.venue_commands.specs.declared.status.Status.TheVariants.{Memory}
use Rattle.venue_commands.specs.Codes.{status_code}
use Rattle.venue_commands.specs.Commands.{Asked, Price, Verify, Check, Canon, Links, Route, Session, Serve, Gen, Asks, AskNoConsole, AskNoDoors, words_of}
use Rattle.venue_commands.specs.Ends.{NothingDone}
use Rattle.venue_commands.specs.Runs.{Run}
use Rattle.venue_program.specs.declared.exit.WordsFault.{WordsFault}
use Rattle.venue_program.specs.declared.exit.WordsFault.TheVariants.{NotText, OutOfMemory}
use Rattle.venue_program.specs.Disks.{DisksRun, AreLeft}
use Rattle.venue_program.specs.Doors.{DoorsRun, AreUnasked}
use Rattle.venue_program.specs.Ends.{RunEnds}
use Rattle.venue_program.specs.Exits.{Exits, ExitsAfter, KeepsAfter, LeavesAfter}

-- the words are told otherwise
pub exits_as : (words told : List (List ℕ)) (files : Option (List StoredFile)) (run : Run) (doors : DoorsRun) (disks : DisksRun) (status : Status) (number : ℕ) → told ≡ words
    → RunEnds told files run doors disks status → number ≡ status_code status → Exits words files run doors disks number
exits_as words told files run doors disks status number same ends numbered =
    record { status = status; ends = subst (λ (ws : List (List ℕ)). RunEnds ws files run doors disks status) same ends; numbered = numbered }

-- no words ask for nothing
nothing_spelled : (asked : Asked) → [] ≡ words_of asked → ⊥
nothing_spelled (Price base) is = cc
nothing_spelled (Verify base) is = cc
nothing_spelled (Check base folder) is = cc
nothing_spelled (Canon base folder file) is = cc
nothing_spelled (Links base folder profile) is = cc
nothing_spelled (Route base folder profile from to) is = cc
nothing_spelled (Session base folder journal) is = cc
nothing_spelled (Serve base folder address workers connections journal) is = cc
nothing_spelled (Gen levels) is = cc

pub nothing_asked : AskNoConsole []
nothing_asked asked asks = absurd (nothing_spelled asked asks.spelled)

pub nobody_asked : AskNoDoors []
nobody_asked asked asks = absurd (nothing_spelled asked asks.spelled)

asks_as : (words told : List (List ℕ)) (asked : Asked) → told ≡ words → Asks told asked → Asks words asked
asks_as words told asked same asks = record { form = asks.form; spelled = sym same ∙ asks.spelled }

-- words that ask for neither ask for neither where they are told otherwise
pub no_session_as : (words told : List (List ℕ)) → told ≡ words → AskNoConsole words → AskNoConsole told
no_session_as words told same none asked asks = none asked (asks_as words told asked same asks)

pub no_service_as : (words told : List (List ℕ)) → told ≡ words → AskNoDoors words → AskNoDoors told
no_service_as words told same none asked asks = none asked (asks_as words told asked same asks)

-- what was read of the words, or why none were
abbrev pub WordsRead : Type 0
WordsRead = Result (Vec (String Global) Global) WordsFault

pub exits_words : (read : WordsRead) (words : Vec (String Global) Global) (files : Option (List StoredFile)) (run : Run) (doors : DoorsRun) (disks : DisksRun) (number : ℕ) → read ≡ Ok words
    → Exits (map string_bytes words.items) files run doors disks number → ExitsAfter read files run doors disks number
exits_words read words files run doors disks number is exits = subst (λ (r : WordsRead). ExitsAfter r files run doors disks number) (sym is) exits

pub leaves_words : (read : WordsRead) (words : Vec (String Global) Global) (before now : Option (List ℕ)) → read ≡ Ok words
    → (AskNoConsole (map string_bytes words.items) → now ≡ before) → LeavesAfter read before now
leaves_words read words before now is leaves = subst (λ (r : WordsRead). LeavesAfter r before now) (sym is) leaves

-- one of the words is no text
pub exits_no_text : (read : WordsRead) (fault : WordsFault) (files : Option (List StoredFile)) (run : Run) (doors : DoorsRun) (disks : DisksRun) (number : ℕ) → read ≡ Err fault → fault ≡ NotText
    → Exits [] files run doors disks number → ExitsAfter read files run doors disks number
exits_no_text read fault files run doors disks number is named exits = subst (λ (r : WordsRead). ExitsAfter r files run doors disks number) (sym (is ∙ ap (λ (w : WordsFault). Err w) named)) exits

pub leaves_fault : (read : WordsRead) (fault : WordsFault) (before now : Option (List ℕ)) → read ≡ Err fault → now ≡ before → LeavesAfter read before now
leaves_fault read fault before now is same = subst (λ (r : WordsRead). LeavesAfter r before now) (sym is) same

-- memory ran out before they were read
pub exits_no_memory : (read : WordsRead) (fault : WordsFault) (files : Option (List StoredFile)) (run : Run) (doors : DoorsRun) (disks : DisksRun) (number : ℕ) → read ≡ Err fault → fault ≡ OutOfMemory
    → NothingDone run → AreUnasked doors → AreLeft disks → number ≡ status_code Memory → ExitsAfter read files run doors disks number
exits_no_memory read fault files run doors disks number is named nothing unasked left numbered =
    subst (λ (r : WordsRead). ExitsAfter r files run doors disks number) (sym (is ∙ ap (λ (w : WordsFault). Err w) named)) (nothing, unasked, left, numbered)

pub keeps_words : (read : WordsRead) (words : Vec (String Global) Global) (Kept : Type 0) → read ≡ Ok words → (AskNoDoors (map string_bytes words.items) → Kept) → KeepsAfter read Kept
keeps_words read words Kept is keeps = subst (λ (r : WordsRead). KeepsAfter r Kept) (sym is) keeps

pub keeps_fault : (read : WordsRead) (fault : WordsFault) (Kept : Type 0) → read ≡ Err fault → Kept → KeepsAfter read Kept
keeps_fault read fault Kept is kept = subst (λ (r : WordsRead). KeepsAfter r Kept) (sym is) kept
