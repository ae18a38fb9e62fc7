-- From the answer and what was written to how the run ends.
use Rattle.std.proofs.Common.{◌≡◌, ℕ, ◌≤◌, List, [], ◌++◌, Option, Some, None, Result, Ok, Err, refl, sym, subst, ◌∙◌, inl, inr, codes, append-nil, true, false}
use Rattle.std.specs.Prelude.{IfSome, IfOk, IfErr, IsErrOf, OnOk, OnErr}
use Rattle.venue_types.specs.declared.folder_file.File.{File}
use Rattle.venue_ports.specs.Files.{StoredFile, HasReadCause}
use Rattle.venue_ports.specs.Causes.{Rose}
use Rattle.venue_ports.specs.declared.folders.ReadFault.{ReadFault}
use Rattle.venue_ports.specs.declared.folders.ReadFault.TheVariants as fault
use Rattle.venue_ports.specs.declared.stream.Failed.{Failed}
use Rattle.line_forms.specs.Lines.{line}
use Rattle.venue_commands.specs.declared.printout.Printout.{Printout}
use Rattle.venue_commands.specs.declared.status.Status.{Status}
use Rattle.venue_commands.specs.declared.status.Status.TheVariants.{Done, Negative, Wrong, Fault, Memory}
use Rattle.venue_commands.specs.Steps.{IsPrinted, IsUnknown, IsAnswer}
use Rattle.venue_commands.specs.declared.command.RouteOf.{RouteOf}
use Rattle.venue_commands.specs.ReadCommands.{AskWay}
use Rattle.venue_commands.specs.Commands.{Asked, Price, Verify, Check, Canon, Links, Route, Session, Serve, Gen, IsBase, IsFolder, IsIdentifier, IsAsked, Asks, AskForNothing, AskNoJournal, words_of}
use Rattle.venue_commands.specs.Output.{PriceOutput, Output, other_words, answers_price, answers_verify, answers_check, answers_canon, answers_links, answers_route, answers_gen}
use Rattle.venue_commands.specs.Verified.{VerifyOutput}
use Rattle.venue_commands.specs.Checked.{CheckOutput}
use Rattle.venue_commands.specs.Written.{CanonOutput}
use Rattle.venue_commands.specs.Linked.{LinksOutput}
use Rattle.venue_commands.specs.Routed.{RouteOutput}
use Rattle.venue_commands.specs.Generated.{GenOutput}
use Rattle.venue_commands.proofs.VenueMaking.{printed_as}
use Rattle.venue_commands.specs.FaultOrder.{FailsAt}
use Rattle.venue_commands.specs.Runs.{Run, FoldersRun, Wrote, NoFault, IsUnread}
use Rattle.venue_commands.specs.Ends.{folder_fault, Ends}

pub price_told : (words : List (List ℕ)) (files : Option (List StoredFile)) (base : List ℕ) (r : Result Printout ReadFault) → IsBase base → words ≡ words_of (Price base)
    → IfOk r (λ a. IfSome files (λ fs. PriceOutput fs base a.text a.status)) → IfOk r (λ a. IfSome files (λ fs. Output words fs a.text a.status))
price_told words files base (Err e) is-base is told = tt
price_told words None base (Ok a) is-base is told = tt
price_told words (Some fs) base (Ok a) is-base is told = answers_price base is-base is told

pub verify_told : (words : List (List ℕ)) (files : Option (List StoredFile)) (base : List ℕ) (r : Result Printout ReadFault) → IsBase base → words ≡ words_of (Verify base)
    → IfOk r (λ a. IfSome files (λ fs. VerifyOutput fs base a.text a.status)) → IfOk r (λ a. IfSome files (λ fs. Output words fs a.text a.status))
verify_told words files base (Err e) is-base is told = tt
verify_told words None base (Ok a) is-base is told = tt
verify_told words (Some fs) base (Ok a) is-base is told = answers_verify base is-base is told

pub check_told : (words : List (List ℕ)) (files : Option (List StoredFile)) (base folder : List ℕ) (r : Result Printout ReadFault) → IsBase base → IsFolder folder → words ≡ words_of (Check base folder)
    → IfOk r (λ a. IfSome files (λ fs. CheckOutput fs base folder a.text a.status)) → IfOk r (λ a. IfSome files (λ fs. Output words fs a.text a.status))
check_told words files base folder (Err e) is-base is-folder is told = tt
check_told words None base folder (Ok a) is-base is-folder is told = tt
check_told words (Some fs) base folder (Ok a) is-base is-folder is told = answers_check base folder (is-base, is-folder) is told

pub canon_told : (words : List (List ℕ)) (files : Option (List StoredFile)) (base folder : List ℕ) (file : File) (r : Result Printout ReadFault) → IsBase base → IsFolder folder
    → words ≡ words_of (Canon base folder file) → IfOk r (λ a. IfSome files (λ fs. CanonOutput fs base folder file a.text a.status)) → IfOk r (λ a. IfSome files (λ fs. Output words fs a.text a.status))
canon_told words files base folder file (Err e) is-base is-folder is told = tt
canon_told words None base folder file (Ok a) is-base is-folder is told = tt
canon_told words (Some fs) base folder file (Ok a) is-base is-folder is told = answers_canon base folder file (is-base, is-folder) is told

pub links_told : (words : List (List ℕ)) (files : Option (List StoredFile)) (base folder profile : List ℕ) (r : Result Printout ReadFault) → IsBase base → IsFolder folder
    → words ≡ words_of (Links base folder profile)
    → IfOk r (λ a. IfSome files (λ fs. LinksOutput fs base folder profile a.text a.status)) → IfOk r (λ a. IfSome files (λ fs. Output words fs a.text a.status))
links_told words files base folder profile (Err e) is-base is-folder is told = tt
links_told words None base folder profile (Ok a) is-base is-folder is told = tt
links_told words (Some fs) base folder profile (Ok a) is-base is-folder is told = answers_links base folder profile (is-base, is-folder) is told

pub route_told : (words : List (List ℕ)) (files : Option (List StoredFile)) (route : RouteOf) (r : Result Printout ReadFault) → AskWay words route
    → IfOk r (λ x. IfSome files (λ fs. RouteOutput fs route.of.base.now route.of.folder.now route.profile.now route.from route.to x.text x.status))
    → IfOk r (λ x. IfSome files (λ fs. Output words fs x.text x.status))
route_told words files route (Err e) way told = tt
route_told words None route (Ok x) way told = tt
route_told words (Some fs) route (Ok x) way told =
    answers_route route.of.base.now route.of.folder.now route.profile.now way.from way.to route.from route.to way.asks.form way.asks.spelled way.from_is way.to_is told

pub gen_told : (words : List (List ℕ)) (files : Option (List StoredFile)) (levels : ℕ) (r : Result Printout ReadFault) → 1 ≤ levels → levels ≤ 200 → words ≡ words_of (Gen levels)
    → IfOk r (λ a. GenOutput levels a.text a.status) → IfOk r (λ a. IfSome files (λ fs. Output words fs a.text a.status))
gen_told words files levels (Err e) some few is told = tt
gen_told words None levels (Ok a) some few is told = tt
gen_told words (Some fs) levels (Ok a) some few is told = answers_gen levels (some, few) is told

-- the words ask for nothing
pub asks_nothing : (words : List (List ℕ)) → ((base : List ℕ) → IsBase base → words ≡ words_of (Price base) → ⊥) → ((base : List ℕ) → IsBase base → words ≡ words_of (Verify base) → ⊥)
    → ((base folder : List ℕ) → IsBase base → IsFolder folder → words ≡ words_of (Check base folder) → ⊥)
    → ((base folder : List ℕ) → IsBase base → IsFolder folder → words ≡ words_of (Session base folder None) → ⊥)
    → ((base folder : List ℕ) (file : File) → IsBase base → IsFolder folder → words ≡ words_of (Canon base folder file) → ⊥)
    → ((base folder profile : List ℕ) → IsBase base → IsFolder folder → words ≡ words_of (Links base folder profile) → ⊥)
    → ((base folder profile from to : List ℕ) → IsBase base → IsFolder folder → IsIdentifier from → IsIdentifier to → words ≡ words_of (Route base folder profile from to) → ⊥)
    → ((levels : ℕ) → 1 ≤ levels → levels ≤ 200 → words ≡ words_of (Gen levels) → ⊥)
    → ((base folder address : List ℕ) (workers connections : ℕ) → IsAsked (Serve base folder address workers connections None) → words ≡ words_of (Serve base folder address workers connections None) → ⊥)
    → AskNoJournal words → AskForNothing words
asks_nothing words no_price no_verify no_check no_session no_canon no_links no_route no_gen no_service no_journal (Price base) form is = no_price base form is
asks_nothing words no_price no_verify no_check no_session no_canon no_links no_route no_gen no_service no_journal (Verify base) form is = no_verify base form is
asks_nothing words no_price no_verify no_check no_session no_canon no_links no_route no_gen no_service no_journal (Check base folder) form is = no_check base folder form.0 form.1 is
asks_nothing words no_price no_verify no_check no_session no_canon no_links no_route no_gen no_service no_journal (Canon base folder file) form is = no_canon base folder file form.0 form.1 is
asks_nothing words no_price no_verify no_check no_session no_canon no_links no_route no_gen no_service no_journal (Links base folder profile) form is = no_links base folder profile form.0 form.1 is
asks_nothing words no_price no_verify no_check no_session no_canon no_links no_route no_gen no_service no_journal (Route base folder profile from to) form is = no_route base folder profile from to form.0 form.1 form.2 form.3 is
asks_nothing words no_price no_verify no_check no_session no_canon no_links no_route no_gen no_service no_journal (Session base folder None) form is = no_session base folder form.0 form.1 is
asks_nothing words no_price no_verify no_check no_session no_canon no_links no_route no_gen no_service no_journal (Session base folder (Some journal)) form is =
    let same : true ≡ false = no_journal (Session base folder (Some journal)) (record { form = form; spelled = is }) in absurd cc
asks_nothing words no_price no_verify no_check no_session no_canon no_links no_route no_gen no_service no_journal (Serve base folder address workers connections None) form is = no_service base folder address workers connections form is
asks_nothing words no_price no_verify no_check no_session no_canon no_links no_route no_gen no_service no_journal (Serve base folder address workers connections (Some journal)) form is =
    let same : true ≡ false = no_journal (Serve base folder address workers connections (Some journal)) (record { form = form; spelled = is }) in absurd cc
asks_nothing words no_price no_verify no_check no_session no_canon no_links no_route no_gen no_service no_journal (Gen levels) form is = no_gen levels form.0 form.1 is

pub unknown_told : (words : List (List ℕ)) (files : Option (List StoredFile)) (r : Result Printout ReadFault) → AskForNothing words → IfOk r IsUnknown
    → IfOk r (λ a. IfSome files (λ fs. Output words fs a.text a.status))
unknown_told words files (Err e) none told = tt
unknown_told words None (Ok a) none told = tt
unknown_told words (Some fs) (Ok a) none told = printed_as (Output words fs) (line (codes "words")) Wrong a told.0 told.1 (other_words none)

-- the line of unknown words comes with a status of a printed line
pub unknown_plain : (r : Result Printout ReadFault) → IfOk r IsUnknown → IfOk r (λ a. IsPrinted a.status)
unknown_plain (Err e) told = tt
unknown_plain (Ok a) told = subst IsPrinted (sym told.1) tt

-- what was answered to the words of a command
pub is_answer : (words : List (List ℕ)) (files : Option (List StoredFile)) (folders : FoldersRun) (asked : Asked) (r : Result Printout ReadFault) → IfOk r (λ a. IsPrinted a.status)
    → IfOk r (λ a. IfSome files (λ fs. Output words fs a.text a.status)) → Asks words asked → (IsErrOf r fault.Failed → FailsAt files folders.asked folders.asked_now asked)
    → HasReadCause folders.faults folders.faults_now r → IsAnswer words files folders r
is_answer words files folders asked (Ok a) plain output asks failed cause = (plain, output, cause.kept)
is_answer words files folders asked (Err fault.Failed) plain output asks failed cause = record { asked = asked; asks = asks; at = failed refl; cause = cause.failed refl }
is_answer words files folders asked (Err fault.OutOfMemory) plain output asks failed cause = cause.kept_without_memory refl

-- the same, where there is none
pub no_answer : {T : Type 0} (words : List (List ℕ)) (files : Option (List StoredFile)) (folders : FoldersRun) (asked : Asked) (why : ReadFault) → Asks words asked
    → (IsErrOf {T = T} (Err why) fault.Failed → FailsAt files folders.asked folders.asked_now asked) → HasReadCause {T = T} folders.faults folders.faults_now (Err why)
    → IsAnswer words files folders (Err why)
no_answer words files folders asked fault.Failed asks failed cause = record { asked = asked; asks = asks; at = failed refl; cause = cause.failed refl }
no_answer words files folders asked fault.OutOfMemory asks failed cause = cause.kept_without_memory refl

-- the same, over folders that nothing was asked of
pub is_answer_alone : (words : List (List ℕ)) (files : Option (List StoredFile)) (folders : FoldersRun) (r : Result Printout ReadFault) → IfOk r (λ a. IsPrinted a.status)
    → IfOk r (λ a. IfSome files (λ fs. Output words fs a.text a.status)) → IfErr r (λ why. why ≡ fault.OutOfMemory) → folders.faults_now ≡ folders.faults → IsAnswer words files folders r
is_answer_alone words files folders (Ok a) plain output memory kept = (plain, output, kept)
is_answer_alone words files folders (Err fault.Failed) plain output memory kept = absurd cc
is_answer_alone words files folders (Err fault.OutOfMemory) plain output memory kept = kept

pub ends_printed : (words : List (List ℕ)) (files : Option (List StoredFile)) (run : Run) (status : Status) (text : List ℕ) → IsPrinted status → Wrote run.written run.written_now text
    → NoFault run → IsUnread run → IfSome files (λ fs. Output words fs text status) → Ends words files run status
ends_printed words files run Done text plain wrote faultless unread output = inl (record { text = text; wrote = wrote; output = output; faultless = faultless; unread = unread })
ends_printed words files run Negative text plain wrote faultless unread output = inl (record { text = text; wrote = wrote; output = output; faultless = faultless; unread = unread })
ends_printed words files run Wrong text plain wrote faultless unread output = record { text = text; wrote = wrote; output = output; faultless = faultless; unread = unread }
ends_printed words files run Fault text plain wrote faultless unread output = absurd plain
ends_printed words files run Memory text plain wrote faultless unread output = absurd plain

pub ends_cut : (words : List (List ℕ)) (files : Option (List StoredFile)) (run : Run) (status : Status) (text front rest : List ℕ) → Wrote run.written run.written_now front
    → text ≡ front ++ rest → IfSome files (λ fs. Output words fs text status) → Rose run.console run.console_now
    → run.folders_now ≡ run.folders → IsUnread run → Ends words files run Fault
ends_cut words files run status text front rest wrote parts output cause kept unread =
    inl (record { text = front; rest = rest; status = status; wrote = wrote; output = subst (λ (t : List ℕ). IfSome files (λ fs. Output words fs t status)) parts output; cause = cause; folders = kept; unread = unread })

-- all of the text was written, as it is spelled
pub ends_told : (words : List (List ℕ)) (files : Option (List StoredFile)) (run : Run) (status : Status) (text spelled : List ℕ) → spelled ≡ text → IsPrinted status
    → IfSome files (λ fs. Output words fs text status) → Wrote run.written run.written_now spelled → run.console_now ≡ run.console → run.folders_now ≡ run.folders → IsUnread run
    → Ends words files run status
ends_told words files run status text spelled is plain output wrote kept stayed unread =
    ends_printed words files run status text plain (subst (Wrote run.written run.written_now) is wrote) (record { console = kept; folders = stayed }) unread output

-- a front of it was
pub ends_short : (words : List (List ℕ)) (files : Option (List StoredFile)) (run : Run) (status : Status) (text spelled : List ℕ) → spelled ≡ text
    → IfSome files (λ fs. Output words fs text status) → (front : List ℕ) × (rest : List ℕ) × Wrote run.written run.written_now front × (spelled ≡ front ++ rest)
    → Rose run.console run.console_now → run.folders_now ≡ run.folders → IsUnread run → Ends words files run Fault
ends_short words files run status text spelled is output part rose stayed unread =
    ends_cut words files run status text part.0 part.1 part.2 (sym is ∙ part.3) output rose stayed unread

-- the folders failed, and this is what writing that came to
pub ends_failed : (words : List (List ℕ)) (files : Option (List StoredFile)) (run : Run) (written : Result (Unit {0}) Failed) (asked : Asked) → Asks words asked → FailsAt files run.asked run.asked_now asked
    → Rose run.folders run.folders_now → OnOk written (Wrote run.written run.written_now folder_fault)
    → OnErr written ((front : List ℕ) × (rest : List ℕ) × Wrote run.written run.written_now front × (folder_fault ≡ front ++ rest))
    → OnOk written (run.console_now ≡ run.console) → OnErr written (Rose run.console run.console_now) → IsUnread run → Ends words files run Fault
ends_failed words files run (Ok u) asked asks at cause all part kept rose unread =
    inr (inl (record { asked = asked; asks = asks; at = at; text = folder_fault; rest = []; wrote = all; whole = append-nil folder_fault; told = inl (refl, kept); cause = cause; unread = unread }))
ends_failed words files run (Err e) asked asks at cause all part kept rose unread =
    inr (inl (record { asked = asked; asks = asks; at = at; text = part.0; rest = part.1; wrote = part.2; whole = sym part.3; told = inr rose; cause = cause; unread = unread }))
