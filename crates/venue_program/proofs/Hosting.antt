-- From what a service writes to how it ends.
use Rattle.std.proofs.Common.{◌≡◌, ℕ, List, [], ◌++◌, Option, Some, None, refl, sym, subst, ap, ◌∙◌, inl, inr, append_assoc, append-nil}
use Rattle.std.proofs.Common.{Result, Ok, Err, codes}
use Rattle.std.specs.Prelude.{◌⊎◌, Bool, true, false, String, string_bytes, IfOk, IfSome, IfNone, OnOk, OnErr}
use Rattle.std.specs.declared.alloc.Global.{Global}
use Rattle.std.specs.Fmt.{decimal}
use Rattle.std.specs.Arc.{arc_value}
use Rattle.venue_ports.specs.Files.{StoredFile}
use Rattle.venue_ports.specs.declared.stream.Failed.{Failed}
use Rattle.venue_ports.specs.Causes.{Rose}
use Rattle.venue_service.specs.Ends.{Measured}
use Rattle.venue_service.specs.declared.service.Counts.{Counts}
use Rattle.venue_commands.specs.declared.status.Status.{Status}
use Rattle.venue_commands.specs.declared.status.Status.TheVariants.{Done, Negative, Wrong, Fault, Memory}
use Rattle.venue_commands.specs.Runs.{Wrote}
use Rattle.venue_commands.specs.declared.printout.Printout.{Printout}
use Rattle.venue_commands.specs.Checked.{NoVenue}
use Rattle.venue_commands.specs.Commands.{Session, Serve, Asks, AskNoDoors, words_of}
use Rattle.venue_commands.specs.Headlines.{SaysHeadline}
use Rattle.venue_commands.specs.Output.{Output, stops_serve}
use Rattle.venue_commands.specs.Runs.{Run}
use Rattle.venue_commands.specs.ReadCommands.{service_asked}
use Rattle.venue_commands.specs.declared.command.ServiceOf.{ServiceOf}
use Rattle.venue_commands.specs.declared.start.Start.{Start}
use Rattle.venue_program.specs.declared.ready.Ready.{Ready}
use Rattle.venue_program.specs.Steps.{IsReadyOf, IsReadyFor}
use Rattle.venue_types.specs.declared.memory.OutOfMemory.{OutOfMemory}
use Rattle.venue_service.specs.Records.{Logged}
use Rattle.venue_service.specs.Services.{HallTerms}
use Rattle.venue_service.specs.Venues.{SeenVenue as Venue}
use Rattle.venue_program.specs.Doors.{DoorsRun, AreBoundAt}
use Rattle.venue_program.specs.Services.{closing_line, listening_line, IsTold, IsToldInPart, WereServed, IsServiceEnd, unserved, served, failing, cut_short, untold}
use Rattle.venue_program.specs.Steps.{IsClosing, IsServedOn, nobody, closed}

-- nothing is written where nothing changes
pub wrote_nothing : (written : Option (List ℕ)) → Wrote written written []
wrote_nothing None = refl
wrote_nothing (Some old) = ap (λ (t : List ℕ). Some t) (sym (append-nil old))

-- one text behind the other
wrote_on : (old mid new : Option (List ℕ)) (a b : List ℕ) → Wrote old mid a → Wrote mid new b → Wrote old new (a ++ b)
wrote_on None mid new a b first second = subst (λ (m : Option (List ℕ)). Wrote m new b) first second
wrote_on (Some old) mid new a b first second =
    let on : new ≡ Some ((old ++ a) ++ b) = subst (λ (m : Option (List ℕ)). Wrote m new b) first second in
    on ∙ ap (λ (t : List ℕ). Some t) (append_assoc old a b)

-- behind a text that was written all of a text is told
told_on : (next console : Measured) (a b : List ℕ) → Wrote console.written_before next.written_before a → next.faults_before ≡ console.faults_before
    → console.written_after ≡ next.written_after → console.faults_after ≡ next.faults_after → IsTold next b → IsTold console (a ++ b)
told_on next console a b first kept written faults told = record {
  wrote = subst (λ (o : Option (List ℕ)). Wrote console.written_before o (a ++ b)) (sym written) (wrote_on console.written_before next.written_before next.written_after a b first told.wrote);
  faultless = faults ∙ told.faultless ∙ kept;
}

-- or a front of it
told_in_part_on : (next console : Measured) (a b : List ℕ) → Wrote console.written_before next.written_before a → next.faults_before ≡ console.faults_before
    → console.written_after ≡ next.written_after → console.faults_after ≡ next.faults_after → IsToldInPart next b → IsToldInPart console (a ++ b)
told_in_part_on next console a b first kept written faults told = record {
  front = a ++ told.front;
  rest = told.rest;
  whole = ap (λ (t : List ℕ). a ++ t) told.whole ∙ sym (append_assoc a told.front told.rest);
  wrote = subst (λ (o : Option (List ℕ)). Wrote console.written_before o (a ++ told.front)) (sym written)
      (wrote_on console.written_before next.written_before next.written_after a told.front first told.wrote);
  cause = subst (λ (n : ℕ). Rose n console.faults_after) kept (subst (λ (n : ℕ). Rose next.faults_before n) (sym faults) told.cause);
}

-- a front of a text was written, and the console failed
pub told_part : (console : Measured) (text spelled : List ℕ) → spelled ≡ text
    → (front : List ℕ) × (rest : List ℕ) × Wrote console.written_before console.written_after front × (spelled ≡ front ++ rest) → Rose console.faults_before console.faults_after
    → IsToldInPart console text
told_part console text spelled is part rose = record { front = part.0; rest = part.1; whole = sym is ∙ part.3; wrote = part.2; cause = rose }

-- all of it was written
pub told_whole : (console : Measured) (text spelled : List ℕ) → spelled ≡ text → Wrote console.written_before console.written_after spelled → console.faults_after ≡ console.faults_before
    → IsTold console text
told_whole console text spelled is wrote kept = record { wrote = subst (Wrote console.written_before console.written_after) is wrote; faultless = kept }

-- the closing line was written, under a status that says whether an accept failed
pub closing_told : (counts : Counts) (console : Measured) (status : Status) (failed : Bool) → counts.failed ≡ failed → (failed ≡ false → status ≡ Done) → (failed ≡ true → status ≡ Fault)
    → IsTold console (closing_line counts) → IsClosing counts console status
closing_told counts console status false is done fault told = subst (IsClosing counts console) (sym (done refl)) (told, is)
closing_told counts console status true is done fault told = subst (IsClosing counts console) (sym (fault refl)) (inl (told, is))

-- behind the line that tells the address
closed_on : (address : List ℕ) (terms : HallTerms) (records : Option (List Logged)) (next console : Measured) (doors : DoorsRun) (status : Status) (counts : Counts)
    → Wrote console.written_before next.written_before (listening_line address) → next.faults_before ≡ console.faults_before
    → console.written_after ≡ next.written_after → console.faults_after ≡ next.faults_after → WereServed terms records doors counts → IsClosing counts next status
    → IsServiceEnd address terms records console doors status
closed_on address terms records next console doors Done counts first kept written faults were closing =
    served counts were closing.1 (told_on next console (listening_line address) (closing_line counts) first kept written faults closing.0)
closed_on address terms records next console doors Fault counts first kept written faults were (inl closing) =
    failing counts were closing.1 (told_on next console (listening_line address) (closing_line counts) first kept written faults closing.0)
closed_on address terms records next console doors Fault counts first kept written faults were (inr closing) =
    cut_short counts were (told_in_part_on next console (listening_line address) (closing_line counts) first kept written faults closing)
closed_on address terms records next console doors Memory counts first kept written faults were closing =
    untold counts were (subst (IsTold console) (append-nil (listening_line address)) (told_on next console (listening_line address) [] first kept written faults closing))
closed_on address terms records next console doors Negative counts first kept written faults were closing = absurd closing
closed_on address terms records next console doors Wrong counts first kept written faults were closing = absurd closing

pub service_ends : (address : List ℕ) (terms : HallTerms) (records : Option (List Logged)) (next console : Measured) (doors : DoorsRun) (status : Status)
    → Wrote console.written_before next.written_before (listening_line address) → next.faults_before ≡ console.faults_before
    → console.written_after ≡ next.written_after → console.faults_after ≡ next.faults_after → IsServedOn terms records next doors status
    → IsServiceEnd address terms records console doors status
service_ends address terms records next console doors status first kept written faults (nobody memory came told) =
    subst (IsServiceEnd address terms records console doors) (sym memory)
    (unserved came (subst (IsTold console) (append-nil (listening_line address)) (told_on next console (listening_line address) [] first kept written faults told)))
service_ends address terms records next console doors status first kept written faults (closed counts were closing) =
    closed_on address terms records next console doors status counts first kept written faults were closing

-- what the doors told at another time before
abbrev pub since : DoorsRun → ℕ → ℕ → DoorsRun
since doors accepted faults = record {
  accepted = accepted;
  accepted_now = doors.accepted_now;
  binds = doors.binds;
  binds_now = doors.binds_now;
  bound = doors.bound;
  bound_now = doors.bound_now;
  faults = faults;
  faults_now = doors.faults_now;
}

-- the same, where the doors told the same before
pub ends_since : (address : List ℕ) (terms : HallTerms) (records : Option (List Logged)) (console : Measured) (doors : DoorsRun) (accepted faults : ℕ) (status : Status)
    → accepted ≡ doors.accepted → faults ≡ doors.faults
    → IsServiceEnd address terms records console (since doors accepted faults) status → IsServiceEnd address terms records console doors status
ends_since address terms records console doors accepted faults status same kept ends =
    subst (λ (n : ℕ). IsServiceEnd address terms records console (since doors doors.accepted n) status) kept
    (subst (λ (n : ℕ). IsServiceEnd address terms records console (since doors n faults) status) same ends)

-- what holds of what is there
pub some_of : {X : Type 0} (P : X → Type 0) (found : Option X) (x : X) → found ≡ Some x → IfSome found P → P x
some_of {X} P found x is holds = let here : IfSome (Some x) P = subst (λ (o : Option X). IfSome o P) is holds in here

pub none_of : {X : Type 0} (P : Type 0) (found : Option X) → found ≡ None → IfNone found P → P
none_of P None is holds = holds
none_of P (Some x) is holds = absurd cc

-- a text was written, or a front of it
pub told_either : (console : Measured) (text : List ℕ) (written : Result (Unit {0}) Failed) → OnOk written (Wrote console.written_before console.written_after text)
    → OnErr written ((front : List ℕ) × (rest : List ℕ) × Wrote console.written_before console.written_after front × (text ≡ front ++ rest))
    → OnOk written (console.faults_after ≡ console.faults_before) → OnErr written (Rose console.faults_before console.faults_after)
    → IsTold console text ⊎ IsToldInPart console text
told_either console text (Ok u) all part kept rose = inl (record { wrote = all; faultless = kept })
told_either console text (Err e) all part kept rose = inr (told_part console text text refl part rose)

-- the four counts behind each other
pub closing_spelled : (counts : Counts) (changes versions sessions text : List ℕ) → changes ≡ codes " changes" ++ (codes " " ++ (decimal counts.changes ++ codes "\n"))
    → versions ≡ codes " versions" ++ (codes " " ++ (decimal counts.versions ++ changes)) → sessions ≡ codes " sessions" ++ (codes " " ++ (decimal counts.sessions ++ versions))
    → text ≡ codes "workers" ++ (codes " " ++ (decimal counts.workers ++ sessions)) → text ≡ closing_line counts
closing_spelled counts changes versions sessions text one two three four =
    four ∙ ap (λ (t : List ℕ). codes "workers " ++ (decimal counts.workers ++ t))
    (three ∙ ap (λ (t : List ℕ). codes " sessions " ++ (decimal counts.sessions ++ t)) (two ∙ ap (λ (t : List ℕ). codes " versions " ++ (decimal counts.versions ++ t)) one))

pub text_as : {E : Type 0} (made : Result (String Global) E) (a b : List ℕ) → a ≡ b → IfOk made (λ text. string_bytes text ≡ a) → IfOk made (λ text. string_bytes text ≡ b)
text_as (Ok text) a b same is = is ∙ same
text_as (Err e) a b same is = tt

-- there is no venue, and this is printed
pub service_stopped : (words : List (List ℕ)) (files : Option (List StoredFile)) (service : ServiceOf) (answer : Printout) → Asks words (service_asked service)
    → IfSome files (λ fs. NoVenue fs service.of.base.now service.of.folder.now answer.text answer.status) → IfSome files (λ fs. Output words fs answer.text answer.status)
service_stopped words None service answer asks told = tt
service_stopped words (Some fs) service answer asks told =
    stops_serve service.of.base.now service.of.folder.now service.address.now service.workers service.connections asks.form asks.spelled told

-- what is ready of an opening is ready for its venue
pub ready_for : (opening : Start) (service : ServiceOf) (venue : Venue) (base : List ℕ) (r : Result Ready OutOfMemory) → opening.base ≡ base → venue ≡ arc_value opening.venue
    → IfOk r (IsReadyOf opening service) → IfOk r (IsReadyFor base venue service.address.now service.workers service.connections)
ready_for opening service venue base (Err e) based same ready = tt
ready_for opening service venue base (Ok r) based same ready = record {
  terms = (record {
    shared = opening.venue;
    publishes = sym same;
    opening = ready.opening_is;
    base_is = ready.base_is ∙ based;
    keys = ready.keys ∙ opening.keys ∙ ap (λ (v : Venue). v.settings.staff_keys) (sym same);
    workers_are = ready.workers_are;
    connections_are = ready.connections_are;
  });
  address_is = ready.address_is;
}

-- words of a service ask for no session, of which alone the headline speaks
no_session : (words : List (List ℕ)) (base folder address base' folder' : List ℕ) (workers connections : ℕ) → words ≡ words_of (Serve base folder address workers connections None)
    → words ≡ words_of (Session base' folder' None) → ⊥
no_session words base folder address base' folder' workers connections is is' = let same : words_of (Serve base folder address workers connections None) ≡ words_of (Session base' folder' None) = sym is ∙ is' in cc

pub service_headline : (words : List (List ℕ)) (told : Option (List StoredFile)) (run : Run) (status : Status) (service : ServiceOf) → Asks words (service_asked service)
    → SaysHeadline words told run status
service_headline words told run status service asks base' folder' files came before form spelled is left written ends =
    absurd (no_session words service.of.base.now service.of.folder.now service.address.now base' folder' service.workers service.connections asks.spelled spelled)

-- and they ask for doors
pub asks_doors : (words : List (List ℕ)) (service : ServiceOf) → Asks words (service_asked service) → AskNoDoors words → ⊥
asks_doors words service asks none = let same : true ≡ false = none (service_asked service) asks in absurd cc

-- what was bound and served at an address, where it is told otherwise
pub bound_as : (address named : List ℕ) (doors : DoorsRun) → address ≡ named → AreBoundAt address doors → AreBoundAt named doors
bound_as address named doors same bound = subst (λ (a : List ℕ). AreBoundAt a doors) same bound

pub ends_as : (address named : List ℕ) (terms : HallTerms) (records : Option (List Logged)) (console : Measured) (doors : DoorsRun) (status : Status) → address ≡ named
    → IsServiceEnd address terms records console doors status → IsServiceEnd named terms records console doors status
ends_as address named terms records console doors status same ends = subst (λ (a : List ℕ). IsServiceEnd a terms records console doors status) same ends
