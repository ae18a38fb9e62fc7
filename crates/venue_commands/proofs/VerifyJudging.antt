-- From what the parts answer to what `verify` prints.
use Rattle.std.proofs.Common.{◌≡◌, ℕ, List, Option, Some, None, Result, Ok, Err, sym, subst}
use Rattle.std.specs.Prelude.{IfSome}
use Rattle.venue_ports.specs.Files.{StoredFile, file_at}
use Rattle.route_certificate.specs.declared.table.Table.{Table}
use Rattle.route_certificate.specs.declared.answer.AnswerIn.{AnswerIn}
use Rattle.route_certificate.specs.declared.answer.Verdict.{Verdict}
use Rattle.route_certificate.specs.Forms.{IsTable}
use Rattle.route_certificate.specs.Verdicts.{IsJudged as HasVerdict}
use Rattle.venue_commands.specs.declared.load.Cause.{Cause}
use Rattle.venue_commands.specs.declared.status.Status.{Status}
use Rattle.venue_commands.specs.declared.status.Status.TheVariants.{Wrong}
use Rattle.venue_commands.specs.Steps.{IsJudged}
use Rattle.venue_commands.specs.Files.{stop_text, links_limit, links_name, answer_limit, answer_name}
use Rattle.venue_commands.specs.Verified.{AnswerForm, verdict_text, verdict_status, VerifyOutput, no_links, no_answer, verified}
use Rattle.venue_commands.proofs.Judging.{stops, reads}

-- the files are as they were, so what is told of them then is told of them now
pub told_before : (P : List StoredFile → Type 0) (fs : List StoredFile) (files' : Option (List StoredFile)) → files' ≡ Some fs → IfSome files' P → P fs
told_before P fs files' same told = let here : IfSome (Some fs) P = subst (λ (o : Option (List StoredFile)). IfSome o P) same told in here

pub stops_at_links : (files : Option (List StoredFile)) (base text : List ℕ) (status : Status) (judged : Result Table Cause) (cause : Cause)
    → IfSome files (λ fs. IsJudged IsTable links_limit (file_at fs base links_name) judged) → judged ≡ Err cause → text ≡ stop_text links_name cause → status ≡ Wrong
    → IfSome files (λ fs. VerifyOutput fs base text status)
stops_at_links None base text status judged cause told is printed wrong = tt
stops_at_links (Some fs) base text status judged cause told is printed wrong =
    subst (VerifyOutput fs base text) (sym wrong) (no_links (stops IsTable links_limit links_name (file_at fs base links_name) judged cause text told is printed))

pub stops_at_answer : (files files' : Option (List StoredFile)) (base text : List ℕ) (status : Status) (judged : Result Table Cause) (table : Table) (judged' : Result AnswerIn Cause) (cause : Cause)
    → files' ≡ files
    → IfSome files (λ fs. IsJudged IsTable links_limit (file_at fs base links_name) judged) → judged ≡ Ok table
    → IfSome files' (λ fs. IsJudged (AnswerForm table) answer_limit (file_at fs base answer_name) judged') → judged' ≡ Err cause → text ≡ stop_text answer_name cause → status ≡ Wrong
    → IfSome files (λ fs. VerifyOutput fs base text status)
stops_at_answer None files' base text status judged table judged' cause same told is told' is' printed wrong = tt
stops_at_answer (Some fs) files' base text status judged table judged' cause same told is told' is' printed wrong =
    let answer = told_before (λ gs. IsJudged (AnswerForm table) answer_limit (file_at gs base answer_name) judged') fs files' same told' in
    subst (VerifyOutput fs base text) (sym wrong)
    (no_answer table (reads IsTable links_limit (file_at fs base links_name) judged table told is)
    (stops (AnswerForm table) answer_limit answer_name (file_at fs base answer_name) judged' cause text answer is' printed))

pub is_verified : (files files' : Option (List StoredFile)) (base text : List ℕ) (status : Status) (judged : Result Table Cause) (table : Table) (judged' : Result AnswerIn Cause) (answer : AnswerIn)
    (verdict : Verdict) → files' ≡ files
    → IfSome files (λ fs. IsJudged IsTable links_limit (file_at fs base links_name) judged) → judged ≡ Ok table
    → IfSome files' (λ fs. IsJudged (AnswerForm table) answer_limit (file_at fs base answer_name) judged') → judged' ≡ Ok answer → HasVerdict table answer verdict
    → text ≡ verdict_text verdict → status ≡ verdict_status verdict → IfSome files (λ fs. VerifyOutput fs base text status)
is_verified None files' base text status judged table judged' answer verdict same told is told' is' found printed ends = tt
is_verified (Some fs) files' base text status judged table judged' answer verdict same told is told' is' found printed ends =
    let read = told_before (λ gs. IsJudged (AnswerForm table) answer_limit (file_at gs base answer_name) judged') fs files' same told' in
    let whole : VerifyOutput fs base (verdict_text verdict) (verdict_status verdict) = verified table answer verdict (reads IsTable links_limit (file_at fs base links_name) judged table told is)
    (reads (AnswerForm table) answer_limit (file_at fs base answer_name) judged' answer read is') found in
    subst (VerifyOutput fs base text) (sym ends) (subst (λ (t : List ℕ). VerifyOutput fs base t (verdict_status verdict)) (sym printed) whole)
