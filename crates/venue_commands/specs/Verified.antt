-- What `verify BASE` prints.
use Rattle.std.specs.Prelude.{ℕ, List, ◌++◌, codes}
use Rattle.std.specs.Fmt.{decimal}
use Rattle.venue_ports.specs.Files.{StoredFile, file_at}
use Rattle.line_forms.specs.Lines.{line}
use Rattle.route_certificate.specs.declared.table.Table.{Table}
use Rattle.route_certificate.specs.declared.answer.AnswerIn.{AnswerIn}
use Rattle.route_certificate.specs.declared.answer.FailedClause.{FailedClause}
use Rattle.route_certificate.specs.declared.answer.FailedClause.TheVariants.{Step, End, Sum, Start, Finish, Link}
use Rattle.route_certificate.specs.declared.answer.Verdict.{Verdict}
use Rattle.route_certificate.specs.declared.answer.Verdict.TheVariants.{Proved, Fails}
use Rattle.route_certificate.specs.Forms.{IsTable}
use Rattle.route_certificate.specs.Answers.{IsAnswerText}
use Rattle.route_certificate.specs.Verdicts.{IsJudged}
use Rattle.venue_commands.specs.declared.status.Status.{Status}
use Rattle.venue_commands.specs.declared.status.Status.TheVariants.{Done, Negative, Wrong}
use Rattle.venue_commands.specs.Files.{Reads, Stops, links_limit, links_name, answer_limit, answer_name}

-- an answer's text over a table
abbrev pub AnswerForm : Table → List ℕ → AnswerIn → Type 0
AnswerForm table text answer = IsAnswerText text table answer

abbrev pub clause_text : FailedClause → List ℕ
clause_text (Step k) = line (codes "fails step " ++ decimal k)
clause_text End = line (codes "fails end")
clause_text Sum = line (codes "fails sum")
clause_text Start = line (codes "fails start")
clause_text Finish = line (codes "fails finish")
clause_text (Link j) = line (codes "fails link " ++ decimal j)

abbrev pub verdict_text : Verdict → List ℕ
verdict_text Proved = line (codes "proved")
verdict_text (Fails clause) = clause_text clause

abbrev pub verdict_status : Verdict → Status
verdict_status Proved = Done
verdict_status (Fails clause) = Negative

-- `verify BASE`: the table is judged before the answer is read
pub data VerifyOutput (files : List StoredFile) (base : List ℕ) : List ℕ → Status → Type 0 where
  no_links : {text : List ℕ} → Stops IsTable links_limit links_name (file_at files base links_name) text → VerifyOutput files base text Wrong
  no_answer : {text : List ℕ} (table : Table) → Reads IsTable links_limit (file_at files base links_name) table
      → Stops (AnswerForm table) answer_limit answer_name (file_at files base answer_name) text → VerifyOutput files base text Wrong
  verified : (table : Table) (answer : AnswerIn) (verdict : Verdict) → Reads IsTable links_limit (file_at files base links_name) table
      → Reads (AnswerForm table) answer_limit (file_at files base answer_name) answer → IsJudged table answer verdict
      → VerifyOutput files base (verdict_text verdict) (verdict_status verdict)
