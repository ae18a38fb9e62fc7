-- The texts that `links` and `route` print, kept where `verify` reads them.
use Rattle.std.specs.Prelude.{◌≡◌, ◌≢◌, ℕ, ◌≤◌, List, length, Some}
use Rattle.venue_types.specs.declared.feature_id.FeatureId.{FeatureId}
use Rattle.venue_ports.specs.Files.{StoredFile, file_at}
use Rattle.route_certificate.specs.declared.table.Table.{Table}
use Rattle.route_certificate.specs.declared.answer.AnswerIn.{AnswerIn}
use Rattle.route_certificate.specs.Forms.{IsTable}
use Rattle.route_certificate.specs.Answers.{IsAnswerText}
use Rattle.route_certificate.specs.Verdicts.{IsProved, IsTrueAnswer}
use Rattle.venue_commands.specs.declared.status.Status.{Status}
use Rattle.venue_commands.specs.declared.status.Status.TheVariants.{Done, Wrong}
use Rattle.venue_commands.specs.Files.{links_limit, links_name, answer_limit, answer_name}
use Rattle.venue_commands.specs.Linked.{LinksOutput}
use Rattle.venue_commands.specs.Routed.{RouteOutput}

-- over the same files and the same words `links` prints this table, and `route` this answer, which is none of its stops
pub record HaveAnswered (files : List StoredFile) (base folder name : List ℕ) (from to : FeatureId) (table answer : List ℕ) : Type 0 where
  pub links : LinksOutput files base folder name table Done
  pub status : Status
  pub route : RouteOutput files base folder name from to answer status
  pub right : status ≢ Wrong

-- the files of the base are this table and this answer, within their limits
pub record AreKept (files : List StoredFile) (base table answer : List ℕ) : Type 0 where
  pub table_there : file_at files base links_name ≡ Some table
  pub table_within : length table ≤ links_limit
  pub answer_there : file_at files base answer_name ≡ Some answer
  pub answer_within : length answer ≤ answer_limit

-- these are the texts of a table and of an answer over it, which the table proves, and which is true of it
pub record IsProvedBy (table answer : List ℕ) : Type 0 where
  pub links : Table
  pub given : AnswerIn
  pub is_table : IsTable table links
  pub is_answer : IsAnswerText answer links given
  pub proved : IsProved links given
  pub truth : IsTrueAnswer links given
