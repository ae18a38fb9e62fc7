-- What proves an answer over a table, which clause is the first that an answer fails, and what a proved answer says of the table.
use Rattle.std.specs.Prelude.{◌≡◌, ◌≢◌, ℕ, ◌+◌, ◌<◌, ◌≤◌, List, map, Contains, Some, slice_get}
use Rattle.venue_types.specs.declared.link.Potential.{Potential}
use Rattle.walk_laws.specs.Views.{LinkView}
use Rattle.walk_laws.specs.Walks.{IsLeast, HasNoWalk}
use Rattle.walk_laws.specs.Certificates.{potential, IsCertificate, IsCut}
use Rattle.route_certificate.specs.declared.table.TableLink.{TableLink}
use Rattle.route_certificate.specs.declared.table.Table.{Table}
use Rattle.route_certificate.specs.declared.answer.AnswerIn.{AnswerIn}
use Rattle.route_certificate.specs.declared.answer.Claim.{Claim}
use Rattle.route_certificate.specs.declared.answer.Claim.TheVariants.{Route, Nothing}
use Rattle.route_certificate.specs.declared.answer.FailedClause.TheVariants as clause
use Rattle.route_certificate.specs.declared.answer.Verdict.{Verdict}
use Rattle.route_certificate.specs.declared.answer.Verdict.TheVariants.{Proved, Fails}
use Rattle.route_certificate.specs.Answers.{potentials_read}
use Rattle.route_certificate.specs.Prices.{IsChain, IsBroken}

-- what is read of a link of a table
abbrev pub links_read : LinkView TableLink
links_read = record { from = λ link. link.from; to = λ link. link.to; cost = λ link. link.cost }

-- ---- what proves an answer

-- the steps are a walk of the table of this cost, and the potentials are a certificate that none costs less
pub record IsProvedRoute (links : List TableLink) (from to cost : ℕ) (steps : List ℕ) (at : List Potential) : Type 0 where
  pub walk : IsChain links from steps to cost
  pub certificate : IsCertificate links_read (Contains links) from to cost (potential potentials_read cost at)

-- a proved route; or a cut of the table between the start and the end
abbrev pub IsProvedClaim : List TableLink → ℕ → ℕ → Claim → Type 0
IsProvedClaim links from to (Route cost steps at) = IsProvedRoute links from to cost steps at
IsProvedClaim links from to (Nothing reached) = IsCut links_read (Contains links) from to reached

abbrev pub IsProved : Table → AnswerIn → Type 0
IsProved table answer = IsProvedClaim table.links answer.from answer.to answer.claim

-- ---- clauses on links

-- the potential at the link's end is at most that at its start and the link's cost
abbrev pub IsGentle : ℕ → List Potential → TableLink → Type 0
IsGentle cost at link = potential potentials_read cost at link.to ≤ potential potentials_read cost at link.from + link.cost

-- with the link's start its end is reached
abbrev pub IsClosed : List ℕ → TableLink → Type 0
IsClosed reached link = Contains reached link.from → Contains reached link.to

-- the link of this number, from 0, is the first that a clause does not hold of
pub record FailsFirstAt (Holds : TableLink → Type 0) (links : List TableLink) (j : ℕ) : Type 0 where
  pub link : TableLink
  pub is : slice_get links j ≡ Some link
  pub fails : ¬ Holds link
  pub before : (k : ℕ) (other : TableLink) → k < j → slice_get links k ≡ Some other → Holds other

-- ---- the clauses of a route, in order: the steps are a walk; it ends at its end; it costs what is claimed; the potential is 0
-- at the start; it is the cost at the end; and it is gentle along each link

-- the clauses before those on links
pub record HasProfile (links : List TableLink) (from to cost : ℕ) (steps : List ℕ) (at : List Potential) : Type 0 where
  pub walk : IsChain links from steps to cost
  pub start : potential potentials_read cost at from ≡ 0
  pub finish : potential potentials_read cost at to ≡ cost

abbrev pub IsRouteJudged : List TableLink → ℕ → ℕ → ℕ → List ℕ → List Potential → Verdict → Type 0
IsRouteJudged links from to cost steps at Proved = IsProvedRoute links from to cost steps at
IsRouteJudged links from to cost steps at (Fails (clause.Step k)) = IsBroken links from steps k
IsRouteJudged links from to cost steps at (Fails clause.End) = (end : ℕ) × (sum : ℕ) × IsChain links from steps end sum × (end ≢ to)
IsRouteJudged links from to cost steps at (Fails clause.Sum) = (sum : ℕ) × IsChain links from steps to sum × (sum ≢ cost)
IsRouteJudged links from to cost steps at (Fails clause.Start) = IsChain links from steps to cost × (potential potentials_read cost at from ≢ 0)
IsRouteJudged links from to cost steps at (Fails clause.Finish) =
    IsChain links from steps to cost × (potential potentials_read cost at from ≡ 0) × (potential potentials_read cost at to ≢ cost)
IsRouteJudged links from to cost steps at (Fails (clause.Link j)) = HasProfile links from to cost steps at × FailsFirstAt (IsGentle cost at) links j

-- ---- the clauses where there is no walk, in order: the start is reached; the end is not; and no link leaves what is reached

abbrev pub IsNothingJudged : List TableLink → ℕ → ℕ → List ℕ → Verdict → Type 0
IsNothingJudged links from to reached Proved = IsCut links_read (Contains links) from to reached
IsNothingJudged links from to reached (Fails (clause.Step k)) = ⊥
IsNothingJudged links from to reached (Fails clause.End) = ⊥
IsNothingJudged links from to reached (Fails clause.Sum) = ⊥
IsNothingJudged links from to reached (Fails clause.Start) = ¬ Contains reached from
IsNothingJudged links from to reached (Fails clause.Finish) = Contains reached from × Contains reached to
IsNothingJudged links from to reached (Fails (clause.Link j)) = Contains reached from × (¬ Contains reached to) × FailsFirstAt (IsClosed reached) links j

-- the answer is proved, or all clauses before this one hold and it fails, with the least number of its step or link
abbrev pub IsClaimJudged : List TableLink → ℕ → ℕ → Claim → Verdict → Type 0
IsClaimJudged links from to (Route cost steps at) verdict = IsRouteJudged links from to cost steps at verdict
IsClaimJudged links from to (Nothing reached) verdict = IsNothingJudged links from to reached verdict

abbrev pub IsJudged : Table → AnswerIn → Verdict → Type 0
IsJudged table answer verdict = IsClaimJudged table.links answer.from answer.to answer.claim verdict

-- ---- what a claim says of the table

-- the links of these numbers are a walk of this cost and no walk costs less; or there is no walk
abbrev pub IsTrueClaim : List TableLink → ℕ → ℕ → Claim → Type 0
IsTrueClaim links from to (Route cost steps at) =
    (walk : List TableLink) × (map (slice_get links) steps ≡ map Some walk) × IsLeast links_read (Contains links) from to walk cost
IsTrueClaim links from to (Nothing reached) = HasNoWalk links_read (Contains links) from to

abbrev pub IsTrueAnswer : Table → AnswerIn → Type 0
IsTrueAnswer table answer = IsTrueClaim table.links answer.from answer.to answer.claim
