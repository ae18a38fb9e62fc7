-- From clauses link by link to all of them, and from clauses to what they prove.
use Rattle.std.proofs.Common.{◌≡◌, ℕ, ◌+◌, ◌<◌, ◌≤◌, List, [], ◌∷◌, length, get_or, map, Option, Some, refl, sym, ap, subst, ◌∙◌, arith, inl, inr}
use Rattle.std.specs.Prelude.{Contains, slice_get, ◌↔◌}
use Rattle.std.proofs.lemmas.Bool.Decides.{leb_tells}
use Rattle.std.proofs.lemmas.List.Sums.{sum_by-cons}
use Rattle.std.proofs.lemmas.Option.{get_or_from_slice_get, slice_get-get_or, slice_get_within}
use Rattle.walk_laws.specs.Walks.{IsWalk, walk_cost, IsLeast, HasNoWalk}
use Rattle.walk_laws.specs.Certificates.{potential, IsCertificate, IsCut}
use Rattle.route_certificate.specs.declared.table.TableLink.{TableLink}
use Rattle.route_certificate.specs.declared.table.Table.{Table}
use Rattle.route_certificate.specs.declared.answer.AnswerIn.{AnswerIn}
use Rattle.route_certificate.specs.declared.answer.Claim.{Claim}
use Rattle.route_certificate.specs.declared.answer.Claim.TheVariants.{Route, Nothing}
use Rattle.route_certificate.specs.declared.answer.Verdict.TheVariants.{Proved}
use Rattle.route_certificate.specs.declared.answer.Verdict.{Verdict}
use Rattle.route_certificate.specs.Answers.{potentials_read}
use Rattle.route_certificate.specs.Prices.{IsChain}
use Rattle.route_certificate.specs.Verdicts.{links_read, FailsFirstAt, IsProvedClaim, IsTrueClaim, IsClaimJudged, IsJudged, IsProved}

-- ---- link by link

-- a clause holds of each link before this one
abbrev pub HoldsBefore : (TableLink → Type 0) → List TableLink → ℕ → Type 0
HoldsBefore Holds links n = (k : ℕ) (link : TableLink) → k < n → slice_get links k ≡ Some link → Holds link

pub holds_more : (Holds : TableLink → Type 0) (links : List TableLink) (n : ℕ) (d : TableLink) → HoldsBefore Holds links n → Holds (get_or links n d) → HoldsBefore Holds links (n + 1)
holds_more Holds links n d before here k link less is =
    elim (leb_tells n k) [
      | inl past ↦
          let at : k ≡ n = omega (arith, past.1, less) in
          let same : get_or links n d ≡ link = get_or_from_slice_get links n link d (subst (λ (i : ℕ). slice_get links i ≡ Some link) at is) in
          subst Holds same here
      | inr under ↦ before k link (omega (arith, under.1)) is
    ]

pub holds_all : (Holds : TableLink → Type 0) (links : List TableLink) (n : ℕ) → length links ≤ n → HoldsBefore Holds links n → (link : TableLink) → Contains links link → Holds link
holds_all Holds links n whole before link within =
    before within.0 link (omega (arith, within.1, whole)) (slice_get-get_or links within.0 link within.1 ∙ ap (λ (r : TableLink). Some r) within.2)

pub fails_first : (Holds : TableLink → Type 0) (links : List TableLink) (n : ℕ) (d : TableLink) → n < length links → HoldsBefore Holds links n → (Holds (get_or links n d) → ⊥) → FailsFirstAt Holds links n
fails_first Holds links n d within before fails = record { link = get_or links n d; is = slice_get-get_or links n d within; fails = fails; before = before }

-- ---- what the clauses prove

pub contained : (links : List TableLink) (k : ℕ) (link : TableLink) → slice_get links k ≡ Some link → Contains links link
contained links k link is = (k, slice_get_within links k link is, get_or_from_slice_get links k link link is)

-- the links that steps are
pub record WalkOf (links : List TableLink) (from : ℕ) (steps : List ℕ) (to cost : ℕ) : Type 0 where
  pub walk : List TableLink
  pub are : map (slice_get links) steps ≡ map Some walk
  pub leads : IsWalk links_read (Contains links) from to walk
  pub costs : walk_cost links_read walk ≡ cost

pub chain_walks : (links : List TableLink) (from : ℕ) (steps : List ℕ) (to cost : ℕ) → IsChain links from steps to cost → WalkOf links from steps to cost
chain_walks links from [] to cost chain = record { walk = []; are = refl; leads = sym chain.0; costs = sym chain.1 }
chain_walks links from (step ∷ steps) to cost chain =
    let link = chain.0 in
    let rest = chain_walks links link.to steps to chain.1 chain.3 in
    record {
      walk = link ∷ rest.walk;
      are = ap (λ (o : Option TableLink). o ∷ map (slice_get links) steps) chain.2.is ∙ ap (λ (t : List (Option TableLink)). Some link ∷ t) rest.are;
      leads = (contained links step link chain.2.is, chain.2.starts, rest.leads);
      costs = omega (arith, sum_by-cons links_read.cost link rest.walk, rest.costs, chain.4);
    }

-- what the laws of walks say of the links of a table
abbrev pub LeastLaw : Type 0
LeastLaw = (links : List TableLink) (a b cost : ℕ) (potential_of : ℕ → ℕ) (walk : List TableLink) → IsCertificate links_read (Contains links) a b cost potential_of
    → IsWalk links_read (Contains links) a b walk → walk_cost links_read walk ≡ cost → IsLeast links_read (Contains links) a b walk cost

abbrev pub CutLaw : Type 0
CutLaw = (links : List TableLink) (a b : ℕ) (reached : List ℕ) → IsCut links_read (Contains links) a b reached → HasNoWalk links_read (Contains links) a b

-- what is proved is true
pub claim_true : LeastLaw → CutLaw → (links : List TableLink) (from to : ℕ) (claim : Claim) → IsProvedClaim links from to claim → IsTrueClaim links from to claim
claim_true least_law cut_law links from to (Route cost steps at) proved =
    let of = chain_walks links from steps to cost proved.walk in
    (of.walk, of.are, least_law links from to cost (potential potentials_read cost at) of.walk proved.certificate of.leads of.costs)
claim_true least_law cut_law links from to (Nothing reached) proved = cut_law links from to reached proved

-- a claim is proved exactly where that is its verdict
pub proved_of : (links : List TableLink) (from to : ℕ) (claim : Claim) → IsClaimJudged links from to claim Proved → IsProvedClaim links from to claim
proved_of links from to (Route cost steps at) judged = judged
proved_of links from to (Nothing reached) judged = judged

pub of_proved : (links : List TableLink) (from to : ℕ) (claim : Claim) → IsProvedClaim links from to claim → IsClaimJudged links from to claim Proved
of_proved links from to (Route cost steps at) proved = proved
of_proved links from to (Nothing reached) proved = proved

abbrev pub OneVerdict : Type 0
OneVerdict = (table : Table) (answer : AnswerIn) (a b : Verdict) → IsJudged table answer a → IsJudged table answer b → a ≡ b

pub proved_exactly : OneVerdict → (table : Table) (answer : AnswerIn) (verdict : Verdict) → IsJudged table answer verdict → (verdict ≡ Proved) ↔ IsProved table answer
proved_exactly one table answer verdict judged =
    let is_proved : verdict ≡ Proved → IsProved table answer = λ is. proved_of table.links answer.from answer.to answer.claim (subst (IsJudged table answer) is judged) in
    let is_verdict : IsProved table answer → verdict ≡ Proved = λ proved. one table answer verdict Proved judged (of_proved table.links answer.from answer.to answer.claim proved) in
    (is_proved, is_verdict)
