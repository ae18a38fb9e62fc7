-- The text form of an answer: a claim on the walks of a table between two nodes, with what proves it.
use Rattle.std.specs.Prelude.{◌≡◌, ℕ, ◌^◌, ◌<◌, ◌≤◌, List, ◌++◌, length, codes}
use Rattle.std.specs.List.{flat_map, AllByRecursion}
use Rattle.std.specs.List.Sorted.{IsStrictlyIncreasing}
use Rattle.std.specs.Fmt.{decimal}
use Rattle.line_forms.specs.Lines.{line, word}
use Rattle.venue_types.specs.declared.link.Potential.{Potential}
use Rattle.walk_laws.specs.Views.{PotentialView}
use Rattle.walk_laws.specs.Certificates.{Ascends}
use Rattle.route_certificate.specs.declared.table.Table.{Table}
use Rattle.route_certificate.specs.declared.answer.AnswerIn.{AnswerIn}
use Rattle.route_certificate.specs.declared.answer.Claim.{Claim}
use Rattle.route_certificate.specs.declared.answer.Claim.TheVariants.{Route, Nothing}
use Rattle.route_certificate.specs.Forms.{from_line, step_line, end_line, FitsNode, FitsStep}

-- what is read of a potential
abbrev pub potentials_read : PotentialView Potential
potentials_read = record { node = λ p. p.node; value = λ p. p.value }

-- ---- lines

-- to N
abbrev pub to_body : ℕ → List ℕ
to_body n = word (codes "to") (decimal n)

-- route COST
abbrev pub route_body : ℕ → List ℕ
route_body cost = word (codes "route") (decimal cost)

-- at N P
abbrev pub at_body : Potential → List ℕ
at_body p = word (codes "at") (word (decimal p.node) (decimal p.value))

-- reach N
abbrev pub reach_body : ℕ → List ℕ
reach_body n = word (codes "reach") (decimal n)

unfoldable pub to_line : ℕ → List ℕ
to_line n = line (to_body n)

unfoldable pub route_line : ℕ → List ℕ
route_line cost = line (route_body cost)

unfoldable pub at_line : Potential → List ℕ
at_line p = line (at_body p)

unfoldable pub reach_line : ℕ → List ℕ
reach_line n = line (reach_body n)

abbrev pub none_line : List ℕ
none_line = line (codes "none")

abbrev pub answer_head : List ℕ
answer_head = line (codes "imdf-answer 1")

-- ---- texts

-- the lines of a claim and the last line: a route's cost, its steps and the potentials; or that there is none, and the nodes that are reached
abbrev pub claim_text : Claim → List ℕ
claim_text (Route cost steps at) = route_line cost ++ (flat_map step_line steps ++ (flat_map at_line at ++ end_line))
claim_text (Nothing reached) = none_line ++ (flat_map reach_line reached ++ end_line)

-- the text of an answer
abbrev pub answer_text : AnswerIn → List ℕ
answer_text answer = answer_head ++ (from_line answer.from ++ (to_line answer.to ++ claim_text answer.claim))

-- ---- ranges

-- costs and potentials are at most 2^42 - 1
abbrev pub FitsCost : ℕ → Type 0
FitsCost cost = cost ≤ 4398046511103

pub record FitsPotential (nodes : ℕ) (p : Potential) : Type 0 where
  pub node : FitsNode nodes p.node
  pub value : FitsCost p.value

pub record FitsRoute (nodes cost : ℕ) (steps : List ℕ) (at : List Potential) : Type 0 where
  pub cost_fits : FitsCost cost
  pub steps_fit : AllByRecursion FitsStep steps
  pub potentials_fit : AllByRecursion (FitsPotential nodes) at
  pub ascends : Ascends potentials_read at

pub record FitsNothing (nodes : ℕ) (reached : List ℕ) : Type 0 where
  pub reached_fit : AllByRecursion (FitsNode nodes) reached
  pub ascends : IsStrictlyIncreasing reached

abbrev pub FitsClaim : ℕ → Claim → Type 0
FitsClaim nodes (Route cost steps at) = FitsRoute nodes cost steps at
FitsClaim nodes (Nothing reached) = FitsNothing nodes reached

-- the numbers of an answer are within the form's ranges over a table of so many nodes, and the nodes of its list ascend strictly
pub record FitsAnswer (nodes : ℕ) (answer : AnswerIn) : Type 0 where
  pub from : FitsNode nodes answer.from
  pub to : FitsNode nodes answer.to
  pub claim : FitsClaim nodes answer.claim

-- as many steps as a reader gives
abbrev pub HasFewSteps : Claim → Type 0
HasFewSteps (Route cost steps at) = length steps < 2 ^ 32
HasFewSteps (Nothing reached) = Unit {0}

-- the text is the one text of the answer, over the table
pub record IsAnswerText (text : List ℕ) (table : Table) (answer : AnswerIn) : Type 0 where
  pub spelled : text ≡ answer_text answer
  pub fits : FitsAnswer (length table.nodes) answer

-- the text is of the form of answers over the table
abbrev pub IsAnswerTextOver : Table → List ℕ → Type 0
IsAnswerTextOver table text = (answer : AnswerIn) × IsAnswerText text table answer
