-- What fits a table fits one with more nodes.
use Rattle.std.proofs.Common.{ℕ, ◌≤◌, List, [], ◌∷◌, arith}
use Rattle.std.specs.List.{AllByRecursion}
use Rattle.venue_types.specs.declared.link.Potential.{Potential}
use Rattle.route_certificate.specs.Forms.{FitsNode}
use Rattle.route_certificate.specs.declared.answer.AnswerIn.{AnswerIn}
use Rattle.route_certificate.specs.declared.answer.Claim.{Claim}
use Rattle.route_certificate.specs.declared.answer.Claim.TheVariants.{Route, Nothing}
use Rattle.route_certificate.specs.Answers.{FitsPotential, FitsClaim, FitsAnswer}

node_more : (m n k : ℕ) → m ≤ n → FitsNode m k → FitsNode n k
node_more m n k more fits = record { node = omega (arith, fits.node); small = fits.small }

nodes_more : (m n : ℕ) (ks : List ℕ) → m ≤ n → AllByRecursion (FitsNode m) ks → AllByRecursion (FitsNode n) ks
nodes_more m n [] more all = tt
nodes_more m n (k ∷ ks) more all = (node_more m n k more all.0, nodes_more m n ks more all.1)

potentials_more : (m n : ℕ) (ps : List Potential) → m ≤ n → AllByRecursion (FitsPotential m) ps → AllByRecursion (FitsPotential n) ps
potentials_more m n [] more all = tt
potentials_more m n (p ∷ ps) more all = (record { node = node_more m n p.node more all.0.node; value = all.0.value }, potentials_more m n ps more all.1)

claim_more : (m n : ℕ) (claim : Claim) → m ≤ n → FitsClaim m claim → FitsClaim n claim
claim_more m n (Route cost steps at) more fits = record {
  cost_fits = fits.cost_fits;
  steps_fit = fits.steps_fit;
  potentials_fit = potentials_more m n at more fits.potentials_fit;
  ascends = fits.ascends;
}
claim_more m n (Nothing reached) more fits = record { reached_fit = nodes_more m n reached more fits.reached_fit; ascends = fits.ascends }

pub answer_more : (m n : ℕ) (answer : AnswerIn) → m ≤ n → FitsAnswer m answer → FitsAnswer n answer
answer_more m n answer more fits = record {
  from = node_more m n answer.from more fits.from;
  to = node_more m n answer.to more fits.to;
  claim = claim_more m n answer.claim more fits.claim;
}
