-- An answer over a table has one verdict.
use Rattle.std.proofs.Common.{◌≡◌, ℕ, zero, suc, List, refl, sym, ◌∙◌, arith}
use Rattle.std.specs.Prelude.{Contains}
use Rattle.venue_types.specs.declared.link.Potential.{Potential}
use Rattle.walk_laws.specs.Certificates.{potential}
use Rattle.route_certificate.specs.declared.table.TableLink.{TableLink}
use Rattle.route_certificate.specs.declared.answer.Claim.{Claim}
use Rattle.route_certificate.specs.declared.answer.Claim.TheVariants.{Route, Nothing}
use Rattle.route_certificate.specs.declared.answer.FailedClause.TheVariants.{Step, End, Sum, Start, Finish, Link}
use Rattle.route_certificate.specs.declared.answer.Verdict.TheVariants.{Proved, Fails}
use Rattle.route_certificate.specs.declared.answer.Verdict.{Verdict}
use Rattle.route_certificate.specs.Answers.{potentials_read}
use Rattle.route_certificate.specs.Prices.{IsChain, IsBroken}
use Rattle.route_certificate.specs.Verdicts.{IsGentle, IsClosed, FailsFirstAt, IsRouteJudged, IsNothingJudged, IsClaimJudged}
use Rattle.route_certificate.proofs.VerdictLemmas.{contained}
use Rattle.route_certificate.proofs.ChainLemmas.{chain_same, broken_leads, broken_same, first_same}
use Rattle.route_certificate.proofs.Stages.{FailsAt, one_of}

-- ---- a route's verdict by the number of its clause, and of its step or link

abbrev pub RouteClause : List TableLink → ℕ → ℕ → ℕ → List ℕ → List Potential → ℕ → Type 0
RouteClause links from to cost steps at zero = (end : ℕ) × (sum : ℕ) × IsChain links from steps end sum
RouteClause links from to cost steps at (suc zero) = (sum : ℕ) × IsChain links from steps to sum
RouteClause links from to cost steps at (suc (suc zero)) = IsChain links from steps to cost
RouteClause links from to cost steps at (suc (suc (suc zero))) = potential potentials_read cost at from ≡ 0
RouteClause links from to cost steps at (suc (suc (suc (suc zero)))) = potential potentials_read cost at to ≡ cost
RouteClause links from to cost steps at (suc (suc (suc (suc (suc n))))) = (link : TableLink) → Contains links link → IsGentle cost at link

abbrev pub RouteNumber : List TableLink → ℕ → ℕ → List ℕ → List Potential → ℕ → ℕ → Type 0
RouteNumber links from cost steps at zero k = IsBroken links from steps k
RouteNumber links from cost steps at (suc zero) k = k ≡ 0
RouteNumber links from cost steps at (suc (suc zero)) k = k ≡ 0
RouteNumber links from cost steps at (suc (suc (suc zero))) k = k ≡ 0
RouteNumber links from cost steps at (suc (suc (suc (suc zero)))) k = k ≡ 0
RouteNumber links from cost steps at (suc (suc (suc (suc (suc zero))))) k = FailsFirstAt (IsGentle cost at) links k
RouteNumber links from cost steps at (suc (suc (suc (suc (suc (suc n)))))) k = k ≡ 0

route_number_same : (links : List TableLink) (from cost : ℕ) (steps : List ℕ) (at : List Potential) (s k k' : ℕ) → RouteNumber links from cost steps at s k → RouteNumber links from cost steps at s k' → k ≡ k'
route_number_same links from cost steps at zero k k' p q = broken_same links from steps k k' p q
route_number_same links from cost steps at (suc zero) k k' p q = p ∙ sym q
route_number_same links from cost steps at (suc (suc zero)) k k' p q = p ∙ sym q
route_number_same links from cost steps at (suc (suc (suc zero))) k k' p q = p ∙ sym q
route_number_same links from cost steps at (suc (suc (suc (suc zero)))) k k' p q = p ∙ sym q
route_number_same links from cost steps at (suc (suc (suc (suc (suc zero))))) k k' p q = first_same (IsGentle cost at) links k k' p q
route_number_same links from cost steps at (suc (suc (suc (suc (suc (suc n)))))) k k' p q = p ∙ sym q

abbrev pub number_of : Verdict → ℕ
number_of Proved = 0
number_of (Fails (Step k)) = k
number_of (Fails End) = 0
number_of (Fails Sum) = 0
number_of (Fails Start) = 0
number_of (Fails Finish) = 0
number_of (Fails (Link j)) = j

abbrev pub route_stage : Verdict → ℕ
route_stage Proved = 6
route_stage (Fails (Step k)) = 0
route_stage (Fails End) = 1
route_stage (Fails Sum) = 2
route_stage (Fails Start) = 3
route_stage (Fails Finish) = 4
route_stage (Fails (Link j)) = 5

abbrev pub route_verdict : ℕ → ℕ → Verdict
route_verdict zero k = Fails (Step k)
route_verdict (suc zero) k = Fails End
route_verdict (suc (suc zero)) k = Fails Sum
route_verdict (suc (suc (suc zero))) k = Fails Start
route_verdict (suc (suc (suc (suc zero)))) k = Fails Finish
route_verdict (suc (suc (suc (suc (suc zero))))) k = Fails (Link k)
route_verdict (suc (suc (suc (suc (suc (suc n)))))) k = Proved

route_verdict_is : (v : Verdict) → v ≡ route_verdict (route_stage v) (number_of v)
route_verdict_is Proved = refl
route_verdict_is (Fails (Step k)) = refl
route_verdict_is (Fails End) = refl
route_verdict_is (Fails Sum) = refl
route_verdict_is (Fails Start) = refl
route_verdict_is (Fails Finish) = refl
route_verdict_is (Fails (Link j)) = refl

route_fails : (links : List TableLink) (from to cost : ℕ) (steps : List ℕ) (at : List Potential) (v : Verdict) → IsRouteJudged links from to cost steps at v
    → FailsAt (RouteClause links from to cost steps at) (RouteNumber links from cost steps at) 6 (route_stage v) (number_of v)
route_fails links from to cost steps at Proved p = record {
  keeps = ((((((tt, (to, cost, p.walk)), (cost, p.walk)), p.walk), p.certificate.starts), p.certificate.ends), p.certificate.links);
  known = omega arith;
  fails = λ less. absurd (omega (arith, less));
  numbered = refl;
}
route_fails links from to cost steps at (Fails (Step k)) p = record {
  keeps = tt;
  known = omega arith;
  fails = λ less chain. broken_leads links from steps k chain.0 chain.1 p chain.2;
  numbered = p;
}
route_fails links from to cost steps at (Fails End) p = record {
  keeps = (tt, (p.0, p.1, p.2));
  known = omega arith;
  fails = λ less chain. p.3 (chain_same links from steps p.0 p.1 to chain.0 p.2 chain.1).0;
  numbered = refl;
}
route_fails links from to cost steps at (Fails Sum) p = record {
  keeps = ((tt, (to, p.0, p.1)), (p.0, p.1));
  known = omega arith;
  fails = λ less chain. p.2 (chain_same links from steps to p.0 to cost p.1 chain).1;
  numbered = refl;
}
route_fails links from to cost steps at (Fails Start) p = record {
  keeps = (((tt, (to, cost, p.0)), (cost, p.0)), p.0);
  known = omega arith;
  fails = λ less is. p.1 is;
  numbered = refl;
}
route_fails links from to cost steps at (Fails Finish) p = record {
  keeps = ((((tt, (to, cost, p.0)), (cost, p.0)), p.0), p.1);
  known = omega arith;
  fails = λ less is. p.2 is;
  numbered = refl;
}
route_fails links from to cost steps at (Fails (Link j)) p = record {
  keeps = (((((tt, (to, cost, p.0.walk)), (cost, p.0.walk)), p.0.walk), p.0.start), p.0.finish);
  known = omega arith;
  fails = λ less holds. p.1.fails (holds p.1.link (contained links j p.1.link p.1.is));
  numbered = p.1;
}

one_route : (links : List TableLink) (from to cost : ℕ) (steps : List ℕ) (at : List Potential) (v w : Verdict) → IsRouteJudged links from to cost steps at v
    → IsRouteJudged links from to cost steps at w → v ≡ w
one_route links from to cost steps at v w p q =
    let same : route_verdict (route_stage v) (number_of v) ≡ route_verdict (route_stage w) (number_of w) =
    one_of (RouteClause links from to cost steps at) (RouteNumber links from cost steps at) 6 route_verdict (route_number_same links from cost steps at)
    (route_stage v) (number_of v) (route_stage w) (number_of w) (route_fails links from to cost steps at v p) (route_fails links from to cost steps at w q) in
    route_verdict_is v ∙ same ∙ sym (route_verdict_is w)

-- ---- and that where there is no walk

abbrev pub NothingClause : List TableLink → ℕ → ℕ → List ℕ → ℕ → Type 0
NothingClause links from to reached zero = Contains reached from
NothingClause links from to reached (suc zero) = ¬ Contains reached to
NothingClause links from to reached (suc (suc n)) = (link : TableLink) → Contains links link → IsClosed reached link

abbrev pub NothingNumber : List TableLink → List ℕ → ℕ → ℕ → Type 0
NothingNumber links reached zero k = k ≡ 0
NothingNumber links reached (suc zero) k = k ≡ 0
NothingNumber links reached (suc (suc zero)) k = FailsFirstAt (IsClosed reached) links k
NothingNumber links reached (suc (suc (suc n))) k = k ≡ 0

nothing_number_same : (links : List TableLink) (reached : List ℕ) (s k k' : ℕ) → NothingNumber links reached s k → NothingNumber links reached s k' → k ≡ k'
nothing_number_same links reached zero k k' p q = p ∙ sym q
nothing_number_same links reached (suc zero) k k' p q = p ∙ sym q
nothing_number_same links reached (suc (suc zero)) k k' p q = first_same (IsClosed reached) links k k' p q
nothing_number_same links reached (suc (suc (suc n))) k k' p q = p ∙ sym q

abbrev pub nothing_stage : Verdict → ℕ
nothing_stage Proved = 3
nothing_stage (Fails (Step k)) = 0
nothing_stage (Fails End) = 0
nothing_stage (Fails Sum) = 0
nothing_stage (Fails Start) = 0
nothing_stage (Fails Finish) = 1
nothing_stage (Fails (Link j)) = 2

abbrev pub nothing_verdict : ℕ → ℕ → Verdict
nothing_verdict zero k = Fails Start
nothing_verdict (suc zero) k = Fails Finish
nothing_verdict (suc (suc zero)) k = Fails (Link k)
nothing_verdict (suc (suc (suc n))) k = Proved

nothing_verdict_is : (links : List TableLink) (from to : ℕ) (reached : List ℕ) (v : Verdict) → IsNothingJudged links from to reached v → v ≡ nothing_verdict (nothing_stage v) (number_of v)
nothing_verdict_is links from to reached Proved p = refl
nothing_verdict_is links from to reached (Fails (Step k)) p = absurd p
nothing_verdict_is links from to reached (Fails End) p = absurd p
nothing_verdict_is links from to reached (Fails Sum) p = absurd p
nothing_verdict_is links from to reached (Fails Start) p = refl
nothing_verdict_is links from to reached (Fails Finish) p = refl
nothing_verdict_is links from to reached (Fails (Link j)) p = refl

nothing_fails : (links : List TableLink) (from to : ℕ) (reached : List ℕ) (v : Verdict) → IsNothingJudged links from to reached v
    → FailsAt (NothingClause links from to reached) (NothingNumber links reached) 3 (nothing_stage v) (number_of v)
nothing_fails links from to reached Proved p =
    record { keeps = (((tt, p.starts), p.ends), p.links); known = omega arith; fails = λ less. absurd (omega (arith, less)); numbered = refl }
nothing_fails links from to reached (Fails (Step k)) p = absurd p
nothing_fails links from to reached (Fails End) p = absurd p
nothing_fails links from to reached (Fails Sum) p = absurd p
nothing_fails links from to reached (Fails Start) p = record { keeps = tt; known = omega arith; fails = λ less is. p is; numbered = refl }
nothing_fails links from to reached (Fails Finish) p = record { keeps = (tt, p.0); known = omega arith; fails = λ less is. is p.1; numbered = refl }
nothing_fails links from to reached (Fails (Link j)) p = record {
  keeps = ((tt, p.0), p.1);
  known = omega arith;
  fails = λ less holds. p.2.fails (holds p.2.link (contained links j p.2.link p.2.is));
  numbered = p.2;
}

one_nothing : (links : List TableLink) (from to : ℕ) (reached : List ℕ) (v w : Verdict) → IsNothingJudged links from to reached v → IsNothingJudged links from to reached w → v ≡ w
one_nothing links from to reached v w p q =
    let same : nothing_verdict (nothing_stage v) (number_of v) ≡ nothing_verdict (nothing_stage w) (number_of w) =
    one_of (NothingClause links from to reached) (NothingNumber links reached) 3 nothing_verdict (nothing_number_same links reached)
    (nothing_stage v) (number_of v) (nothing_stage w) (number_of w) (nothing_fails links from to reached v p) (nothing_fails links from to reached w q) in
    nothing_verdict_is links from to reached v p ∙ same ∙ sym (nothing_verdict_is links from to reached w q)

pub one_claim_verdict : (links : List TableLink) (from to : ℕ) (claim : Claim) (v w : Verdict) → IsClaimJudged links from to claim v → IsClaimJudged links from to claim w → v ≡ w
one_claim_verdict links from to (Route cost steps at) v w p q = one_route links from to cost steps at v w p q
one_claim_verdict links from to (Nothing reached) v w p q = one_nothing links from to reached v w p q
