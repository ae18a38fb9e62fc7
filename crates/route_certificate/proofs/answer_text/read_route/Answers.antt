use Rattle.std.proofs.Common.{◌≡◌, ℕ, List, ◌+◌, ◌++◌, length, sym, subst, ap, ◌∙◌, arith}
use Rattle.std.specs.List.{flat_map}
use Rattle.venue_types.specs.declared.link.Potential.{Potential}
use Rattle.line_forms.specs.Faults.{IsFaultLine}
use Rattle.route_certificate.specs.declared.answer.Claim.{Claim}
use Rattle.route_certificate.specs.declared.answer.Claim.TheVariants.{Route}
use Rattle.route_certificate.specs.Forms.{step_line, end_line}
use Rattle.route_certificate.specs.Answers.{route_line, at_line}
use Rattle.route_certificate.specs.AnswerFronts.{IsClaim, IsClaimText}
use Rattle.route_certificate.proofs.FaultNames.{named}
use Rattle.route_certificate.proofs.ClaimLemmas.{RouteRead, route_read, route_parts, route_fits}
use Rattle.route_certificate.proofs.ClaimFaults.{no_route_end, route_behind, few_steps}
use Rattle.route_certificate.proofs.answer_text.read_route.Goals as goal

whole_claim : (nodes cost : ℕ) (steps steps' : List ℕ) (at at' : List Potential) (text rest : List ℕ) → RouteRead nodes cost steps at rest
    → route_line cost ++ text ≡ route_line cost ++ (flat_map step_line steps ++ (flat_map at_line at ++ rest)) → rest ≡ end_line → steps' ≡ steps → at' ≡ at
    → IsClaim nodes (route_line cost ++ text) (Route cost steps' at')
whole_claim nodes cost steps steps' at at' text rest read parts ends s a =
    let claim : Claim = Route cost steps at in
    let is : IsClaim nodes (route_line cost ++ text) claim = record {
      spelled = parts ∙ ap (λ (t : List ℕ). route_line cost ++ (flat_map step_line steps ++ (flat_map at_line at ++ t))) ends;
      fits = route_fits nodes cost steps at rest read;
    } in
    subst (λ (x : List ℕ). IsClaim nodes (route_line cost ++ text) (Route cost x at')) (sym s)
    (subst (λ (x : List Potential). IsClaim nodes (route_line cost ++ text) (Route cost steps x)) (sym a) is)

pub returns-in-Whole-clause-found : goal.returns-in-Whole-clause-found
returns-in-Whole-clause-found c =
    let steps = c.in_ok-steps.steps.items in
    let at = c.in_ok-at.at.items in
    let text = c.args.text.now in
    let rest = c.in_ok-at.rest.now in
    let read = route_read c.args.nodes c.args.cost steps at text c.in_ok-steps.rest.now rest c.requires.cost c.in_ok-steps.ensures c.in_ok-at.ensures in
    let parts = route_parts c.args.nodes c.args.cost steps at text c.in_ok-steps.rest.now rest c.in_ok-steps.ensures c.in_ok-at.ensures in
    whole_claim c.args.nodes c.args.cost steps c.from_vec.result at c.from_vec-in-Whole.result text rest read parts c.in-Whole.ensures c.from_vec.ensures c.from_vec-in-Whole.ensures

pub returns-in-Whole-clause-few : goal.returns-in-Whole-clause-few
returns-in-Whole-clause-few c =
    rw c.from_vec.ensures (few_steps c.args.text.now c.in_ok-steps.steps.items c.in_ok-steps.rest.now c.in_ok-steps.ensures.parts c.requires.text)

pub returns-in-Missing-clause-fault : goal.returns-in-Missing-clause-fault
returns-in-Missing-clause-fault c = λ n is.
    let steps = c.in_ok-steps.steps.items in
    let at = c.in_ok-at.at.items in
    let text = c.args.text.now in
    let rest = c.in_ok-at.rest.now in
    let read = route_read c.args.nodes c.args.cost steps at text c.in_ok-steps.rest.now rest c.requires.cost c.in_ok-steps.ensures c.in_ok-at.ensures in
    let parts = route_parts c.args.nodes c.args.cost steps at text c.in_ok-steps.rest.now rest c.in_ok-steps.ensures c.in_ok-at.ensures in
    record {
      line = 1 + (length steps + length at) + 1;
      behind = omega (arith, named {T = Claim} _ n is, c.len.ensures, c.len-2.ensures, c.in_ok-steps.steps.ok.0, c.in_ok-at.at.ok.0);
      fault = subst (λ (t : List ℕ). IsFaultLine (IsClaimText c.args.nodes) t (1 + (length steps + length at) + 1)) (sym parts)
          (no_route_end c.args.nodes c.args.cost steps at rest read c.in-Missing.ensures);
    }

pub returns-in-TextBehind-clause-fault : goal.returns-in-TextBehind-clause-fault
returns-in-TextBehind-clause-fault c = λ n is.
    let steps = c.in_ok-steps.steps.items in
    let at = c.in_ok-at.at.items in
    let text = c.args.text.now in
    let rest = c.in_ok-at.rest.now in
    let read = route_read c.args.nodes c.args.cost steps at text c.in_ok-steps.rest.now rest c.requires.cost c.in_ok-steps.ensures c.in_ok-at.ensures in
    let parts = route_parts c.args.nodes c.args.cost steps at text c.in_ok-steps.rest.now rest c.in_ok-steps.ensures c.in_ok-at.ensures in
    let behind = c.in-TextBehind.ensures in
    record {
      line = 1 + (length steps + length at) + 1 + 1;
      behind = omega (arith, named {T = Claim} _ n is, c.len.ensures, c.len-2.ensures, c.in_ok-steps.steps.ok.0, c.in_ok-at.at.ok.0);
      fault = subst (λ (t : List ℕ). IsFaultLine (IsClaimText c.args.nodes) t (1 + (length steps + length at) + 1 + 1)) (sym parts)
          (route_behind c.args.nodes c.args.cost steps at rest behind.0 read behind.1 behind.2);
    }
