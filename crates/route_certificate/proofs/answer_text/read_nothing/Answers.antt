use Rattle.std.proofs.Common.{◌≡◌, ℕ, List, ◌+◌, ◌++◌, length, sym, subst, ap, ◌∙◌, arith}
use Rattle.std.specs.List.{flat_map}
use Rattle.line_forms.specs.Faults.{IsFaultLine}
use Rattle.route_certificate.specs.declared.answer.Claim.{Claim}
use Rattle.route_certificate.specs.declared.answer.Claim.TheVariants.{Nothing}
use Rattle.route_certificate.specs.Forms.{end_line}
use Rattle.route_certificate.specs.Answers.{none_line, reach_line}
use Rattle.route_certificate.specs.AnswerFronts.{IsClaim, IsClaimText}
use Rattle.route_certificate.proofs.FaultNames.{named}
use Rattle.route_certificate.proofs.ClaimLemmas.{NothingRead, nothing_read, nothing_fits}
use Rattle.route_certificate.proofs.ClaimFaults.{no_nothing_end, nothing_behind}
use Rattle.route_certificate.proofs.answer_text.read_nothing.Goals as goal

whole_claim : (nodes : ℕ) (reached reached' text rest : List ℕ) → NothingRead nodes reached rest → text ≡ flat_map reach_line reached ++ rest → rest ≡ end_line → reached' ≡ reached
    → IsClaim nodes (none_line ++ text) (Nothing reached')
whole_claim nodes reached reached' text rest read parts ends r =
    let claim : Claim = Nothing reached in
    let is : IsClaim nodes (none_line ++ text) claim = record {
      spelled = ap (λ (t : List ℕ). none_line ++ t) (parts ∙ ap (λ (t : List ℕ). flat_map reach_line reached ++ t) ends);
      fits = nothing_fits nodes reached rest read;
    } in
    subst (λ (x : List ℕ). IsClaim nodes (none_line ++ text) (Nothing x)) (sym r) is

pub returns-in-Whole-clause-found : goal.returns-in-Whole-clause-found
returns-in-Whole-clause-found c =
    let reached = c.in_ok-reached.reached.items in
    let text = c.args.text.now in
    let rest = c.in_ok-reached.rest.now in
    whole_claim c.args.nodes reached c.from_vec.result text rest (nothing_read c.args.nodes reached text rest c.in_ok-reached.ensures) c.in_ok-reached.ensures.parts c.in-Whole.ensures c.from_vec.ensures

pub returns-in-Missing-clause-fault : goal.returns-in-Missing-clause-fault
returns-in-Missing-clause-fault c = λ n is.
    let reached = c.in_ok-reached.reached.items in
    let text = c.args.text.now in
    let rest = c.in_ok-reached.rest.now in
    record {
      line = 1 + length reached + 1;
      behind = omega (arith, named {T = Claim} _ n is, c.len.ensures, c.in_ok-reached.reached.ok.0);
      fault = subst (λ (t : List ℕ). IsFaultLine (IsClaimText c.args.nodes) (none_line ++ t) (1 + length reached + 1)) (sym c.in_ok-reached.ensures.parts)
          (no_nothing_end c.args.nodes reached rest (nothing_read c.args.nodes reached text rest c.in_ok-reached.ensures) c.in-Missing.ensures);
    }

pub returns-in-TextBehind-clause-fault : goal.returns-in-TextBehind-clause-fault
returns-in-TextBehind-clause-fault c = λ n is.
    let reached = c.in_ok-reached.reached.items in
    let text = c.args.text.now in
    let rest = c.in_ok-reached.rest.now in
    let behind = c.in-TextBehind.ensures in
    record {
      line = 1 + length reached + 1 + 1;
      behind = omega (arith, named {T = Claim} _ n is, c.len.ensures, c.in_ok-reached.reached.ok.0);
      fault = subst (λ (t : List ℕ). IsFaultLine (IsClaimText c.args.nodes) (none_line ++ t) (1 + length reached + 1 + 1)) (sym c.in_ok-reached.ensures.parts)
          (nothing_behind c.args.nodes reached rest behind.0 (nothing_read c.args.nodes reached text rest c.in_ok-reached.ensures) behind.1 behind.2);
    }
