use Rattle.std.proofs.Common.{◌≢◌, []}
use Rattle.imdf_refs.specs.Rules.{IsMisnamed}
use Rattle.link_graph.specs.Limits.{BreaksLimit}
use Rattle.venue_build.specs.Phases.{IsPlaneBroken}
use Rattle.venue_build.proofs.PhaseLemmas.{nothing, not_empty, empty}
use Rattle.venue_build.proofs.Grounds.{empty_report, none_report, names_report, plane_report, limit_report, silent, not_spread}
use Rattle.venue_build.proofs.phases.judged.Goals as goal

pub returns-then-not-is_empty : goal.returns-then-not-is_empty
returns-then-not-is_empty c =
    let found = c.in_ok-misnamed.misnamed in
    let some : found ≢ [] = not_empty c.is_empty.result found c.is_empty.ensures c.if-not-is_empty.true in
    (some, names_report c.args.features.now c.args.settings.now found some c.in_ok-misnamed.ensures)

pub plane_findings-requires-clause-own_ids : goal.plane_findings-requires-clause-own_ids
plane_findings-requires-clause-own_ids c =
    let features = c.args.features.now in
    let found = c.in_ok-misnamed.misnamed in
    c.own_ids_law.ensures features (nothing (IsMisnamed features) found (empty c.is_empty.result found c.is_empty.ensures c.if-not-is_empty.false) c.in_ok-misnamed.ensures)

pub returns-then-not-is_empty-2 : goal.returns-then-not-is_empty-2
returns-then-not-is_empty-2 c =
    let features = c.args.features.now in
    let before = c.in_ok-misnamed.misnamed in
    let found = c.in_ok-misplaced.misplaced in
    let none = empty c.is_empty.result before c.is_empty.ensures c.if-not-is_empty.false in
    let some : found ≢ [] = not_empty c.is_empty-2.result found c.is_empty-2.ensures c.if-not-is_empty-2.true in
    (some, plane_report features c.args.settings.now found (empty_report (IsMisnamed features) before none c.in_ok-misnamed.ensures) some c.in_ok-misplaced.ensures)

pub ground_of-requires-clause-own_ids : goal.ground_of-requires-clause-own_ids
ground_of-requires-clause-own_ids c =
    let features = c.args.features.now in
    let found = c.in_ok-misnamed.misnamed in
    c.own_ids_law.ensures features (nothing (IsMisnamed features) found (empty c.is_empty.result found c.is_empty.ensures c.if-not-is_empty.false) c.in_ok-misnamed.ensures)

pub ground_of-requires-clause-close : goal.ground_of-requires-clause-close
ground_of-requires-clause-close c =
    let features = c.args.features.now in
    let settings = c.args.settings.now in
    let found = c.in_ok-misplaced.misplaced in
    let none = empty c.is_empty-2.result found c.is_empty-2.ensures c.if-not-is_empty-2.false in
    c.no_spread_law.ensures features (not_spread features settings (empty_report (IsPlaneBroken features settings.contain_tol) found none c.in_ok-misplaced.ensures))

pub returns-in-Ok : goal.returns-in-Ok
returns-in-Ok c =
    let features = c.args.features.now in
    let settings = c.args.settings.now in
    let names = c.in_ok-misnamed.misnamed in
    let plane = c.in_ok-misplaced.misplaced in
    let no_names = empty c.is_empty.result names c.is_empty.ensures c.if-not-is_empty.false in
    let no_plane = empty c.is_empty-2.result plane c.is_empty-2.ensures c.if-not-is_empty-2.false in (
      silent features settings
          (empty_report (IsMisnamed features) names no_names c.in_ok-misnamed.ensures)
          (empty_report (IsPlaneBroken features settings.contain_tol) plane no_plane c.in_ok-misplaced.ensures)
          (none_report (BreaksLimit features settings) (λ x. c.limit_law.ensures features settings x c.in-Ok.ensures.ground.roomy)),
      c.in-Ok.ensures.ground,
    )

pub returns : goal.returns
returns c =
    let features = c.args.features.now in
    let settings = c.args.settings.now in
    let names = c.in_ok-misnamed.misnamed in
    let plane = c.in_ok-misplaced.misplaced in
    let found = c.in_ok-crowded-in-Err.crowded in
    let no_names = empty c.is_empty.result names c.is_empty.ensures c.if-not-is_empty.false in
    let no_plane = empty c.is_empty-2.result plane c.is_empty-2.ensures c.if-not-is_empty-2.false in (
      c.in_ok-crowded-in-Err.ensures.some,
      limit_report features settings found
          (empty_report (IsMisnamed features) names no_names c.in_ok-misnamed.ensures)
          (empty_report (IsPlaneBroken features settings.contain_tol) plane no_plane c.in_ok-misplaced.ensures)
          (c.in_ok-crowded-in-Err.ensures.all features settings c.in-Err.ensures.fault),
    )
