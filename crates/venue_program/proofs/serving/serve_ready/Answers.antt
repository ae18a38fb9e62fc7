use Rattle.std.proofs.Common.{◌∙◌, sym, subst}
use Rattle.venue_service.specs.Services.{terms_of}
use Rattle.venue_program.specs.Services.{IsServiceEnd, unbound}
use Rattle.venue_program.proofs.Hosting.{ends_since}
use Rattle.venue_program.proofs.serving.serve_ready.Goals as goal

pub returns-in-Ok-clause-ends : goal.returns-in-Ok-clause-ends
returns-in-Ok-clause-ends g c =
    let bound = c.in-Ok.ensures in
    ends_since c.args.ready.address.now (terms_of c.args.ready.plan) (g.J.Log.records c.serve_bound.result.log) (record {
      left_before = g.C.Stream.left c.args.console.now;
      left_after = g.C.Stream.left c.serve_bound.new.console;
      written_before = g.C.Stream.written c.args.console.now;
      written_after = g.C.Stream.written c.serve_bound.new.console;
      faults_before = g.C.Stream.faults c.args.console.now;
      faults_after = g.C.Stream.faults c.serve_bound.new.console;
    }) (record {
      accepted = g.D.Doors.accepted c.args.doors;
      accepted_now = g.D.Doors.accepted c.serve_bound.result.doors;
      binds = g.D.Doors.binds c.args.doors;
      binds_now = g.D.Doors.binds c.serve_bound.result.doors;
      bound = g.D.Doors.bound c.args.doors;
      bound_now = g.D.Doors.bound c.serve_bound.result.doors;
      faults = g.D.Doors.faults c.args.doors;
      faults_now = g.D.Doors.faults c.serve_bound.result.doors;
    })
    _ _ c.serve_bound.result.status bound.accepted bound.cause.kept
    (c.serve_bound.ensures.ends (g.D.Doors.binds c.args.doors) (g.D.Doors.bound c.args.doors))

pub returns-in-Ok-clause-bound : goal.returns-in-Ok-clause-bound
returns-in-Ok-clause-bound g c =
    record { once = c.serve_bound.ensures.binds ∙ c.in-Ok.ensures.binds; there = c.serve_bound.ensures.bound ∙ c.in-Ok.ensures.bound }

pub returns-in-Err-clause-ends : goal.returns-in-Err-clause-ends
returns-in-Err-clause-ends g c =
    let failed = c.in-Err.ensures in
    subst (IsServiceEnd c.args.ready.address.now (terms_of c.args.ready.plan) _ _ _) (sym c.tell_unbound-status.ensures.fault)
    (unbound failed.accepted failed.cause.failed c.tell_unbound-status.ensures.told)

pub returns-in-Err-clause-bound : goal.returns-in-Err-clause-bound
returns-in-Err-clause-bound g c = record { once = c.in-Err.ensures.binds; there = c.in-Err.ensures.bound }
