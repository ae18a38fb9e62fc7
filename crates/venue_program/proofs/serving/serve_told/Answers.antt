use Rattle.std.proofs.Common.{◌≡◌, refl, ap, true, false}
use Rattle.venue_ports.specs.Causes.{Rose}
use Rattle.venue_service.specs.declared.service.Counts.{Counts}
use Rattle.venue_service.specs.Copied.{entries_in}
use Rattle.venue_service.specs.Desks.{raised}
use Rattle.venue_service.specs.Services.{AreCounts}
use Rattle.venue_program.specs.Steps.{nobody, closed}
use Rattle.venue_program.proofs.Hosting.{some_of, none_of, wrote_nothing}
use Rattle.venue_program.proofs.serving.serve_told.Goals as goal

pub returns-in-Some-clause-ends : goal.returns-in-Some-clause-ends
returns-in-Some-clause-ends g c binds bound =
    let served = c.serve_named-folders in
    let there = c.in-Some.counts in
    closed there (record {
      counts_are = some_of (AreCounts c.args.ready.plan.workers c.args.ready.plan.connections (entries_in c.args.ready.plan.copies) (g.J.Log.records served.result.log)) served.result.counts there c.in-Some.is served.ensures.counts;
      accepted = some_of (λ (n : Counts). g.D.Doors.accepted served.result.doors ≡ raised n.sessions (g.D.Doors.accepted c.args.doors)) served.result.counts there c.in-Some.is served.ensures.accepted;
      sound = some_of (λ (n : Counts). n.failed ≡ false → g.D.Doors.faults served.result.doors ≡ g.D.Doors.faults c.args.doors) served.result.counts there c.in-Some.is served.ensures.sound;
      failed = some_of (λ (n : Counts). n.failed ≡ true → Rose (g.D.Doors.faults c.args.doors) (g.D.Doors.faults served.result.doors)) served.result.counts there c.in-Some.is served.ensures.failed;
    }) c.close-status.ensures.closing

pub returns-in-None-clause-ends : goal.returns-in-None-clause-ends
returns-in-None-clause-ends g c binds bound =
    let served = c.serve_named-folders in
    let same = none_of (served.result.doors ≡ c.args.doors) served.result.counts c.in-None.is served.ensures.unserved in
    nobody refl (record { accepted = ap g.D.Doors.accepted same; faults = ap g.D.Doors.faults same }) (record { wrote = wrote_nothing _; faultless = refl })
