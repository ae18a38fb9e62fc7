use Rattle.std.proofs.Common.{◌∙◌, refl, sym, subst, ap, inl, inr}
use Rattle.std.specs.Arc.{arc_value}
use Rattle.journal_start.specs.Stamps.{entries_of}
use Rattle.journal_start.specs.Told.{told_records}
use Rattle.shared_hall.specs.Standing.{AreRecordsOf}
use Rattle.venue_service.specs.Copied.{entries_in}
use Rattle.venue_service.specs.Services.{terms_of}
use Rattle.venue_program.proofs.Hosting.{bound_as, wrote_nothing}
use Rattle.venue_program.proofs.KeptEnding.{log_kept, service_as}
use Rattle.venue_program.proofs.kept_commands.serve_doors.Goals as goal

pub returns-in-Ok-clause-ends : goal.returns-in-Ok-clause-ends
returns-in-Ok-clause-ends g c =
    let served = c.serve_ready-status in
    let ready = c.in-Ok.ensures in
    let log = served.result.log in
    let entries = entries_of c.args.start.kept.resumed.held.stamp in
    let told = ap (λ d. told_records log.count (g.K.Disk.Disk.moments d)) (sym c.into_disk.ensures.disk) in (
      log.count,
      record {
        terms = terms_of c.in-Ok.ready.plan;
        opening_is = ready.opening;
        terms_are = (record { base_is = ready.base; keys = ready.keys ∙ c.args.start.keys; workers_are = ready.workers; connections_are = ready.connections });
        kept = log_kept (λ j. told_records j.count (g.K.Disk.Disk.moments j.disk)) c.args.start.kept.journal log (entries_in c.in-Ok.ready.plan.copies) entries
            (told_records log.count (g.K.Disk.Disk.moments c.into_disk.result)) served.ensures.kept ready.opening c.requires.records told;
        ends = inl (bound_as _ _ _ ready.address served.ensures.bound, service_as _ _ _ _ _ _ _ _ ready.address told served.ensures.ends);
      },
      c.into_disk.ensures.held,
    )

pub returns-in-Err-clause-ends : goal.returns-in-Err-clause-ends
returns-in-Err-clause-ends g c =
    let start = c.args.start in
    let n = start.kept.journal.count in
    let entries = entries_of start.kept.resumed.held.stamp in (
      n,
      record {
        terms = (record {
          opening = entries;
          base = start.base;
          keys = (arc_value start.settings).staff_keys;
          workers = c.args.service.workers;
          connections = c.args.service.connections;
        });
        opening_is = refl;
        terms_are = (record { base_is = refl; keys = refl; workers_are = refl; connections_are = refl });
        kept = inl (subst (λ d. AreRecordsOf (told_records n (g.K.Disk.Disk.moments d)) entries) (sym c.into_disk-in-Err.ensures.disk) c.requires.records);
        ends = inr (record { accepted = refl; binds = refl; bound = refl; faults = refl }, record { wrote = wrote_nothing _; faultless = refl }, refl);
      },
      c.into_disk-in-Err.ensures.held,
    )
