use Rattle.std.proofs.Common.{[], refl, append-nil, inr}
use Rattle.journal_start.specs.Stamps.{entries_of}
use Rattle.journal_start.specs.Told.{told_records}
use Rattle.venue_program.proofs.Hosting.{wrote_nothing}
use Rattle.venue_program.proofs.Seating.{log_as}
use Rattle.venue_program.proofs.kept_commands.serve_session.Goals as goal

pub returns-in-Err-clause-ends : goal.returns-in-Err-clause-ends
returns-in-Err-clause-ends g c =
    let entries = entries_of c.args.start.kept.resumed.held.stamp in
    let n = c.args.start.kept.journal.count in (
      n,
      inr (record {
        memory = refl;
        nothing = (record { wrote = wrote_nothing _; faultless = refl });
        history = entries;
        begins = ([], append-nil entries);
        kept = log_as (λ d. told_records n (g.K.Disk.Disk.moments d)) (λ d. n) c.args.start.kept.journal.disk c.into_disk-in-Err.result entries entries c.into_disk-in-Err.ensures.disk refl
            c.requires.length c.requires.records;
      }),
      c.into_disk-in-Err.ensures.held,
    )
