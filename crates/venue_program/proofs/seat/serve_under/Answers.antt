use Rattle.std.proofs.Common.{[], refl, append-nil, inr}
use Rattle.shared_hall.specs.Copied.{entries_in}
use Rattle.venue_program.proofs.Hosting.{wrote_nothing}
use Rattle.venue_program.proofs.Seating.{log_as}
use Rattle.venue_program.proofs.seat.serve_under.Goals as goal

pub returns-clause-ends : goal.returns-clause-ends
returns-clause-ends g c =
    inr (record {
      memory = refl;
      nothing = (record { wrote = wrote_nothing _; faultless = refl });
      history = g.N.HallName.opening;
      begins = ([], append-nil g.N.HallName.opening);
      kept = log_as g.J.Log.records g.J.Log.length c.args.log c.in-Err.field-0.log g.N.HallName.opening (entries_in c.args.plan.copies) c.in-Err.ensures.log c.requires.opening c.requires.length
          c.requires.records;
    })
