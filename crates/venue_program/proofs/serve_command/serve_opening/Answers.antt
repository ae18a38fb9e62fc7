use Rattle.std.proofs.Common.{refl, inl, inr}
use Rattle.venue_commands.proofs.Serving.{ends_nothing}
use Rattle.venue_service.specs.Services.{terms_of}
use Rattle.venue_program.proofs.Hosting.{bound_as, ends_as}
use Rattle.venue_program.proofs.serve_command.serve_opening.Goals as goal

pub returns-in-Ok-clause-ends : goal.returns-in-Ok-clause-ends
returns-in-Ok-clause-ends g c words files before base folder address workers connections venue asks made ready kept =
    let served = c.serve_ready-status.ensures in
    let here = rw c.in-Ok.is at ready in
    inr (record {
      base = base;
      folder = folder;
      address = address;
      workers = workers;
      connections = connections;
      asks = asks;
      venue = venue;
      made = made;
      terms = terms_of c.in-Ok.ready.plan;
      terms_are = here.terms;
      unread = served.left;
      bound = bound_as _ _ _ here.address_is served.bound;
      ends = ends_as _ _ _ _ _ _ _ here.address_is served.ends;
    })

pub returns-in-Err-clause-ends : goal.returns-in-Err-clause-ends
returns-in-Err-clause-ends g c words files before base folder address workers connections venue asks made ready kept =
    inl (record {
      ends = ends_nothing words files _ refl (record { console = refl; folders = kept }) refl;
      unasked = (record { accepted = refl; binds = refl; bound = refl; faults = refl });
    })
