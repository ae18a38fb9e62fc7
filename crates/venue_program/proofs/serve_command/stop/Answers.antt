use Rattle.std.proofs.Common.{refl, inl}
use Rattle.venue_program.proofs.serve_command.stop.Goals as goal

pub returns-clause-ends : goal.returns-clause-ends
returns-clause-ends g c words files before is =
    inl (record { ends = c.tell-status.ensures.ends words files _ is; unasked = (record { accepted = refl; binds = refl; bound = refl; faults = refl }) })
