use Rattle.venue_commands.proofs.prints.tell.Goals as goal

pub returns-in-Ok-clause-ends : goal.returns-in-Ok-clause-ends
returns-in-Ok-clause-ends g c words files folders is =
    let told = rw c.in-Ok.is at is in
    c.print.ensures.ends words files folders told.0 told.1 told.2

pub returns-in-Err-clause-ends : goal.returns-in-Err-clause-ends
returns-in-Err-clause-ends g c words files folders is = c.tell_fault.ensures.ends words files folders (rw c.in-Err.is at is)
