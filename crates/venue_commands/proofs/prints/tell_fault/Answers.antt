use Rattle.std.proofs.Common.{refl}
use Rattle.venue_commands.proofs.Serving.{ends_nothing}
use Rattle.venue_commands.proofs.prints.tell_fault.Goals as goal

pub returns-in-Failed-clause-ends : goal.returns-in-Failed-clause-ends
returns-in-Failed-clause-ends g c words files folders is =
    c.print_fault.ensures.ends words files folders (rw c.in-Failed.is at is)

pub returns-in-OutOfMemory-clause-ends : goal.returns-in-OutOfMemory-clause-ends
returns-in-OutOfMemory-clause-ends g c words files folders is =
    let kept = rw c.in-OutOfMemory.is at is in
    ends_nothing words files _ refl (record { console = refl; folders = kept }) refl
