use Rattle.venue_commands.proofs.prints.print_answer.Goals as goal

pub returns-clause-ends : goal.returns-clause-ends
returns-clause-ends g c words files before is = c.tell-status.ensures.ends words files _ is
