use Rattle.wire_replies.proofs.bodies.ToldWritten.write_to.Goals as goal

pub returns : goal.returns
returns c =
    let told = rw c.first_findings.ensures at c.write_items.ensures in
    rw c.as_slice.ensures at told
