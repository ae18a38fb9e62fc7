-- The journal of one publication is ready, since its text is that of the definition.
use Rattle.std.proofs.Common.{ℕ, List, ◌∷◌, ◌++◌, [], length, ap, ◌∙◌}
use Rattle.venue_ports.specs.MemoryDisks.{disk_record}
use Rattle.venue_hall.specs.Records.{Logged, published}
use Rattle.test_journal.proofs.Beginnings.{one_ready}
use Rattle.test_journal.proofs.journals.over_one.Goals as goal

pub over-requires-clause-ready : goal.over-requires-clause-ready
over-requires-clause-ready c =
    let entry : Logged = record { worker = c.args.publication.now.worker; act = published c.args.publication.now.files.slots } in
    one_ready c.begin_law.ensures.shut c.appended_law.ensures.read (disk_record c.args.disk) entry _ c.requires.calls
    (record { loggable = c.requires.loggable; ranges = tt })
    (c.requires.text ∙ ap (λ (front : List ℕ). front ++ 0 ∷ []) c.args.publication.now.spells)
    (ap length (c.as_slice-text.ensures.value ∙ c.args.publication.now.spells))
