use Rattle.shared_hall.proofs.Keeping.{published_stands}
use Rattle.shared_hall.proofs.office.publication.record_of.Goals as goal

pub returns-in-Published-Some-clause-stands : goal.returns-in-Published-Some-clause-stands
returns-in-Published-Some-clause-stands c settings all =
    published_stands c.args.entry.now c.args.files.now c.in-Published-Some.field-0-0 c.in-Published-Some.files c.in-Published-Some.is-0 c.in-Published-Some.is-1 c.requires.comes settings all
