-- A venue that may follow has the history's settings.
use Rattle.std.proofs.Common.{[], ◌∙◌, sym}
use Rattle.venue_hall.specs.Act.TheVariants.{Published}
use Rattle.board_copies.specs.Stamps.{entries_of}
use Rattle.shared_hall.proofs.entries.published.Goals as goal

pub publish-requires : goal.publish-requires
publish-requires c =
    let history = c.args.history in
    c.following_law.ensures.settings (entries_of history.stamp) [] (record { worker = c.args.worker; act = Published c.args.venue }) history.version history.stands c.requires.legal
    ∙ sym c.in_ok-awaiting.ensures.settings
