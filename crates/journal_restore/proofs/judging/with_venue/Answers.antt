use Rattle.std.proofs.Common.{◌∙◌}
use Rattle.std.proofs.lemmas.Result.{IfOk-weaker}
use Rattle.std.specs.Arc.{arc_value}
use Rattle.venue_hall.specs.Act.TheVariants.{Published}
use Rattle.venue_hall.specs.Records.{published}
use Rattle.board_copies.specs.Resumes.{EntersBehind}
use Rattle.board_copies.specs.Stamps.{entries_of}
use Rattle.journal_restore.specs.Judging.{IsJudged}
use Rattle.journal_restore.proofs.Unfit.{none_made, published_judged, rejected_unfit, venue_made}
use Rattle.journal_restore.proofs.judging.with_venue.Goals as goal

pub returns-in-None : goal.returns-in-None
returns-in-None c =
    let settings = arc_value c.args.settings.now in
    let made = c.in_ok-venue_of in
    let none = none_made settings c.deref.result.now c.args.files made.field-0 c.in-None.is c.deref.ensures made.ensures in
    rejected_unfit settings (entries_of c.args.resuming.stamp) c.args.worker c.args.files none

pub returns-in-Some : goal.returns-in-Some
returns-in-Some c =
    let settings = arc_value c.args.settings.now in
    let files = c.args.files in
    let venue = c.in-Some.venue in
    let worker = c.args.worker in
    let resuming = c.args.resuming in
    let awaiting = c.in_ok-awaiting in
    let made = c.in_ok-venue_of in
    let makes = venue_made settings c.deref.result.now files venue made.field-0 c.in-Some.is c.deref.ensures made.ensures in
    let judged = published_judged settings (arc_value awaiting.awaiting.left.settings) (entries_of resuming.stamp) (entries_of awaiting.awaiting.stamp) resuming.version worker files venue
    c.one_outcome.ensures.one_venue c.entry_law.ensures c.following_law.ensures.may c.requires.files.seventeen makes resuming.stands
    awaiting.ensures.entries (awaiting.ensures.settings ∙ c.requires.settings) in
    IfOk-weaker c.publish.result (EntersBehind (entries_of awaiting.awaiting.stamp) (arc_value awaiting.awaiting.left.settings) (record { worker = worker; act = Published venue }))
    (IsJudged settings (record { worker = worker; act = published files.slots }) (entries_of resuming.stamp)) judged c.publish.ensures
