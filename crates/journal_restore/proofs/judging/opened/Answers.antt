use Rattle.std.proofs.Common.{[], sym, ◌∙◌, subst}
use Rattle.std.specs.Arc.{arc_value}
use Rattle.board_copies.specs.Stamps.{entries_of}
use Rattle.change_journal.specs.Readers.{kept_act}
use Rattle.change_journal.specs.declared.found.FoundAct.{FoundAct}
use Rattle.journal_restore.specs.Judging.{Grows}
use Rattle.journal_restore.proofs.Unfit.{opens, venue_made}
use Rattle.journal_restore.proofs.judging.opened.Goals as goal

pub returns : goal.returns
returns c =
    let settings = arc_value c.args.settings.now in
    let files = c.in-Published.files in
    let venue = c.in-Some.venue in
    let new = entries_of c.in_ok-resuming.resuming.stamp in
    let makes = venue_made settings c.deref.result.now files venue c.in_ok-venue.field-0 c.in-Some.is c.deref.ensures c.in_ok-venue.ensures in
    let grows = opens settings c.args.worker files venue new c.if-worker-ne0.false makes c.in_ok-resuming.ensures.entries in (
      subst (λ (a : FoundAct). Grows settings (record { worker = c.args.worker; act = kept_act a }) [] new) (sym c.in-Published.is) grows,
      c.in_ok-resuming.ensures.settings ∙ c.in_ok-try_clone.ensures,
    )
