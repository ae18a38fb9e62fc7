use Rattle.std.proofs.Common.{◌≡◌, ◌∙◌, sym, subst, ap}
use Rattle.std.specs.Arc.{arc_value}
use mathlib.Core.List.{IsPrefix}
use Rattle.venue_types.specs.declared.settings.Settings.{Settings}
use Rattle.venue_history.specs.Built.{IsVenueOf}
use Rattle.shared_hall.specs.Offices.{OfficeFacts}
use Rattle.shared_hall.proofs.Judging.{judged_at, judged_later}
use Rattle.test_journal.proofs.judged.publish.Goals as goal

-- what the pass saw when the files were read begins what is published now, so their settings are those of now
pub publish-reply-requires-clause-judged : goal.publish-reply-requires-clause-judged
publish-reply-requires-clause-judged g c =
    let old = c.args.pass.now.seen in
    let files = c.args.found.files in
    let venue = c.in-Ok.venue in
    let seen : c.tell.new.pass.seen ≡ c.tell.new.self.entries = c.tell.ensures.seen ∙ sym (ap (λ (o : OfficeFacts). o.entries) c.tell.ensures.office) in
    let at = c.legal_law.ensures old c.requires.legal in
    let judged = judged_at old (arc_value c.args.found.settings) files venue c.requires.settings
    (subst (λ (s : Settings). IsVenueOf files s (arc_value venue)) c.deref.ensures c.in-Ok.ensures.venue) in
    judged_later c.version_law.ensures.settings old c.tell.new.self.entries at.0 files venue (subst (IsPrefix old) seen c.tell.ensures.grows) at.1 judged
