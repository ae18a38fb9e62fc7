use Rattle.std.proofs.Common.{◌≡◌, ◌∙◌, sym, subst, ap}
use mathlib.Core.List.{IsPrefix}
use Rattle.venue_hall.specs.Facts.{Facts}
use Rattle.shared_hall.specs.Offices.{OfficeFacts}
use Rattle.shared_hall.proofs.Judging.{judged_later}
use Rattle.shared_hall.proofs.seat.SeatIn+N+F+SideReader+Keeper+J+R.publish_judged.Goals as goal

-- what the seat saw when the files were read begins what is published now, so their settings are those of now
pub publish-reply-requires-clause-judged : goal.publish-reply-requires-clause-judged
publish-reply-requires-clause-judged g c =
    let old = c.args.self.now in
    let seen : c.tell.new.pass.seen ≡ c.tell.new.self.entries = c.tell.ensures.seen ∙ sym (ap (λ (o : OfficeFacts). o.entries) c.tell.ensures.office) in
    let grows : IsPrefix old.seen c.tell.new.pass.seen = subst (λ (f : Facts). IsPrefix f.seen c.tell.new.pass.seen) c.self.view_is c.tell.ensures.grows in
    let at = c.legal_law.ensures old.seen c.requires.legal in
    judged_later c.version_law.ensures.settings old.seen c.tell.new.self.entries at.0 c.args.files c.args.venue (subst (IsPrefix old.seen) seen grows) at.1 c.requires.judged
