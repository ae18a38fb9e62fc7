use Rattle.std.proofs.Common.{◌≡◌, sym, subst, ap}
use mathlib.Core.List.{IsPrefix}
use Rattle.venue_types.specs.declared.query.Change.TheVariants.{Publish}
use Rattle.venue_types.specs.declared.reply.Reply.{Reply}
use Rattle.venue_hall.specs.Facts.{Facts, IsChanged}
use Rattle.venue_hall.specs.Histories.{IsLegal}
use Rattle.board_copies.specs.Making.{IsUnread}
use Rattle.shared_hall.proofs.Judging.{err_maps, unread_changes}
use Rattle.shared_hall.proofs.seat.SeatIn+N+F+SideReader+Keeper+J+R.read_folder.Goals as goal

-- a folder that wasn't read is answered at the history that the seat was told
pub returns-clause-unread : goal.returns-clause-unread
returns-clause-unread g c =
    let old = c.args.self.now in
    let new = c.read_folder.new.pass in
    let before = c.tell.new.self.faults in
    let now = c.read_folder.new.self.faults in
    let same : new.seen ≡ c.tell.new.pass.seen = ap (λ (f : Facts). f.seen) c.read_folder.ensures.kept in
    let grows : IsPrefix old.seen c.tell.new.pass.seen = subst (λ (f : Facts). IsPrefix f.seen c.tell.new.pass.seen) c.self.view_is c.tell.ensures.grows in
    let at = c.legal_law.ensures new.seen (subst IsLegal (sym same) c.tell.ensures.legal) in
    err_maps (IsUnread before now) (IsChanged old new (Publish c.args.folder.now)) c.read_folder.result
    (λ (r : Reply) unread. (new.seen, subst (IsPrefix old.seen) (sym same) grows, unread_changes old.files at.0 old.worker c.args.folder.now new.seen before now r at.1 unread))
    c.read_folder.ensures.unread
