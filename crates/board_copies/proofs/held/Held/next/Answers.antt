use Rattle.std.proofs.Common.{rules, ◌≡◌, ◌++◌, ◌∷◌, []}
use Rattle.venue_state.specs.Versions.{after}
use Rattle.board_copies.specs.Stamps.{entries_of}
use Rattle.board_copies.proofs.Standing.{replays_so}
use Rattle.board_copies.proofs.held.Held.next.Goals as goal

pub new-requires : goal.new-requires
new-requires c =
    let h = entries_of c.args.self.now.stamp in
    let v = c.args.self.now.board in
    let e = c.args.ready.entry in
    let list : entries_of c.in_ok-stamp.stamp ≡ h ++ e ∷ [] = search rules in
    replays_so (h ++ e ∷ []) (entries_of c.in_ok-stamp.stamp) (after v e.act) c.args.ready.board
    (c.entry_law.ensures h v e c.args.self.now.stands c.requires.may) list c.requires.next
