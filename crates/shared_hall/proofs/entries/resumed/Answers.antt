use Rattle.std.proofs.Common.{rules, ◌≡◌, List, [], ◌∷◌, ◌++◌, sym, ap, ◌∙◌}
use Rattle.std.specs.Vec.Iter.{into_iter_items}
use Rattle.venue_hall.specs.Entry.{Entry}
use Rattle.board_copies.specs.Stamps.{entries_of}
use Rattle.shared_hall.proofs.FirstEntries.{front_legal, first_in}
use Rattle.shared_hall.proofs.entries.resumed.Goals as goal

pub opened-requires-clause-legal : goal.opened-requires-clause-legal
opened-requires-clause-legal c =
    let rest = into_iter_items c.next.new.self in
    let split : c.in-Some.first ∷ rest ≡ c.args.entries.items = search rules in
    front_legal c.beginning_law.ensures [] rest c.args.entries.items c.in-Some.first split c.requires.legal

pub opened-requires-clause-settings : goal.opened-requires-clause-settings
opened-requires-clause-settings c =
    let rest = into_iter_items c.next.new.self in
    let split : c.in-Some.first ∷ rest ≡ c.args.entries.items = search rules in
    λ venue is. c.requires.settings c.in-Some.first venue (first_in c.in-Some.first rest c.args.entries.items split) is

pub entered-requires : goal.entered-requires
entered-requires c =
    let done = entries_of c.loop-entry.history.stamp in
    let rest = into_iter_items c.next-in-loop-entry.new.self in
    let taken : into_iter_items c.loop-entry.entry-iterator ≡ c.in-Some-entry.entry ∷ rest = c.in-Some-entry.ensures.steps.0 in
    let split : done ++ c.in-Some-entry.entry ∷ rest ≡ c.args.entries.items = ap (λ (left : List Entry). done ++ left) (sym taken) ∙ c.loop-entry.invariant.0 in
    record { legal = front_legal c.beginning_law.ensures done rest c.args.entries.items c.in-Some-entry.entry split c.requires.legal }
