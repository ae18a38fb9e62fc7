use Rattle.std.proofs.Common.{rules, ◌≡◌, [], ◌∷◌, ◌++◌, refl}
use Rattle.venue_state.specs.Entry.{Entry}
use Rattle.board_copies.specs.Stamps.{entries_of}
use Rattle.board_copies.proofs.Resumes.{was_made, was_refused, longer, illegal}
use Rattle.board_copies.proofs.resuming.Resuming.step.Goals as goal

pub returns-then-not-step-clause-entered : goal.returns-then-not-step-clause-entered
returns-then-not-step-clause-entered c =
    let old = c.args.self.now in
    let e : Entry = record { worker = c.args.worker; act = c.args.act } in
    (illegal c.following_law.ensures.may (entries_of old.stamp) old.version e old.stands (was_refused old.version c.step.new.self e c.step.result c.if-not-step.true c.step.ensures).0, refl)

pub invariant_of-self-2 : goal.invariant_of-self-2
invariant_of-self-2 c =
    let old = c.args.self.now in
    let e : Entry = record { worker = c.args.worker; act = c.args.act } in
    let made = was_made old.version c.step.new.self e c.step.result c.if-not-step.false c.step.ensures in
    let list : entries_of c.in_ok-stamp.stamp ≡ entries_of old.stamp ++ e ∷ [] = search rules in
    record { stands = longer c.entry_law.ensures (entries_of old.stamp) (entries_of c.in_ok-stamp.stamp) old.version c.step.new.self e old.stands made.0 list made.1; book = search rules }
