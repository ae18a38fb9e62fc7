use Rattle.std.proofs.Common.{rules, ◌≡◌, [], ◌∷◌, ◌++◌, sym, subst}
use Rattle.venue_state.specs.Act.TheVariants.{Published}
use Rattle.venue_state.specs.Entry.{Entry}
use Rattle.venue_state.specs.Replaying.{IsEnteredBehind}
use Rattle.board_copies.specs.Stamps.{entries_of}
use Rattle.board_copies.proofs.Resumes.{illegal_behind, longer_behind, settings_behind}
use Rattle.board_copies.proofs.resuming.Awaiting.publish.Goals as goal

pub returns-in_default : goal.returns-in_default
returns-in_default c =
    let old = c.args.self in
    let copied : Entry = record { worker = c.args.worker; act = Published c.in_ok-copy.copy } in
    let none = subst (IsEnteredBehind old.left copied) c.in_default.is c.in_ok-version.ensures in
    illegal_behind c.following_law.ensures.may (entries_of old.stamp) old.left c.args.worker c.args.venue c.in_ok-copy.copy (sym c.in_ok-copy.ensures) old.stands none

pub invariant_of-result : goal.invariant_of-result
invariant_of-result c =
    let old = c.args.self in
    let e : Entry = record { worker = c.args.worker; act = Published c.args.venue } in
    let copied : Entry = record { worker = c.args.worker; act = Published c.in_ok-copy.copy } in
    let some = subst (IsEnteredBehind old.left copied) c.in-Some.is c.in_ok-version.ensures in
    let list : entries_of c.in_ok-stamp.stamp ≡ entries_of old.stamp ++ e ∷ [] = search rules in
    record {
      stands = longer_behind c.entry_law.ensures (entries_of old.stamp) (entries_of c.in_ok-stamp.stamp) old.left c.args.worker c.args.venue c.in_ok-copy.copy c.in-Some.version c.in_ok-copy.ensures old.stands some list;
      book = search rules;
    }

pub returns : goal.returns
returns c =
    let old = c.args.self in
    let e : Entry = record { worker = c.args.worker; act = Published c.args.venue } in
    let copied : Entry = record { worker = c.args.worker; act = Published c.in_ok-copy.copy } in
    let some = subst (IsEnteredBehind old.left copied) c.in-Some.is c.in_ok-version.ensures in
    let list : entries_of c.in_ok-stamp.stamp ≡ entries_of old.stamp ++ e ∷ [] = search rules in
    (list, settings_behind (entries_of old.stamp) old.left c.args.worker c.in_ok-copy.copy c.in-Some.version old.stands some)
