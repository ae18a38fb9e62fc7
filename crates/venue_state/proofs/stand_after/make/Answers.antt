-- The set of the one feature is joined or taken from, and all others stay.
use Rattle.std.proofs.Common.{◌≡◌, ◌∙◌, ap}
use Rattle.venue_types.specs.declared.profile_set.ProfileSet.{ProfileSet}
use Rattle.venue_types.specs.ProfileSets.{joined, without}
use Rattle.venue_history.specs.Closed.{closed_set}
use Rattle.venue_state.specs.Boards.{version_of}
use Rattle.venue_state.proofs.Changing.{closed_so, reopened_so}
use Rattle.venue_state.proofs.stand_after.make.Goals as goal

pub returns-in-Closed-clause-next : goal.returns-in-Closed-clause-next
returns-in-Closed-clause-next c =
    let v = (version_of c.args.stand.now) in
    let it = c.in-Closed.it in
    let told : c.joined-closed.result ≡ joined (closed_set v it.feature) it.profiles =
    c.joined-closed.ensures ∙ ap (λ (set : ProfileSet). joined set it.profiles) c.closed_set.ensures in
    let next = rw (told, closed_so v it) at c.change.ensures.next in
    rw c.in-Closed.is next

pub returns-in-Reopened-clause-next : goal.returns-in-Reopened-clause-next
returns-in-Reopened-clause-next c =
    let v = (version_of c.args.stand.now) in
    let it = c.in-Reopened.it in
    let told : c.without-left.result ≡ without (closed_set v it.feature) it.profiles =
    c.without-left.ensures ∙ ap (λ (set : ProfileSet). without set it.profiles) c.closed_set-in-Reopened.ensures in
    let next = rw (told, reopened_so v it) at c.change-in-Reopened.ensures.next in
    rw c.in-Reopened.is next
