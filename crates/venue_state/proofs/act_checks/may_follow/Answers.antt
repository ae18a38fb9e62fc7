-- What is refused may not follow.
use Rattle.venue_state.specs.Boards.{version_of}
use Rattle.venue_state.proofs.Refusing.{refused}
use Rattle.venue_state.proofs.act_checks.may_follow.Goals as goal

pub returns-in-Err : goal.returns-in-Err
returns-in-Err c =
    (λ never. absurd (cc never), λ may. absurd (refused (version_of c.args.stand.now) c.args.worker c.args.act.now c.in-Err.field-0 c.order_law.ensures.order c.in-Err.ensures.free c.in-Err.ensures.unready may))
