-- What it keeps is of its version.
use Rattle.std.proofs.Common.{sym, subst}
use Rattle.std.specs.Prelude.{IfOk, IfErr}
use Rattle.venue_history.specs.Closed.{Version}
use Rattle.venue_state.specs.declared.prepared.NextBoard.{NextBoard}
use Rattle.venue_state.specs.declared.unready.Unready.{Unready}
use Rattle.venue_state.specs.Preparing.{HasSettings, IsReady, IsUnready}
use Rattle.venue_state.proofs.board.Board.ready.Goals as goal

pub ready_at-requires-clause-settings : goal.ready_at-requires-clause-settings
ready_at-requires-clause-settings c = subst (λ (v : Version). HasSettings v c.args.act) (sym c.stand.ensures.version) c.requires.settings

pub returns-clause-ready : goal.returns-clause-ready
returns-clause-ready c =
    subst (λ (v : Version). IfOk c.ready_at.result (λ (ready : NextBoard). IsReady v c.args.act c.args.worker ready)) c.stand.ensures.version c.ready_at.ensures.ready

pub returns-clause-unready : goal.returns-clause-unready
returns-clause-unready c =
    subst (λ (v : Version). IfErr c.ready_at.result (λ (why : Unready). IsUnready v c.args.act why)) c.stand.ensures.version c.ready_at.ensures.unready
