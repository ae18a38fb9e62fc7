use Rattle.std.proofs.Common.{inl}
use Rattle.std.proofs.Props.{props}
use Rattle.std.proofs.Math.Logic.{∥∥₁_elim}
use Rattle.venue_build.specs.Report.{AreValid}
use Rattle.venue_history.proofs.NodeNames.{one_node}
use Rattle.venue_history.proofs.Settled.{replay_valid}
use Rattle.venue_history.proofs.laws.name_law.Goals as goal

pub returns : goal.returns
returns c h v m n r first second same =
    ∥∥₁_elim (replay_valid h v r) (hlevel props)
    (λ (valid : AreValid v.features v.settings).
    one_node v (c.own_ids_law.ensures v.features (λ x misnamed. valid.unbroken x (inl misnamed))) m n first second same)
