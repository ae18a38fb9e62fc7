use Rattle.std.proofs.Common.{inl}
use Rattle.std.proofs.Props.{props}
use Rattle.std.proofs.Math.Logic.{∥∥₁_elim}
use Rattle.venue_build.specs.Report.{AreValid}
use Rattle.venue_history.proofs.Once.{closables_once}
use Rattle.venue_history.proofs.Settled.{replay_settings, replay_under, replay_valid}
use Rattle.venue_history.proofs.Standing.{closed_closable, closed_once, closed_in_order}
use Rattle.venue_history.proofs.Within.{closed_profiles}
use Rattle.venue_history.proofs.laws.version_law.Goals as goal

pub returns-clause-settings : goal.returns-clause-settings
returns-clause-settings c e es venue v r is = replay_settings e.act venue es v r.leads is

pub returns-clause-valid : goal.returns-clause-valid
returns-clause-valid c = replay_valid

pub returns-clause-closable : goal.returns-clause-closable
returns-clause-closable c = closed_closable

pub returns-clause-once : goal.returns-clause-once
returns-clause-once c h v r =
    ∥∥₁_elim (replay_valid h v r) (hlevel props)
    (λ (valid : AreValid v.features v.settings).
    closed_once h v r (closables_once v.features (c.own_ids_law.ensures v.features (λ x misnamed. valid.unbroken x (inl misnamed)))))

pub returns-clause-in_order : goal.returns-clause-in_order
returns-clause-in_order c = closed_in_order

pub returns-clause-profiles : goal.returns-clause-profiles
returns-clause-profiles c = closed_profiles

pub returns-clause-all_settings : goal.returns-clause-all_settings
returns-clause-all_settings c = replay_under
