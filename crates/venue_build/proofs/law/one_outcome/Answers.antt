use Rattle.venue_build.proofs.Outcomes.{not_both, one_report, one_venue}
use Rattle.venue_build.proofs.law.one_outcome.Goals as goal

pub returns-clause-not_both : goal.returns-clause-not_both
returns-clause-not_both c files settings report venue slots =
    not_both files settings (λ one other none. c.one_reading_law.ensures files one other slots none) report venue

pub returns-clause-one_report : goal.returns-clause-one_report
returns-clause-one_report c files settings one other slots =
    one_report files settings (λ a b none. c.one_reading_law.ensures files a b slots none) one other

pub returns-clause-one_venue : goal.returns-clause-one_venue
returns-clause-one_venue c files settings one other slots =
    one_venue files settings (λ a b none. c.one_reading_law.ensures files a b slots none) one other
