use Rattle.std.proofs.Common.{◌++◌, ◌∷◌, []}
use Rattle.change_journal.specs.Appends.{kept_records, loose_records, moments_after}
use Rattle.journal_restore.proofs.Restarts.{restart_kept, restart_now, restart_within, restored_opens, same_version}
use Rattle.journal_restore.proofs.laws.restart_law.Goals as goal

pub returns-clause-kept : goal.returns-clause-kept
returns-clause-kept c = restart_kept c.one_journal.ensures c.one_outcome.ensures.one_venue

pub returns-clause-between : goal.returns-clause-between
returns-clause-between c settings entries records failed old appends start are stand =
    restart_now c.one_journal.ensures c.one_outcome.ensures.one_venue settings entries (kept_records records appends) (loose_records failed appends) (moments_after old appends)
    stand (c.kept_law.ensures.between records failed old appends start are)

pub returns-clause-within : goal.returns-clause-within
returns-clause-within c settings entries records failed old appends last start are stand is =
    restart_within c.one_journal.ensures c.one_outcome.ensures.one_venue settings entries (kept_records records appends) (loose_records failed appends ++ last.entry ∷ [])
    (moments_after old appends) last.moments stand (c.kept_law.ensures.within records failed old appends last start are is)

pub returns-clause-version : goal.returns-clause-version
returns-clause-version c = same_version

pub returns-clause-opens : goal.returns-clause-opens
returns-clause-opens c = restored_opens c.first_law.ensures.published

pub returns-clause-counted : goal.returns-clause-counted
returns-clause-counted c settings old new count resumed is = is.counted
