use Rattle.feature_rows.proofs.Indexing.{place_within, only_row, no_row}
use Rattle.feature_rows.proofs.laws.row_law.Goals as goal

pub returns-clause-within : goal.returns-clause-within
returns-clause-within g c rows index id k is place = place_within g.R.HasId.id_of rows index id k is place

pub returns-clause-only : goal.returns-clause-only
returns-clause-only g c rows index id k row own is place at = only_row g.R.HasId.id_of rows index id k row own is place at

pub returns-clause-none : goal.returns-clause-none
returns-clause-none g c rows index id row is none has = no_row g.R.HasId.id_of rows index id row is none has
