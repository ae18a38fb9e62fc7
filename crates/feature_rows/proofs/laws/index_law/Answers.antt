use Rattle.feature_rows.proofs.Indexing.{place_is, none_is}
use Rattle.feature_rows.proofs.laws.index_law.Goals as goal

pub returns-clause-place : goal.returns-clause-place
returns-clause-place c ids index id k own is = place_is ids index id k own is

pub returns-clause-none : goal.returns-clause-none
returns-clause-none c ids index id is = none_is ids index id is
