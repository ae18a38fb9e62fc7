use Rattle.route_certificate.proofs.TableLemmas.{one_table}
use Rattle.route_certificate.proofs.laws.table_law.Goals as goal

pub returns-clause-one_table : goal.returns-clause-one_table
returns-clause-one_table c = one_table
