use Rattle.venue_build.proofs.FirstRows.{finds_first}
use Rattle.venue_build.proofs.ordinals.index_of.Goals as goal

pub returns : goal.returns
returns g c = finds_first g.R.HasId.id_of c.args.rows.now c.in_ok-index.index c.in_ok-index.ensures
