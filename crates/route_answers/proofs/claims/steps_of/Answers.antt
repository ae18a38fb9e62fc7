use Rattle.std.proofs.Common.{map, sym, subst}
use Rattle.route_answers.specs.Places.{AreFirstPlaces}
use Rattle.route_answers.specs.Tables.{row_of, table_of}
use Rattle.route_answers.proofs.claims.steps_of.Goals as goal

pub returns-clause-numbered : goal.returns-clause-numbered
returns-clause-numbered c = λ features settings is.
    subst (AreFirstPlaces (table_of features settings c.args.profile.now).links (map (row_of features) c.args.walk.now)) (sym c.from_vec.ensures) (c.in_ok-places.ensures.numbered features settings is)
