use Rattle.std.proofs.Common.{◌<◌, arith, sym, ◌∙◌}
use Rattle.venue_build.specs.PlaceNumbers.{place_number}
use Rattle.venue_build.proofs.FewPlaces.{number_small}
use Rattle.venue_build.proofs.venue.Venue.place_of.Goals as goal

pub returns-in_err-n : goal.returns-in_err-n
unfolding place_number
returns-in_err-n c = c.from_residual.ensures ∙ sym c.in_err-n.was ∙ c.place_of.ensures ∙ c.kept_places.ensures.index_is.first c.args.id

pub overflow_cast-result : goal.overflow_cast-result
overflow_cast-result c =
    let small : c.in_ok-n.n < 100000 = number_small c.args.self.now.features c.kept_places.result.now c.args.id c.in_ok-n.n c.kept_places.ensures (sym c.place_of.ensures ∙ c.in_ok-n.was) in
    omega arith

pub returns : goal.returns
unfolding place_number
returns c = sym c.in_ok-n.was ∙ c.place_of.ensures ∙ c.kept_places.ensures.index_is.first c.args.id
