use Rattle.std.proofs.lemmas.List.{get_or_default}
use Rattle.opening_match.proofs.Gaining.{gains_more}
use Rattle.opening_match.proofs.rows.add_unit.Goals as goal

pub loop-place-preserved : goal.loop-place-preserved
loop-place-preserved c =
    let places = c.args.places.now in
    let i = c.loop-place.place-index in
    gains_more c.args.unit places i _ c.args.rows.now.items c.loop-place.rows.items c.add_at.new.rows.items c.requires.distinct c.loop-place-test.true (get_or_default places i _ _ c.loop-place-test.true) c.loop-place.invariant c.in_ok-add_at.ensures
