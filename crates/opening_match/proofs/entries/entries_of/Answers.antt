use Rattle.std.proofs.Common.{◌<◌, length, refl, arith, to_z, of_z, w64}
use Rattle.std.proofs.lemmas.Int.{ints}
use Rattle.opening_match.proofs.Items.{item_at}
use Rattle.opening_match.proofs.Ordering.{none_yet, is_entry, one_entry_more, enough}
use Rattle.opening_match.proofs.entries.entries_of.Goals as goal

pub loop-place-init : goal.loop-place-init
loop-place-init c = none_yet c.args.openings.now c.in_ok-entries.entries.items c.in_ok-entries.ensures.items

pub loop-place-preserved : goal.loop-place-preserved
loop-place-preserved c =
    let openings = c.args.openings.now in
    let k = c.loop-place.place in
    let opening = c.index-openings-place.result in
    let within : k < length openings = omega arith in
    let first = c.first_vertex-first.result in
    one_entry_more openings k _ c.loop-place.entries.items c.push.new.self.items refl
    (is_entry openings opening k first (to_z w64 (of_z w64 first.x)) (to_z w64 (of_z w64 first.y)) (omega (arith, ints)) (omega (arith, ints)) (item_at openings k opening within c.index-openings-place.is) c.first_vertex-first.ensures)
    c.in_ok-push.ensures.items c.loop-place.invariant

pub returns : goal.returns
returns c = enough c.args.openings.now c.loop-place.place (length c.args.openings.now) c.loop-place.entries.items c.loop-place.auto.place-end c.loop-place-test.false c.loop-place.invariant
