-- One stop more is read by its number.
use Rattle.std.proofs.Common.{◌≡◌, ◌<◌, Some, arith, get_or, length}
use Rattle.std.specs.Prelude.{slice_get}
use Rattle.std.proofs.lemmas.List.{get_or_default}
use Rattle.std.proofs.lemmas.Option.{slice_get-get_or}
use Rattle.venue_state.proofs.TourTables.{mapped_more}
use Rattle.venue_state.proofs.tour_legs.picked.Goals as goal

pub loop-k-preserved : goal.loop-k-preserved
loop-k-preserved c =
    let stops = c.args.stops.now in
    let order = c.args.order.now in
    let i = c.loop-k.k-index in
    let k = get_or order i 0 in
    let stop = get_or stops k (record { 0 = 0 }) in
    let within : i < length order = omega arith in
    let there : slice_get stops k ≡ Some stop = slice_get-get_or stops k (record { 0 = 0 }) (c.requires i 0 within) in
    mapped_more (slice_get stops) order i k c.loop-k.ids c.push.new.self stop within (get_or_default order i 0 k within) there c.in_ok-push.ensures.ok c.loop-k.invariant
