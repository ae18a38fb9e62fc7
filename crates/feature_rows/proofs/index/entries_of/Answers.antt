use Rattle.std.proofs.Common.{◌<◌, length, map, refl, arith, ◌∙◌, ap, ◌++◌, ◌∷◌, []}
use Rattle.std.proofs.lemmas.Option.{slice_get_read}
use Rattle.venue_types.proofs.Items.{at_map}
use Rattle.venue_types.specs.declared.feature_id.FeatureId.{FeatureId}
use Rattle.feature_rows.proofs.Entries.{entry, none_yet, one_more, enough}
use Rattle.feature_rows.proofs.index.entries_of.Goals as goal

pub loop-place-init : goal.loop-place-init
loop-place-init g c = none_yet (map g.R.HasId.id_of c.args.rows.now) c.in_ok-entries.entries.items c.in_ok-entries.ensures.items

pub loop-place-preserved : goal.loop-place-preserved
loop-place-preserved g c =
    let rows = c.args.rows.now in
    let k = c.loop-place.place in
    let row = c.index-rows-place.result in
    let within : k < length rows = omega arith in
    let at = at_map g.R.HasId.id_of rows k row (slice_get_read rows (length rows) k row refl within c.index-rows-place.is) in
    one_more (map g.R.HasId.id_of rows) k (g.R.HasId.id_of row) c.loop-place.entries.items c.push.new.self.items at
    (c.in_ok-push.ensures.items ∙ ap (λ (id : FeatureId). c.loop-place.entries.items ++ entry id k ∷ []) c.id.ensures) c.loop-place.invariant

pub returns : goal.returns
returns g c = enough (map g.R.HasId.id_of c.args.rows.now) c.loop-place.place (length c.args.rows.now) c.loop-place.entries.items c.loop-place.auto.place-end c.loop-place-test.false c.loop-place.invariant
