use Rattle.std.proofs.Common.{◌<◌, length, sym, arith}
use Rattle.contain_rules.proofs.Bands.{band_within, the_band}
use Rattle.contain_rules.proofs.Judgements.{row_there}
use Rattle.contain_rules.proofs.holders.ShapeIndex.find.Goals as goal

pub index-requires : goal.index-requires
index-requires g c =
    let bands = c.args.self.now.bands in
    let at = row_there c.as_slice.result.now c.args.rows.now c.in_ok-place.place c.in_ok-row.row.now c.as_slice.ensures c.in_ok-row.ensures.lookup.3.0 c.in_ok-row.ensures.lookup.1 in
    let within : c.in_ok-place.place < length bands.items = band_within g.R.HasShape.shape_of c.args.rows.now bands.items c.in_ok-place.place c.in_ok-row.row.now c.requires.bands at in
    let ok = bands.ok in
    omega (arith, within, ok)

pub returns : goal.returns
returns g c =
    let at = row_there c.as_slice.result.now c.args.rows.now c.in_ok-place.place c.in_ok-row.row.now c.as_slice.ensures c.in_ok-row.ensures.lookup.3.0 c.in_ok-row.ensures.lookup.1 in (
      c.row_law.ensures.only c.args.rows.now c.args.self.now.places c.args.id c.in_ok-place.place c.in_ok-row.row.now c.requires.once c.requires.places (sym c.in_ok-place.ensures) at,
      the_band g.R.HasShape.shape_of c.args.rows.now c.args.self.now.bands.items c.in_ok-place.place c.in_ok-row.row.now c.index.result.now c.requires.bands at c.index.ensures,
    )
