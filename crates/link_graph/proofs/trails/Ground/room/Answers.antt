use Rattle.std.proofs.Common.{◌≡◌, ◌<◌, ◌+◌, ◌∙◌, ap, sym, subst, length, List, Some, arith}
use Rattle.std.specs.Prelude.{slice_get}
use Rattle.std.proofs.lemmas.List.Elements.{All-contains}
use Rattle.std.proofs.lemmas.Option.{slice_get_within}
use Rattle.std.proofs.lemmas.Result.{IfOk-weaker}
use Rattle.venue_types.specs.declared.features.UnitRow.{UnitRow}
use Rattle.venue_nodes.specs.Crowds.{IsRoomy}
use Rattle.venue_nodes.specs.Rows.{row_list}
use Rattle.venue_nodes.proofs.Items.{member_at}
use Rattle.link_graph.specs.declared.parts.Crossing.{Crossing}
use Rattle.link_graph.specs.Making.{crossing_of, crossings_from}
use Rattle.link_graph.proofs.MadeUnits.{row_at, row_of}
use Rattle.link_graph.proofs.trails.Ground.room.Goals as goal

pub overflow_add-first : goal.overflow_add-first
overflow_add-first c =
    let features = c.args.self.now.features.now in
    let at = row_at features c.args.self.now.settings.now c.args.rows.now c.args.first c.args.w c.unit_index-k.result c.row-row.result.now c.requires.rows c.row-row.ensures c.unit_index-k.ensures in
    let low = slice_get_within features.units c.unit_index-k.result at.u at.there in
    let few = c.requires.few in
    omega (arith, low, few)

pub bounds-units-k : goal.bounds-units-k
bounds-units-k c =
    let features = c.args.self.now.features.now in
    let at = row_at features c.args.self.now.settings.now c.args.rows.now c.args.first c.args.w c.unit_index-k.result c.row-row.result.now c.requires.rows c.row-row.ensures c.unit_index-k.ensures in
    subst (λ (us : List UnitRow). c.unit_index-k.result < length us) (sym c.as_slice-units.ensures) (slice_get_within features.units c.unit_index-k.result at.u at.there)

pub crossing-requires-clause-unit : goal.crossing-requires-clause-unit
crossing-requires-clause-unit c =
    let features = c.args.self.now.features.now in
    let settings = c.args.self.now.settings.now in
    let at = row_at features settings c.args.rows.now c.args.first c.args.w c.unit_index-k.result c.row-row.result.now c.requires.rows c.row-row.ensures c.unit_index-k.ensures in
    (row_of features settings c.args.first c.args.w c.unit_index-k.result c.row-row.result.now c.as_slice-units.result.now c.index-units-k.result at c.as_slice-units.ensures c.index-units-k.is).own

pub crossing-requires-clause-row : goal.crossing-requires-clause-row
crossing-requires-clause-row c =
    let features = c.args.self.now.features.now in
    let settings = c.args.self.now.settings.now in
    let at = row_at features settings c.args.rows.now c.args.first c.args.w c.unit_index-k.result c.row-row.result.now c.requires.rows c.row-row.ensures c.unit_index-k.ensures in
    (row_of features settings c.args.first c.args.w c.unit_index-k.result c.row-row.result.now c.as_slice-units.result.now c.index-units-k.result at c.as_slice-units.ensures c.index-units-k.is).is

pub crossing-requires-clause-short : goal.crossing-requires-clause-short
crossing-requires-clause-short c =
    let rows = row_list c.args.rows.now in
    All-contains IsRoomy rows c.row-row.result.now c.requires.roomy.each (member_at rows c.args.w c.row-row.result.now c.row-row.ensures)

pub returns : goal.returns
returns c =
    let features = c.args.self.now.features.now in
    let settings = c.args.self.now.settings.now in
    let via = c.args.first + c.unit_index-k.result in
    let at = row_at features settings c.args.rows.now c.args.first c.args.w c.unit_index-k.result c.row-row.result.now c.requires.rows c.row-row.ensures c.unit_index-k.ensures in
    let of = row_of features settings c.args.first c.args.w c.unit_index-k.result c.row-row.result.now c.as_slice-units.result.now c.index-units-k.result at c.as_slice-units.ensures c.index-units-k.is in
    IfOk-weaker c.crossing.result (λ crossing. crossing ≡ crossing_of features settings via c.index-units-k.result) (λ crossing. slice_get (crossings_from features settings c.args.first features.units) c.args.w ≡ Some crossing)
    (λ crossing told. of.crossed ∙ ap (λ (made : Crossing). Some made) (sym told)) c.crossing.ensures
