use Rattle.std.proofs.Common.{◌≤◌, ◌+◌, length, take, arith, refl, ◌∙◌}
use Rattle.std.specs.Prelude.{sum_by}
use Rattle.std.proofs.lemmas.List.Sums.{sum_by-take-le}
use Rattle.venue_nodes.specs.Crowds.{square_of}
use Rattle.venue_nodes.specs.Rows.{row_list, unit_indexes}
use Rattle.venue_nodes.proofs.CornerTotals.{few_points}
use Rattle.venue_nodes.proofs.Sights.{few_sight, passes_same, sights_are, sights_more, sights_whole}
use Rattle.venue_nodes.proofs.Limiting.{sum_on}
use Rattle.venue_nodes.proofs.limits.sight_passes.Goals as goal

pub overflow_add-sum : goal.overflow_add-sum
overflow_add-sum c =
    let features = c.args.features.now in
    let rows = row_list c.args.rows.now in
    let n = length c.row.result.now in
    let few = few_sight features.units c.unit_index.result n (few_points features c.requires.sound) in
    let on = sum_on rows c.loop-w.w (sum_by square_of (take c.loop-w.w rows)) c.row.result.now c.row.ensures refl in
    let less = sum_by-take-le square_of rows (c.loop-w.w + 1) in
    let whole = c.requires.squares in
    let before = c.loop-w.invariant.1 in
    let is = c.sight_at-sum.ensures in
    omega (arith, few, on, less, whole, before, is)

pub loop-w-preserved : goal.loop-w-preserved
loop-w-preserved c =
    let features = c.args.features.now in
    let rows = row_list c.args.rows.now in
    let n = length c.row.result.now in
    let few = few_sight features.units c.unit_index.result n (few_points features c.requires.sound) in
    let on = sum_on rows c.loop-w.w (sum_by square_of (take c.loop-w.w rows)) c.row.result.now c.row.ensures refl in
    let more = sights_more features.units (unit_indexes c.args.rows.now) rows c.loop-w.w c.unit_index.result c.row.result.now c.unit_index.ensures c.row.ensures in
    let before = c.loop-w.invariant in
    let is = c.sight_at-sum.ensures in
    (omega (arith, more, before.0, is), omega (arith, few, on, before.1, is))

pub returns : goal.returns
returns c = λ settings are.
    let features = c.args.features.now in
    let rows = row_list c.args.rows.now in
    let count = c.len-w-end.ensures.count in
    let end = c.loop-w-test.false in
    let all : length rows ≤ c.loop-w.w = omega (arith, count, end) in
    passes_same c.loop-w.sum _ (c.loop-w.invariant.0 ∙ sights_whole features.units (unit_indexes c.args.rows.now) rows c.loop-w.w all ∙ sights_are features settings c.args.rows.now are)
