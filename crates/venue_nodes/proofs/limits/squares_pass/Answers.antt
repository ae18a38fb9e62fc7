use Rattle.std.proofs.Common.{◌≤◌, ◌*◌, length, arith}
use Rattle.venue_nodes.specs.Rows.{row_list}
use Rattle.venue_nodes.proofs.Limiting.{roomy_at, square_few, sum_on}
use Rattle.venue_nodes.proofs.limits.squares_pass.Goals as goal

pub overflow_mul-sum : goal.overflow_mul-sum
overflow_mul-sum c =
    let n = length c.row.result.now in
    let few : n ≤ 4096 = roomy_at (row_list c.args.rows.now) c.loop-w.w c.row.result.now c.requires c.row.ensures in
    let square : n * n ≤ 16777216 = square_few n few in
    omega arith

pub overflow_add-sum : goal.overflow_add-sum
overflow_add-sum c =
    let n = length c.row.result.now in
    let few : n ≤ 4096 = roomy_at (row_list c.args.rows.now) c.loop-w.w c.row.result.now c.requires c.row.ensures in
    let square : n * n ≤ 16777216 = square_few n few in
    omega arith

pub loop-w-preserved : goal.loop-w-preserved
loop-w-preserved c =
    let n = length c.row.result.now in
    let few : n ≤ 4096 = roomy_at (row_list c.args.rows.now) c.loop-w.w c.row.result.now c.requires c.row.ensures in
    let square : n * n ≤ 16777216 = square_few n few in
    (sum_on (row_list c.args.rows.now) c.loop-w.w c.loop-w.sum c.row.result.now c.row.ensures c.loop-w.invariant.0, omega arith)
