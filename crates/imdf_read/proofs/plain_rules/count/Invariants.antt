use Rattle.std.proofs.Common.{◌≡◌, ◌+◌, ◌≤◌, drop, map}
use Rattle.std.specs.Prelude.{sum_by}
use Rattle.exact_json.specs.View.{tree_view}
use Rattle.imdf_read.specs.Counts.{one_unless_null}
use Rattle.imdf_read.proofs.plain_rules.count.Given as goal

abbrev pub invariant-loop-item : goal.invariant-loop-item
invariant-loop-item l = record {
  exact : l.count + sum_by one_unless_null (map tree_view (drop l.item-index l.items)) ≡ sum_by one_unless_null (map tree_view l.items);
  few : l.count ≤ l.item-index;
}
