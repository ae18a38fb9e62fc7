use Rattle.std.proofs.Common.{◌∙◌}
use Rattle.venue_types.specs.declared.folder_file.File.TheVariants as file
use Rattle.venue_nodes.proofs.CornerTotals.{near_units, few_points}
use Rattle.venue_nodes.proofs.Folder.{IsTouched, rows_are, few_rows, few_corner_names, nodes_named}
use Rattle.venue_nodes.proofs.members.Rows.of.Goals as goal

pub of_named-requires-clause-once : goal.of_named-requires-clause-once
of_named-requires-clause-once c = c.once_law.ensures c.args.features.now file.Unit c.requires.own_ids

pub of_named-requires-clause-few : goal.of_named-requires-clause-few
of_named-requires-clause-few c = few_rows c.args.features.now c.args.touches.now.rows c.requires.sound.few_features c.requires.touches.rows

pub of_named-requires-clause-few_corners : goal.of_named-requires-clause-few_corners
of_named-requires-clause-few_corners c = few_corner_names c.args.features.now c.args.settings.now c.requires.sound

pub of_named-requires-clause-near : goal.of_named-requires-clause-near
of_named-requires-clause-near c = near_units c.args.features.now c.requires.close

pub of_named-requires-clause-few_points : goal.of_named-requires-clause-few_points
of_named-requires-clause-few_points c = few_points c.args.features.now c.requires.sound

pub returns : goal.returns
returns c =
    let features = c.args.features.now in
    let border_tol = c.args.settings.now.border_tol in
    let touches = c.args.touches.now in
    let known : IsTouched features border_tol touches = record { law = c.touch_law.ensures border_tol; once = c.once_law.ensures features file.Unit c.requires.own_ids; are = c.requires.touches } in
    record {
      members_are = c.in_ok-rows.ensures.named_are ∙ rows_are features c.args.settings.now touches known;
      units_are = c.in_ok-rows.ensures.indexes_are;
      nodes_are = c.in_ok-rows.ensures.total_is ∙ nodes_named features c.args.settings.now touches.rows c.requires.touches.rows;
    }
