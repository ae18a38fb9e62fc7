use Rattle.std.proofs.Common.{ℕ, List, subst, arith}
use Rattle.venue_types.specs.declared.folder_file.File.TheVariants as file
use Rattle.venue_nodes.specs.Nodes.{room_corners}
use Rattle.venue_nodes.specs.Rows.{AreNamedRows}
use Rattle.venue_nodes.proofs.CornerTotals.{few_points, few_room_corners, names_many, near_units}
use Rattle.venue_nodes.proofs.Overfull.{members_crowd, squares_crowd}
use Rattle.venue_nodes.proofs.limits.crowding_by.Goals as goal

pub of_named-requires-clause-once : goal.of_named-requires-clause-once
of_named-requires-clause-once c = c.once_law.ensures c.args.features.now file.Unit c.requires.own_ids

pub of_named-requires-clause-few_corners : goal.of_named-requires-clause-few_corners
unfolding room_corners
of_named-requires-clause-few_corners c =
    let features = c.args.features.now in
    let many = names_many c.args.settings.now.inside features.units in
    let few = few_room_corners features c.args.settings.now c.requires.sound in
    omega (arith, many, few)

pub of_named-requires-clause-near : goal.of_named-requires-clause-near
of_named-requires-clause-near c = near_units c.args.features.now c.requires.close

pub of_named-requires-clause-few_points : goal.of_named-requires-clause-few_points
of_named-requires-clause-few_points c = few_points c.args.features.now c.requires.sound

pub returns-in-Some : goal.returns-in-Some
returns-in-Some c = λ many.
    let features = c.args.features.now in
    let settings = c.args.settings.now in
    let rows = c.in_ok-rows.rows in
    let are = subst (λ (touched : List (List ℕ)). AreNamedRows features settings.inside touched rows) c.new.ensures c.in_ok-rows.ensures in
    members_crowd features settings c.args.counts.now rows (λ o u. c.touch_law.ensures settings.border_tol o u) are many c.in-Some.k c.in-Some.ensures

pub returns : goal.returns
returns c = λ many.
    let features = c.args.features.now in
    let settings = c.args.settings.now in
    let rows = c.in_ok-rows.rows in
    let are = subst (λ (touched : List (List ℕ)). AreNamedRows features settings.inside touched rows) c.new.ensures c.in_ok-rows.ensures in
    squares_crowd features settings c.args.counts.now rows (λ o u. c.touch_law.ensures settings.border_tol o u) are many c.in-None.ensures
