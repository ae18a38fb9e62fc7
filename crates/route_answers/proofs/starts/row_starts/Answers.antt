use Rattle.std.proofs.Common.{Bool, ◌≡◌, ℕ, List, [], ◌∷◌, ◌++◌, Some, None, length, flat_map, refl, sym, ap, ◌∙◌, arith, length-append}
use Rattle.std.specs.Prelude.{slice_get}
use Rattle.std.proofs.lemmas.List.{take_all}
use Rattle.link_graph.specs.declared.areas.Area.{Area}
use Rattle.link_graph.specs.Areas.{area_links, areas}
use Rattle.link_graph.specs.Graphs.{network}
use Rattle.route_answers.specs.declared.starts.AreaStart.{AreaStart}
use Rattle.route_answers.specs.Passing.{rows_of}
use Rattle.route_answers.proofs.Gathering.{at_place}
use Rattle.route_answers.proofs.Numbers.{areas_counted, areas_few}
use Rattle.route_answers.proofs.UnitStarts.{start_is, starts_more, starts_rise}
use Rattle.route_answers.proofs.starts.row_starts.Goals as goal

none_yet : (starts : List AreaStart) (w : ℕ) (start : AreaStart) → starts ≡ [] → slice_get starts w ≡ Some start → None ≡ Some start
none_yet starts w start none at = sym (ap (λ (ss : List AreaStart). slice_get ss w) none) ∙ at

pub loop-w-init : goal.loop-w-init
unfolding rows_of
loop-w-init c = record {
  number = ap (λ (ss : List AreaStart). length ss) c.in_ok-units.ensures.items;
  units = λ w start at. absurd (let no_item : None ≡ Some start = none_yet c.in_ok-units.units.items w start c.in_ok-units.ensures.items at in cc);
  rows = refl;
}

pub overflow_add-count : goal.overflow_add-count
overflow_add-count c =
    let more = c.loop-w-test.true in
    let count = c.areas-w-end.ensures in
    let at = at_place (areas c.args.graph.now) c.loop-w.w (omega (arith, more, count)) in
    let few = areas_few c.args.graph.now c.args.profile.now c.loop-w.w at.0 c.loop-w.count c.in_ok-rows.rows at.1 c.loop-w.invariant.rows (c.in_ok-rows.ensures at.0 at.1) c.areas_law.ensures in
    let bound = c.range_law.ensures.links in
    omega (arith, few, bound)

pub loop-w-preserved : goal.loop-w-preserved
loop-w-preserved c =
    let graph = c.args.graph.now in
    let profile = c.args.profile.now in
    let w = c.loop-w.w in
    let more = c.loop-w-test.true in
    let count = c.areas-w-end.ensures in
    let at = at_place (areas graph) w (omega (arith, more, count)) in
    let before = c.loop-w.invariant in
    let start : AreaStart = record { via = c.area.result.0.via; area = w; first = c.loop-w.count } in
    let old = c.loop-w.units.items in
    let new = c.push.new.self.items in
    let number = before.number in
    let all : length new ≡ length (old ++ start ∷ []) = ap (λ (ss : List AreaStart). length ss) c.in_ok-push.ensures.items in
    let sum = length-append old (start ∷ []) in
    record {
      number = omega (arith, all, sum, number);
      units = starts_more graph profile old new w start number before.units c.in_ok-push.ensures.items
          (start_is graph profile w start c.area.result.0 c.area.result.1.now c.area.result.2.now c.area.ensures.there refl refl before.rows);
      rows = areas_counted graph profile w at.0 c.loop-w.count c.in_ok-rows.rows _ at.1 before.rows (c.in_ok-rows.ensures at.0 at.1) refl;
    }

pub returns : goal.returns
returns c =
    let graph = c.args.graph.now in
    let profile = c.args.profile.now in
    let last = c.loop-w-test.false in
    let count = c.areas-w-end.ensures in
    let most = c.loop-w.auto.w-end in
    let number = c.loop-w.invariant.number in
    let all : length c.loop-w.units.items ≡ length (areas graph) = omega (arith, last, count, most, number) in
    record {
      count = all;
      units = c.loop-w.invariant.units;
      rise = starts_rise graph profile c.loop-w.units.items all c.loop-w.invariant.units c.units_law.ensures.rise;
      passages = c.loop-w.invariant.rows
          ∙ ap (λ (some : List (Area × List ℕ × List (List Bool))). length (rows_of (network graph) profile (flat_map (area_links graph) some))) (take_all c.loop-w.w (areas graph) (omega (arith, last, count)));
    }
