use Rattle.std.proofs.Common.{◌≡◌, ◌-◌, sym, ap, ◌∙◌, subst, length, map, slice_get, refl}
use Rattle.std.proofs.lemmas.List.{length-map}
use Rattle.std.proofs.lemmas.Slice.Zip.{AllZip-long}
use Rattle.exact_json.specs.View.{tree_view}
use Rattle.geo_shapes.specs.Position.{IsPosition}
use Rattle.geo_shapes.specs.Reading.{ReadsMaybe}
use Rattle.geo_shapes.proofs.Rings.{open_ends, maybe_at, point_at, both_ways, known_points}
use Rattle.geo_shapes.proofs.ring.is_open.Goals as goal

pub returns-in-Some : goal.returns-in-Some
returns-in-Some c =
    let xs = map tree_view c.args.trees.now in
    let ys = c.in-Some.points.items in
    let h = known_points xs c.args.points.now c.in-Some.points c.in-Some.is c.requires in
    let start = point_at xs ys 0 0 c.copied.result h refl (c.copied.ensures ∙ c.first.ensures.value ∙ ap (λ zs. slice_get zs 0) c.deref.ensures.value) in
    let end = point_at xs ys (length ys - 1) (length xs - 1) c.copied-in-Some.result h (ap (λ n. n - 1) (AllZip-long IsPosition xs ys h))
    (c.copied-in-Some.ensures ∙ c.last.ensures.value ∙ ap (λ zs. slice_get zs (length zs - 1)) c.deref-in-Some.ensures.value) in
    both_ways c.are_apart.ensures (open_ends c.one_value_law.ensures xs c.copied.result c.copied-in-Some.result start end)

pub returns-in-None : goal.returns-in-None
returns-in-None c =
    let ts = c.args.trees.now in
    let first = maybe_at tree_view ts 0 c.first-in-None.result c.maybe_position.result c.first-in-None.ensures.value c.maybe_position.ensures in
    let last = maybe_at tree_view ts (length ts - 1) c.last-in-None.result c.maybe_position-in-None.result c.last-in-None.ensures.value c.maybe_position-in-None.ensures in
    let same : length ts - 1 ≡ length (map tree_view ts) - 1 = ap (λ n. n - 1) (sym (length-map ts tree_view)) in
    let at_last = subst (λ k. ReadsMaybe (slice_get (map tree_view ts) k) c.maybe_position-in-None.result) same last in
    both_ways c.are_apart-in-None.ensures (open_ends c.one_value_law.ensures (map tree_view ts) c.maybe_position.result c.maybe_position-in-None.result first at_last)
