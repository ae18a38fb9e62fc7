use Rattle.std.proofs.Common.{◌≤◌, ◌<◌, ℕ, List, length, All, subst, sym, refl, ◌∙◌, arith, inl}
use Rattle.venue_nodes.specs.TouchCounts.{TouchMany}
use Rattle.opening_match.specs.Rows.{AreRowsBelow}
use Rattle.opening_match.proofs.Counting.{counted_none, counts_next, full_next, counted_next, not_so}
use Rattle.opening_match.proofs.Gaining.{below_none, found_there, below_next, below_end}
use Rattle.opening_match.proofs.touch_rows.matches_by.Goals as goal

pub loop-place-init : goal.loop-place-init
loop-place-init c = (
  counted_none c.args.tolerance c.args.openings.now c.args.units.now c.new-counts.result.items c.new-counts.ensures.items,
  λ few. below_none c.args.tolerance c.args.openings.now c.args.units.now _ c.in_ok-rows.rows.items refl c.in_ok-rows.ensures,
)

pub returns-then-is_full : goal.returns-then-is_full
returns-then-is_full c =
    let t = c.args.tolerance in
    let openings = c.args.openings.now in
    let units = c.args.units.now in
    let k = c.loop-place.place in
    let unit = c.index-units-place.result in
    let found = c.in_ok-found.found.items in
    let old = c.loop-place.invariant.0 in
    let many = c.len-count.ensures ∙ c.in_ok-found.found.ok.0 in
    let new = c.push.new.self.items in
    subst (λ (ns : List ℕ). TouchMany t openings units ns) (sym c.from_vec.ensures) (record {
      are = counts_next t openings units k unit found c.loop-place.counts.items new c.len-count.result c.loop-place-test.true c.index-units-place.is old.long many c.in_ok-push.ensures.items c.in_ok-found.ensures old.are;
      many = inl (full_next t openings units k unit found c.loop-place.counts.items new c.len-count.result c.loop-place-test.true c.index-units-place.is old.long many c.in_ok-push.ensures.items c.in_ok-found.ensures (c.if-is_full.ensures.0 refl));
    })

pub keep-requires-clause-within : goal.keep-requires-clause-within
keep-requires-clause-within c = λ few.
    let more = c.walked_with-walked.ensures in
    let less : c.loop-place.walked ≤ 20000000 = omega (arith, few, more) in
    subst (λ (list : List ℕ). All (λ o. o < length c.loop-place.rows.items) list) (sym c.deref.ensures.value)
    (found_there c.args.tolerance c.args.openings.now c.args.units.now _ c.loop-place.place c.in_ok-found.found.items c.loop-place.rows.items c.in_ok-found.ensures (c.loop-place.invariant.1 less))

pub loop-place-preserved : goal.loop-place-preserved
loop-place-preserved c =
    let t = c.args.tolerance in
    let openings = c.args.openings.now in
    let units = c.args.units.now in
    let k = c.loop-place.place in
    let unit = c.index-units-place.result in
    let found = c.in_ok-found.found.items in
    let old = c.loop-place.invariant.0 in
    let many = c.len-count.ensures ∙ c.in_ok-found.found.ok.0 in
    let more = c.walked_with-walked.ensures in (
      counted_next t openings units k unit found c.loop-place.counts.items c.push.new.self.items c.len-count.result c.loop-place-test.true c.index-units-place.is old.long many c.in_ok-push.ensures.items c.in_ok-found.ensures
          c.loop-place.walked c.walked_with-walked.result (not_so c.is_full.result c.is_full.ensures c.if-is_full.false) more old,
      λ few. let less : c.loop-place.walked ≤ 20000000 = omega (arith, few, more) in
          below_next t openings units k unit found c.deref.result.now c.loop-place.rows.items c.keep.new.rows.items
          c.loop-place-test.true c.index-units-place.is c.deref.ensures.value c.in_ok-found.ensures (c.in_ok-keep.ensures few) (c.loop-place.invariant.1 less),
    )

pub returns : goal.returns
returns c =
    let t = c.args.tolerance in
    let openings = c.args.openings.now in
    let units = c.args.units.now in
    let of = c.loop-place.invariant.0 in
    let few = c.if-walked-gt-MOST_WALKED.false in
    let below = below_end t openings units c.loop-place.place (length units) c.loop-place.rows.items c.loop-place.auto.place-end c.loop-place-test.false (c.loop-place.invariant.1 few) in (
      subst (λ (rows : List (List ℕ)). AreRowsBelow t openings units (length units) rows) (sym c.from_vec-2.ensures) below,
      record {
        counts = c.loop-place.counts.items;
        are = of.are;
        whole = omega (arith, of.long, c.loop-place.auto.place-end, c.loop-place-test.false);
        roomy = of.roomy;
        few = omega (arith, of.sum, few);
      },
    )
