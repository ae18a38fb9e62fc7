use Rattle.std.proofs.Common.{◌≡◌, ◌+◌, ◌<◌, ◌++◌, [], ◌∷◌, List, length, map, take, refl, sym, subst, arith}
use Rattle.std.specs.List.{AllZip}
use Rattle.std.proofs.lemmas.List.{length-map}
use Rattle.std.proofs.lemmas.Option.{slice_get_read}
use Rattle.venue_types.proofs.Items.{at_map}
use Rattle.exact_json.specs.Json.{Json}
use Rattle.exact_json.specs.View.{tree_view}
use Rattle.imdf_read.specs.Counts.{item_positions}
use Rattle.imdf_read.specs.Gathering.{FindsInItem, NotesInItem}
use Rattle.rule_reports.proofs.Adding.{Adds-step, Adds-end}
use Rattle.imdf_read.proofs.ItemLists.{finds_in_items, notes_in_items, map_more, more_positions, takes_all}
use Rattle.imdf_read.proofs.items.take_items.Goals as goal

pub take_item-requires-clause-short : goal.take_item-requires-clause-short
take_item-requires-clause-short g c =
    let trees = c.args.items.now in
    let k = c.loop-k.k in
    let item = c.index-items-k.result in
    let at = slice_get_read trees (length trees) k item refl (omega arith) c.index-items-k.is in
    c.requires.short k (tree_view item) (at_map tree_view trees k item at)

pub loop-k-preserved : goal.loop-k-preserved
loop-k-preserved g c =
    let trees = c.args.items.now in
    let values = map tree_view trees in
    let f = c.args.file in
    let k = c.loop-k.k in
    let item = c.index-items-k.result in
    let within : k < length trees = omega arith in
    let at = at_map tree_view trees k item (slice_get_read trees (length trees) k item refl within c.index-items-k.is) in
    let more : map tree_view (take (k + 1) trees) ≡ map tree_view (take k trees) ++ tree_view item ∷ [] = map_more tree_view trees k item within c.index-items-k.is in
    record {
      findings = Adds-step (λ n j. FindsInItem f n j) values k (tree_view item) at c.loop-k.invariant.findings c.in_ok-more.ensures.findings;
      notes = Adds-step (λ n j. NotesInItem f n j) values k (tree_view item) at c.loop-k.invariant.notes c.in_ok-more.ensures.notes;
      rows = λ sound. subst (λ (js : List Json). AllZip g.R.FeatureRow.is_row js c.take_item.new.rows.items) (sym more)
          (c.in_ok-more.ensures.rows (map tree_view (take k trees))
          (c.loop-k.invariant.rows (λ x h. sound x (record { place = h.place; item = h.item; under = omega (arith, h.under); there = h.there; holds = h.holds })))
          (c.requires.texts k (tree_view item) at)
          (λ x h. sound x (record { place = k; item = tree_view item; under = omega arith; there = at; holds = h })));
      positions = more_positions (item_positions f) (map tree_view (take k trees)) (tree_view item) (map tree_view (take (k + 1) trees)) c.loop-k.positions c.in_ok-more.more _ more
          c.loop-k.invariant.positions c.in_ok-more.ensures.positions c.saturating_add-positions.ensures;
    }

pub returns-clause-findings : goal.returns-clause-findings
returns-clause-findings g c = finds_in_items c.args.file (map tree_view c.args.items.now) _ _
    (Adds-end (λ n j. FindsInItem c.args.file n j) (map tree_view c.args.items.now) c.loop-k.k (rw length-map c.loop-k-test.false) c.loop-k.invariant.findings)

pub returns-clause-notes : goal.returns-clause-notes
returns-clause-notes g c = notes_in_items c.args.file (map tree_view c.args.items.now) _ _
    (Adds-end (λ n j. NotesInItem c.args.file n j) (map tree_view c.args.items.now) c.loop-k.k (rw length-map c.loop-k-test.false) c.loop-k.invariant.notes)

pub returns-clause-taken : goal.returns-clause-taken
returns-clause-taken g c = takes_all tree_view g.R.FeatureRow.is_row c.args.file c.args.items.now c.loop-k.k _ c.loop-k-test.false c.loop-k.invariant.rows refl c.loop-k.invariant.positions
