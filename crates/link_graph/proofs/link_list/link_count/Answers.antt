use Rattle.std.proofs.Common.{◌≡◌, ℕ, ◌+◌, ◌<◌, ◌≤◌, List, Some, length, drop, sym, ap, ◌∙◌, arith, length-append}
use Rattle.std.specs.Prelude.{slice_get}
use Rattle.std.proofs.lemmas.List.{drop_all}
use Rattle.std.proofs.lemmas.Option.{get_or_from_slice_get}
use Rattle.venue_nodes.specs.Rows.{row_list}
use Rattle.link_graph.specs.declared.parts.Core.{Core}
use Rattle.link_graph.specs.declared.parts.Crossing.{Crossing}
use Rattle.link_graph.specs.Cores.{IsSoundCore, links_across, links_across_all, links_in}
use Rattle.link_graph.proofs.LeadingEnds.{links_few}
use Rattle.link_graph.proofs.LeadingLists.{at_place}
use Rattle.link_graph.proofs.RowLinks.{next_row}
use Rattle.link_graph.proofs.link_list.link_count.Goals as goal

-- one row more
count_on : (core : Core) (w count more : ℕ) → IsSoundCore core → w < length (row_list core.rows)
    → ((crossing : Crossing) (row : List ℕ) → slice_get core.crossings.items w ≡ Some crossing → slice_get (row_list core.rows) w ≡ Some row → more ≡ length (links_across core crossing row))
    → count + length (links_across_all core (drop w core.crossings.items) (drop w (row_list core.rows))) ≡ length (links_across_all core core.crossings.items (row_list core.rows))
    → count + more + length (links_across_all core (drop (w + 1) core.crossings.items) (drop (w + 1) (row_list core.rows))) ≡ length (links_across_all core core.crossings.items (row_list core.rows))
count_on core w count more sound within is before =
    let paired = sound.paired in
    let unit = at_place core.crossings.items w (omega (arith, within, paired)) in
    let row = at_place (row_list core.rows) w within in
    let here = is unit.0 row.0 unit.1 row.1 in
    let step = ap length (next_row core w core.crossings.items (row_list core.rows) unit.0 row.0 (omega (arith, within, paired)) (sym (get_or_from_slice_get core.crossings.items w unit.0 unit.0 unit.1)) row.1) in
    let both = length-append (links_across core unit.0 row.0) (links_across_all core (drop (w + 1) core.crossings.items) (drop (w + 1) (row_list core.rows))) in
    omega (arith, here, step, both, before)

counted : (core : Core) (w count : ℕ) → IsSoundCore core → length (row_list core.rows) ≤ w
    → count + length (links_across_all core (drop w core.crossings.items) (drop w (row_list core.rows))) ≡ length (links_across_all core core.crossings.items (row_list core.rows))
    → count + length core.passages.items ≡ length (links_in core)
unfolding links_in
counted core w count sound end before =
    let paired = sound.paired in
    let none = ap (λ (xs : List Crossing). length (links_across_all core xs (drop w (row_list core.rows)))) (drop_all w core.crossings.items (omega (arith, paired, end))) in
    let both = length-append (links_across_all core core.crossings.items (row_list core.rows)) core.passages.items in
    omega (arith, none, both, before)

across_bound : (core : Core) → IsSoundCore core → length (links_across_all core core.crossings.items (row_list core.rows)) ≤ 32800000
unfolding links_in
across_bound core sound =
    let few = links_few core sound in
    let both = length-append (links_across_all core core.crossings.items (row_list core.rows)) core.passages.items in
    omega (arith, few, both)

pub loop-w-preserved : goal.loop-w-preserved
loop-w-preserved c =
    let core = c.args.core.now in
    let more = c.loop-w-test.true in
    let rows = c.len-w-end.ensures.count in
    count_on core c.loop-w.w c.loop-w.count c.across_count-count.result c.requires (omega (arith, more, rows)) c.across_count-count.ensures c.loop-w.invariant

pub overflow_add-count : goal.overflow_add-count
overflow_add-count c =
    let core = c.args.core.now in
    let more = c.loop-w-test.true in
    let rows = c.len-w-end.ensures.count in
    let next = count_on core c.loop-w.w c.loop-w.count c.across_count-count.result c.requires (omega (arith, more, rows)) c.across_count-count.ensures c.loop-w.invariant in
    let bound = across_bound core c.requires in
    omega (arith, next, bound)

pub overflow_add-result : goal.overflow_add-result
overflow_add-result c =
    let core = c.args.core.now in
    let end = c.loop-w-test.false in
    let rows = c.len-w-end.ensures.count in
    let long = c.len.ensures ∙ core.passages.ok.0 in
    let all = counted core c.loop-w.w c.loop-w.count c.requires (omega (arith, end, rows)) c.loop-w.invariant in
    let few = links_few core c.requires in
    omega (arith, long, all, few)

pub returns : goal.returns
returns c =
    let core = c.args.core.now in
    let end = c.loop-w-test.false in
    let rows = c.len-w-end.ensures.count in
    let long = c.len.ensures ∙ core.passages.ok.0 in
    let all = counted core c.loop-w.w c.loop-w.count c.requires (omega (arith, end, rows)) c.loop-w.invariant in
    omega (arith, long, all)
