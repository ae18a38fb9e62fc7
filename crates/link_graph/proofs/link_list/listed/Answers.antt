use Rattle.std.proofs.Common.{◌≡◌, ◌<◌, ◌≤◌, ◌++◌, length, drop, ℕ, ◌+◌, List, Some, sym, ap, ◌∙◌, arith}
use Rattle.std.specs.Prelude.{slice_get}
use Rattle.std.proofs.lemmas.List.{append_assoc, append-nil, drop_all}
use Rattle.std.proofs.lemmas.Option.{get_or_from_slice_get}
use Rattle.venue_types.specs.declared.link.Link.{Link}
use Rattle.venue_nodes.specs.Rows.{row_list}
use Rattle.link_graph.specs.declared.parts.Core.{Core}
use Rattle.link_graph.specs.declared.parts.Crossing.{Crossing}
use Rattle.link_graph.specs.Cores.{IsSoundCore, links_across, links_across_all, links_in}
use Rattle.link_graph.proofs.LeadingLists.{at_place}
use Rattle.link_graph.proofs.RowLinks.{next_row}
use Rattle.link_graph.proofs.link_list.listed.Goals as goal

-- the links of one row more
one_more : (core : Core) (w : ℕ) (old new : List Link) → IsSoundCore core → w < length (row_list core.rows)
    → ((crossing : Crossing) (row : List ℕ) → slice_get core.crossings.items w ≡ Some crossing → slice_get (row_list core.rows) w ≡ Some row → new ≡ old ++ links_across core crossing row)
    → new ++ links_across_all core (drop (w + 1) core.crossings.items) (drop (w + 1) (row_list core.rows)) ≡ old ++ links_across_all core (drop w core.crossings.items) (drop w (row_list core.rows))
one_more core w old new sound within grown =
    let paired : length core.crossings.items ≡ length (row_list core.rows) = sound.paired in
    let unit = at_place core.crossings.items w (omega (arith, within, paired)) in
    let row = at_place (row_list core.rows) w within in
    let rest = links_across_all core (drop (w + 1) core.crossings.items) (drop (w + 1) (row_list core.rows)) in
    ap (λ (ls : List Link). ls ++ rest) (grown unit.0 row.0 unit.1 row.1)
    ∙ append_assoc old (links_across core unit.0 row.0) rest
    ∙ ap (λ (ls : List Link). old ++ ls) (sym (next_row core w core.crossings.items (row_list core.rows) unit.0 row.0 (omega (arith, within, paired)) (sym (get_or_from_slice_get core.crossings.items w unit.0 unit.0 unit.1)) row.1))

pub loop-w-preserved : goal.loop-w-preserved
loop-w-preserved c =
    let more = c.loop-w-test.true in
    let count = c.len-w-end.ensures.count in
    one_more c.args.core.now c.loop-w.w c.loop-w.links.items c.add_across.new.links.items c.requires (omega (arith, more, count)) c.in_ok-add_across.ensures ∙ c.loop-w.invariant

at_end : (core : Core) (w : ℕ) (links : List Link) → IsSoundCore core → length (row_list core.rows) ≤ w → links ++ links_across_all core (drop w core.crossings.items) (drop w (row_list core.rows)) ≡ links_across_all core core.crossings.items (row_list core.rows)
    → links ++ core.passages.items ≡ links_in core
unfolding links_in
at_end core w links sound end all =
    let paired : length core.crossings.items ≡ length (row_list core.rows) = sound.paired in
    let none = ap (λ (xs : List Crossing). links ++ links_across_all core xs (drop w (row_list core.rows))) (drop_all w core.crossings.items (omega (arith, paired, end))) in
    ap (λ (ls : List Link). ls ++ core.passages.items) (sym (append-nil links) ∙ sym none ∙ all)

pub returns : goal.returns
returns c =
    let core = c.args.core.now in
    let end = c.loop-w-test.false in
    let count = c.len-w-end.ensures.count in
    c.from_vec.ensures
    ∙ c.in_ok-extend_from_slice.ensures.items
    ∙ ap (λ (ls : List Link). c.loop-w.links.items ++ ls) c.deref.ensures.value
    ∙ at_end core c.loop-w.w c.loop-w.links.items c.requires (omega (arith, end, count)) c.loop-w.invariant
