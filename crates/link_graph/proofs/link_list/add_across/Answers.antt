use Rattle.std.proofs.Common.{◌≡◌, ℕ, ◌+◌, ◌<◌, List, [], ◌∷◌, ◌++◌, Bool, true, false, cond, Some, length, get_or, take, refl, sym, ap, ◌∙◌, subst₂, arith}
use Rattle.std.specs.Prelude.{slice_get}
use Rattle.std.specs.List.{flat_map}
use Rattle.std.proofs.lemmas.List.{append_assoc, append-nil, take_all, take_more}
use Rattle.std.proofs.lemmas.List.Concat.{flat_map-append}
use Rattle.std.proofs.lemmas.Option.{same_Some, slice_get-get_or, slice_get_read}
use Rattle.venue_types.specs.declared.link.Link.{Link}
use Rattle.venue_nodes.specs.Rows.{row_list}
use Rattle.link_graph.specs.declared.parts.Core.{Core}
use Rattle.link_graph.specs.declared.parts.Crossing.{Crossing}
use Rattle.link_graph.specs.Cores.{IsSoundCore, links_across, links_across_from}
use Rattle.link_graph.proofs.AskingRanges.{row_at}
use Rattle.link_graph.proofs.link_list.add_across.Goals as goal

-- the unit that is read
unit_at : (core : Core) (w : ℕ) (crossing : Crossing) → IsSoundCore core → w < length (row_list core.rows) → crossing ≡ get_or core.crossings.items w crossing → slice_get core.crossings.items w ≡ Some crossing
unit_at core w crossing sound within read =
    let paired = sound.paired in
    slice_get_read core.crossings.items (length core.crossings.items) w crossing refl (omega (arith, within, paired)) read

-- the links from one member more
one_more : (f : ℕ → List Link) (row : List ℕ) (i : ℕ) (start old new : List Link) → i < length row → old ≡ start ++ flat_map f (take i row) → new ≡ old ++ f (get_or row i 0) → new ≡ start ++ flat_map f (take (i + 1) row)
one_more f row i start old new within before grown =
    grown
    ∙ ap (λ (links : List Link). links ++ f (get_or row i 0)) before
    ∙ append_assoc start (flat_map f (take i row)) (f (get_or row i 0))
    ∙ ap (λ (links : List Link). start ++ (flat_map f (take i row) ++ links)) (sym (append-nil (f (get_or row i 0))))
    ∙ ap (λ (links : List Link). start ++ links) (sym (flat_map-append f (take i row) (get_or row i 0 ∷ [])))
    ∙ ap (λ (ms : List ℕ). start ++ flat_map f ms) (sym (take_more row i 0 within))

walked_links : (walked : Bool) (links : List Link) → walked ≡ true → links ≡ cond walked links []
walked_links walked links is = ap (λ (b : Bool). cond b links []) (sym is)

no_links : (walked : Bool) (links : List Link) → walked ≡ false → [] ≡ cond walked links []
no_links walked links is = ap (λ (b : Bool). cond b links []) (sym is)

pub add_from-requires-clause-row : goal.add_from-requires-clause-row
add_from-requires-clause-row c = row_at c.args.core.now c.args.w c.row-row.result.now c.requires.sound c.row-row.ensures

pub add_from-requires-clause-table : goal.add_from-requires-clause-table
add_from-requires-clause-table c =
    let core = c.args.core.now in
    let crossing = c.index-crossing.result.now in
    c.requires.sound.tables c.args.w crossing c.row-row.result.now (unit_at core c.args.w crossing c.requires.sound c.requires.within c.index-crossing.ensures) c.row-row.ensures

pub loop-i-preserved : goal.loop-i-preserved
loop-i-preserved c =
    let core = c.args.core.now in
    let crossing = c.index-crossing.result.now in
    let row = c.row-row.result.now in
    one_more (links_across_from core crossing row) row c.loop-i.i c.args.links.now.items c.loop-i.links.items c.add_from.new.links.items c.loop-i-test.true c.loop-i.invariant
    (c.in_ok-add_from.ensures (get_or row c.loop-i.i 0) (slice_get-get_or row c.loop-i.i 0 c.loop-i-test.true))

-- what holds of the unit and the row that are read holds of those that are told
told : (core : Core) (w : ℕ) (crossing unit : Crossing) (row members : List ℕ) (start end : List Link) → IsSoundCore core → w < length (row_list core.rows) → crossing ≡ get_or core.crossings.items w crossing → slice_get (row_list core.rows) w ≡ Some row
    → slice_get core.crossings.items w ≡ Some unit → slice_get (row_list core.rows) w ≡ Some members → end ≡ start ++ links_across core crossing row → end ≡ start ++ links_across core unit members
told core w crossing unit row members start end sound within read there is_unit is_row holds =
    subst₂ (λ (c : Crossing) (r : List ℕ). end ≡ start ++ links_across core c r)
    (same_Some crossing unit (sym (unit_at core w crossing sound within read) ∙ is_unit)) (same_Some row members (sym there ∙ is_row)) holds

pub returns-after-loop-i : goal.returns-after-loop-i
returns-after-loop-i c = λ unit members is_unit is_row.
    let core = c.args.core.now in
    let crossing = c.index-crossing.result.now in
    let row = c.row-row.result.now in
    let start = c.args.links.now.items in
    told core c.args.w crossing unit row members start c.loop-i.links.items c.requires.sound c.requires.within c.index-crossing.ensures c.row-row.ensures is_unit is_row (
    c.loop-i.invariant
    ∙ ap (λ (ms : List ℕ). start ++ flat_map (links_across_from core crossing row) ms) (take_all c.loop-i.i row c.loop-i-test.false)
    ∙ ap (λ (links : List Link). start ++ links) (walked_links crossing.walked (flat_map (links_across_from core crossing row) row) c.if-crossing.true)
    )

pub returns-else-crossing : goal.returns-else-crossing
returns-else-crossing c = λ unit members is_unit is_row.
    let core = c.args.core.now in
    let crossing = c.index-crossing.result.now in
    let row = c.row-row.result.now in
    let start = c.args.links.now.items in
    told core c.args.w crossing unit row members start start c.requires.sound c.requires.within c.index-crossing.ensures c.row-row.ensures is_unit is_row (
    sym (append-nil start)
    ∙ ap (λ (links : List Link). start ++ links) (no_links crossing.walked (flat_map (links_across_from core crossing row) row) c.if-crossing.false)
    )
