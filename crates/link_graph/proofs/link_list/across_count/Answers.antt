use Rattle.std.proofs.Common.{◌≡◌, ℕ, ◌+◌, ◌<◌, List, [], ◌∷◌, ◌++◌, Bool, true, false, Option, Some, None, cond, filter, length, get_or, take, refl, sym, ap, ◌∙◌, arith, length-append}
use Rattle.std.specs.Prelude.{slice_get}
use Rattle.std.specs.List.{flat_map}
use Rattle.std.proofs.lemmas.List.{append-nil, length-map, take_all, take_more}
use Rattle.std.proofs.lemmas.List.Concat.{flat_map-append}
use Rattle.std.proofs.lemmas.Option.{same_Some, slice_get-get_or}
use Rattle.venue_types.specs.declared.link.Link.{Link}
use Rattle.venue_nodes.specs.Rows.{row_list}
use Rattle.unit_sight.specs.Tables.{neighbours}
use Rattle.link_graph.specs.declared.parts.Core.{Core}
use Rattle.link_graph.specs.declared.parts.Crossing.{Crossing}
use Rattle.link_graph.specs.Cores.{IsSoundCore, joined_in, link_across, links_across_from, others_in}
use Rattle.link_graph.proofs.AskingRanges.{row_at}
use Rattle.link_graph.proofs.TableRows.{joined_row}
use Rattle.link_graph.proofs.link_list.across_count.Goals as goal

length_step : (walked : Bool) (fewer one more : List Link) (k : ℕ) → k ≡ length one → more ≡ fewer ++ one → length (cond walked fewer []) + cond walked k 0 ≡ length (cond walked more [])
length_step true fewer one more k long is = let both = ap length is ∙ length-append fewer one in omega (arith, long, both)
length_step false fewer one more k long is = refl

one_more : (f : ℕ → List Link) (row : List ℕ) (i : ℕ) → i < length row → flat_map f (take (i + 1) row) ≡ flat_map f (take i row) ++ f (get_or row i 0)
one_more f row i within =
    ap (flat_map f) (take_more row i 0 within)
    ∙ flat_map-append f (take i row) (get_or row i 0 ∷ [])
    ∙ ap (λ (links : List Link). flat_map f (take i row) ++ links) (append-nil (f (get_or row i 0)))

-- how many links lead from the member at a place
from_place : (core : Core) (crossing : Crossing) (row : List ℕ) (w i : ℕ) → IsSoundCore core → slice_get core.crossings.items w ≡ Some crossing → slice_get (row_list core.rows) w ≡ Some row → i < length row
    → length (neighbours crossing.sights i) ≡ length (links_across_from core crossing row (get_or row i 0))
from_place core crossing row w i sound unit there within =
    let a = get_or row i 0 in
    let joined = joined_row crossing row i a (row_at core w row sound there).rise (sound.tables w crossing row unit there) (slice_get-get_or row i 0 within) in
    sym (length-map (neighbours crossing.sights i) (λ j. get_or row j 0))
    ∙ ap length (sym joined)
    ∙ sym (length-map (filter (joined_in crossing row a) row) (link_across core crossing a))

counted_more : (core : Core) (crossing : Crossing) (row : List ℕ) (w i count more : ℕ) → IsSoundCore core → slice_get core.crossings.items w ≡ Some crossing → slice_get (row_list core.rows) w ≡ Some row → i < length row → more ≡ others_in core w i
    → count ≡ length (cond crossing.walked (flat_map (links_across_from core crossing row) (take i row)) [])
    → count + more ≡ length (cond crossing.walked (flat_map (links_across_from core crossing row) (take (i + 1) row)) [])
counted_more core crossing row w i count more sound unit there within is before =
    let f = links_across_from core crossing row in
    let others : others_in core w i ≡ cond crossing.walked (length (neighbours crossing.sights i)) 0 = ap (λ (found : Option Crossing). elim found [ None ↦ 0 | Some c ↦ cond c.walked (length (neighbours c.sights i)) 0 ]) unit in
    let step = length_step crossing.walked (flat_map f (take i row)) (f (get_or row i 0)) (flat_map f (take (i + 1) row)) (length (neighbours crossing.sights i)) (from_place core crossing row w i sound unit there within) (one_more f row i within) in
    omega (arith, others, step, is, before)

pub loop-i-init : goal.loop-i-init
loop-i-init c = record { counts = λ crossing row unit there. none crossing.walked; few = omega arith } where
  none : (walked : Bool) → 0 ≡ length (cond walked (let links : List Link = [] in links) [])
  none true = refl
  none false = refl

pub overflow_add-count : goal.overflow_add-count
overflow_add-count c =
    let short = (row_at c.args.core.now c.args.w c.row-i-end.result.now c.requires.sound c.row-i-end.ensures).short in
    let few = c.loop-i.invariant.few in
    let here = c.loop-i-test.true in
    let one = c.others.type_inv in
    omega (arith, short, few, here, one)

pub loop-i-preserved : goal.loop-i-preserved
loop-i-preserved c =
    let few = c.loop-i.invariant.few in
    let one = c.others.type_inv in
    record {
      counts = λ crossing row unit there.
          let same = ap (λ (r : List ℕ). length r) (same_Some row c.row-i-end.result.now (sym there ∙ c.row-i-end.ensures)) in
          let here = c.loop-i-test.true in
          counted_more c.args.core.now crossing row c.args.w c.loop-i.i c.loop-i.count c.others.result c.requires.sound unit there (omega (arith, same, here)) c.others.ensures (c.loop-i.invariant.counts crossing row unit there);
      few = omega (arith, few, one);
    }

pub returns : goal.returns
returns c = λ crossing row unit there.
    let core = c.args.core.now in
    let same = ap (λ (r : List ℕ). length r) (same_Some row c.row-i-end.result.now (sym there ∙ c.row-i-end.ensures)) in
    let end = c.loop-i-test.false in
    c.loop-i.invariant.counts crossing row unit there
    ∙ ap (λ (ms : List ℕ). length (cond crossing.walked (flat_map (links_across_from core crossing row) ms) [])) (take_all c.loop-i.i row (omega (arith, same, end)))
