-- One amenity more, and all of them.
use Rattle.std.proofs.Common.{◌≡◌, ◌∙◌, ◌+◌, List, length, Some, ap, sym, subst, refl, arith}
use Rattle.std.specs.Prelude.{slice_get}
use Rattle.std.proofs.lemmas.Option.{slice_get_read}
use Rattle.venue_types.specs.declared.features.AmenityRow.{AmenityRow}
use Rattle.venue_types.specs.declared.features.Features.{Features}
use Rattle.venue_types.specs.declared.link.Node.{Node}
use Rattle.venue_state.specs.Nearing.{AreCandidatesTo}
use Rattle.venue_state.proofs.Candidates.{different_text, equal_text, few_amenities, passed, taken, whole, within}
use Rattle.venue_state.proofs.board.Board.candidates.Goals as goal
use Rattle.venue_state.proofs.board.Board.candidates.Goals.{then-eq+in_ok-push, else-eq}

pub overflow_cast-n : goal.overflow_cast-n
overflow_cast-n c =
    let many = c.as_slice-row-items.ensures ∙ ap (λ (f : Features). f.amenities) (c.features.ensures ∙ c.venue.ensures.features) in
    omega (
      arith,
      c.loop-n-test.true,
      ap (λ (rows : List AmenityRow). length rows) many,
      few_amenities c.args.self.now.features c.args.self.now.settings,
      ap (λ (nodes : List Node). length nodes) c.graph.ensures.nodes_are,
      c.nodes.ensures.number,
      c.nodes.ensures.few,
    )

pub loop-n-preserved : goal.loop-n-preserved
loop-n-preserved c =
    let features = c.args.self.now.features in
    let category = c.args.category.now in
    let rows = c.as_slice-row-items.result.now in
    let row = c.row-item.result in
    let many = c.as_slice-row-items.ensures ∙ ap (λ (f : Features). f.amenities) (c.features.ensures ∙ c.venue.ensures.features) in
    let at = subst (λ (rows : List AmenityRow). slice_get rows c.loop-n.n ≡ Some row) many (slice_get_read rows (length rows) c.loop-n.n row refl c.loop-n-test.true c.row-item.is) in
    elim c.if-eq.branch [
      | then-eq+in_ok-push w ↦
          let same = sym c.as_str.ensures.value ∙ equal_text c.as_str.result.now c.as_str-in-loop-n.result.now (sym c.eq.ensures ∙ w.if-eq.true) ∙ c.as_str-in-loop-n.ensures.value in
          subst (AreCandidatesTo features category (c.loop-n.n + 1)) (sym (w.found-is ∙ w.in_ok-push.ensures.ok)) (taken features category c.loop-n.n row c.loop-n.found at same c.loop-n.invariant)
      | else-eq w ↦
          let other = different_text c.as_str.result.now c.as_str-in-loop-n.result.now (sym c.eq.ensures ∙ w.if-eq.false) in
          let differs = λ (same : row.category ≡ category). other (c.as_str.ensures.value ∙ same ∙ sym c.as_str-in-loop-n.ensures.value) in
          subst (AreCandidatesTo features category (c.loop-n.n + 1)) (sym w.found-is) (passed features category c.loop-n.n row c.loop-n.found at differs c.loop-n.invariant)
    ]

pub returns-clause-are : goal.returns-clause-are
returns-clause-are c =
    let many = c.as_slice-row-items.ensures ∙ ap (λ (f : Features). f.amenities) (c.features.ensures ∙ c.venue.ensures.features) in
    whole c.args.self.now.features c.args.category.now c.loop-n.n c.loop-n.found
    (omega (arith, c.loop-n-test.false, c.loop-n.auto.n-end, ap (λ (rows : List AmenityRow). length rows) many)) c.loop-n.invariant

pub returns-clause-within : goal.returns-clause-within
returns-clause-within c = within c.args.self.now.features c.args.self.now.settings c.args.category.now c.loop-n.found (returns-clause-are c)
