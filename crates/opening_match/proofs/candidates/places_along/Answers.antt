use Rattle.std.proofs.Common.{◌≡◌, ◌∙◌, ℕ, Vec, Global, take, ap, sym, subst}
use Rattle.std.proofs.lemmas.List.{get_or_default}
use Rattle.venue_types.specs.declared.features.OpeningRow.{OpeningRow}
use Rattle.opening_match.specs.Places.{ArePlaces}
use Rattle.opening_match.specs.Matches.{RunsAlong}
use Rattle.opening_match.proofs.Items.{item_at}
use Rattle.opening_match.proofs.Placing.{taken, passed}
use Rattle.opening_match.proofs.Touching.{along_true, along_false}
use Rattle.opening_match.proofs.candidates.places_along.Goals as goal
use Rattle.opening_match.proofs.candidates.places_along.Goals.{then-are_near+in_ok-push, else-are_near}

pub loop-place-preserved : goal.loop-place-preserved
loop-place-preserved c =
    let openings = c.args.openings.now in
    let places = c.args.places.now in
    let shape = c.args.bands.now in
    let t = c.args.tolerance in
    let i = c.loop-place.place-index in
    let opening = c.index-openings-place.result in
    let there = item_at openings _ opening (c.requires.within i _ c.loop-place-test.true) c.index-openings-place.is in
    let points : c.as_slice.result.now ≡ opening.line.points = c.as_slice.ensures ∙ ap (λ (row : OpeningRow). row.line.points) (sym c.index-openings-place.is) in
    elim c.if-are_near.branch [
      | then-are_near+in_ok-push w ↦
          taken (λ o. o) (RunsAlong t openings shape) places i _ c.loop-place.found.items _ c.requires.distinct c.loop-place-test.true (get_or_default places i _ _ c.loop-place-test.true)
          (along_true t openings shape _ opening c.as_slice.result.now c.are_near.result there points c.are_near.ensures w.if-are_near.true)
          (ap (λ (v : Vec ℕ Global). v.items) w.found-is ∙ w.in_ok-push.ensures.items) c.loop-place.invariant
      | else-are_near w ↦
          passed (λ o. o) (RunsAlong t openings shape) places i _ _ c.loop-place-test.true (get_or_default places i _ _ c.loop-place-test.true)
          (along_false t openings shape _ opening c.as_slice.result.now c.are_near.result there points c.are_near.ensures w.if-are_near.false)
          (subst (λ (v : Vec ℕ Global). ArePlaces (λ o. o) (RunsAlong t openings shape) (take i places) v.items) (sym w.found-is) c.loop-place.invariant)
    ]
