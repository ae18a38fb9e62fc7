-- A place is found by its number, and what is none is at no node.
use Rattle.std.proofs.Common.{◌≡◌, ℕ, Some, None, sym, subst}
use Rattle.venue_types.specs.declared.features.Features.{Features}
use Rattle.route_search.specs.Nodes.{place_of}
use Rattle.venue_history.specs.Answers.{place_row}
use Rattle.venue_state.proofs.Placing.{no_place, placed, place_short, row_there}
use Rattle.venue_state.proofs.board.Board.place.Goals as goal

pub place-requires : goal.place-requires
place-requires c = place_short c.venue-venue.result.now.features c.args.id _ (sym c.in-Some.ensures)

pub returns-in_ok-profiles-in-Some : goal.returns-in_ok-profiles-in-Some
returns-in_ok-profiles-in-Some c =
    let features = c.venue-venue.result.now.features in
    let same = c.venue-venue.ensures.features in (
      subst (λ (f : Features). (n : ℕ) × (place_of f c.args.id ≡ Some n)) same (placed features c.args.id _ c.every_name.ensures.occupants (sym c.in-Some.ensures)),
      c.number.ensures,
      subst (λ (f : Features). place_row f c.args.id ≡ Some c.in_ok-row-in-Some.row) same (row_there features c.args.id _ _ (sym c.in-Some.ensures) c.in_ok-row-in-Some.ensures),
      c.is_closed_for_all.ensures,
      c.in_ok-profiles-in-Some.ensures,
    )

pub returns-in-None : goal.returns-in-None
returns-in-None c =
    subst (λ (f : Features). place_of f c.args.id ≡ None) c.venue-venue.ensures.features (no_place c.venue-venue.result.now.features c.args.id (sym c.in-None.ensures))
