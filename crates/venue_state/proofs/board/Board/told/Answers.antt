-- What a search tells is told again with names.
use Rattle.std.proofs.Common.{◌≡◌, ℕ, List, map, refl, subst}
use Rattle.venue_history.specs.Answers.{IfAsked}
use Rattle.venue_history.specs.Ways.{Usable, name_of}
use Rattle.route_search.specs.Answers.{IsAnswer}
use Rattle.venue_state.proofs.Routes.{cut_told}
use Rattle.venue_state.proofs.board.Board.told.Goals as goal

pub returns-in_ok-reached-in-Cut : goal.returns-in_ok-reached-in-Cut
returns-in_ok-reached-in-Cut c =
    let v = c.args.self.now in
    let trip = c.args.trip in
    λ number profile b is r small. (
      c.number-in-Cut.ensures,
      record { from_same = refl; to_same = refl; name_same = refl },
      cut_told v trip.from trip.to trip.profile c.args.certificate c.args.a c.in-Cut.reached c.in_ok-reached-in-Cut.field-0
          (subst (λ (ns : List ℕ). IfAsked c.args.certificate (λ told. told ≡ map (name_of v) ns) c.in_ok-reached-in-Cut.field-0) c.as_slice-in-Cut.ensures c.in_ok-reached-in-Cut.ensures)
          number profile b is (subst (IsAnswer (Usable v number profile) c.args.a b) c.in-Cut.is r),
    )
