-- Links that aren't looked at.
use Rattle.std.proofs.Common.{◌≡◌, ℕ, ◌<◌, ◌≤◌, Bool, true, List, length, Some, sym, subst}
use Rattle.std.specs.Prelude.{slice_get, slice_index_or}
use Rattle.venue_types.specs.declared.kind.Kind.{Kind}
use Rattle.venue_types.specs.declared.link.Link.{Link}
use Rattle.venue_types.specs.declared.profile_set.ProfileSet.{ProfileSet}
use Rattle.venue_types.specs.declared.settings.Profile.{Profile}
use Rattle.venue_types.specs.ProfileSets.{has, nobody}
use Rattle.venue_types.proofs.ProfileSetLemmas.{has_nobody}
use Rattle.link_graph.specs.declared.stretches.Way.{Way}
use Rattle.link_graph.specs.declared.stretches.Way.TheVariants.{Inside}
use Rattle.link_graph.specs.Marking.{marked}
use Rattle.link_graph.specs.Networks.{Network, GoesBy, IsPassable}
use Rattle.link_graph.proofs.AskingItems.{at_place}
use Rattle.link_graph.proofs.AskingMarks.{to_chosen}
use Rattle.route_search.specs.Scans.{IsPassedOver}

goes_inside : (given : Network) (way : Way) (via : ℕ) (kind : Kind) (restricted : Bool) (link : Link) → way ≡ Inside via kind restricted → GoesBy given way link
    → GoesBy given (Inside via kind restricted) link
goes_inside given way via kind restricted link is goes = subst (λ (w : Way). GoesBy given w link) is goes

pub over_marked : (given : Network) (marks : List ProfileSet) (profile : Profile) (number : ℕ) (way : Way) (via : ℕ) (kind : Kind) (restricted : Bool) → way ≡ Inside via kind restricted
    → via < length given.closables → has number (slice_index_or marks via nobody) ≡ true → IsPassedOver given (IsPassable given (marked given marks number) profile) way
unfolding marked
over_marked given marks profile number way via kind restricted is within on link goes is_link =
    let inside = goes_inside given way via kind restricted link is goes in
    let (id, at) = at_place given.closables via within in
    let closed = to_chosen (has number) nobody (has_nobody number) marks given.closables via id at on in
    absurd (is_link.free.way (id, subst (λ (k : ℕ). slice_get given.closables k ≡ Some id) (sym inside.0) at, closed))
