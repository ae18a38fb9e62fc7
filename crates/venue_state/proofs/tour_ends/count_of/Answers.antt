-- What is left of a sorted list without repetitions are the different ones.
use Rattle.std.proofs.Common.{◌≡◌, ℕ, List, length, rules, subst}
use Rattle.std.specs.Prelude.{IsPermutation}
use Rattle.venue_state.specs.Touring.{IsCountOf}
use Rattle.venue_state.proofs.TourSearches.{counted}
use Rattle.venue_state.proofs.tour_ends.count_of.Goals as goal

pub returns : goal.returns
returns c =
    let nodes = c.args.nodes.now in
    let sorted = c.sort_unstable.new.self.items in
    let different = c.dedup.new.self.items in
    let moved = subst (λ (xs : List ℕ). IsPermutation xs sorted) c.in_ok-different.ensures.items c.sort_unstable.ensures.permutation in
    let long : length different ≡ c.len.result = search rules in
    subst (IsCountOf nodes) long (counted nodes sorted different moved c.sort_unstable.ensures.sorted c.dedup.ensures.filtered)
