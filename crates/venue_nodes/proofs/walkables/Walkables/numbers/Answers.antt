use Rattle.std.proofs.Common.{◌≡◌, ◌↔◌, ℕ, Some}
use Rattle.std.specs.Prelude.{slice_get}
use Rattle.venue_types.specs.declared.feature_id.FeatureId.{FeatureId}
use Rattle.feature_rows.specs.Indexes.{place_of}
use Rattle.venue_nodes.proofs.Named.{numbers_are}
use Rattle.venue_nodes.proofs.walkables.Walkables.numbers.Goals as goal

pub returns : goal.returns
returns c =
    let walkables = c.args.self.now in
    let law : (id : FeatureId) (k : ℕ) → (place_of walkables.places id ≡ Some k) ↔ (slice_get walkables.ids.items k ≡ Some id) =
    λ id k. c.index_law.ensures.place walkables.ids.items walkables.places id k c.requires.once c.requires.places_are in
    numbers_are (place_of walkables.places) walkables.ids.items c.args.ids.now law
    c.in_ok-found.found.items c.sort_unstable.new.self.items c.dedup.new.self.items c.in_ok-found.ensures c.sort_unstable.ensures.permutation c.sort_unstable.ensures.sorted c.dedup.ensures.filtered
