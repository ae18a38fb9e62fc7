use Rattle.std.proofs.Common.{◌<◌, ℕ, List, Vec, Global, length, All, sym, subst}
use Rattle.std.proofs.lemmas.Result.{IfOk-weaker}
use Rattle.opening_match.specs.Places.{ArePlaces, AreDistinct}
use Rattle.venue_nodes.specs.TouchCounts.{AreMatches}
use Rattle.opening_match.specs.Matches.{RunsAlong}
use Rattle.opening_match.proofs.Touching.{asked, matches, no_matches, close_shape, all_there, filled, unfilled}
use Rattle.opening_match.proofs.candidates.matches_of.Goals as goal

pub returns-then-is_empty : goal.returns-then-is_empty
returns-then-is_empty c =
    let of = asked c.args.tolerance c.args.openings.now c.args.unit.now c.args.starts.now.entries.items c.in_ok-places.places.items c.requires.close c.requires.starts.entries c.in_ok-places.ensures in
    no_matches c.args.tolerance c.args.openings.now c.args.unit.now c.in_ok-places.places.items (unfilled c.in_ok-places.places.items _ _ c.in_ok-places.places.ok.0 c.is_empty.ensures c.if-is_empty.true) of

pub of-requires : goal.of-requires
of-requires c =
    let of = asked c.args.tolerance c.args.openings.now c.args.unit.now c.args.starts.now.entries.items c.in_ok-places.places.items c.requires.close c.requires.starts.entries c.in_ok-places.ensures in
    close_shape c.args.tolerance c.args.openings.now c.args.unit.now c.in_ok-places.places.items c.requires.close of (filled c.in_ok-places.places.items _ _ c.in_ok-places.places.ok.0 c.is_empty.ensures c.if-is_empty.false)

pub places_along-requires-clause-distinct : goal.places_along-requires-clause-distinct
places_along-requires-clause-distinct c = subst AreDistinct (sym c.deref.ensures.value) c.in_ok-places.ensures.distinct

pub places_along-requires-clause-within : goal.places_along-requires-clause-within
places_along-requires-clause-within c =
    let of = asked c.args.tolerance c.args.openings.now c.args.unit.now c.args.starts.now.entries.items c.in_ok-places.places.items c.requires.close c.requires.starts.entries c.in_ok-places.ensures in
    subst (λ (list : List ℕ). All (λ o. o < length c.args.openings.now) list) (sym c.deref.ensures.value) (all_there c.args.tolerance c.args.openings.now c.args.unit.now c.in_ok-places.places.items of)

pub returns : goal.returns
returns c =
    let of = asked c.args.tolerance c.args.openings.now c.args.unit.now c.args.starts.now.entries.items c.in_ok-places.places.items c.requires.close c.requires.starts.entries c.in_ok-places.ensures in
    IfOk-weaker c.places_along.result (λ (found : Vec ℕ Global). ArePlaces (λ (o : ℕ). o) (RunsAlong c.args.tolerance c.args.openings.now c.in_ok-bands.bands) c.deref.result.now found.items) (λ (found : Vec ℕ Global). AreMatches c.args.tolerance c.args.openings.now c.args.unit.now found.items)
    (λ found h. matches c.args.tolerance c.args.openings.now c.args.unit.now c.in_ok-bands.bands c.deref.result.now c.in_ok-places.places.items found.items c.in_ok-bands.ensures c.deref.ensures.value of h) c.places_along.ensures
