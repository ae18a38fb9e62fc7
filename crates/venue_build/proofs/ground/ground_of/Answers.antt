use Rattle.std.proofs.Common.{ℕ, List, sym, subst}
use Rattle.opening_match.specs.declared.matches.Matches.{Matches}
use Rattle.opening_match.specs.declared.matches.Matches.TheVariants.{Many}
use Rattle.opening_match.specs.Kept.{AreKept}
use Rattle.venue_build.proofs.ground.ground_of.Goals as goal

pub returns-in-Many-clause-fault : goal.returns-in-Many-clause-fault
returns-in-Many-clause-fault c =
    let features = c.args.features.now in
    let border_tol = c.args.settings.now.border_tol in
    let many : AreKept border_tol features (Many c.in-Many.counts) = subst (λ (m : Matches). AreKept border_tol features m) c.in-Many.is c.in_ok-counts.ensures in
    c.of_counts.ensures (subst (λ (ns : List ℕ). AreKept border_tol features (Many ns)) (sym c.as_slice.ensures) many)
