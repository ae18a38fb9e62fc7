use Rattle.std.proofs.Common.{◌≡◌, ◌∙◌, ℕ, List, Bor, true, not, nat_lt, length, map, ap, rules, arith}
use Rattle.venue_wire.specs.Queries.{comma_parts}
use Rattle.venue_wire.proofs.StopLemmas.{some_read, few_read}
use Rattle.venue_wire.proofs.stops.read_stops.Goals as goal

pub returns-clause-some : goal.returns-clause-some
returns-clause-some c =
    some_read c.args.text.now _ c.read_identifiers.result
    (ap (λ (parts : List (Bor (List ℕ))). map (λ part. part.now) parts) c.deref.ensures.value ∙ c.in_ok-parts.ensures) c.read_identifiers.ensures

pub returns-clause-few : goal.returns-clause-few
returns-clause-few c =
    let few : not (nat_lt 8 (length (comma_parts c.args.text.now))) ≡ true = first_of (cc, search rules, grind arith) in
    few_read c.args.text.now _ c.read_identifiers.result
    (ap (λ (parts : List (Bor (List ℕ))). map (λ part. part.now) parts) c.deref.ensures.value ∙ c.in_ok-parts.ensures) few c.read_identifiers.ensures
