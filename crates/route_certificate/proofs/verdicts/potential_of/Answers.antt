use Rattle.std.proofs.Common.{◌≡◌, ℕ, List, Result, Ok, Err, MatchResult, get_or, rules, sym, subst}
use Rattle.std.proofs.lemmas.List.Sorted.{answers_always}
use Rattle.venue_types.specs.declared.link.Potential.{Potential}
use Rattle.walk_laws.specs.Certificates.{potential}
use Rattle.route_certificate.specs.Answers.{potentials_read}
use Rattle.route_certificate.proofs.verdicts.potential_of.Goals as goal

-- what a search that ended so tells
abbrev Tells : ℕ → List Potential → ℕ → Result ℕ ℕ → Type 0
Tells cost at node found =
    MatchResult found (λ i. (d : Potential) → potential potentials_read cost at node ≡ (get_or at i d).value) (λ i. potential potentials_read cost at node ≡ cost)

pub returns-in-Ok : goal.returns-in-Ok
returns-in-Ok c =
    let facts = c.binary_search_by_key.ensures in
    let by_node = facts.position (λ p. p.node) (answers_always _ _ _ (λ f a r g called. search rules)) in
    let told = c.potential_law.ensures.searched c.args.cost c.args.node c.args.at.now c.binary_search_by_key.result c.requires facts.bound by_node in
    let here : Tells c.args.cost c.args.at.now c.args.node (Ok c.in-Ok.place) = subst (Tells c.args.cost c.args.at.now c.args.node) c.in-Ok.is told in
    sym (here (record { node = 0; value = 0 }))

pub returns-in-Err : goal.returns-in-Err
returns-in-Err c =
    let facts = c.binary_search_by_key.ensures in
    let by_node = facts.position (λ p. p.node) (answers_always _ _ _ (λ f a r g called. search rules)) in
    let told = c.potential_law.ensures.searched c.args.cost c.args.node c.args.at.now c.binary_search_by_key.result c.requires facts.bound by_node in
    let here : Tells c.args.cost c.args.at.now c.args.node (Err c.in-Err.field-0) = subst (Tells c.args.cost c.args.at.now c.args.node) c.in-Err.is told in
    sym here
