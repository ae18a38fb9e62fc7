-- Steps lead to one end at one cost, or one of them is the first that is broken.
use Rattle.std.proofs.Common.{◌≡◌, ℕ, ◌<◌, List, [], ◌∷◌, ◌++◌, length, sym, ap, subst, ◌∙◌, arith}
use Rattle.std.proofs.lemmas.List.{append-nil}
use Rattle.std.proofs.lemmas.Option.{same_Some}
use Rattle.line_forms.proofs.ListLemmas.{head_same, tail_same}
use Rattle.route_certificate.specs.declared.table.TableLink.{TableLink}
use Rattle.route_certificate.specs.Prices.{IsStep, IsChain, IsBroken}
use Rattle.route_certificate.specs.Verdicts.{FailsFirstAt}

-- a step is one link
step_same : (links : List TableLink) (at step : ℕ) (a b : TableLink) → IsStep links at step a → IsStep links at step b → a ≡ b
step_same links at step a b p q = same_Some a b (sym p.is ∙ q.is)

-- steps lead to one end at one cost
pub chain_same : (links : List TableLink) (at : ℕ) (steps : List ℕ) (end cost end' cost' : ℕ) → IsChain links at steps end cost → IsChain links at steps end' cost'
    → (end ≡ end') × (cost ≡ cost')
chain_same links at [] end cost end' cost' p q = (p.0 ∙ sym q.0, p.1 ∙ sym q.1)
chain_same links at (step ∷ steps) end cost end' cost' p q =
    let one : p.0 ≡ q.0 = step_same links at step p.0 q.0 p.2 q.2 in
    let moved : IsChain links q.0.to steps end p.1 = subst (λ (l : TableLink). IsChain links l.to steps end p.1) one p.3 in
    let rest = chain_same links q.0.to steps end p.1 end' q.1 moved q.3 in
    let costs : p.0.cost ≡ q.0.cost = ap (λ (l : TableLink). l.cost) one in
    (rest.0, omega (arith, p.4, q.4, rest.1, costs))

-- no chain goes on over a step that is no link where the steps before it lead
no_further : (links : List TableLink) (at : ℕ) (front more : List ℕ) (step : ℕ) (rest other : List ℕ) (mid cost end sum : ℕ) → front ++ step ∷ rest ≡ more ++ other → length front < length more
    → IsChain links at front mid cost → ((link : TableLink) → IsStep links mid step link → ⊥) → IsChain links at more end sum → ⊥
no_further links at front [] step rest other mid cost end sum e less chain none whole = omega (arith, less)
no_further links at [] (next ∷ more) step rest other mid cost end sum e less chain none whole =
    let here : IsStep links mid next whole.0 = subst (λ (n : ℕ). IsStep links n next whole.0) (sym chain.0) whole.2 in
    none whole.0 (subst (λ (n : ℕ). IsStep links mid n whole.0) (sym (head_same step next rest (more ++ other) e)) here)
no_further links at (first ∷ front) (next ∷ more) step rest other mid cost end sum e less chain none whole =
    let steps : first ≡ next = head_same first next (front ++ step ∷ rest) (more ++ other) e in
    let one : chain.0 ≡ whole.0 = step_same links at next chain.0 whole.0 (subst (λ (n : ℕ). IsStep links at n chain.0) steps chain.2) whole.2 in
    let moved : IsChain links whole.0.to front mid chain.1 = subst (λ (l : TableLink). IsChain links l.to front mid chain.1) one chain.3 in
    no_further links whole.0.to front more step rest other mid chain.1 end whole.1 (tail_same first next (front ++ step ∷ rest) (more ++ other) e) (omega (arith, less)) moved none whole.3

shorter : (front rest steps : List ℕ) (step : ℕ) → steps ≡ front ++ step ∷ rest → length front < length steps
shorter [] rest steps step e = omega (arith, ap (length {A = ℕ}) e)
shorter (x ∷ front) rest [] step e = absurd (cc)
shorter (x ∷ front) rest (y ∷ steps) step e = omega (arith, shorter front rest steps step (tail_same y x steps (front ++ step ∷ rest) e))

-- where a step is broken, the steps lead nowhere
pub broken_leads : (links : List TableLink) (from : ℕ) (steps : List ℕ) (k end cost : ℕ) → IsBroken links from steps k → IsChain links from steps end cost → ⊥
broken_leads links from steps k end cost broken chain =
    no_further links from broken.front steps broken.step broken.rest [] broken.at broken.cost end cost (sym broken.parts ∙ sym (append-nil steps))
    (shorter broken.front broken.rest steps broken.step broken.parts) broken.chain broken.none chain

-- one step is the first that is broken
pub broken_same : (links : List TableLink) (from : ℕ) (steps : List ℕ) (k k' : ℕ) → IsBroken links from steps k → IsBroken links from steps k' → k ≡ k'
broken_same links from steps k k' p q =
    let low : length p.front < length q.front → ⊥ = λ less.
    no_further links from p.front q.front p.step p.rest (q.step ∷ q.rest) p.at p.cost q.at q.cost (sym p.parts ∙ q.parts) less p.chain p.none q.chain in
    let high : length q.front < length p.front → ⊥ = λ less.
    no_further links from q.front p.front q.step q.rest (p.step ∷ p.rest) q.at q.cost p.at p.cost (sym q.parts ∙ p.parts) less q.chain q.none p.chain in
    omega (arith, p.count, q.count)

-- one link is the first that a clause does not hold of
pub first_same : (Holds : TableLink → Type 0) (links : List TableLink) (j j' : ℕ) → FailsFirstAt Holds links j → FailsFirstAt Holds links j' → j ≡ j'
first_same Holds links j j' p q =
    let low : j < j' → ⊥ = λ less. p.fails (q.before j p.link less p.is) in
    let high : j' < j → ⊥ = λ less. q.fails (p.before j' q.link less q.is) in
    omega arith
