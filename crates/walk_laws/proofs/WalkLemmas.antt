-- Walks joined and split, and over links that stand for others.
use Rattle.std.proofs.Common.{◌≡◌, ℕ, ◌+◌, ◌≤◌, List, [], ◌∷◌, ◌++◌, map, refl, sym, subst, ◌∙◌, arith}
use Rattle.std.proofs.lemmas.List.Sums.{sum_by-cons, sum_by-append}
use Rattle.walk_laws.specs.Views.{LinkView, StandsFor}
use Rattle.walk_laws.specs.Walks.{IsWalk, walk_cost, IsLeast, CostsAtLeast, HasNoWalk}

-- a walk to b and one from there
pub IsWalk-append : {L : Type 0} (view : LinkView L) (IsLink : L → Type 0) (a b c : ℕ) (front back : List L)
    → IsWalk view IsLink a b front → IsWalk view IsLink b c back → IsWalk view IsLink a c (front ++ back)
IsWalk-append view IsLink a b c [] back same further = subst (λ (n : ℕ). IsWalk view IsLink n c back) (sym same) further
IsWalk-append view IsLink a b c (link ∷ front) back walk further = (walk.0, walk.1, IsWalk-append view IsLink (view.to link) b c front back walk.2 further)

-- the costs of two parts add up
pub walk_cost-append : {L : Type 0} (view : LinkView L) (front back : List L) → walk_cost view (front ++ back) ≡ walk_cost view front + walk_cost view back
walk_cost-append view front back = sum_by-append view.cost front back

-- a walk in two parts leads to some node and on from there
pub IsWalk-split : {L : Type 0} (view : LinkView L) (IsLink : L → Type 0) (a c : ℕ) (front back : List L)
    → IsWalk view IsLink a c (front ++ back) → (b : ℕ) × IsWalk view IsLink a b front × IsWalk view IsLink b c back
IsWalk-split view IsLink a c [] back walk = (a, refl, walk)
IsWalk-split view IsLink a c (link ∷ front) back walk =
    let rest = IsWalk-split view IsLink (view.to link) c front back walk.2 in
    (rest.0, (walk.0, walk.1, rest.1), rest.2)

-- a walk has one end
pub IsWalk-end : {L : Type 0} (view : LinkView L) (IsLink : L → Type 0) (a b b' : ℕ) (walk : List L)
    → IsWalk view IsLink a b walk → IsWalk view IsLink a b' walk → b ≡ b'
IsWalk-end view IsLink a b b' [] one other = sym one ∙ other
IsWalk-end view IsLink a b b' (link ∷ rest) one other = IsWalk-end view IsLink (view.to link) b b' rest one.2 other.2

-- a walk as one over the links that its own stand for
pub IsWalk-map : {L M : Type 0} (view : LinkView L) (view' : LinkView M) (IsLink : L → Type 0) (IsLink' : M → Type 0) (other : L → M) → StandsFor view IsLink view' IsLink' other
    → (a b : ℕ) (walk : List L) → IsWalk view IsLink a b walk → IsWalk view' IsLink' a b (map other walk)
IsWalk-map view view' IsLink IsLink' other stands a b [] same = same
IsWalk-map view view' IsLink IsLink' other stands a b (link ∷ rest) walk =
    let further = IsWalk-map view view' IsLink IsLink' other stands (view.to link) b rest walk.2 in
    (stands.is link walk.0, stands.from link walk.0 ∙ walk.1, subst (λ (n : ℕ). IsWalk view' IsLink' n b (map other rest)) (sym (stands.to link walk.0)) further)

-- and its cost
pub walk_cost-map : {L M : Type 0} (view : LinkView L) (view' : LinkView M) (IsLink : L → Type 0) (IsLink' : M → Type 0) (other : L → M) → StandsFor view IsLink view' IsLink' other
    → (a b : ℕ) (walk : List L) → IsWalk view IsLink a b walk → walk_cost view' (map other walk) ≡ walk_cost view walk
walk_cost-map view view' IsLink IsLink' other stands a b [] walk = refl
walk_cost-map view view' IsLink IsLink' other stands a b (link ∷ rest) walk =
    let here : walk_cost view (link ∷ rest) ≡ view.cost link + walk_cost view rest = sum_by-cons view.cost link rest in
    let there : walk_cost view' (other link ∷ map other rest) ≡ view'.cost (other link) + walk_cost view' (map other rest) = sum_by-cons view'.cost (other link) (map other rest) in
    let same : walk_cost view' (map other rest) ≡ walk_cost view rest = walk_cost-map view view' IsLink IsLink' other stands (view.to link) b rest walk.2 in
    let one : view'.cost (other link) ≡ view.cost link = stands.cost link walk.0 in
    omega arith

-- what no walk over the other links costs less than, no walk over these does
pub CostsAtLeast-map : {L M : Type 0} (view : LinkView L) (view' : LinkView M) (IsLink : L → Type 0) (IsLink' : M → Type 0) (other : L → M) → StandsFor view IsLink view' IsLink' other
    → (a b cost : ℕ) → CostsAtLeast view' IsLink' a b cost → CostsAtLeast view IsLink a b cost
CostsAtLeast-map view view' IsLink IsLink' other stands a b cost least walk leads =
    subst (λ (n : ℕ). cost ≤ n) (walk_cost-map view view' IsLink IsLink' other stands a b walk leads) (least (map other walk) (IsWalk-map view view' IsLink IsLink' other stands a b walk leads))

-- where none leads over the other links, none leads over these
pub HasNoWalk-map : {L M : Type 0} (view : LinkView L) (view' : LinkView M) (IsLink : L → Type 0) (IsLink' : M → Type 0) (other : L → M) → StandsFor view IsLink view' IsLink' other
    → (a b : ℕ) → HasNoWalk view' IsLink' a b → HasNoWalk view IsLink a b
HasNoWalk-map view view' IsLink IsLink' other stands a b none walk leads = none (map other walk) (IsWalk-map view view' IsLink IsLink' other stands a b walk leads)

-- the least cost is one number
pub IsLeast-cost : {L : Type 0} (view : LinkView L) (IsLink : L → Type 0) (a b : ℕ) (walk walk' : List L) (cost cost' : ℕ)
    → IsLeast view IsLink a b walk cost → IsLeast view IsLink a b walk' cost' → cost ≡ cost'
IsLeast-cost view IsLink a b walk walk' cost cost' one other =
    let below : cost ≤ walk_cost view walk' = one.least walk' other.leads in
    let above : cost' ≤ walk_cost view walk = other.least walk one.leads in
    omega (arith, one.costs, other.costs)
