-- The two laws, for any family of links.
use Rattle.std.proofs.Common.{◌≡◌, ℕ, ◌+◌, ◌≤◌, List, [], ◌∷◌, sym, subst, arith}
use Rattle.std.specs.Prelude.{Contains}
use Rattle.std.proofs.lemmas.List.Sums.{sum_by-cons}
use Rattle.walk_laws.specs.Views.{LinkView}
use Rattle.walk_laws.specs.Walks.{IsWalk, walk_cost, CostsAtLeast, HasNoWalk, IsLeast}
use Rattle.walk_laws.specs.Certificates.{IsCertificate, IsCut}

-- along a walk a potential rises by no more than the walk costs
pub rises_by_cost : {L : Type 0} (view : LinkView L) (IsLink : L → Type 0) (potential_of : ℕ → ℕ)
    → ((link : L) → IsLink link → potential_of (view.to link) ≤ potential_of (view.from link) + view.cost link)
    → (a b : ℕ) (walk : List L) → IsWalk view IsLink a b walk → potential_of b ≤ potential_of a + walk_cost view walk
rises_by_cost view IsLink p links a b [] same = subst (λ (n : ℕ). p n ≤ p a + 0) same (omega arith)
rises_by_cost view IsLink p links a b (link ∷ rest) walk =
    let further : p b ≤ p (view.to link) + walk_cost view rest = rises_by_cost view IsLink p links (view.to link) b rest walk.2 in
    let here : p (view.to link) ≤ p (view.from link) + view.cost link = links link walk.0 in
    let start : p (view.from link) ≤ p a = subst (λ (n : ℕ). p (view.from link) ≤ p n) walk.1 (omega arith) in
    let sum : walk_cost view (link ∷ rest) ≡ view.cost link + walk_cost view rest = sum_by-cons view.cost link rest in
    omega arith

-- where there is a certificate, no walk costs less
pub certifies : {L : Type 0} (view : LinkView L) (IsLink : L → Type 0) (a b cost : ℕ) (potential_of : ℕ → ℕ)
    → IsCertificate view IsLink a b cost potential_of → CostsAtLeast view IsLink a b cost
certifies view IsLink a b cost p holds walk is =
    let bound : p b ≤ p a + walk_cost view walk = rises_by_cost view IsLink p holds.links a b walk is in
    omega (arith, holds.starts, holds.ends)

-- a walk of the certificate's cost is a least one
pub certifies_least : {L : Type 0} (view : LinkView L) (IsLink : L → Type 0) (a b cost : ℕ) (potential_of : ℕ → ℕ) (walk : List L)
    → IsCertificate view IsLink a b cost potential_of → IsWalk view IsLink a b walk → walk_cost view walk ≡ cost → IsLeast view IsLink a b walk cost
certifies_least view IsLink a b cost p walk holds is sum = record { leads = is; costs = sum; least = certifies view IsLink a b cost p holds }

-- a walk stays among nodes that have with the start of a link its end
pub stays_among : {L : Type 0} (view : LinkView L) (IsLink : L → Type 0) (Among : ℕ → Type 0)
    → ((link : L) → IsLink link → Among (view.from link) → Among (view.to link))
    → (a b : ℕ) (walk : List L) → IsWalk view IsLink a b walk → Among a → Among b
stays_among view IsLink Among links a b [] same here = subst Among same here
stays_among view IsLink Among links a b (link ∷ rest) walk here =
    stays_among view IsLink Among links (view.to link) b rest walk.2 (links link walk.0 (subst Among (sym walk.1) here))

-- where there is a cut, there is no walk
pub cuts_off : {L : Type 0} (view : LinkView L) (IsLink : L → Type 0) (a b : ℕ) (reached : List ℕ)
    → IsCut view IsLink a b reached → HasNoWalk view IsLink a b
cuts_off view IsLink a b reached holds walk is = holds.ends (stays_among view IsLink (Contains reached) holds.links a b walk is holds.starts)
