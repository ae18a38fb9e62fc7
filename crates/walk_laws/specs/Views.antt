-- What is read of a link and of a potential, whatever type a layer keeps them in.
use Rattle.std.specs.Prelude.{◌≡◌, ℕ}

-- the node where a link starts, the node where it ends, and its cost
pub record LinkView (L : Type 0) : Type 0 where
  pub from : L → ℕ
  pub to : L → ℕ
  pub cost : L → ℕ

-- the node that a potential is of, and its value
pub record PotentialView (P : Type 0) : Type 0 where
  pub node : P → ℕ
  pub value : P → ℕ

-- each link of a family stands for one of another, with its ends and its cost
pub record StandsFor {L M : Type 0} (view : LinkView L) (IsLink : L → Type 0) (view' : LinkView M) (IsLink' : M → Type 0) (other : L → M) : Type 0 where
  pub is : (link : L) → IsLink link → IsLink' (other link)
  pub from : (link : L) → IsLink link → view'.from (other link) ≡ view.from link
  pub to : (link : L) → IsLink link → view'.to (other link) ≡ view.to link
  pub cost : (link : L) → IsLink link → view'.cost (other link) ≡ view.cost link
