-- Numbers that are taken in their order.
use Rattle.std.proofs.Common.{ℕ, ◌+◌, ◌<◌, List, [], ◌∷◌, ◌++◌, All, arith}
use Rattle.std.specs.List.Sorted.{IsStrictlyIncreasing}
use Rattle.std.proofs.lemmas.List.Elements.{All-nil, All-push, All-weaker}
use Rattle.venue_types.proofs.Items.{IsStrictlyIncreasing-push}

-- rising, and each below the limit
pub record AreBelow (limit : ℕ) (numbers : List ℕ) : Type 0 where
  pub rising : IsStrictlyIncreasing numbers
  pub below : All (λ (n : ℕ). n < limit) numbers

-- none so far
pub begins : AreBelow 0 []
begins = record {
  rising = λ i within. absurd (omega arith);
  below = All-nil (λ (n : ℕ). n < 0);
}

-- the next number is left out
pub skips : (limit : ℕ) (numbers : List ℕ) → AreBelow limit numbers → AreBelow (limit + 1) numbers
skips limit numbers are = record {
  rising = are.rising;
  below = All-weaker (λ (n : ℕ). n < limit) (λ (n : ℕ). n < limit + 1) (λ n low. omega arith) numbers are.below;
}

-- the next number is taken
pub takes : (limit : ℕ) (numbers : List ℕ) → AreBelow limit numbers → AreBelow (limit + 1) (numbers ++ limit ∷ [])
takes limit numbers are = record {
  rising = IsStrictlyIncreasing-push numbers limit are.rising (λ i within. are.below i 0 within);
  below = All-push (λ (n : ℕ). n < limit + 1) numbers limit (skips limit numbers are).below (omega arith);
}
