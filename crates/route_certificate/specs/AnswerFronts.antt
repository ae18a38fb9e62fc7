-- The code's own way, no promise: how far the text of an answer was read.
use Rattle.std.specs.Prelude.{◌≡◌, ℕ, ◌+◌, ◌<◌, ◌≤◌, List, [], ◌∷◌, ◌++◌}
use Rattle.std.specs.List.{flat_map, AllByRecursion}
use Rattle.line_forms.specs.Fronts.{HasNone}
use Rattle.route_certificate.specs.declared.answer.Claim.{Claim}
use Rattle.route_certificate.specs.Answers.{claim_text, FitsClaim}

-- a number from low on and below a bound
pub record IsInRange (low below n : ℕ) : Type 0 where
  pub least : low ≤ n
  pub most : n < below

-- the first item's number is low or more, and each further one's is above the one before
abbrev pub Rises : {X : Type 0} → (X → ℕ) → ℕ → List X → Type 0
Rises number low [] = Unit {0}
Rises number low (x ∷ xs) = (low ≤ number x) × Rises number (number x + 1) xs

-- the least number that an item behind these may have
abbrev pub next_number : {X : Type 0} → (X → ℕ) → ℕ → List X → ℕ
next_number number low [] = low
next_number number low (x ∷ xs) = next_number number (number x + 1) xs

-- an item that fits and whose number is low or more
pub record FitsBehind {X : Type 0} (Fits : X → Type 0) (number : X → ℕ) (low : ℕ) (x : X) : Type 0 where
  pub fits : Fits x
  pub above : low ≤ number x

-- the text begins with these items, whose numbers ascend, and the rest with no further one whose number is above theirs
pub record IsRisingFront {X : Type 0} (spelling : X → List ℕ) (Fits : X → Type 0) (number : X → ℕ) (items : List X) (text rest : List ℕ) : Type 0 where
  pub parts : text ≡ flat_map spelling items ++ rest
  pub fit : AllByRecursion Fits items
  pub rises : Rises number 0 items
  pub all : HasNone spelling (FitsBehind Fits number (next_number number 0 items)) rest

-- the text is the lines of this claim and the last line
pub record IsClaim (nodes : ℕ) (text : List ℕ) (claim : Claim) : Type 0 where
  pub spelled : text ≡ claim_text claim
  pub fits : FitsClaim nodes claim

abbrev pub IsClaimText : ℕ → List ℕ → Type 0
IsClaimText nodes text = (claim : Claim) × IsClaim nodes text claim
