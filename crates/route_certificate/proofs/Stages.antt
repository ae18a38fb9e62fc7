-- Clauses in order: which is the first that fails is one number, and so is its step or link.
use Rattle.std.proofs.Common.{◌≡◌, ℕ, ◌<◌, ◌≤◌, zero, suc, sym, ap, subst, ◌∙◌, arith, inl, inr}
use Rattle.std.proofs.lemmas.Bool.Decides.{eqb_tells}
use Rattle.route_certificate.specs.declared.answer.Verdict.{Verdict}

-- the clauses before this one hold
abbrev pub Keeps : (ℕ → Type 0) → ℕ → Type 0
Keeps Clause zero = Unit {0}
Keeps Clause (suc n) = Keeps Clause n × Clause n

kept : (Clause : ℕ → Type 0) (m n : ℕ) → m < n → Keeps Clause n → Clause m
kept Clause m zero less keeps = absurd (omega (arith, less))
kept Clause m (suc n) less keeps =
    elim (eqb_tells m n) [
      | inl same ↦ subst Clause (sym same.1) keeps.1
      | inr other ↦ kept Clause m n (omega (arith, less, other.1)) keeps.0
    ]

-- this clause is the first that fails, at this step or link; behind the last none does
pub record FailsAt (Clause : ℕ → Type 0) (Number : ℕ → ℕ → Type 0) (last stage number : ℕ) : Type 0 where
  pub keeps : Keeps Clause stage
  pub known : stage ≤ last
  pub fails : stage < last → Clause stage → ⊥
  pub numbered : Number stage number

stages_same : (Clause : ℕ → Type 0) (Number : ℕ → ℕ → Type 0) (last s k s' k' : ℕ) → FailsAt Clause Number last s k → FailsAt Clause Number last s' k' → s ≡ s'
stages_same Clause Number last s k s' k' p q =
    let low : s < s' → ⊥ = λ less. p.fails (omega (arith, less, q.known)) (kept Clause s s' less q.keeps) in
    let high : s' < s → ⊥ = λ less. q.fails (omega (arith, less, p.known)) (kept Clause s' s less p.keeps) in
    omega arith

-- what is made of the number of the first clause that fails and of its step or link is one thing
pub one_of : (Clause : ℕ → Type 0) (Number : ℕ → ℕ → Type 0) (last : ℕ) (verdict : ℕ → ℕ → Verdict) → ((s k k' : ℕ) → Number s k → Number s k' → k ≡ k')
    → (s k s' k' : ℕ) → FailsAt Clause Number last s k → FailsAt Clause Number last s' k' → verdict s k ≡ verdict s' k'
one_of Clause Number last verdict unique s k s' k' p q =
    let stage : s ≡ s' = stages_same Clause Number last s k s' k' p q in
    let number : k ≡ k' = unique s' k k' (subst (λ (t : ℕ). Number t k) stage p.numbered) q.numbered in
    ap (λ (t : ℕ). verdict t k) stage ∙ ap (verdict s') number
