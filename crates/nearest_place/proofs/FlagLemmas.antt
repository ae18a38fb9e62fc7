-- Flags that are set one after another.
use Rattle.std.proofs.Common.{◌≡◌, ℕ, ◌+◌, ◌<◌, ◌≤◌, Bool, true, false, List, [], ◌∷◌, ◌++◌, length, get_or, set, take, replicate, refl, sym, ap, subst, ◌∙◌, arith, inl, inr}
use Rattle.std.specs.Prelude.{Contains}
use Rattle.std.proofs.lemmas.Bool.Decides.{eqb_tells}
use Rattle.std.proofs.lemmas.Bool.{cases_lt}
use Rattle.std.proofs.lemmas.List.{take_more, take_all, get_or-replicate, get_or_past, length-replicate, get_or-set_same, get_or-set_other}
use Rattle.std.proofs.lemmas.List.Elements.{Contains-append_left, Contains-append_right, Contains-append_cases}
use Rattle.venue_types.proofs.Items.{Contains-only}
use Rattle.route_search.specs.declared.reached.Reach.{Reach}
use Rattle.route_search.specs.Reaches.{HasEnough}
use Rattle.nearest_place.specs.Entries.{AreFlags, HasTargets}

-- at first none
no_flag : (nodes n : ℕ) → get_or (replicate nodes false) n false ≡ false
no_flag nodes n = elim (cases_lt n nodes) [
  | inl within ↦ get_or-replicate nodes n false false within
  | inr past ↦ get_or_past (replicate nodes false) n false (omega (arith, past, length-replicate nodes false))
]

pub flags_none : (nodes : ℕ) (flags : List Bool) → flags ≡ replicate nodes false → AreFlags [] flags
flags_none nodes flags is n =
    let free : get_or flags n false ≡ false = ap (λ (fs : List Bool). get_or fs n false) is ∙ no_flag nodes n in
    ((λ up. absurd (cc)), (λ at. absurd (omega (arith, at.1))))

-- then one more
pub flags_more : (targets : List ℕ) (k d n : ℕ) (old new : List Bool) → k < length targets → n ≡ get_or targets k d → n < length old
    → AreFlags (take k targets) old → new ≡ set old n true → AreFlags (take (k + 1) targets) new
flags_more targets k d n old new within is inside are grown m =
    let front = take k targets in
    let whole : take (k + 1) targets ≡ front ++ n ∷ [] = take_more targets k d within ∙ ap (λ (x : ℕ). front ++ x ∷ []) (sym is) in
    let read : get_or new m false ≡ get_or (set old n true) m false = ap (λ (fs : List Bool). get_or fs m false) grown in
    elim (eqb_tells n m) [
      | inl here ↦
          (let up : get_or (set old n true) m false ≡ true = subst (λ (x : ℕ). get_or (set old n true) x false ≡ true) here.1 (get_or-set_same old n true false inside) in (
            (λ set_. subst (λ (xs : List ℕ). Contains xs m) (sym whole) (subst (Contains (front ++ n ∷ [])) here.1 (Contains-append_right front (n ∷ []) n (0, omega arith, refl)))),
            (λ at. read ∙ up),
          ))
      | inr other ↦
          (let same : get_or (set old n true) m false ≡ get_or old m false = get_or-set_other old n m true false (λ is_same. other.1 (sym is_same)) in (
            (λ up. subst (λ (xs : List ℕ). Contains xs m) (sym whole) (Contains-append_left front (n ∷ []) m ((are m).0 (sym same ∙ sym read ∙ up)))),
            (λ at. read ∙ same ∙ (are m).1 (elim (Contains-append_cases front (n ∷ []) m (subst (λ (xs : List ℕ). Contains xs m) whole at)) [
              | inl before ↦ before
              | inr last ↦ absurd (other.1 (Contains-only n m last))
            ])),
          ))
    ]

pub flags_all : (targets : List ℕ) (k : ℕ) (flags : List Bool) → length targets ≤ k → AreFlags (take k targets) flags → AreFlags targets flags
flags_all targets k flags past are = subst (λ (ts : List ℕ). AreFlags ts flags) (take_all k targets past) are

-- ends that are flagged are targets
pub enough_targets : (reach : Reach) (targets : List ℕ) (flags : List Bool) (count : ℕ) → AreFlags targets flags → HasEnough (λ n. get_or flags n false) count reach → HasTargets targets count reach
enough_targets reach targets flags count are enough bound some =
    let (found, ends) = enough bound some in
    (found, record { many = ends.many; different = ends.different; targets_are = λ n at. (are n).0 (ends.ends n at); cheap = ends.cheap })
