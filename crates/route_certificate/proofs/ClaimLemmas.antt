-- What was read of a claim is what any claim with this text has.
use Rattle.std.proofs.Common.{◌≡◌, ℕ, List, [], ◌∷◌, ◌++◌, sym, ap, subst, ◌∙◌, arith}
use Rattle.std.proofs.lemmas.List.{append_cancel_left}
use Rattle.std.specs.List.{flat_map, AllByRecursion}
use Rattle.std.specs.List.Sorted.{IsStrictlyIncreasing}
use Rattle.venue_types.specs.declared.link.Potential.{Potential}
use Rattle.line_forms.specs.Fronts.{HasNone, IsFront}
use Rattle.line_forms.proofs.ListLemmas.{fronts_agree, differ}
use Rattle.route_certificate.specs.declared.answer.Claim.{Claim}
use Rattle.route_certificate.specs.declared.answer.Claim.TheVariants.{Route, Nothing}
use Rattle.route_certificate.specs.Forms.{step_line, step_body, end_line, FitsStep, FitsNode}
use Rattle.route_certificate.specs.Answers.{route_line, at_line, at_body, none_line, reach_line, reach_body, FitsCost, FitsPotential, FitsRoute, FitsNothing}
use Rattle.route_certificate.specs.AnswerFronts.{Rises, next_number, FitsBehind, IsRisingFront, IsClaim}
use Rattle.route_certificate.proofs.LineLemmas.{step_unique, step_line_is, Lacks-step_body}
use Rattle.route_certificate.proofs.WalkLemmas.{no_step_behind}
use Rattle.route_certificate.proofs.AnswerLines.{route_unique, at_unique, reach_unique, at_line_is, reach_line_is, Lacks-at_body, Lacks-reach_body, small_potential}
use Rattle.route_certificate.proofs.RisingFronts.{rising_agree, rises_from, increasing_from, map_same}
use Rattle.line_forms.proofs.Stuck.{BeginsAs, HasNone-begins}

-- ---- no item where others stand

no_step_first : (p : Potential) (at : List Potential) (tail : List ℕ) → HasNone step_line FitsStep (flat_map at_line (p ∷ at) ++ tail)
unfolding step_line at_line
no_step_first p at tail x more fits e = differ 97 115 _ _ e (λ h. omega arith)

no_step_end : (at : List Potential) (tail : List ℕ) → HasNone step_line FitsStep (flat_map at_line at ++ (end_line ++ tail))
no_step_end [] tail = no_step_behind tail
no_step_end (p ∷ at) tail = no_step_first p at (end_line ++ tail)

no_at_end : (nodes : ℕ) (tail : List ℕ) → HasNone at_line (FitsPotential nodes) (end_line ++ tail)
unfolding at_line
no_at_end nodes tail x more fits e = differ 101 97 _ _ e (λ h. omega arith)

no_reach_end : (nodes : ℕ) (tail : List ℕ) → HasNone reach_line (FitsNode nodes) (end_line ++ tail)
unfolding reach_line
no_reach_end nodes tail x more fits e = differ 101 114 _ _ e (λ h. omega arith)

no_none_route : (cost : ℕ) (a b : List ℕ) → route_line cost ++ a ≡ none_line ++ b → ⊥
unfolding route_line
no_none_route cost a b e = differ 114 110 _ _ e (λ h. omega arith)

-- ---- how far a route's text was read

pub record RouteRead (nodes cost : ℕ) (steps : List ℕ) (at : List Potential) (rest : List ℕ) : Type 0 where
  pub cost_fits : FitsCost cost
  pub steps_fit : AllByRecursion FitsStep steps
  pub at_fit : AllByRecursion (FitsPotential nodes) at
  pub rises : Rises (λ q. q.node) 0 at
  pub no_step : HasNone step_line FitsStep (flat_map at_line at ++ rest)
  pub no_at : HasNone at_line (FitsBehind (FitsPotential nodes) (λ q. q.node) (next_number (λ q. q.node) 0 at)) rest

pub route_read : (nodes cost : ℕ) (steps : List ℕ) (at : List Potential) (text more rest : List ℕ) → FitsCost cost → IsFront step_line FitsStep steps text more
    → IsRisingFront at_line (FitsPotential nodes) (λ q. q.node) at more rest → RouteRead nodes cost steps at rest
route_read nodes cost steps at text more rest fits front front' = record {
  cost_fits = fits;
  steps_fit = front.fit;
  at_fit = front'.fit;
  rises = front'.rises;
  no_step = subst (HasNone step_line FitsStep) front'.parts front.all;
  no_at = front'.all;
}

-- the text that was read
pub route_parts : (nodes cost : ℕ) (steps : List ℕ) (at : List Potential) (text more rest : List ℕ) → IsFront step_line FitsStep steps text more
    → IsRisingFront at_line (FitsPotential nodes) (λ q. q.node) at more rest → route_line cost ++ text ≡ route_line cost ++ (flat_map step_line steps ++ (flat_map at_line at ++ rest))
route_parts nodes cost steps at text more rest front front' =
    ap (λ (t : List ℕ). route_line cost ++ t) (front.parts ∙ ap (λ (t : List ℕ). flat_map step_line steps ++ t) front'.parts)

-- the same where the rest begins as another
pub route_begins : (nodes cost : ℕ) (steps : List ℕ) (at : List Potential) (rest t : List ℕ) → BeginsAs rest t → RouteRead nodes cost steps at rest → RouteRead nodes cost steps at t
route_begins nodes cost steps at rest t begins read = record {
  cost_fits = read.cost_fits;
  steps_fit = read.steps_fit;
  at_fit = read.at_fit;
  rises = read.rises;
  no_step = no_step_still at read.no_step;
  no_at = HasNone-begins at_line at_body (FitsBehind (FitsPotential nodes) (λ q. q.node) (next_number (λ q. q.node) 0 at)) at_line_is
      (λ p fits. Lacks-at_body p (small_potential nodes p fits.fits)) rest t begins read.no_at;
} where
  no_step_still : (at : List Potential) → HasNone step_line FitsStep (flat_map at_line at ++ rest) → HasNone step_line FitsStep (flat_map at_line at ++ t)
  no_step_still [] none = HasNone-begins step_line step_body FitsStep step_line_is (λ k fits. Lacks-step_body k (omega (arith, fits))) rest t begins none
  no_step_still (p ∷ at) none = no_step_first p at t

-- and where the rest is the last line and more
pub route_ends : (nodes cost : ℕ) (steps : List ℕ) (at : List Potential) (rest tail : List ℕ) → RouteRead nodes cost steps at rest → RouteRead nodes cost steps at (end_line ++ tail)
route_ends nodes cost steps at rest tail read = record {
  cost_fits = read.cost_fits;
  steps_fit = read.steps_fit;
  at_fit = read.at_fit;
  rises = read.rises;
  no_step = no_step_end at tail;
  no_at = λ x more fits e. no_at_end nodes tail x more fits.fits e;
}

pub route_fits : (nodes cost : ℕ) (steps : List ℕ) (at : List Potential) (rest : List ℕ) → RouteRead nodes cost steps at rest → FitsRoute nodes cost steps at
route_fits nodes cost steps at rest read = record {
  cost_fits = read.cost_fits;
  steps_fit = read.steps_fit;
  potentials_fit = read.at_fit;
  ascends = increasing_from (λ q. q.node) 0 at read.rises;
}

route_same : (cost cost' : ℕ) (steps steps' : List ℕ) (at at' : List Potential) → cost ≡ cost' → steps ≡ steps' → at ≡ at' → Route cost steps at ≡ Route cost' steps' at'
route_same cost cost' steps steps' at at' p q r = λ i. Route (p i) (q i) (r i)

pub route_of : (nodes cost : ℕ) (steps : List ℕ) (at : List Potential) (rest : List ℕ) (claim : Claim) → RouteRead nodes cost steps at rest
    → IsClaim nodes (route_line cost ++ (flat_map step_line steps ++ (flat_map at_line at ++ rest))) claim → (Route cost steps at ≡ claim) × (rest ≡ end_line)
route_of nodes cost steps at rest (Route cost' steps' at') read is =
    let one = route_unique cost cost' (flat_map step_line steps ++ (flat_map at_line at ++ rest)) (flat_map step_line steps' ++ (flat_map at_line at' ++ end_line)) read.cost_fits is.fits.cost_fits is.spelled in
    let two = fronts_agree step_line FitsStep step_unique steps steps' (flat_map at_line at ++ rest) (flat_map at_line at' ++ end_line) read.steps_fit is.fits.steps_fit read.no_step (no_step_end at' []) one.1 in
    let three = rising_agree at_line (FitsPotential nodes) (λ q. q.node) (at_unique nodes) 0 at at' rest end_line read.at_fit is.fits.potentials_fit read.rises
    (rises_from (λ q. q.node) 0 at' is.fits.ascends (λ some. omega arith)) read.no_at (no_at_end nodes []) two.1 in
    (route_same cost cost' steps steps' at at' one.0 two.0 three.0, three.1)
route_of nodes cost steps at rest (Nothing reached) read is = absurd (no_none_route cost _ _ is.spelled)

-- ---- how far the text of a claim that there is no walk was read

pub record NothingRead (nodes : ℕ) (reached rest : List ℕ) : Type 0 where
  pub fit : AllByRecursion (FitsNode nodes) reached
  pub rises : Rises (λ n. n) 0 reached
  pub no_reach : HasNone reach_line (FitsBehind (FitsNode nodes) (λ n. n) (next_number (λ n. n) 0 reached)) rest

pub nothing_read : (nodes : ℕ) (reached text rest : List ℕ) → IsRisingFront reach_line (FitsNode nodes) (λ n. n) reached text rest → NothingRead nodes reached rest
nothing_read nodes reached text rest front = record { fit = front.fit; rises = front.rises; no_reach = front.all }

pub nothing_begins : (nodes : ℕ) (reached rest t : List ℕ) → BeginsAs rest t → NothingRead nodes reached rest → NothingRead nodes reached t
nothing_begins nodes reached rest t begins read = record {
  fit = read.fit;
  rises = read.rises;
  no_reach = HasNone-begins reach_line reach_body (FitsBehind (FitsNode nodes) (λ n. n) (next_number (λ n. n) 0 reached)) reach_line_is
      (λ n fits. Lacks-reach_body n (omega (arith, fits.fits.small))) rest t begins read.no_reach;
}

pub nothing_ends : (nodes : ℕ) (reached rest tail : List ℕ) → NothingRead nodes reached rest → NothingRead nodes reached (end_line ++ tail)
nothing_ends nodes reached rest tail read = record { fit = read.fit; rises = read.rises; no_reach = λ x more fits e. no_reach_end nodes tail x more fits.fits e }

pub nothing_fits : (nodes : ℕ) (reached rest : List ℕ) → NothingRead nodes reached rest → FitsNothing nodes reached
nothing_fits nodes reached rest read = record {
  reached_fit = read.fit;
  ascends = subst IsStrictlyIncreasing (map_same reached) (increasing_from (λ n. n) 0 reached read.rises);
}

pub nothing_of : (nodes : ℕ) (reached rest : List ℕ) (claim : Claim) → NothingRead nodes reached rest
    → IsClaim nodes (none_line ++ (flat_map reach_line reached ++ rest)) claim → (Nothing reached ≡ claim) × (rest ≡ end_line)
nothing_of nodes reached rest (Route cost steps at) read is = absurd (no_none_route cost _ _ (sym is.spelled))
nothing_of nodes reached rest (Nothing reached') read is =
    let whole = append_cancel_left none_line (flat_map reach_line reached ++ rest) (flat_map reach_line reached' ++ end_line) is.spelled in
    let rises = rises_from (λ n. n) 0 reached' (subst IsStrictlyIncreasing (sym (map_same reached')) is.fits.ascends) (λ some. omega arith) in
    let both = rising_agree reach_line (FitsNode nodes) (λ n. n) (reach_unique nodes) 0 reached reached' rest end_line read.fit is.fits.reached_fit read.rises rises
    read.no_reach (no_reach_end nodes []) whole in
    (ap (λ (ns : List ℕ). Nothing ns) both.0, both.1)

-- ---- a text is that of at most one claim

pub route_of_fits : (nodes cost : ℕ) (steps : List ℕ) (at : List Potential) → FitsRoute nodes cost steps at → RouteRead nodes cost steps at end_line
route_of_fits nodes cost steps at fits = record {
  cost_fits = fits.cost_fits;
  steps_fit = fits.steps_fit;
  at_fit = fits.potentials_fit;
  rises = rises_from (λ q. q.node) 0 at fits.ascends (λ some. omega arith);
  no_step = no_step_end at [];
  no_at = λ x more fits' e. no_at_end nodes [] x more fits'.fits e;
}

pub nothing_of_fits : (nodes : ℕ) (reached : List ℕ) → FitsNothing nodes reached → NothingRead nodes reached end_line
nothing_of_fits nodes reached fits = record {
  fit = fits.reached_fit;
  rises = rises_from (λ n. n) 0 reached (subst IsStrictlyIncreasing (sym (map_same reached)) fits.ascends) (λ some. omega arith);
  no_reach = λ x more fits' e. no_reach_end nodes [] x more fits'.fits e;
}

pub one_claim : (nodes : ℕ) (text : List ℕ) (a b : Claim) → IsClaim nodes text a → IsClaim nodes text b → a ≡ b
one_claim nodes text (Route cost steps at) b p q =
    (route_of nodes cost steps at end_line b (route_of_fits nodes cost steps at p.fits) (record { spelled = sym p.spelled ∙ q.spelled; fits = q.fits })).0
one_claim nodes text (Nothing reached) b p q =
    (nothing_of nodes reached end_line b (nothing_of_fits nodes reached p.fits) (record { spelled = sym p.spelled ∙ q.spelled; fits = q.fits })).0
