-- Where a text stops being a claim's.
use Rattle.std.proofs.Common.{◌≡◌, ℕ, ◌+◌, ◌<◌, ◌^◌, List, [], ◌∷◌, ◌++◌, length, refl, sym, ap, subst, ◌∙◌, append_assoc, arith, codes}
use Rattle.std.proofs.lemmas.List.{length-append, append-nil}
use Rattle.std.specs.List.{flat_map}
use Rattle.venue_types.specs.declared.link.Potential.{Potential}
use Rattle.line_forms.specs.Faults.{IsLines, IsFaultLine}
use Rattle.line_forms.specs.Fronts.{HasNone}
use Rattle.line_forms.proofs.ListLemmas.{length-flat_map-le}
use Rattle.line_forms.proofs.LineLemmas.{Lacks-test}
use Rattle.line_forms.proofs.FaultLemmas.{IsLines-none, IsLines-one, IsLines-append, IsLines-items}
use Rattle.route_certificate.specs.declared.answer.Claim.{Claim}
use Rattle.route_certificate.specs.declared.answer.Claim.TheVariants.{Route, Nothing}
use Rattle.route_certificate.specs.Forms.{step_line, step_body, end_line, FitsStep, FitsNode}
use Rattle.route_certificate.specs.Answers.{route_line, route_body, at_line, at_body, none_line, reach_line, reach_body, FitsCost, FitsPotential}
use Rattle.route_certificate.specs.AnswerFronts.{IsClaim, IsClaimText}
use Rattle.route_certificate.proofs.LineLemmas.{step_line_is, Lacks-step_body}
use Rattle.route_certificate.proofs.AnswerLines.{route_line_is, at_line_is, reach_line_is, Lacks-route_body, Lacks-at_body, Lacks-reach_body, small_potential}
use Rattle.line_forms.proofs.Stuck.{BeginsAs, stuck, HasNone-begins, some_begins}
use Rattle.route_certificate.proofs.ClaimLemmas.{RouteRead, route_begins, route_ends, route_fits, route_of, NothingRead, nothing_begins, nothing_ends, nothing_fits, nothing_of}

-- ---- the last line

none_begins : (rest t : List ℕ) → BeginsAs rest t → ((more : List ℕ) → rest ≡ end_line ++ more → ⊥) → t ≡ end_line → ⊥
none_begins rest t begins none is =
    HasNone-begins (λ (u : Unit {0}). end_line) (λ (u : Unit {0}). codes "end") (λ (u : Unit {0}). Unit {0}) (λ u. refl) (λ u fits. Lacks-test 10 (codes "end") refl) rest t begins
    (λ u more fits e. none more e) tt [] tt is

too_long : (behind : List ℕ) → 0 < length behind → end_line ++ behind ≡ end_line → ⊥
too_long behind some e = omega (arith, ap (length {A = ℕ}) e, length-append end_line behind)

end_lines : IsLines 1 end_line
end_lines = IsLines-one (codes "end") (Lacks-test 10 (codes "end") refl)

-- ---- routes

route_front : ℕ → List ℕ → List Potential → List ℕ
route_front cost steps at = route_line cost ++ (flat_map step_line steps ++ flat_map at_line at)

abbrev pub route_whole : ℕ → List ℕ → List Potential → List ℕ → List ℕ
route_whole cost steps at rest = route_line cost ++ (flat_map step_line steps ++ (flat_map at_line at ++ rest))

route_is : (cost : ℕ) (steps : List ℕ) (at : List Potential) (rest : List ℕ) → route_front cost steps at ++ rest ≡ route_whole cost steps at rest
unfolding route_front
route_is cost steps at rest =
    append_assoc (route_line cost) (flat_map step_line steps ++ flat_map at_line at) rest
    ∙ ap (λ (t : List ℕ). route_line cost ++ t) (append_assoc (flat_map step_line steps) (flat_map at_line at) rest)

route_lines : (nodes cost : ℕ) (steps : List ℕ) (at : List Potential) (rest : List ℕ) → RouteRead nodes cost steps at rest → IsLines (1 + (length steps + length at)) (route_front cost steps at)
unfolding route_front
route_lines nodes cost steps at rest read =
    IsLines-append 1 (length steps + length at) (route_line cost) (flat_map step_line steps ++ flat_map at_line at)
    (subst (IsLines 1) (sym (route_line_is cost)) (IsLines-one (route_body cost) (Lacks-route_body cost (omega (arith, read.cost_fits)))))
    (IsLines-append (length steps) (length at) (flat_map step_line steps) (flat_map at_line at)
    (IsLines-items step_line step_body FitsStep step_line_is (λ k fits. Lacks-step_body k (omega (arith, fits))) steps read.steps_fit)
    (IsLines-items at_line at_body (FitsPotential nodes) at_line_is (λ p fits. Lacks-at_body p (small_potential nodes p fits)) at read.at_fit))

-- what was read, and the line `end`, is a claim's text
route_ended : (nodes cost : ℕ) (steps : List ℕ) (at : List Potential) (rest : List ℕ) → RouteRead nodes cost steps at rest → IsClaimText nodes (route_front cost steps at ++ end_line)
route_ended nodes cost steps at rest read =
    let claim : Claim = Route cost steps at in
    (claim, record { spelled = route_is cost steps at end_line; fits = route_fits nodes cost steps at rest read })

-- neither a step, a potential nor the end
pub no_route_end : (nodes cost : ℕ) (steps : List ℕ) (at : List Potential) (rest : List ℕ) → RouteRead nodes cost steps at rest → ((more : List ℕ) → rest ≡ end_line ++ more → ⊥)
    → IsFaultLine (IsClaimText nodes) (route_whole cost steps at rest) (1 + (length steps + length at) + 1)
no_route_end nodes cost steps at rest read none =
    stuck (IsClaimText nodes) (route_whole cost steps at rest) (route_front cost steps at) rest end_line (1 + (length steps + length at)) (sym (route_is cost steps at rest))
    (route_lines nodes cost steps at rest read) (route_ended nodes cost steps at rest read)
    (λ t begins is.
    let whole = subst (λ (x : List ℕ). IsClaim nodes x is.0) (route_is cost steps at t) is.1 in
    none_begins rest t begins none (route_of nodes cost steps at t is.0 (route_begins nodes cost steps at rest t begins read) whole).1)

-- more stands behind the end
pub route_behind : (nodes cost : ℕ) (steps : List ℕ) (at : List Potential) (rest behind : List ℕ) → RouteRead nodes cost steps at rest → rest ≡ end_line ++ behind → 0 < length behind
    → IsFaultLine (IsClaimText nodes) (route_whole cost steps at rest) (1 + (length steps + length at) + 1 + 1)
route_behind nodes cost steps at rest behind read ends some =
    let front = route_front cost steps at ++ end_line in
    let parts : route_whole cost steps at rest ≡ front ++ behind =
    sym (route_is cost steps at rest) ∙ ap (λ (t : List ℕ). route_front cost steps at ++ t) ends ∙ sym (append_assoc (route_front cost steps at) end_line behind) in
    stuck (IsClaimText nodes) (route_whole cost steps at rest) front behind [] (1 + (length steps + length at) + 1) parts
    (IsLines-append (1 + (length steps + length at)) 1 (route_front cost steps at) end_line (route_lines nodes cost steps at rest read) end_lines)
    (subst (IsClaimText nodes) (sym (append-nil front)) (route_ended nodes cost steps at rest read))
    (λ t begins is.
    let whole = subst (λ (x : List ℕ). IsClaim nodes x is.0) (append_assoc (route_front cost steps at) end_line t ∙ route_is cost steps at (end_line ++ t)) is.1 in
    too_long t (some_begins behind t begins some) (route_of nodes cost steps at (end_line ++ t) is.0 (route_ends nodes cost steps at rest t read) whole).1)

-- ---- no walk

nothing_front : List ℕ → List ℕ
nothing_front reached = none_line ++ flat_map reach_line reached

abbrev pub nothing_whole : List ℕ → List ℕ → List ℕ
nothing_whole reached rest = none_line ++ (flat_map reach_line reached ++ rest)

nothing_is : (reached rest : List ℕ) → nothing_front reached ++ rest ≡ nothing_whole reached rest
unfolding nothing_front
nothing_is reached rest = append_assoc none_line (flat_map reach_line reached) rest

nothing_lines : (nodes : ℕ) (reached rest : List ℕ) → NothingRead nodes reached rest → IsLines (1 + length reached) (nothing_front reached)
unfolding nothing_front
nothing_lines nodes reached rest read =
    IsLines-append 1 (length reached) none_line (flat_map reach_line reached) (IsLines-one (codes "none") (Lacks-test 10 (codes "none") refl))
    (IsLines-items reach_line reach_body (FitsNode nodes) reach_line_is (λ n fits. Lacks-reach_body n (omega (arith, fits.small))) reached read.fit)

nothing_ended : (nodes : ℕ) (reached rest : List ℕ) → NothingRead nodes reached rest → IsClaimText nodes (nothing_front reached ++ end_line)
nothing_ended nodes reached rest read =
    let claim : Claim = Nothing reached in
    (claim, record { spelled = nothing_is reached end_line; fits = nothing_fits nodes reached rest read })

-- neither a reached node nor the end
pub no_nothing_end : (nodes : ℕ) (reached rest : List ℕ) → NothingRead nodes reached rest → ((more : List ℕ) → rest ≡ end_line ++ more → ⊥)
    → IsFaultLine (IsClaimText nodes) (nothing_whole reached rest) (1 + length reached + 1)
no_nothing_end nodes reached rest read none =
    stuck (IsClaimText nodes) (nothing_whole reached rest) (nothing_front reached) rest end_line (1 + length reached) (sym (nothing_is reached rest))
    (nothing_lines nodes reached rest read) (nothing_ended nodes reached rest read)
    (λ t begins is.
    let whole = subst (λ (x : List ℕ). IsClaim nodes x is.0) (nothing_is reached t) is.1 in
    none_begins rest t begins none (nothing_of nodes reached t is.0 (nothing_begins nodes reached rest t begins read) whole).1)

pub nothing_behind : (nodes : ℕ) (reached rest behind : List ℕ) → NothingRead nodes reached rest → rest ≡ end_line ++ behind → 0 < length behind
    → IsFaultLine (IsClaimText nodes) (nothing_whole reached rest) (1 + length reached + 1 + 1)
nothing_behind nodes reached rest behind read ends some =
    let front = nothing_front reached ++ end_line in
    let parts : nothing_whole reached rest ≡ front ++ behind =
    sym (nothing_is reached rest) ∙ ap (λ (t : List ℕ). nothing_front reached ++ t) ends ∙ sym (append_assoc (nothing_front reached) end_line behind) in
    stuck (IsClaimText nodes) (nothing_whole reached rest) front behind [] (1 + length reached + 1) parts
    (IsLines-append (1 + length reached) 1 (nothing_front reached) end_line (nothing_lines nodes reached rest read) end_lines)
    (subst (IsClaimText nodes) (sym (append-nil front)) (nothing_ended nodes reached rest read))
    (λ t begins is.
    let whole = subst (λ (x : List ℕ). IsClaim nodes x is.0) (append_assoc (nothing_front reached) end_line t ∙ nothing_is reached (end_line ++ t)) is.1 in
    too_long t (some_begins behind t begins some) (nothing_of nodes reached (end_line ++ t) is.0 (nothing_ends nodes reached rest t read) whole).1)

-- ---- neither

-- the least claim there is
pub some_claim : (nodes : ℕ) → IsClaimText nodes (none_line ++ end_line)
some_claim nodes =
    let claim : Claim = Nothing [] in
    (claim, record { spelled = refl; fits = record { reached_fit = tt; ascends = λ k within. absurd (omega (arith, within)) } })

no_first : (nodes : ℕ) (t : List ℕ) → HasNone route_line FitsCost t → ((more : List ℕ) → t ≡ none_line ++ more → ⊥) → (claim : Claim) → IsClaim nodes t claim → ⊥
no_first nodes t no_route no_none (Route cost steps at) is = no_route cost _ is.fits.cost_fits is.spelled
no_first nodes t no_route no_none (Nothing reached) is = no_none _ is.spelled

-- a text without the first line of a claim
pub no_claim : (nodes : ℕ) (text : List ℕ) → HasNone route_line FitsCost text → ((more : List ℕ) → text ≡ none_line ++ more → ⊥) → IsFaultLine (IsClaimText nodes) text 1
no_claim nodes text no_route no_none =
    stuck (IsClaimText nodes) text [] text (none_line ++ end_line) 0 refl IsLines-none (some_claim nodes)
    (λ t begins is.
    no_first nodes t
    (HasNone-begins route_line route_body FitsCost route_line_is (λ n fits. Lacks-route_body n (omega (arith, fits))) text t begins no_route)
    (λ more e. HasNone-begins (λ (u : Unit {0}). none_line) (λ (u : Unit {0}). codes "none") (λ (u : Unit {0}). Unit {0}) (λ u. refl) (λ u fits. Lacks-test 10 (codes "none") refl) text t begins
    (λ u tail fits e'. no_none tail e') tt more tt e)
    is.0 is.1)

-- ---- the steps are fewer than the bytes

step_some : (k : ℕ) → 0 < length (step_line k)
unfolding step_line
step_some k = omega (arith, length-append (step_body k) (10 ∷ []))

pub few_steps : (text steps rest : List ℕ) → text ≡ flat_map step_line steps ++ rest → length text < 2 ^ 32 → length steps < 2 ^ 32
few_steps text steps rest parts small =
    omega (arith, ap (length {A = ℕ}) parts, length-append (flat_map step_line steps) rest, length-flat_map-le step_line step_some steps)
