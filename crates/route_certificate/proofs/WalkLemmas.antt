-- What was read of a walk is what any walk with this text has.
use Rattle.std.proofs.Common.{◌≡◌, ℕ, ◌^◌, ◌<◌, List, [], ◌∷◌, ◌++◌, length, refl, sym, ap, ◌∙◌, arith}
use Rattle.std.proofs.lemmas.List.{append_cancel_left, length-append}
use Rattle.std.specs.List.{flat_map, AllByRecursion}
use Rattle.line_forms.specs.Lines.{line}
use Rattle.line_forms.specs.Fronts.{HasNone, IsSplitAt, IsFront}
use Rattle.line_forms.proofs.ListLemmas.{fronts_agree, differ, length-flat_map-le}
use Rattle.line_forms.proofs.FaultLemmas.{HasNone-line}
use Rattle.route_certificate.specs.declared.table.Table.{Table}
use Rattle.route_certificate.specs.declared.table.WalkIn.{WalkIn}
use Rattle.route_certificate.specs.Forms.{from_line, step_line, step_body, end_line, walk_head, FitsStep, FitsWalk, IsWalkText, FitsNode}
use Rattle.route_certificate.proofs.LineLemmas.{from_unique, step_unique, step_line_is, Lacks-step_body}

pub no_step_behind : (tail : List ℕ) → HasNone step_line FitsStep (end_line ++ tail)
unfolding step_line
no_step_behind tail x more fits e = differ 101 115 _ _ e (λ h. omega arith)

pub start_fits : (table : Table) (walk : WalkIn) → FitsWalk table walk → FitsNode (length table.nodes) walk.from
start_fits table walk fits = record { node = fits.from; small = fits.small }

-- how far a walk's text was read
pub record WalkRead (text : List ℕ) (nodes from : ℕ) (steps : List ℕ) (rest : List ℕ) : Type 0 where
  pub parts : text ≡ walk_head ++ (from_line from ++ (flat_map step_line steps ++ rest))
  pub start : FitsNode nodes from
  pub steps_fit : AllByRecursion FitsStep steps
  pub no_step : HasNone step_line FitsStep rest

pub walk_read : (text rest more end : List ℕ) (nodes from : ℕ) (steps : List ℕ) → text ≡ walk_head ++ rest → rest ≡ from_line from ++ more → FitsNode nodes from
    → IsFront step_line FitsStep steps more end → WalkRead text nodes from steps end
walk_read text rest more end nodes from steps head first start front = record {
  parts = head ∙ ap (λ (t : List ℕ). walk_head ++ t) (first ∙ ap (λ (t : List ℕ). from_line from ++ t) front.parts);
  start = start;
  steps_fit = front.fit;
  no_step = front.all;
}

-- the same where the rest is another text with the same first line
pub read_on : (text : List ℕ) (nodes from : ℕ) (steps : List ℕ) (rest body after more : List ℕ) → WalkRead text nodes from steps rest → IsSplitAt 10 rest body after
    → WalkRead (walk_head ++ (from_line from ++ (flat_map step_line steps ++ (line body ++ more)))) nodes from steps (line body ++ more)
read_on text nodes from steps rest body after more read cut = record {
  parts = refl;
  start = read.start;
  steps_fit = read.steps_fit;
  no_step = HasNone-line step_line step_body FitsStep step_line_is (λ k fits. Lacks-step_body k (omega (arith, fits))) rest body after more read.no_step cut;
}

pub record SameWalk (from : ℕ) (steps rest : List ℕ) (walk : WalkIn) : Type 0 where
  pub from_is : from ≡ walk.from
  pub steps_are : steps ≡ walk.steps
  pub rest_is : rest ≡ end_line

pub walk_of : (text : List ℕ) (table : Table) (from : ℕ) (steps rest : List ℕ) (walk : WalkIn) → WalkRead text (length table.nodes) from steps rest → IsWalkText text table walk → SameWalk from steps rest walk
walk_of text table from steps rest walk read is =
    let one = from_unique (length table.nodes) from walk.from (flat_map step_line steps ++ rest) (flat_map step_line walk.steps ++ end_line) read.start (start_fits table walk is.fits)
    (append_cancel_left walk_head (from_line from ++ (flat_map step_line steps ++ rest)) (from_line walk.from ++ (flat_map step_line walk.steps ++ end_line)) (sym read.parts ∙ is.spelled)) in
    let both = fronts_agree step_line FitsStep step_unique steps walk.steps rest end_line read.steps_fit is.fits.steps read.no_step (no_step_behind []) one.1 in
    record { from_is = one.0; steps_are = both.0; rest_is = both.1 }

walk_same : (a b : WalkIn) → a.from ≡ b.from → a.steps ≡ b.steps → a ≡ b
walk_same a b p q = λ i. record { from = p i; steps = q i }

pub one_walk : (text : List ℕ) (table : Table) (a b : WalkIn) → IsWalkText text table a → IsWalkText text table b → a ≡ b
one_walk text table a b p q =
    let same = walk_of text table a.from a.steps end_line b (record {
      parts = p.spelled;
      start = start_fits table a p.fits;
      steps_fit = p.fits.steps;
      no_step = no_step_behind [];
    }) q in
    walk_same a b same.from_is same.steps_are

-- ---- the steps are fewer than the bytes

step_some : (k : ℕ) → 0 < length (step_line k)
unfolding step_line
step_some k = omega (arith, length-append (step_body k) (10 ∷ []))

pub few_steps : (text : List ℕ) (nodes from : ℕ) (steps rest : List ℕ) → WalkRead text nodes from steps rest → length text < 2 ^ 32 → length steps < 2 ^ 32
few_steps text nodes from steps rest read small =
    omega (
      arith,
      ap (length {A = ℕ}) read.parts,
      length-append walk_head (from_line from ++ (flat_map step_line steps ++ rest)),
      length-append (from_line from) (flat_map step_line steps ++ rest),
      length-append (flat_map step_line steps) rest,
      length-flat_map-le step_line step_some steps,
    )
