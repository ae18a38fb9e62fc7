-- Where a text stops being a walk's over a table.
use Rattle.std.proofs.Common.{◌≡◌, ℕ, ◌+◌, ◌<◌, List, [], ◌∷◌, ◌++◌, length, refl, sym, ap, subst, ◌∙◌, append_assoc, arith, codes}
use Rattle.std.proofs.lemmas.List.{length-append, append-nil, append_cancel_left}
use Rattle.std.specs.List.{flat_map}
use Rattle.venue_types.specs.declared.feature_id.FeatureId.{FeatureId}
use Rattle.line_forms.specs.Lines.{line}
use Rattle.line_forms.specs.Faults.{IsLines, IsFaultLine}
use Rattle.line_forms.specs.Fronts.{HasNone}
use Rattle.line_forms.proofs.LineLemmas.{Lacks-test, line_front, lines_unique}
use Rattle.line_forms.proofs.FaultLemmas.{IsLines-one, IsLines-append, IsLines-items, first_faulty, other_head, next_faulty, HasNone-line}
use Rattle.route_certificate.specs.declared.table.Table.{Table}
use Rattle.route_certificate.specs.declared.table.WalkIn.{WalkIn}
use Rattle.route_certificate.specs.Forms.{from_line, from_body, step_line, step_body, end_line, walk_head, FitsStep, IsWalkText, IsWalkTextOver, FitsNode}
use Rattle.route_certificate.proofs.LineLemmas.{from_line_is, step_line_is, Lacks-from_body, Lacks-step_body}
use Rattle.route_certificate.proofs.WalkLemmas.{WalkRead, read_on, walk_of, no_step_behind, start_fits}

nowhere : (table : Table) (from : ℕ) → table.nodes ≡ [] → from < length table.nodes → ⊥
nowhere table from none within = omega (arith, within, ap (length {A = FeatureId}) none)

-- over a table without nodes no text is a walk's
pub no_nodes : (text : List ℕ) (table : Table) → table.nodes ≡ [] → IsFaultLine (IsWalkTextOver table) text 1
no_nodes text table none = first_faulty (IsWalkTextOver table) text (λ is. nowhere table is.0.from none is.1.fits.from) (λ body after more cut is. nowhere table is.0.from none is.1.fits.from)

-- a text without the first line of a walk
pub no_head : (text : List ℕ) (table : Table) → ((rest : List ℕ) → text ≡ walk_head ++ rest → ⊥) → IsFaultLine (IsWalkTextOver table) text 1
no_head text table none = other_head (IsWalkTextOver table) text (codes "imdf-walk 1") (Lacks-test 10 (codes "imdf-walk 1") refl) (λ whole is. (_, is.1.spelled)) none

head_lines : IsLines 1 walk_head
head_lines = IsLines-one (codes "imdf-walk 1") (Lacks-test 10 (codes "imdf-walk 1") refl)

-- a text whose second line is no start
pub no_start : (text rest : List ℕ) (table : Table) → 0 < length table.nodes → text ≡ walk_head ++ rest → HasNone from_line (FitsNode (length table.nodes)) rest
    → IsFaultLine (IsWalkTextOver table) text (1 + 1)
no_start text rest table some head none =
    let walk : WalkIn = record { from = 0; steps = [] } in
    next_faulty (IsWalkTextOver table) text walk_head rest (from_line 0 ++ end_line) 1 head head_lines
    (walk, record { spelled = refl; fits = record { from = some; small = omega arith; steps = tt } })
    (λ is. none is.0.from _ (start_fits table is.0 is.1.fits) (append_cancel_left walk_head rest _ (sym head ∙ is.1.spelled)))
    (λ body after more cut is.
    HasNone-line from_line from_body (FitsNode (length table.nodes)) from_line_is (λ n fits. Lacks-from_body n (omega (arith, fits.small))) rest body after more none cut
    is.0.from _ (start_fits table is.0 is.1.fits) (append_cancel_left walk_head (line body ++ more) _ is.1.spelled))

front_of : ℕ → List ℕ → List ℕ
front_of from steps = walk_head ++ (from_line from ++ flat_map step_line steps)

front_is : (from : ℕ) (steps rest : List ℕ) → front_of from steps ++ rest ≡ walk_head ++ (from_line from ++ (flat_map step_line steps ++ rest))
unfolding front_of
front_is from steps rest =
    append_assoc walk_head (from_line from ++ flat_map step_line steps) rest
    ∙ ap (λ (t : List ℕ). walk_head ++ t) (append_assoc (from_line from) (flat_map step_line steps) rest)

-- as many lines as steps, and the first two
front_lines : (text : List ℕ) (nodes from : ℕ) (steps rest : List ℕ) → WalkRead text nodes from steps rest → IsLines (1 + (1 + length steps)) (front_of from steps)
unfolding front_of
front_lines text nodes from steps rest read =
    IsLines-append 1 (1 + length steps) walk_head (from_line from ++ flat_map step_line steps) head_lines
    (IsLines-append 1 (length steps) (from_line from) (flat_map step_line steps)
    (subst (IsLines 1) (sym (from_line_is from)) (IsLines-one (from_body from) (Lacks-from_body from (omega (arith, read.start.small)))))
    (IsLines-items step_line step_body FitsStep step_line_is (λ k fits. Lacks-step_body k (omega (arith, fits))) steps read.steps_fit))

-- what was read, and the line `end`, is a walk's text
ended : (text : List ℕ) (table : Table) (from : ℕ) (steps rest : List ℕ) → WalkRead text (length table.nodes) from steps rest → IsWalkTextOver table (front_of from steps ++ end_line)
ended text table from steps rest read =
    let walk : WalkIn = record { from = from; steps = steps } in
    (walk, record { spelled = front_is from steps end_line; fits = record { from = read.start.node; small = read.start.small; steps = read.steps_fit } })

-- neither a step nor the end
pub no_end : (text : List ℕ) (table : Table) (from : ℕ) (steps rest : List ℕ) → WalkRead text (length table.nodes) from steps rest → ((more : List ℕ) → rest ≡ end_line ++ more → ⊥)
    → IsFaultLine (IsWalkTextOver table) text (1 + (1 + length steps) + 1)
no_end text table from steps rest read none =
    next_faulty (IsWalkTextOver table) text (front_of from steps) rest end_line (1 + (1 + length steps)) (read.parts ∙ sym (front_is from steps rest))
    (front_lines text (length table.nodes) from steps rest read) (ended text table from steps rest read)
    (λ is. none [] (walk_of text table from steps rest is.0 read is.1).rest_is)
    (λ body after more cut is.
    let whole = subst (λ (t : List ℕ). IsWalkText t table is.0) (front_is from steps (line body ++ more)) is.1 in
    let same = walk_of _ table from steps (line body ++ more) is.0 (read_on text (length table.nodes) from steps rest body after more read cut) whole in
    let words = lines_unique body (codes "end") more [] cut.first (Lacks-test 10 (codes "end") refl) same.rest_is in
    none after (cut.parts ∙ sym (line_front body after) ∙ ap (λ (t : List ℕ). line t ++ after) words.0))

too_long : (behind : List ℕ) → 0 < length behind → end_line ++ behind ≡ end_line → ⊥
too_long behind some e = omega (arith, ap (length {A = ℕ}) e, length-append end_line behind)

line_some : (body more : List ℕ) → 0 < length (line body ++ more)
line_some body more = omega (arith, length-append (line body) more, length-append body (10 ∷ []))

-- more stands behind the end
pub text_behind : (text : List ℕ) (table : Table) (from : ℕ) (steps rest behind : List ℕ) → WalkRead text (length table.nodes) from steps rest → rest ≡ end_line ++ behind → 0 < length behind
    → IsFaultLine (IsWalkTextOver table) text (1 + (1 + length steps) + 1 + 1)
text_behind text table from steps rest behind read ends some =
    let front = front_of from steps ++ end_line in
    let whole : text ≡ front ++ behind =
    read.parts ∙ sym (front_is from steps rest) ∙ ap (λ (t : List ℕ). front_of from steps ++ t) ends ∙ sym (append_assoc (front_of from steps) end_line behind) in
    next_faulty (IsWalkTextOver table) text front behind [] (1 + (1 + length steps) + 1) whole
    (IsLines-append (1 + (1 + length steps)) 1 (front_of from steps) end_line (front_lines text (length table.nodes) from steps rest read)
    (IsLines-one (codes "end") (Lacks-test 10 (codes "end") refl)))
    (subst (IsWalkTextOver table) (sym (append-nil front)) (ended text table from steps rest read))
    (λ is. too_long behind some (sym ends ∙ (walk_of text table from steps rest is.0 read is.1).rest_is))
    (λ body after more cut is.
    let more' = line body ++ more in
    let as_read = subst (λ (t : List ℕ). IsWalkText t table is.0) (append_assoc (front_of from steps) end_line more' ∙ front_is from steps (end_line ++ more')) is.1 in
    let same = walk_of _ table from steps (end_line ++ more') is.0 (record { parts = refl; start = read.start; steps_fit = read.steps_fit; no_step = no_step_behind more' }) as_read in
    too_long more' (line_some body more) same.rest_is)

counted : (nodes : List FeatureId) → (nodes ≡ [] → ⊥) → 0 < length nodes
counted [] some = absurd (some refl)
counted (x ∷ nodes) some = omega arith

pub some_nodes : (table : Table) → (table.nodes ≡ [] → ⊥) → 0 < length table.nodes
some_nodes table some = counted table.nodes some
