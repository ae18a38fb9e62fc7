-- Where a text stops being an answer's over a table.
use Rattle.std.proofs.Common.{◌≡◌, ℕ, ◌+◌, ◌<◌, List, [], ◌++◌, length, refl, sym, ap, subst, ◌∙◌, append_assoc, arith, codes}
use Rattle.std.proofs.lemmas.List.{append_cancel_left}
use Rattle.venue_types.specs.declared.feature_id.FeatureId.{FeatureId}
use Rattle.line_forms.specs.Faults.{IsLines, IsFaultLine}
use Rattle.line_forms.specs.Fronts.{HasNone}
use Rattle.line_forms.proofs.LineLemmas.{Lacks-test}
use Rattle.line_forms.proofs.FaultLemmas.{IsLines-one, IsLines-append, first_faulty, other_head}
use Rattle.route_certificate.specs.declared.table.Table.{Table}
use Rattle.route_certificate.specs.declared.answer.AnswerIn.{AnswerIn}
use Rattle.route_certificate.specs.Forms.{from_line, from_body, end_line, FitsNode}
use Rattle.route_certificate.specs.Answers.{answer_head, to_line, to_body, none_line, claim_text, IsAnswerText, IsAnswerTextOver}
use Rattle.route_certificate.specs.AnswerFronts.{IsClaim, IsClaimText}
use Rattle.route_certificate.proofs.LineLemmas.{from_line_is, from_unique, Lacks-from_body}
use Rattle.route_certificate.proofs.AnswerLines.{to_line_is, to_unique, Lacks-to_body}
use Rattle.line_forms.proofs.Stuck.{stuck, HasNone-begins, fault_behind}
use Rattle.route_certificate.proofs.ClaimLemmas.{one_claim}
use Rattle.route_certificate.proofs.ClaimFaults.{some_claim}

nowhere : (table : Table) (n : ℕ) → table.nodes ≡ [] → n < length table.nodes → ⊥
nowhere table n none within = omega (arith, within, ap (length {A = FeatureId}) none)

-- over a table without nodes no text is an answer's
pub no_nodes : (text : List ℕ) (table : Table) → table.nodes ≡ [] → IsFaultLine (IsAnswerTextOver table) text 1
no_nodes text table none =
    first_faulty (IsAnswerTextOver table) text (λ is. nowhere table is.0.from none is.1.fits.from.node) (λ body after more cut is. nowhere table is.0.from none is.1.fits.from.node)

-- a text without the first line of an answer
pub no_head : (text : List ℕ) (table : Table) → ((rest : List ℕ) → text ≡ answer_head ++ rest → ⊥) → IsFaultLine (IsAnswerTextOver table) text 1
no_head text table none =
    other_head (IsAnswerTextOver table) text (codes "imdf-answer 1") (Lacks-test 10 (codes "imdf-answer 1") refl) (λ whole is. (_, is.1.spelled)) none

-- ---- the first three lines

head_lines : IsLines 1 answer_head
head_lines = IsLines-one (codes "imdf-answer 1") (Lacks-test 10 (codes "imdf-answer 1") refl)

from_lines : (nodes from : ℕ) → FitsNode nodes from → IsLines 2 (answer_head ++ from_line from)
from_lines nodes from fits =
    IsLines-append 1 1 answer_head (from_line from) head_lines (subst (IsLines 1) (sym (from_line_is from)) (IsLines-one (from_body from) (Lacks-from_body from (omega (arith, fits.small)))))

head_front : ℕ → ℕ → List ℕ
head_front from to = answer_head ++ (from_line from ++ to_line to)

head_is : (from to : ℕ) (t : List ℕ) → head_front from to ++ t ≡ answer_head ++ (from_line from ++ (to_line to ++ t))
unfolding head_front
head_is from to t = append_assoc answer_head (from_line from ++ to_line to) t ∙ ap (λ (x : List ℕ). answer_head ++ x) (append_assoc (from_line from) (to_line to) t)

to_lines : (nodes from to : ℕ) → FitsNode nodes from → FitsNode nodes to → IsLines 3 (head_front from to)
unfolding head_front
to_lines nodes from to fits fits' =
    IsLines-append 1 2 answer_head (from_line from ++ to_line to) head_lines
    (IsLines-append 1 1 (from_line from) (to_line to) (subst (IsLines 1) (sym (from_line_is from)) (IsLines-one (from_body from) (Lacks-from_body from (omega (arith, fits.small)))))
    (subst (IsLines 1) (sym (to_line_is to)) (IsLines-one (to_body to) (Lacks-to_body to (omega (arith, fits'.small))))))

-- ---- what stands behind them

-- an answer's text with this front has its nodes, and goes on with its claim
pub record SameHead (nodes from to : ℕ) (t : List ℕ) (answer : AnswerIn) : Type 0 where
  pub from_is : from ≡ answer.from
  pub to_is : to ≡ answer.to
  pub claim_is : IsClaim nodes t answer.claim

pub answer_behind : (table : Table) (from to : ℕ) (t : List ℕ) (answer : AnswerIn) → FitsNode (length table.nodes) from → FitsNode (length table.nodes) to
    → IsAnswerText (answer_head ++ (from_line from ++ (to_line to ++ t))) table answer → SameHead (length table.nodes) from to t answer
answer_behind table from to t answer fits fits' is =
    let one = from_unique (length table.nodes) from answer.from (to_line to ++ t) (to_line answer.to ++ claim_text answer.claim) fits is.fits.from
    (append_cancel_left answer_head (from_line from ++ (to_line to ++ t)) (from_line answer.from ++ (to_line answer.to ++ claim_text answer.claim)) is.spelled) in
    let two = to_unique (length table.nodes) to answer.to t (claim_text answer.claim) fits' is.fits.to one.1 in
    record { from_is = one.0; to_is = two.0; claim_is = record { spelled = two.1; fits = is.fits.claim } }

claim_goes_on : (table : Table) (from to : ℕ) → FitsNode (length table.nodes) from → FitsNode (length table.nodes) to → (t : List ℕ) → IsClaimText (length table.nodes) t → IsAnswerTextOver table (head_front from to ++ t)
claim_goes_on table from to fits fits' t is =
    let answer : AnswerIn = record { from = from; to = to; claim = is.0 } in (
      answer,
      record {
        spelled = head_is from to t ∙ ap (λ (x : List ℕ). answer_head ++ (from_line from ++ (to_line to ++ x))) is.1.spelled;
        fits = record { from = fits; to = fits'; claim = is.1.fits };
      },
    )

-- the faulty line of what should be the claim
pub claim_fault : (text rest : List ℕ) (table : Table) (from to n : ℕ) → FitsNode (length table.nodes) from → FitsNode (length table.nodes) to
    → text ≡ answer_head ++ (from_line from ++ (to_line to ++ rest)) → IsFaultLine (IsClaimText (length table.nodes)) rest n → IsFaultLine (IsAnswerTextOver table) text (3 + n)
claim_fault text rest table from to n fits fits' parts fault =
    fault_behind (IsAnswerTextOver table) (IsClaimText (length table.nodes)) text (head_front from to) rest (none_line ++ end_line) 3 n (parts ∙ sym (head_is from to rest))
    (to_lines (length table.nodes) from to fits fits') (claim_goes_on table from to fits fits')
    (λ t is.
    let same = answer_behind table from to t is.0 fits fits' (subst (λ (x : List ℕ). IsAnswerText x table is.0) (head_is from to t) is.1) in
    (is.0.claim, same.claim_is))
    (some_claim (length table.nodes)) fault

-- ---- no second or third line

first_node : (table : Table) → 0 < length table.nodes → FitsNode (length table.nodes) 0
first_node table some = record { node = some; small = omega arith }

-- a text whose second line is no start
pub no_start : (text rest : List ℕ) (table : Table) → 0 < length table.nodes → text ≡ answer_head ++ rest → HasNone from_line (FitsNode (length table.nodes)) rest
    → IsFaultLine (IsAnswerTextOver table) text 2
no_start text rest table some head none =
    stuck (IsAnswerTextOver table) text answer_head rest (from_line 0 ++ (to_line 0 ++ (none_line ++ end_line))) 1 head head_lines
    (subst (IsAnswerTextOver table) (head_is 0 0 (none_line ++ end_line)) (claim_goes_on table 0 0 (first_node table some) (first_node table some) (none_line ++ end_line) (some_claim (length table.nodes))))
    (λ t begins is.
    HasNone-begins from_line from_body (FitsNode (length table.nodes)) from_line_is (λ n fits. Lacks-from_body n (omega (arith, fits.small))) rest t begins none
    is.0.from _ is.1.fits.from (append_cancel_left answer_head t _ is.1.spelled))

-- a text whose third line is no end
pub no_finish : (text rest : List ℕ) (table : Table) (from : ℕ) → FitsNode (length table.nodes) from → text ≡ answer_head ++ (from_line from ++ rest) → HasNone to_line (FitsNode (length table.nodes)) rest
    → IsFaultLine (IsAnswerTextOver table) text 3
no_finish text rest table from fits head none =
    let front = answer_head ++ from_line from in
    let more = to_line from ++ (none_line ++ end_line) in
    stuck (IsAnswerTextOver table) text front rest more 2 (head ∙ sym (append_assoc answer_head (from_line from) rest)) (from_lines (length table.nodes) from fits)
    (subst (IsAnswerTextOver table) (head_is from from (none_line ++ end_line) ∙ sym (append_assoc answer_head (from_line from) more))
    (claim_goes_on table from from fits fits (none_line ++ end_line) (some_claim (length table.nodes))))
    (λ t begins is.
    let one = from_unique (length table.nodes) from is.0.from t (to_line is.0.to ++ claim_text is.0.claim) fits is.1.fits.from
    (append_cancel_left answer_head (from_line from ++ t) (from_line is.0.from ++ (to_line is.0.to ++ claim_text is.0.claim)) (sym (append_assoc answer_head (from_line from) t) ∙ is.1.spelled)) in
    HasNone-begins to_line to_body (FitsNode (length table.nodes)) to_line_is (λ n fits'. Lacks-to_body n (omega (arith, fits'.small))) rest t begins none
    is.0.to (claim_text is.0.claim) is.1.fits.to one.1)

-- ---- a text is that of at most one answer

answer_same : (a b : AnswerIn) → a.from ≡ b.from → a.to ≡ b.to → a.claim ≡ b.claim → a ≡ b
answer_same a b p q r = λ i. record { from = p i; to = q i; claim = r i }

pub one_answer : (text : List ℕ) (table : Table) (a b : AnswerIn) → IsAnswerText text table a → IsAnswerText text table b → a ≡ b
one_answer text table a b p q =
    let same = answer_behind table a.from a.to (claim_text a.claim) b p.fits.from p.fits.to (subst (λ (t : List ℕ). IsAnswerText t table b) p.spelled q) in
    let mine : IsClaim (length table.nodes) (claim_text a.claim) a.claim = record { spelled = refl; fits = p.fits.claim } in
    answer_same a b same.from_is same.to_is (one_claim (length table.nodes) (claim_text a.claim) a.claim b.claim mine same.claim_is)
