use Rattle.std.proofs.Common.{ap, ◌∙◌, subst, arith, rules}
use Rattle.std.specs.Str.{IsUtf8}
use Rattle.exact_json.specs.View.{tree_view}
use Rattle.exact_json.specs.Grammar.{Answers}
use Rattle.exact_json.specs.Reading.{skip}
use Rattle.exact_json.proofs.Document.{whole, is_json, if_ok}
use Rattle.exact_json.proofs.Sizes.{narrow_text}
use Rattle.exact_json.proofs.Utf8.{texts_of}
use Rattle.exact_json.specs.Slices.{texts_of as tree_texts}
use Rattle.exact_json.proofs.Slices.{whole_text}
use Rattle.exact_json.proofs.whole.read.Goals as goal

pub returns-clause-ok : goal.returns-clause-ok
returns-clause-ok c =
    let u : IsUtf8 c.bare-text.result.now = first_of (search rules, grind arith) in
    let at = c.skip_spaces.ensures.value ∙ ap skip c.bare-text.ensures in
    if_ok c.read_start.result (λ t h. (is_json c.args.bytes.now c.skip_spaces.result.now (tree_view t) (subst IsUtf8 c.bare-text.ensures u) at h.0, h.1)) c.read_start.ensures.found

pub returns-clause-text : goal.returns-clause-text
returns-clause-text c = λ err j h.
    let w = whole c.args.bytes.now c.skip_spaces.result.now j h (c.skip_spaces.ensures.value ∙ ap skip c.bare-text.ensures) in
    subst (Answers j) err (c.read_start.ensures.only j w.0 w.1 w.2)

pub returns-clause-only : goal.returns-clause-only
returns-clause-only c = λ j h.
    let w = whole c.args.bytes.now c.skip_spaces.result.now j h (c.skip_spaces.ensures.value ∙ ap skip c.bare-text.ensures) in
    c.read_start.ensures.only j w.0 w.1 w.2

pub returns-clause-deep : goal.returns-clause-deep
returns-clause-deep c = λ deep.
    let u : IsUtf8 c.bare-text.result.now = first_of (search rules, grind arith) in
    let at = c.skip_spaces.ensures.value ∙ ap skip c.bare-text.ensures in
    let h = c.read_start.ensures.deep deep in
    (h.0, is_json c.args.bytes.now c.skip_spaces.result.now h.0 (subst IsUtf8 c.bare-text.ensures u) at h.1, h.2)

pub returns-clause-narrow : goal.returns-clause-narrow
returns-clause-narrow c =
    let u : IsUtf8 c.bare-text.result.now = first_of (search rules, grind arith) in
    let at = c.skip_spaces.ensures.value ∙ ap skip c.bare-text.ensures in
    if_ok c.read_start.result (λ t h. narrow_text c.args.bytes.now (tree_view t) (is_json c.args.bytes.now c.skip_spaces.result.now (tree_view t) (subst IsUtf8 c.bare-text.ensures u) at h.0)) c.read_start.ensures.found

pub returns-clause-texts : goal.returns-clause-texts
returns-clause-texts c =
    let u : IsUtf8 c.bare-text.result.now = first_of (search rules, grind arith) in
    let at = c.skip_spaces.ensures.value ∙ ap skip c.bare-text.ensures in
    if_ok c.read_start.result (λ t h. texts_of c.args.bytes.now (tree_view t) (is_json c.args.bytes.now c.skip_spaces.result.now (tree_view t) (subst IsUtf8 c.bare-text.ensures u) at h.0)) c.read_start.ensures.found

pub returns-clause-slices : goal.returns-clause-slices
returns-clause-slices c = if_ok c.read_start.result (λ t h. whole_text (tree_texts t) c.args.bytes.now c.skip_spaces.result.now (c.skip_spaces.ensures.value ∙ ap skip c.bare-text.ensures) h) c.read_start.ensures.slices
