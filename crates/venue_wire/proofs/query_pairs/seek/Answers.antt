use Rattle.std.proofs.Common.{◌∷◌, [], List, ℕ, map, ap, sym, subst, ◌∙◌}
use Rattle.form_urlencoded.specs.Form.{raw_pairs}
use Rattle.venue_wire.specs.Finding.{raw_values}
use Rattle.venue_wire.specs.Queries.{text_of}
use Rattle.wire_frames.specs.Outcomes.{AreValues}
use Rattle.venue_wire.proofs.ValueLemmas.{decoded_of, two_values}
use Rattle.venue_wire.proofs.query_pairs.seek.Goals as goal

pub returns-in-Absent-clause-texts : goal.returns-in-Absent-clause-texts
returns-in-Absent-clause-texts c =
    let values = raw_values c.args.key.now (raw_pairs c.args.query.now) in
    let found = subst (λ n. AreValues n values) c.in-Absent.is c.in_ok-find_values.ensures in
    decoded_of c.args.key.now c.args.query.now ∙ ap (λ (vs : List (List ℕ)). map text_of vs) found

pub returns-in_ok-text-in-Once-clause-texts : goal.returns-in_ok-text-in-Once-clause-texts
returns-in_ok-text-in-Once-clause-texts c =
    let values = raw_values c.args.key.now (raw_pairs c.args.query.now) in
    let found = subst (λ n. AreValues n values) c.in-Once.is c.in_ok-find_values.ensures in
    decoded_of c.args.key.now c.args.query.now ∙ ap (λ (vs : List (List ℕ)). map text_of vs) found
    ∙ ap (λ (text : List ℕ). text ∷ []) (sym c.in_ok-text-in-Once.ensures.value.2)

pub returns-in-Several-clause-texts : goal.returns-in-Several-clause-texts
returns-in-Several-clause-texts c =
    let values = raw_values c.args.key.now (raw_pairs c.args.query.now) in
    let found = subst (λ n. AreValues n values) c.in-Several.is c.in_ok-find_values.ensures in
    let two = two_values values found in
    (two.0, two.1, two.2, decoded_of c.args.key.now c.args.query.now ∙ two.3)
