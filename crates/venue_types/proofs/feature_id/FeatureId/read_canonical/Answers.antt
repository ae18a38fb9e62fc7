use Rattle.std.proofs.Common.{ℕ, true≢false, refl, ap, sym, subst, ◌∙◌, length, arith}
use Rattle.venue_types.specs.Identifier.{identifier_text}
use Rattle.venue_types.specs.Fours.{HasHyphens}
use Rattle.venue_types.proofs.IdentifierLemmas.{length-identifier_text}
use Rattle.venue_types.proofs.FourLemmas.{IsFours, hyphens_of, fours_of, text_of_fours, numbers_fit}
use Rattle.venue_types.proofs.feature_id.FeatureId.read_canonical.Goals as goal
use Rattle.venue_types.proofs.feature_id.FeatureId.read_canonical.Goals.{then-text-ne36-via-then-text-ne36, then-text-ne36-via-else-text-ne36+then-not-has_hyphens}

pub returns-then-text-ne36-clause-none : goal.returns-then-text-ne36-clause-none
unfolding identifier_text
returns-then-text-ne36-clause-none c = λ id fits e.
    elim c.then-text-ne36.branch [
      | then-text-ne36-via-then-text-ne36 w ↦ w.if-text-ne36.true (ap (length {A = ℕ}) e ∙ length-identifier_text id)
      | then-text-ne36-via-else-text-ne36+then-not-has_hyphens w ↦
          true≢false (sym (w.if-not-has_hyphens.ensures.1 (subst HasHyphens (sym e) (hyphens_of id.0))))
    ]

pub returns-then-a-b-clause-found : goal.returns-then-a-b-clause-found
unfolding identifier_text
returns-then-a-b-clause-found c =
    let first = c.four_digits-a.ensures.fits (omega (arith, c.if-a-b.true)) in
    let second = c.four_digits-b.ensures.fits (omega (arith, c.if-a-b.true)) in
    let third = c.four_digits-c.ensures.fits (omega (arith, c.if-a-b.true)) in
    let fourth = c.four_digits-d.ensures.fits (omega (arith, c.if-a-b.true)) in
    let fifth = c.four_digits-e.ensures.fits (omega (arith, c.if-a-b.true)) in
    let sixth = c.four_digits-f.ensures.fits (omega (arith, c.if-a-b.true)) in
    let seventh = c.four_digits-g.ensures.fits (omega (arith, c.if-a-b.true)) in
    let eighth = c.four_digits-h.ensures.fits (omega (arith, c.if-a-b.true)) in
    let hyphens : HasHyphens c.args.text.now = c.if-not-has_hyphens.ensures.0 refl in (
      text_of_fours c.args.text.now _ _ _ _ _ _ _ _ c.joined-high.result c.joined-low.result c.if-text-ne36.false hyphens first second third fourth fifth sixth seventh eighth c.joined-high.ensures c.joined-low.ensures,
      numbers_fit _ _ _ _ _ _ _ _ c.joined-high.result c.joined-low.result first.small second.small third.small fourth.small fifth.small sixth.small seventh.small eighth.small c.joined-high.ensures c.joined-low.ensures,
    )

pub returns-else-a-b-clause-none : goal.returns-else-a-b-clause-none
unfolding identifier_text
returns-else-a-b-clause-none c = λ id fits e.
    let fours : IsFours c.args.text.now id.0 = subst (λ text. IsFours text id.0) (sym e) (fours_of id.0) in
    let first = c.four_digits-a.ensures.read _ fours.first in
    let second = c.four_digits-b.ensures.read _ fours.second in
    let third = c.four_digits-c.ensures.read _ fours.third in
    let fourth = c.four_digits-d.ensures.read _ fours.fourth in
    let fifth = c.four_digits-e.ensures.read _ fours.fifth in
    let sixth = c.four_digits-f.ensures.read _ fours.sixth in
    let seventh = c.four_digits-g.ensures.read _ fours.seventh in
    let eighth = c.four_digits-h.ensures.read _ fours.eighth in
    omega (arith, c.if-a-b.false, first, second, third, fourth, fifth, sixth, seventh, eighth)
