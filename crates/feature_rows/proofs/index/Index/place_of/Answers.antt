use Rattle.std.proofs.Common.{◌≡◌, ◌≤◌, List, Some, length, refl, sym, subst, ◌∙◌, eq-eqb, true≢false}
use Rattle.std.specs.Prelude.{slice_get}
use Rattle.std.proofs.lemmas.Bool.{eqb-true}
use Rattle.std.proofs.lemmas.Option.{slice_get_read}
use Rattle.feature_rows.specs.declared.index.Entry.{Entry}
use Rattle.feature_rows.specs.Entries.{IsFront}
use Rattle.feature_rows.specs.Indexes.{place_of}
use Rattle.feature_rows.proofs.Entries.{met, missed, ran_out}
use Rattle.feature_rows.proofs.index.Index.place_of.Goals as goal

pub returns-then-eq : goal.returns-then-eq
unfolding place_of
returns-then-eq c =
    let es = c.args.self.now.entries.items in
    let at = c.lesser_count.result in
    let e = c.in_ok-first.first.now in
    let there : slice_get es at ≡ Some e = subst (λ (xs : List Entry). slice_get xs at ≡ Some e) c.deref.ensures.value (slice_get_read c.deref.result.now (length c.deref.result.now) at e refl c.in_ok-first.ensures.lookup.3.0 c.in_ok-first.ensures.lookup.1) in
    met es at e c.args.id (subst (λ (xs : List Entry). IsFront xs c.args.id at) c.deref-2.ensures.value c.lesser_count.ensures) there (eqb-true e.id.0 c.args.id.0 (sym c.eq.ensures ∙ c.if-eq.true))

pub returns-else-eq : goal.returns-else-eq
unfolding place_of
returns-else-eq c =
    let es = c.args.self.now.entries.items in
    let at = c.lesser_count.result in
    let e = c.in_ok-first.first.now in
    let there : slice_get es at ≡ Some e = subst (λ (xs : List Entry). slice_get xs at ≡ Some e) c.deref.ensures.value (slice_get_read c.deref.result.now (length c.deref.result.now) at e refl c.in_ok-first.ensures.lookup.3.0 c.in_ok-first.ensures.lookup.1) in
    missed es at e c.args.id c.args.self.now.rising (subst (λ (xs : List Entry). IsFront xs c.args.id at) c.deref-2.ensures.value c.lesser_count.ensures) there
    (λ same. true≢false (sym (eq-eqb e.id.0 c.args.id.0 same) ∙ sym c.eq.ensures ∙ c.if-eq.false))

pub returns-in_err-first : goal.returns-in_err-first
unfolding place_of
returns-in_err-first c =
    let es = c.args.self.now.entries.items in
    let at = c.lesser_count.result in
    let past : length es ≤ at = subst (λ (xs : List Entry). length xs ≤ at) c.deref.ensures.value c.in_err-first.ensures.lookup.3 in
    c.from_residual.ensures ∙ ran_out es at c.args.id (subst (λ (xs : List Entry). IsFront xs c.args.id at) c.deref-2.ensures.value c.lesser_count.ensures) past
