use Rattle.std.proofs.Common.{◌≡◌, ◌∙◌, ◌-◌, ℕ, List, true, false, cond, suc, drop, sym, ap, subst, arith}
use Rattle.std.specs.Str.{bytes_eq}
use Rattle.exact_json.specs.View.{pair_view, members_view}
use Rattle.imdf_schema.specs.Values.{is_text}
use Rattle.imdf_schema.specs.Names.{has_name}
use Rattle.imdf_schema.proofs.Names.{AreSeen, was_new, had_it, new_fails, seen_more, none_past, none_seen, texts_count}
use Rattle.imdf_schema.proofs.texts.last_are_texts.Goals as goal
use Rattle.imdf_schema.proofs.texts.last_are_texts.Goals.{else-branch-via-then-branch+else-not-is_text, else-branch-via-else-branch}

pub loop-left-init : goal.loop-left-init
loop-left-init c = (omega arith, none_seen c.new-names.result _ (none_past c.args.pairs.now) c.new-names.ensures.empty)

pub returns-then-not-is_text : goal.returns-then-not-is_text
returns-then-not-is_text c =
    let xs = c.args.pairs.now in
    let i = c.loop-left.left - 1 in
    let x = c.pair_at-pair.result.now in
    let names = c.loop-left.names in
    let at = ap members_view c.pair_at-pair.ensures in
    let next : c.loop-left.left ≡ suc i = omega arith in
    let seen = subst (λ (n : ℕ). AreSeen names (members_view (drop n xs))) next c.loop-left.invariant.1 in
    let new = was_new c.in_ok-is_new.field-0 (has_name names c.bytes.result.now) c.in_ok-is_new.ensures.new c.if-branch.true in
    let first : has_name names (pair_view x).0 ≡ false = ap (has_name names) (sym c.bytes.ensures) ∙ new in
    let fails : is_text (pair_view x).1 ≡ false = sym c.is_text.ensures ∙ c.if-not-is_text.true in
    sym (new_fails names xs i (pair_view x).0 (pair_view x).1 at seen first fails)

pub loop-left-preserved : goal.loop-left-preserved
loop-left-preserved c =
    let xs = c.args.pairs.now in
    let i = c.loop-left.left - 1 in
    let x = c.pair_at-pair.result.now in
    let names = c.loop-left.names in
    let at = ap members_view c.pair_at-pair.ensures in
    let next : c.loop-left.left ≡ suc i = omega arith in
    let seen = subst (λ (n : ℕ). AreSeen names (members_view (drop n xs))) next c.loop-left.invariant.1 in
    let Text : Type 0 = has_name names c.bytes.result.now ≡ false → is_text (pair_view x).1 ≡ true in
    let text : Text = elim c.else-branch.branch [
      | else-branch-via-then-branch+else-not-is_text w ↦ λ first. sym w.is_text.ensures ∙ w.if-not-is_text.false
      | else-branch-via-else-branch w ↦ λ first. let had = had_it c.in_ok-is_new.field-0 (has_name names c.bytes.result.now) c.in_ok-is_new.ensures.new w.if-branch.false in cc
    ] in
    let N : List ℕ → Type 0 = λ name. ((other : List ℕ) → has_name c.is_new.new.names other ≡ cond (bytes_eq name other) true (has_name names other)) in (
      omega arith,
      subst (AreSeen c.is_new.new.names) (sym at)
          (seen_more names c.is_new.new.names (members_view (drop (suc i) xs)) (pair_view x).0 (pair_view x).1 seen (subst N c.bytes.ensures c.in_ok-is_new.ensures.names) (λ e. text (ap (has_name names) c.bytes.ensures ∙ e))),
    )

pub returns : goal.returns
returns c =
    let xs = c.args.pairs.now in
    let start : c.loop-left.left ≡ 0 = omega arith in
    let seen = subst (λ (n : ℕ). AreSeen c.loop-left.names (members_view (drop n xs))) start c.loop-left.invariant.1 in
    sym (texts_count (members_view xs) seen.texts)
