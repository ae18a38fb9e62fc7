use Rattle.std.proofs.Common.{◌≡◌, ◌≢◌, ℕ, suc, ◌-◌, ◌≤◌, [], ◌∷◌, ◌++◌, length, map, Some, sym, ap, ◌∙◌, subst, arith, rules}
use Rattle.std.proofs.lemmas.Result.{err_from_is_err_and}
use Rattle.exact_json.specs.View.{tree_view, pair_view}
use Rattle.exact_json.specs.Number.{head}
use Rattle.exact_json.specs.Slices.{texts_of, pair_texts, items_texts, members_texts, AreTextsBefore}
use Rattle.exact_json.specs.Reading.{elements_at, pair_at, value}
use Rattle.exact_json.proofs.Turns.{first_turn, next_turn, last_elements, last_texts, bad, lost}
use Rattle.exact_json.proofs.Lists.{no_elements, list_too_deep, object_too_deep, carry, carry_up, list_is, object_is, no_list, no_object, scalar_is}
use Rattle.exact_json.proofs.Slices.{joins, spaces, one_byte, spaced_byte}
use Rattle.exact_json.proofs.values.+read.Goals as goal

-- ---- a value

pub read_value-returns-then-depth-eq0-clause-value : goal.read_value-returns-then-depth-eq0-clause-value
read_value-returns-then-depth-eq0-clause-value t c =
    let h : head c.args.text.now ≡ 91 = grind arith in
    let z : c.args.depth ≡ 0 = omega arith in
    ap (λ d. value d c.args.text.now) z ∙ list_too_deep c.args.text.now h

pub read_value-returns-then-depth-eq0-2-clause-value : goal.read_value-returns-then-depth-eq0-2-clause-value
read_value-returns-then-depth-eq0-2-clause-value t c =
    let h : head c.args.text.now ≡ 123 = grind arith in
    let z : c.args.depth ≡ 0 = omega arith in
    ap (λ d. value d c.args.text.now) z ∙ object_too_deep c.args.text.now h

pub read_value-returns-in_ok-list-in-91-clause-value : goal.read_value-returns-in_ok-list-in-91-clause-value
read_value-returns-in_ok-list-in-91-clause-value t c =
    let b = c.args.text.now in
    let h : head b ≡ 91 = grind arith in
    let found = c.in_ok-list-in-91 in
    let least = λ (d : ℕ) (le : c.args.depth ≤ d). list_is (c.args.depth - 1) b c.after.result.now found.rest.now (map tree_view found.list.now) h c.after.ensures.value found.ensures.value d (omega arith) in
    λ d le. least d le ∙ ap (λ j. Some (j, found.rest.now)) (sym c.array.ensures.value)

pub read_value-returns-in_ok-pairs-in-123-clause-value : goal.read_value-returns-in_ok-pairs-in-123-clause-value
read_value-returns-in_ok-pairs-in-123-clause-value t c =
    let b = c.args.text.now in
    let h : head b ≡ 123 = grind arith in
    let found = c.in_ok-pairs-in-123 in
    let least = λ (d : ℕ) (le : c.args.depth ≤ d). object_is (c.args.depth - 1) b c.after-in-123.result.now found.rest.now (map pair_view found.pairs.now) h c.after-in-123.ensures.value found.ensures.value d (omega arith) in
    λ d le. least d le ∙ ap (λ j. Some (j, found.rest.now)) (sym c.record.ensures.value)

pub read_value-returns-in_err-list-in-91-clause-value : goal.read_value-returns-in_err-list-in-91-clause-value
read_value-returns-in_err-list-in-91-clause-value t c =
    let b = c.args.text.now in
    let h : head b ≡ 91 = grind arith in
    let e = c.in_err-list-in-91.field-0.0 in
    let p = err_from_is_err_and c.from_residual.result c.from_residual.ensures.1 in
    let same : p.0 ≡ e = first_of (search (rules, p.2), grind (arith, p.2)) in
    let next : suc (c.args.depth - 1) ≡ c.args.depth = omega arith in
    rw (p.1, same) (carry_up (c.args.depth - 1) c.args.depth (λ d. elements_at 93 (value d) c.after.result.now) (λ d. value d b) next (λ d le none. no_list b c.after.result.now h c.after.ensures.value d none) e c.in_err-list-in-91.ensures.value)

pub read_value-returns-in_err-pairs-in-123-clause-value : goal.read_value-returns-in_err-pairs-in-123-clause-value
read_value-returns-in_err-pairs-in-123-clause-value t c =
    let b = c.args.text.now in
    let h : head b ≡ 123 = grind arith in
    let e = c.in_err-pairs-in-123.field-0.0 in
    let p = err_from_is_err_and c.from_residual-in_err-pairs-in-123.result c.from_residual-in_err-pairs-in-123.ensures.1 in
    let same : p.0 ≡ e = first_of (search (rules, p.2), grind (arith, p.2)) in
    let next : suc (c.args.depth - 1) ≡ c.args.depth = omega arith in
    rw (p.1, same) (carry_up (c.args.depth - 1) c.args.depth (λ d. elements_at 125 (pair_at (value d)) c.after-in-123.result.now) (λ d. value d b) next (λ d le none. no_object b c.after-in-123.result.now h c.after-in-123.ensures.value d none) e c.in_err-pairs-in-123.ensures.value)

pub read_value-returns-in_default-clause-value : goal.read_value-returns-in_default-clause-value
read_value-returns-in_default-clause-value t c =
    let h : head c.args.text.now ≢ 91 = grind arith in
    let g : head c.args.text.now ≢ 123 = grind arith in
    scalar_is _ c.args.depth c.args.text.now c.read_scalar.result h g c.read_scalar.ensures.value

-- ---- the texts

pub read_value-returns-in_ok-list-in-91-clause-slices : goal.read_value-returns-in_ok-list-in-91-clause-slices
read_value-returns-in_ok-list-in-91-clause-slices t c =
    let b = c.args.text.now in
    let h : head b ≡ 91 = grind arith in
    let found = c.in_ok-list-in-91 in
    subst (λ ts. AreTextsBefore ts b found.rest.now) (sym c.array.ensures.texts)
    (joins [] (items_texts found.list.now) b c.after.result.now found.rest.now (one_byte 91 b c.after.result.now (λ e. omega (arith, e)) (λ e. omega (arith, e)) h c.after.ensures.value) found.ensures.slices)

pub read_value-returns-in_ok-pairs-in-123-clause-slices : goal.read_value-returns-in_ok-pairs-in-123-clause-slices
read_value-returns-in_ok-pairs-in-123-clause-slices t c =
    let b = c.args.text.now in
    let h : head b ≡ 123 = grind arith in
    let found = c.in_ok-pairs-in-123 in
    subst (λ ts. AreTextsBefore ts b found.rest.now) (sym c.record.ensures.texts)
    (joins [] (members_texts found.pairs.now) b c.after-in-123.result.now found.rest.now (one_byte 123 b c.after-in-123.result.now (λ e. omega (arith, e)) (λ e. omega (arith, e)) h c.after-in-123.ensures.value) found.ensures.slices)

pub read_pair-returns-clause-slices : goal.read_pair-returns-clause-slices
read_pair-returns-clause-slices t c =
    let name = c.in_ok-name.name in
    let rest = c.in_ok-name.rest.now in
    let s = c.skip_spaces.result.now in
    let behind = c.in_ok-value.behind.now in
    let texts = texts_of c.in_ok-value.value in
    joins (name ∷ []) texts c.args.text.now rest behind c.in_ok-name.ensures.slices (joins [] texts rest s behind (spaces rest s c.skip_spaces.ensures.value) c.in_ok-value.ensures.slices)

-- ---- read_items

pub read_items-returns-then-byte_at-eq93-clause-value : goal.read_items-returns-then-byte_at-eq93-clause-value
read_items-returns-then-byte_at-eq93-clause-value t c =
    let s = c.skip_spaces-rest.result.now in
    let h : head s ≡ 93 = grind arith in
    λ d le. no_elements 93 (value d) c.args.text.now s c.after.result.now c.skip_spaces-rest.ensures.value h c.after.ensures.value

pub read_items-returns-then-byte_at-eq93-clause-slices : goal.read_items-returns-then-byte_at-eq93-clause-slices
read_items-returns-then-byte_at-eq93-clause-slices t c =
    let s = c.skip_spaces-rest.result.now in
    let h : head s ≡ 93 = grind arith in
    spaced_byte 93 c.args.text.now s c.after.result.now (λ e. omega (arith, e)) (λ e. omega (arith, e)) c.skip_spaces-rest.ensures.value h c.after.ensures.value

pub read_items-loop-tree-init : goal.read_items-loop-tree-init
read_items-loop-tree-init t c =
    let s = c.skip_spaces-rest.result.now in
    let all = c.args.unclosed.now.trees.items in
    let count : c.len-start.result ≡ length all = grind arith in
    let h : head s ≢ 93 = grind arith in
    first_turn tree_view texts_of 93 value c.args.depth c.args.text.now c.len-start.result all c.args.unclosed.now.pairs.items s c.skip_spaces-rest.ensures.value c.skip_spaces-rest.ensures.within h count

pub read_items-loop-tree-preserved : goal.read_items-loop-tree-preserved
read_items-loop-tree-preserved t c =
    let l = c.loop-tree in
    let m = c.skip_spaces-mark.result.now in
    let found = c.in_ok-tree in
    let h : head m ≡ 44 = grind arith in
    let pushed : c.push.new.self.items ≡ c.read_value.new.unclosed.trees.items ++ found.tree ∷ [] = search rules in
    next_turn tree_view texts_of 93 value c.args.depth c.args.text.now c.len-start.result c.args.unclosed.now.trees.items c.args.unclosed.now.pairs.items l.unclosed.trees.items l.unclosed.pairs.items l.rest.now l.invariant c.skip_spaces.result.now
    c.skip_spaces.ensures.value found.tree found.behind.now m found.ensures.value c.skip_spaces-mark.ensures.value c.skip_spaces.ensures.within found.ensures.within found.ensures.slices c.read_value.new.unclosed.trees.items c.push.new.self.items found.ensures.kept.trees pushed
    c.read_value.new.unclosed.pairs.items c.after-rest.result.now found.ensures.kept.pairs c.skip_spaces-mark.ensures.within h c.after-rest.ensures.value c.after-rest.ensures.len

pub read_items-returns-in-93-clause-value : goal.read_items-returns-in-93-clause-value
read_items-returns-in-93-clause-value t c =
    let l = c.loop-tree in
    let m = c.skip_spaces-mark.result.now in
    let found = c.in_ok-tree in
    let last = c.in_ok-items-in-93 in
    let h : head m ≡ 93 = grind arith in
    let pushed : c.push.new.self.items ≡ c.read_value.new.unclosed.trees.items ++ found.tree ∷ [] = search rules in
    last_elements tree_view texts_of 93 value c.args.depth c.args.text.now c.len-start.result c.args.unclosed.now.trees.items c.args.unclosed.now.pairs.items l.unclosed.trees.items l.unclosed.pairs.items l.rest.now l.invariant c.skip_spaces.result.now
    c.skip_spaces.ensures.value found.tree found.behind.now m found.ensures.value c.skip_spaces-mark.ensures.value c.skip_spaces.ensures.within found.ensures.within found.ensures.slices c.read_value.new.unclosed.trees.items c.push.new.self.items found.ensures.kept.trees pushed
    last.items.now c.after-in-93.result.now (λ e. omega (arith, e)) last.ensures.taken h c.after-in-93.ensures.value

pub read_items-returns-in-93-clause-slices : goal.read_items-returns-in-93-clause-slices
read_items-returns-in-93-clause-slices t c =
    let l = c.loop-tree in
    let m = c.skip_spaces-mark.result.now in
    let found = c.in_ok-tree in
    let last = c.in_ok-items-in-93 in
    let h : head m ≡ 93 = grind arith in
    let pushed : c.push.new.self.items ≡ c.read_value.new.unclosed.trees.items ++ found.tree ∷ [] = search rules in
    last_texts tree_view texts_of 93 value c.args.depth c.args.text.now c.len-start.result c.args.unclosed.now.trees.items c.args.unclosed.now.pairs.items l.unclosed.trees.items l.unclosed.pairs.items l.rest.now l.invariant c.skip_spaces.result.now
    c.skip_spaces.ensures.value found.tree found.behind.now m found.ensures.value c.skip_spaces-mark.ensures.value c.skip_spaces.ensures.within found.ensures.within found.ensures.slices c.read_value.new.unclosed.trees.items c.push.new.self.items found.ensures.kept.trees pushed
    last.items.now c.after-in-93.result.now (λ e. omega (arith, e)) (λ e. omega (arith, e)) last.ensures.taken h c.after-in-93.ensures.value

pub read_items-returns-in_default-clause-value : goal.read_items-returns-in_default-clause-value
read_items-returns-in_default-clause-value t c =
    let l = c.loop-tree in
    let m = c.skip_spaces-mark.result.now in
    let found = c.in_ok-tree in
    let nc : head m ≢ 44 = grind arith in
    let nb : head m ≢ 93 = grind arith in
    bad tree_view texts_of 93 value c.args.depth c.args.text.now c.len-start.result c.args.unclosed.now.trees.items c.args.unclosed.now.pairs.items l.unclosed.trees.items l.unclosed.pairs.items l.rest.now l.invariant c.skip_spaces.result.now c.skip_spaces.ensures.value found.tree
    found.behind.now m found.ensures.value c.skip_spaces-mark.ensures.value nc nb

pub read_items-returns-in_err-tree-clause-value : goal.read_items-returns-in_err-tree-clause-value
read_items-returns-in_err-tree-clause-value t c =
    let l = c.loop-tree in
    let e = c.in_err-tree.field-0.0 in
    let p = err_from_is_err_and c.from_residual.result c.from_residual.ensures.1 in
    let same : p.0 ≡ e = first_of (search (rules, p.2), grind (arith, p.2)) in
    let fails = lost tree_view texts_of 93 value c.args.depth c.args.text.now c.len-start.result c.args.unclosed.now.trees.items c.args.unclosed.now.pairs.items l.unclosed.trees.items l.unclosed.pairs.items l.rest.now l.invariant c.skip_spaces.result.now c.skip_spaces.ensures.value in
    rw (p.1, same) (carry c.args.depth (λ d. value d c.skip_spaces.result.now) (λ d. elements_at 93 (value d) c.args.text.now) fails e c.in_err-tree.ensures.value)

-- ---- read_members

pub read_members-returns-then-byte_at-eq125-clause-value : goal.read_members-returns-then-byte_at-eq125-clause-value
read_members-returns-then-byte_at-eq125-clause-value t c =
    let s = c.skip_spaces-rest.result.now in
    let h : head s ≡ 125 = grind arith in
    λ d le. no_elements 125 (pair_at (value d)) c.args.text.now s c.after.result.now c.skip_spaces-rest.ensures.value h c.after.ensures.value

pub read_members-returns-then-byte_at-eq125-clause-slices : goal.read_members-returns-then-byte_at-eq125-clause-slices
read_members-returns-then-byte_at-eq125-clause-slices t c =
    let s = c.skip_spaces-rest.result.now in
    let h : head s ≡ 125 = grind arith in
    spaced_byte 125 c.args.text.now s c.after.result.now (λ e. omega (arith, e)) (λ e. omega (arith, e)) c.skip_spaces-rest.ensures.value h c.after.ensures.value

pub read_members-loop-pair-init : goal.read_members-loop-pair-init
read_members-loop-pair-init t c =
    let s = c.skip_spaces-rest.result.now in
    let all = c.args.unclosed.now.pairs.items in
    let count : c.len-start.result ≡ length all = grind arith in
    let h : head s ≢ 125 = grind arith in
    first_turn pair_view pair_texts 125 (λ d. pair_at (value d)) c.args.depth c.args.text.now c.len-start.result all c.args.unclosed.now.trees.items s c.skip_spaces-rest.ensures.value c.skip_spaces-rest.ensures.within h count

pub read_members-loop-pair-preserved : goal.read_members-loop-pair-preserved
read_members-loop-pair-preserved t c =
    let l = c.loop-pair in
    let m = c.skip_spaces-mark.result.now in
    let found = c.in_ok-pair in
    let h : head m ≡ 44 = grind arith in
    let pushed : c.push.new.self.items ≡ c.read_pair.new.unclosed.pairs.items ++ found.pair ∷ [] = search rules in
    next_turn pair_view pair_texts 125 (λ d. pair_at (value d)) c.args.depth c.args.text.now c.len-start.result c.args.unclosed.now.pairs.items c.args.unclosed.now.trees.items l.unclosed.pairs.items l.unclosed.trees.items l.rest.now l.invariant c.skip_spaces.result.now
    c.skip_spaces.ensures.value found.pair found.behind.now m found.ensures.value c.skip_spaces-mark.ensures.value c.skip_spaces.ensures.within found.ensures.within found.ensures.slices c.read_pair.new.unclosed.pairs.items c.push.new.self.items found.ensures.kept.pairs pushed
    c.read_pair.new.unclosed.trees.items c.after-rest.result.now found.ensures.kept.trees c.skip_spaces-mark.ensures.within h c.after-rest.ensures.value c.after-rest.ensures.len

pub read_members-returns-in-125-clause-value : goal.read_members-returns-in-125-clause-value
read_members-returns-in-125-clause-value t c =
    let l = c.loop-pair in
    let m = c.skip_spaces-mark.result.now in
    let found = c.in_ok-pair in
    let last = c.in_ok-pairs-in-125 in
    let h : head m ≡ 125 = grind arith in
    let pushed : c.push.new.self.items ≡ c.read_pair.new.unclosed.pairs.items ++ found.pair ∷ [] = search rules in
    last_elements pair_view pair_texts 125 (λ d. pair_at (value d)) c.args.depth c.args.text.now c.len-start.result c.args.unclosed.now.pairs.items c.args.unclosed.now.trees.items l.unclosed.pairs.items l.unclosed.trees.items l.rest.now l.invariant c.skip_spaces.result.now
    c.skip_spaces.ensures.value found.pair found.behind.now m found.ensures.value c.skip_spaces-mark.ensures.value c.skip_spaces.ensures.within found.ensures.within found.ensures.slices c.read_pair.new.unclosed.pairs.items c.push.new.self.items found.ensures.kept.pairs pushed
    last.pairs.now c.after-in-125.result.now (λ e. omega (arith, e)) last.ensures.taken h c.after-in-125.ensures.value

pub read_members-returns-in-125-clause-slices : goal.read_members-returns-in-125-clause-slices
read_members-returns-in-125-clause-slices t c =
    let l = c.loop-pair in
    let m = c.skip_spaces-mark.result.now in
    let found = c.in_ok-pair in
    let last = c.in_ok-pairs-in-125 in
    let h : head m ≡ 125 = grind arith in
    let pushed : c.push.new.self.items ≡ c.read_pair.new.unclosed.pairs.items ++ found.pair ∷ [] = search rules in
    last_texts pair_view pair_texts 125 (λ d. pair_at (value d)) c.args.depth c.args.text.now c.len-start.result c.args.unclosed.now.pairs.items c.args.unclosed.now.trees.items l.unclosed.pairs.items l.unclosed.trees.items l.rest.now l.invariant c.skip_spaces.result.now
    c.skip_spaces.ensures.value found.pair found.behind.now m found.ensures.value c.skip_spaces-mark.ensures.value c.skip_spaces.ensures.within found.ensures.within found.ensures.slices c.read_pair.new.unclosed.pairs.items c.push.new.self.items found.ensures.kept.pairs pushed
    last.pairs.now c.after-in-125.result.now (λ e. omega (arith, e)) (λ e. omega (arith, e)) last.ensures.taken h c.after-in-125.ensures.value

pub read_members-returns-in_default-clause-value : goal.read_members-returns-in_default-clause-value
read_members-returns-in_default-clause-value t c =
    let l = c.loop-pair in
    let m = c.skip_spaces-mark.result.now in
    let found = c.in_ok-pair in
    let nc : head m ≢ 44 = grind arith in
    let nb : head m ≢ 125 = grind arith in
    bad pair_view pair_texts 125 (λ d. pair_at (value d)) c.args.depth c.args.text.now c.len-start.result c.args.unclosed.now.pairs.items c.args.unclosed.now.trees.items l.unclosed.pairs.items l.unclosed.trees.items l.rest.now l.invariant c.skip_spaces.result.now c.skip_spaces.ensures.value found.pair
    found.behind.now m found.ensures.value c.skip_spaces-mark.ensures.value nc nb

pub read_members-returns-in_err-pair-clause-value : goal.read_members-returns-in_err-pair-clause-value
read_members-returns-in_err-pair-clause-value t c =
    let l = c.loop-pair in
    let e = c.in_err-pair.field-0.0 in
    let p = err_from_is_err_and c.from_residual.result c.from_residual.ensures.1 in
    let same : p.0 ≡ e = first_of (search (rules, p.2), grind (arith, p.2)) in
    let fails = lost pair_view pair_texts 125 (λ d. pair_at (value d)) c.args.depth c.args.text.now c.len-start.result c.args.unclosed.now.pairs.items c.args.unclosed.now.trees.items l.unclosed.pairs.items l.unclosed.trees.items l.rest.now l.invariant c.skip_spaces.result.now c.skip_spaces.ensures.value in
    rw (p.1, same) (carry c.args.depth (λ d. pair_at (value d) c.skip_spaces.result.now) (λ d. elements_at 125 (pair_at (value d)) c.args.text.now) fails e c.in_err-pair.ensures.value)
