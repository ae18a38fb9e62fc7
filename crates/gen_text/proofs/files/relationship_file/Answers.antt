use Rattle.std.proofs.Common.{◌≡◌, ℕ, ◌-◌, ◌++◌, sym, ap, subst, arith}
use Rattle.std.specs.List.{flat_map, range_with_len}
use Rattle.gen_text.specs.Ended.{ended}
use Rattle.gen_text.specs.Texts.{collection_front, feature_file, relationship_items}
use Rattle.gen_text.proofs.EndedLemmas.{ended_lists_more}
use Rattle.gen_text.proofs.FileLemmas.{end_of, some_relationships}
use Rattle.gen_text.proofs.files.relationship_file.Goals as goal

pub loop-level-preserved : goal.loop-level-preserved
loop-level-preserved c = ended_lists_more (relationship_items c.args.levels) collection_front c.loop-level.out.items c.push_relationships.new.out.items c.loop-level.level c.loop-level.invariant c.in_ok-push_relationships.ensures

pub returns-then-levels-eq1 : goal.returns-then-levels-eq1
returns-then-levels-eq1 c =
    let none : c.args.levels - 1 ≡ 0 = omega (arith, c.if-levels-eq1.true) in
    sym (ap (λ (n : ℕ). feature_file (flat_map (relationship_items c.args.levels) (range_with_len 0 n))) none)

pub returns : goal.returns
returns c =
    let all : c.loop-level.level ≡ c.args.levels - 1 = omega (arith, c.loop-level-test.false, c.loop-level.auto.level-end) in
    let whole = subst (λ (n : ℕ). c.loop-level.out.items ≡ collection_front ++ ended (flat_map (relationship_items c.args.levels) (range_with_len 0 n))) all c.loop-level.invariant in
    end_of c.loop-level.out.items (flat_map (relationship_items c.args.levels) (range_with_len 0 (c.args.levels - 1))) c.ended_file.result c.ended_file.ensures whole (some_relationships c.args.levels (c.args.levels - 1) (omega (arith, c.requires, c.if-levels-eq1.false)))
