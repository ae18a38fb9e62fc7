use Rattle.std.proofs.Common.{◌≡◌, ℕ, ◌++◌, map, subst, arith}
use Rattle.std.specs.List.{range_with_len}
use Rattle.gen_text.specs.Ended.{ended}
use Rattle.gen_text.specs.Texts.{collection_front, level_item}
use Rattle.gen_text.proofs.EndedLemmas.{ended_map_more}
use Rattle.gen_text.proofs.FileLemmas.{end_of, some_levels}
use Rattle.gen_text.proofs.files.level_file.Goals as goal

pub loop-level-preserved : goal.loop-level-preserved
loop-level-preserved c = ended_map_more level_item collection_front c.loop-level.out.items c.push_level.new.out.items c.loop-level.level c.loop-level.invariant c.in_ok-push_level.ensures

pub returns : goal.returns
returns c =
    let all : c.loop-level.level ≡ c.args.levels = omega (arith, c.loop-level-test.false, c.loop-level.auto.level-end) in
    let whole = subst (λ (n : ℕ). c.loop-level.out.items ≡ collection_front ++ ended (map level_item (range_with_len 0 n))) all c.loop-level.invariant in
    end_of c.loop-level.out.items (map level_item (range_with_len 0 c.args.levels)) c.ended_file.result c.ended_file.ensures whole (some_levels c.args.levels (omega (arith, c.requires)))
