use Rattle.std.proofs.Common.{◌≡◌, ℕ, ◌++◌, subst, arith}
use Rattle.std.specs.List.{flat_map, range_with_len}
use Rattle.gen_text.specs.Ended.{ended}
use Rattle.gen_text.specs.Texts.{collection_front, opening_items}
use Rattle.gen_text.proofs.EndedLemmas.{ended_lists_more}
use Rattle.gen_text.proofs.FileLemmas.{end_of, some_openings}
use Rattle.gen_text.proofs.files.opening_file.Goals as goal

pub loop-level-preserved : goal.loop-level-preserved
loop-level-preserved c = ended_lists_more (opening_items c.args.levels) collection_front c.loop-level.out.items c.push_openings.new.out.items c.loop-level.level c.loop-level.invariant c.in_ok-push_openings.ensures

pub returns : goal.returns
returns c =
    let all : c.loop-level.level ≡ c.args.levels = omega (arith, c.loop-level-test.false, c.loop-level.auto.level-end) in
    let whole = subst (λ (n : ℕ). c.loop-level.out.items ≡ collection_front ++ ended (flat_map (opening_items c.args.levels) (range_with_len 0 n))) all c.loop-level.invariant in
    end_of c.loop-level.out.items (flat_map (opening_items c.args.levels) (range_with_len 0 c.args.levels)) c.ended_file.result c.ended_file.ensures whole (some_openings c.args.levels c.args.levels (omega (arith, c.requires)))
