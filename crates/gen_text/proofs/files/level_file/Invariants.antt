use Rattle.std.proofs.Common.{◌≡◌, ◌++◌, map}
use Rattle.std.specs.List.{range_with_len}
use Rattle.gen_text.specs.Ended.{ended}
use Rattle.gen_text.specs.Texts.{collection_front, level_item}
use Rattle.gen_text.proofs.files.level_file.Given as goal

abbrev pub invariant-loop-level : goal.invariant-loop-level
invariant-loop-level l = l.out.items ≡ collection_front ++ ended (map level_item (range_with_len 0 l.level))
