use Rattle.std.proofs.Common.{◌≡◌, ◌++◌}
use Rattle.std.specs.List.{flat_map, range_with_len}
use Rattle.gen_text.specs.Ended.{ended}
use Rattle.gen_text.specs.Texts.{collection_front, relationship_items}
use Rattle.gen_text.proofs.files.relationship_file.Given as goal

abbrev pub invariant-loop-level : goal.invariant-loop-level
invariant-loop-level l = l.out.items ≡ collection_front ++ ended (flat_map (relationship_items l.levels) (range_with_len 0 l.level))
