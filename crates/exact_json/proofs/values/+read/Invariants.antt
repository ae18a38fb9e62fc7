use Rattle.std.proofs.Common.{◌+◌, ◌*◌, length}
use Rattle.exact_json.specs.View.{tree_view, pair_view}
use Rattle.exact_json.specs.Slices.{texts_of, pair_texts}
use Rattle.exact_json.specs.Reading.{pair_at, value}
use Rattle.exact_json.proofs.Turns.{Turns}
use Rattle.exact_json.proofs.values.+read.Given as goal

abbrev pub decreases-read_value : goal.decreases-read_value
decreases-read_value l = 3 * l.depth

abbrev pub decreases-read_pair : goal.decreases-read_pair
decreases-read_pair l = 3 * l.depth + 1

abbrev pub decreases-read_items : goal.decreases-read_items
decreases-read_items l = 3 * l.depth + 2

abbrev pub decreases-read_members : goal.decreases-read_members
decreases-read_members l = 3 * l.depth + 2

abbrev pub invariant-read_items-loop-tree : goal.invariant-read_items-loop-tree
invariant-read_items-loop-tree l = Turns tree_view texts_of 93 value l.depth l.text l.start l.initial.unclosed.trees.items l.unclosed.trees.items l.initial.unclosed.pairs.items l.unclosed.pairs.items l.rest

abbrev pub decreases-read_items-loop-tree : goal.decreases-read_items-loop-tree
decreases-read_items-loop-tree l = length l.rest

abbrev pub invariant-read_members-loop-pair : goal.invariant-read_members-loop-pair
invariant-read_members-loop-pair l = Turns pair_view pair_texts 125 (λ d. pair_at (value d)) l.depth l.text l.start l.initial.unclosed.pairs.items l.unclosed.pairs.items l.initial.unclosed.trees.items l.unclosed.trees.items l.rest

abbrev pub decreases-read_members-loop-pair : goal.decreases-read_members-loop-pair
decreases-read_members-loop-pair l = length l.rest
