use Rattle.std.proofs.Common.{◌≡◌, map, drop}
use Rattle.json_text.specs.Drafts.{onto}
use Rattle.json_text.specs.Compact.{more_items}
use Rattle.imdf_write.specs.Values.{items_of}
use Rattle.imdf_write.proofs.values.append_more.Given as goal

abbrev pub invariant-loop-item : goal.invariant-loop-item
invariant-loop-item g l = onto l.out (more_items (items_of (map g.T.Written.value (drop l.item-index l.items)))) ≡ onto l.initial.out (more_items (items_of (map g.T.Written.value l.items)))
