use Rattle.std.proofs.Common.{◌≡◌, map, drop}
use Rattle.json_text.specs.Drafts.{onto}
use Rattle.json_text.specs.Compact.{more_items}
use Rattle.imdf_write.specs.Values.{items_of}
use Rattle.imdf_write.proofs.file.append_more.Given as goal

abbrev pub invariant-loop-row : goal.invariant-loop-row
invariant-loop-row g l =
    onto l.out (more_items (items_of (map (g.R.Canonical.feature l.file) (drop l.row-index l.rows))))
    ≡ onto l.initial.out (more_items (items_of (map (g.R.Canonical.feature l.file) l.rows)))
