use Rattle.std.proofs.Common.{◌≡◌, drop}
use Rattle.json_text.specs.Drafts.{onto}
use Rattle.json_text.specs.Compact.{more_pairs}
use Rattle.imdf_write.specs.Values.{label_pairs}
use Rattle.imdf_write.proofs.names.append_more_labels.Given as goal

abbrev pub invariant-loop-label : goal.invariant-loop-label
invariant-loop-label l = onto l.out (more_pairs (label_pairs (drop l.label-index l.labels))) ≡ onto l.initial.out (more_pairs (label_pairs l.labels))
