use Rattle.std.proofs.Common.{◌≡◌, map}
use Rattle.imdf_rows.specs.Fields.{label}
use Rattle.imdf_rows.specs.Lossy.{entry_bytes}
use Rattle.imdf_rows.proofs.labels.labels.Given as goal

abbrev pub invariant-loop-tag : goal.invariant-loop-tag
invariant-loop-tag l = l.labels.items ≡ map label (map entry_bytes l.yielded)
