use Rattle.std.proofs.Common.{◌≡◌, ◌++◌, take}
use Rattle.std.specs.Prelude.{string_bytes}
use Rattle.std.specs.List.{flat_map}
use Rattle.check_text.specs.Text.{finding_line}
use Rattle.check_text.proofs.text.push_findings.Given as goal

abbrev pub invariant-loop-found : goal.invariant-loop-found
invariant-loop-found l = string_bytes l.text ≡ string_bytes l.initial.text ++ flat_map finding_line (take l.found-index l.findings)
