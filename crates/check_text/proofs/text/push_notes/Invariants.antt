use Rattle.std.proofs.Common.{◌≡◌, ◌++◌, take}
use Rattle.std.specs.Prelude.{string_bytes}
use Rattle.std.specs.List.{flat_map}
use Rattle.check_text.specs.Text.{note_line}
use Rattle.check_text.proofs.text.push_notes.Given as goal

abbrev pub invariant-loop-noted : goal.invariant-loop-noted
invariant-loop-noted l = string_bytes l.text ≡ string_bytes l.initial.text ++ flat_map note_line (take l.noted-index l.notes)
