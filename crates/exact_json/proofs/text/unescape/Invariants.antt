use Rattle.std.proofs.Common.{◌≡◌, ◌≤◌, length}
use Rattle.exact_json.specs.StringReading.{text_at, prepend}
use Rattle.exact_json.proofs.text.unescape.Given as goal

abbrev pub invariant-loop-made : goal.invariant-loop-made
invariant-loop-made l = (text_at 0 l.text ≡ prepend l.made.items (text_at 0 l.rest)) × (length l.rest ≤ length l.text)

abbrev pub decreases-loop-made : goal.decreases-loop-made
decreases-loop-made l = length l.rest
