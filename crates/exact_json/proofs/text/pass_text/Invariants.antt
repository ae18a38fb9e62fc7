use Rattle.std.proofs.Common.{◌≡◌, ◌≤◌, length}
use Rattle.exact_json.specs.StringReading.{text_at}
use Rattle.exact_json.specs.Scanning.{rest_of}
use Rattle.exact_json.proofs.text.pass_text.Given as goal

abbrev pub invariant-loop-code : goal.invariant-loop-code
invariant-loop-code l = (rest_of (text_at 0 l.text) ≡ rest_of (text_at 0 l.rest)) × (length l.rest ≤ length l.text)

abbrev pub decreases-loop-code : goal.decreases-loop-code
decreases-loop-code l = length l.rest
