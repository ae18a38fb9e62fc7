use Rattle.std.proofs.Common.{◌≡◌, ◌++◌, List, ℕ}
use Rattle.form_urlencoded.specs.Form.{raw_pairs}
use Rattle.venue_wire.specs.Finding.{raw_values}
use Rattle.wire_frames.specs.Outcomes.{AreValues}
use Rattle.venue_wire.proofs.query_pairs.find_values.Given as goal

-- what was found and what is left are the values of all
abbrev pub invariant-loop-raw : goal.invariant-loop-raw
invariant-loop-raw l =
    (values : List (List ℕ)) × AreValues l.found values
    × (values ++ raw_values l.key (raw_pairs l.raw-iterator.input.now) ≡ raw_values l.key (raw_pairs l.query))
