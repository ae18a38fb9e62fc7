use Rattle.std.proofs.Common.{ℕ, ◌++◌, codes, ap, ◌∙◌}
use Rattle.std.specs.Fmt.{decimal}
use Rattle.venue_program.specs.Services.{closing_line}
use Rattle.venue_program.proofs.Hosting.{closing_spelled, text_as}
use Rattle.venue_program.proofs.serving.closing_text.Goals as goal

pub returns : goal.returns
returns c =
    let counts = c.args.counts in
    text_as c.counted-4.result (codes "workers" ++ (codes " " ++ (decimal c.from.result ++ c.as_str-3.result.now))) (closing_line counts)
    (closing_spelled counts c.as_str.result.now c.as_str-2.result.now c.as_str-3.result.now _ (c.as_str.ensures.value ∙ c.in_ok-changes.ensures)
    (c.as_str-2.ensures.value ∙ c.in_ok-versions.ensures) (c.as_str-3.ensures.value ∙ c.in_ok-sessions.ensures)
    (ap (λ (n : ℕ). codes "workers" ++ (codes " " ++ (decimal n ++ c.as_str-3.result.now))) c.from.ensures)) c.counted-4.ensures
