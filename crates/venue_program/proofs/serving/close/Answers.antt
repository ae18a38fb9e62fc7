use Rattle.std.proofs.Common.{inr, ◌∙◌}
use Rattle.venue_program.specs.Services.{closing_line}
use Rattle.venue_program.proofs.Hosting.{told_part}
use Rattle.venue_program.proofs.serving.close.Goals as goal

pub returns-clause-closing : goal.returns-clause-closing
returns-clause-closing g c =
    inr (told_part _ (closing_line c.args.counts) c.as_bytes.result.now (c.as_bytes.ensures.value ∙ c.in-Ok.ensures) c.in-Err.ensures.err c.in-Err.ensures.cause.failed)
