use Rattle.std.proofs.Common.{ℕ, List, refl, ◌∙◌, subst}
use Rattle.venue_commands.specs.Runs.{Wrote}
use Rattle.venue_service.specs.Services.{terms_of}
use Rattle.venue_program.specs.Services.{listening_line, unheard}
use Rattle.venue_program.proofs.Hosting.{service_ends, told_part}
use Rattle.venue_program.proofs.serving.serve_bound.Goals as goal

pub returns-in-Ok-clause-ends : goal.returns-in-Ok-clause-ends
returns-in-Ok-clause-ends g c binds bound =
    service_ends c.args.ready.address.now (terms_of c.args.ready.plan) _ _ _ _ _
    (subst (λ (t : List ℕ). Wrote (g.C.Stream.written c.args.console.now) (g.C.Stream.written c.write_all.new.console) t) (c.as_bytes.ensures.value ∙ c.args.ready.line) c.in-Ok.ensures.ok)
    c.in-Ok.ensures.cause.kept refl refl (c.serve_told.ensures.ends binds bound)

pub returns-in-Err-clause-ends : goal.returns-in-Err-clause-ends
returns-in-Err-clause-ends g c binds bound =
    unheard (record { accepted = refl; faults = refl })
    (told_part _ (listening_line c.args.ready.address.now) c.as_bytes.result.now (c.as_bytes.ensures.value ∙ c.args.ready.line) c.in-Err.ensures.err c.in-Err.ensures.cause.failed)
