use Rattle.std.proofs.Common.{◌≡◌, ◌∙◌, subst}
use Rattle.std.specs.Io.KnownBytes.{Appends}
use mathlib.Core.List.{IsPrefix}
use Rattle.wire_replies.specs.Replies.{reply_text}
use Rattle.venue_session.specs.Texts.{Stepped}
use Rattle.venue_session.specs.declared.steps.Step.{Step}
use Rattle.venue_session.specs.declared.steps.Step.TheVariants.{Replied, Untold}
use Rattle.venue_session.proofs.Endings.{ends_closed, ends_told_in_part, ends_untold}
use Rattle.venue_session.proofs.Goings.{going_acted}
use Rattle.venue_session.proofs.step_runs.write_step.Goals as goal

pub returns-in-Untold : goal.returns-in-Untold
returns-in-Untold g c = λ keys first before after taken waiting message length going stands stepped.
    let step : Stepped before message c.args.close Untold after
    = subst (λ (s : Step). Stepped before message c.args.close s after) c.in-Untold.is stepped in
    ends_untold keys first before _ _ _ _ taken waiting going after
    (record { message = message; length = length; close = c.args.close; answer = step.0 }) (record { stands = stands; step = step.1 }) step.2

pub returns-in-Err : goal.returns-in-Err
returns-in-Err g c = λ keys first before after taken waiting message length going stands stepped.
    let step : Stepped before message c.args.close (Replied c.in-Replied.text) after
    = subst (λ (s : Step). Stepped before message c.args.close s after) c.in-Replied.is stepped in
    let text : c.as_slice.result.now ≡ reply_text step.0 c.args.close = c.as_slice.ensures ∙ step.2 in
    let told = c.in-Err.ensures in
    ends_told_in_part keys first before _ _ _ _ taken waiting going after _ _ _ _
    (record { message = message; length = length; close = c.args.close; answer = step.0 }) told.err.0 (record { stands = stands; step = step.1 })
    (subst (IsPrefix told.err.0) text told.err.1) told.err.2 told.left told.starts told.cause.later told.cause.failed

pub returns-in-Ok : goal.returns-in-Ok
returns-in-Ok g c = λ keys first before after taken waiting message length going stands stepped.
    let step : Stepped before message c.args.close (Replied c.in-Replied.text) after
    = subst (λ (s : Step). Stepped before message c.args.close s after) c.in-Replied.is stepped in
    let text : c.as_slice.result.now ≡ reply_text step.0 c.args.close = c.as_slice.ensures ∙ step.2 in
    let told = c.in-Ok.ensures in
    ends_closed keys first before _ _ _ _ taken waiting going after _ _ _ _
    (record { message = message; length = length; close = c.args.close; answer = step.0 }) (record { stands = stands; step = step.1 })
    c.if-close.true told.left told.starts
    (subst (Appends (g.L.Stream.written c.args.connection.now) (g.L.Stream.written c.write_all.new.connection)) text told.ok) told.cause.kept

pub returns-in-Ok-2 : goal.returns-in-Ok-2
returns-in-Ok-2 g c = λ keys first before after taken waiting message length going stands stepped.
    let step : Stepped before message c.args.close (Replied c.in-Replied.text) after
    = subst (λ (s : Step). Stepped before message c.args.close s after) c.in-Replied.is stepped in
    let text : c.as_slice.result.now ≡ reply_text step.0 c.args.close = c.as_slice.ensures ∙ step.2 in
    let told = c.in-Ok-2.ensures in
    going_acted keys first before after _ _ _ _ _ _ _ _ taken waiting
    (record { message = message; length = length; close = c.args.close; answer = step.0 }) going (record { stands = stands; step = step.1 })
    c.if-close.false told.left told.starts
    (subst (Appends (g.L.Stream.written c.args.connection.now) (g.L.Stream.written c.write_all.new.connection)) text told.ok) told.cause.kept
