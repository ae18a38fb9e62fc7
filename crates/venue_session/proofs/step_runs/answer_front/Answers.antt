use Rattle.venue_session.proofs.step_runs.answer_front.Goals as goal

pub returns : goal.returns
returns g c = λ keys first taken waiting length going stands.
    c.write_step.ensures keys first _ _ taken waiting c.args.message.now length going stands c.answer_message-step.ensures
