use Rattle.std.proofs.Common.{ℕ, ◌-◌, length, take, drop, ◌∙◌, subst, arith, take-append-drop}
use Rattle.std.specs.Io.KnownBytes.{Appends}
use Rattle.std.proofs.lemmas.List.{length-take, length-drop}
use Rattle.venue_session.proofs.Moving.{appends_move, appends_stay, front_grows}
use Rattle.venue_session.proofs.writer.write_all.Goals as goal

pub returns-in-Err-clause-err : goal.returns-in-Err-clause-err
returns-in-Err-clause-err g c =
    let text = c.args.text.now in (
      take c.loop-done.done text,
      (drop c.loop-done.done text, take-append-drop c.loop-done.done text),
      appends_stay _ _ _ _ (take (length text - c.loop-done.done) (drop c.loop-done.done text)) c.in-Err.failed c.loop-done.invariant.wrote c.in-Err.ensures.bytes,
    )

pub loop-done-preserved : goal.loop-done-preserved
loop-done-preserved g c =
    let text = c.args.text.now in
    let bound = c.in-Ok.ensures.bound in
    record {
      within = omega (arith, bound, length-take {A = ℕ}, length-drop {A = ℕ});
      wrote = subst (Appends (g.L.Stream.written c.args.connection.now) (g.L.Stream.written c.write.new.self)) (front_grows text c.loop-done.done c.in-Ok.count bound.1)
          (appends_move _ _ _ _ (take (length text - c.loop-done.done) (drop c.loop-done.done text)) c.in-Ok.count c.loop-done.invariant.wrote c.in-Ok.ensures.bytes);
      left = c.write.ensures.left ∙ c.loop-done.invariant.left;
      starts = c.write.ensures.starts ∙ c.loop-done.invariant.starts;
      faults = c.in-Ok.ensures.cause.kept ∙ c.loop-done.invariant.faults;
    }
