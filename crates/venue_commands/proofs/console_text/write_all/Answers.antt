use Rattle.std.proofs.Common.{◌++◌, take, ◌∙◌}
use Rattle.venue_commands.proofs.Writing.{wrote_more, text_more}
use Rattle.venue_commands.proofs.console_text.write_all.Goals as goal

pub loop-rest-preserved : goal.loop-rest-preserved
loop-rest-preserved g c =
    let told = c.loop-rest.invariant.told in
    record {
      told = (
        told.0 ++ take c.in_ok-count.count c.loop-rest.rest.now,
        wrote_more (g.C.Stream.written c.args.console.now) (g.C.Stream.written c.loop-rest.console) (g.C.Stream.written c.write.new.self) told.0 c.loop-rest.rest.now c.in_ok-count.count told.1 c.in_ok-count.ensures.bytes,
        text_more c.args.text.now told.0 c.loop-rest.rest.now c.split_at.result.1.now c.in_ok-count.count told.2 c.split_at.ensures.back,
      );
      left = c.in_ok-count.ensures.left ∙ c.loop-rest.invariant.left;
      kept = c.in_ok-count.ensures.cause.kept ∙ c.loop-rest.invariant.kept;
    }
