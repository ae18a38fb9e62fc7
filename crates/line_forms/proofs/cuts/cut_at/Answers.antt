use Rattle.line_forms.proofs.ListLemmas.{Lacks_more}
use Rattle.line_forms.proofs.cuts.cut_at.Goals as goal

pub loop-place-preserved : goal.loop-place-preserved
loop-place-preserved c = Lacks_more c.args.stop c.args.text.now c.loop-place.place c.loop-place-test.true c.loop-place.invariant c.if-byte-stop.false
