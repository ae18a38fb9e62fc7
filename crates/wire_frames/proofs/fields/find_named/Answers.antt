use Rattle.std.proofs.Common.{take, map, sym, subst}
use Rattle.httparse.specs.Borrowed.{header_parts}
use Rattle.http1.specs.Fields.{values_named}
use Rattle.wire_frames.specs.Outcomes.{AreValues}
use Rattle.wire_frames.proofs.FieldLemmas.{values_yes, values_no}
use Rattle.wire_frames.proofs.fields.find_named.Goals as goal
use Rattle.wire_frames.proofs.fields.find_named.Goals.{then-is_named, else-is_named}

pub loop-header-preserved : goal.loop-header-preserved
loop-header-preserved c = elim c.if-is_named.branch [
  | then-is_named w ↦ subst (AreValues c.if-is_named.found)
      (sym (values_yes header_parts c.args.name.now c.args.headers.now c.loop-header.header-index _ c.is_named.result c.loop-header-test.true c.is_named.ensures w.if-is_named.true))
      (subst (λ f. AreValues f _) (sym w.found-is) (w.with-found.ensures _ c.loop-header.invariant))
  | else-is_named w ↦ subst (AreValues c.if-is_named.found)
      (sym (values_no header_parts c.args.name.now c.args.headers.now c.loop-header.header-index _ c.is_named.result c.loop-header-test.true c.is_named.ensures w.if-is_named.false))
      (subst (λ f. AreValues f (values_named c.args.name.now (map header_parts (take c.loop-header.header-index c.args.headers.now)))) (sym w.found-is) c.loop-header.invariant)
]
