-- A line that isn't empty leads from start to start, and without a LF nothing ends.
use Rattle.std.proofs.Common.{◌∙◌, sym, arith}
use Rattle.wire_frames.proofs.LineLemmas.{cut_length, full_step, no_end}
use Rattle.wire_frames.proofs.heads.find_head.Goals as goal

pub loop-line-preserved-then-not-is_blank_line : goal.loop-line-preserved-then-not-is_blank_line
loop-line-preserved-then-not-is_blank_line c =
    let cut = c.in-Some.ensures.cut in
    let size = cut_length c.loop-line.rest.now c.in-Some.line.now c.in-Some.behind.now cut.1 in
    let few = c.loop-line.invariant.few in
    record {
      few = omega (arith, size, few);
      same = c.loop-line.invariant.same
          ∙ full_step c.loop-line.rest.now c.in-Some.line.now c.in-Some.behind.now
          _ c.loop-line.lines _ cut.0 cut.1 (sym c.is_blank_line.ensures ∙ c.if-not-is_blank_line.true) (omega (arith, size, few));
    }

pub returns : goal.returns
returns c = sym (c.loop-line.invariant.same ∙ no_end _ _ _ c.loop-line.rest.now c.in_default.ensures.none)
