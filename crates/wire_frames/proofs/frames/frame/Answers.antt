-- Each answer says what its call says of the head, and each comes exactly where its fact holds.
use Rattle.std.proofs.Common.{◌≡◌, ℕ, length, ap, subst, sym, ◌∙◌, List}
use Rattle.wire_frames.specs.Frames.{HasEnd, HasNoEnd, RefusesHead}
use Rattle.wire_frames.specs.Heads.{head_extent}
use Rattle.wire_frames.specs.Reading.{AreParts}
use Rattle.wire_frames.specs.declared.frames.Framing.TheVariants as Framing
use Rattle.wire_frames.proofs.HeadLemmas.{extent_of}
use Rattle.wire_frames.proofs.FrontLemmas.{front_of}
use Rattle.wire_frames.proofs.FrameLemmas.{exact, endless_frames, body_frames, refused_frames}
use Rattle.wire_frames.proofs.frames.frame.Goals as goal

pub returns-in_default : goal.returns-in_default
returns-in_default c =
    let none : HasNoEnd c.args.bytes.now = ap head_extent (sym c.first.ensures) ∙ sym c.find_head.ensures ∙ c.in_default.is in
    let k = exact c.args.bytes.now c.frame_endless.result
    (endless_frames c.args.bytes.now c.frame_endless.result none c.frame_endless.ensures.short c.frame_endless.ensures.long) in
    record { more = k.more; fault = k.fault; framed = k.framed; short = k.short; refused = k.refused; whole = k.whole }

pub read_head-requires : goal.read_head-requires
read_head-requires c =
    let ends : HasEnd c.args.bytes.now c.in-Some.extent = ap head_extent (sym c.first.ensures) ∙ sym c.find_head.ensures ∙ c.in-Some.is in
    subst (λ (t : List ℕ). head_extent t ≡ extent_of (length t) c.in-Some.extent.lines) (sym c.first-2.ensures)
    (front_of c.args.bytes.now c.in-Some.extent ends).whole

pub frame_body-requires-clause-head : goal.frame_body-requires-clause-head
frame_body-requires-clause-head c =
    let ends : HasEnd c.args.bytes.now c.in-Some.extent = ap head_extent (sym c.first.ensures) ∙ sym c.find_head.ensures ∙ c.in-Some.is in
    (front_of c.args.bytes.now c.in-Some.extent ends).within

pub returns-in-Ok : goal.returns-in-Ok
returns-in-Ok c =
    let ends : HasEnd c.args.bytes.now c.in-Some.extent = ap head_extent (sym c.first.ensures) ∙ sym c.find_head.ensures ∙ c.in-Some.is in
    let parts = subst (λ (t : List ℕ). AreParts t c.in-Some.extent.lines c.in-Ok.parts) c.first-2.ensures c.in-Ok.ensures.ok in
    let k = exact c.args.bytes.now c.frame_body.result
    (body_frames c.args.bytes.now c.in-Some.extent c.in-Ok.parts c.frame_body.result ends parts c.frame_body.ensures) in
    record { more = k.more; fault = k.fault; framed = k.framed; short = k.short; refused = k.refused; whole = k.whole }

pub returns-in-Err : goal.returns-in-Err
returns-in-Err c =
    let ends : HasEnd c.args.bytes.now c.in-Some.extent = ap head_extent (sym c.first.ensures) ∙ sym c.find_head.ensures ∙ c.in-Some.is in
    let refuses = subst (λ (t : List ℕ). RefusesHead t c.in-Some.extent.lines c.in-Err.refusal) c.first-2.ensures c.in-Err.ensures.err in
    let k = exact c.args.bytes.now (Framing.Fault c.in-Err.refusal)
    (refused_frames c.args.bytes.now c.in-Some.extent c.in-Err.refusal ends refuses) in
    record { more = k.more; fault = k.fault; framed = k.framed; short = k.short; refused = k.refused; whole = k.whole }
