use Rattle.std.proofs.Common.{◌≡◌, ◌<◌, ◌≤◌, ◌+◌, ◌^◌, ℕ, List, [], ◌++◌, length, ap, sym, ◌∙◌, subst, arith, append-nil, length-append}
use Rattle.wire_frames.specs.Frames.{IsShort}
use Rattle.venue_session.specs.Going.{StaysShort}
use Rattle.venue_session.proofs.Endings.{ends_unread}
use Rattle.venue_session.proofs.Goings.{going_more, going_renamed, short_grown, nothing_more}
use Rattle.venue_session.proofs.Prompting.{prompt_read}
use Rattle.venue_session.proofs.heard.read_on.Goals as goal

pub returns-in-Ok-eq0 : goal.returns-in-Ok-eq0
returns-in-Ok-eq0 g c = λ keys first facts taken least going awaits below.
    let told = c.in-Ok-eq0.ensures in
    let more = told.ok.0 in
    let none : more ≡ [] = nothing_more more c.in-Ok-eq0.field-0 told.ok.1 c.in-Ok-eq0.field-0-test in
    let same : c.waiting.result.now ≡ c.args.input.now ++ more = c.waiting.ensures ∙ told.ok.2 in
    let prompt = prompt_read keys first facts _ _ _ (g.L.Stream.starts c.read_more.new.connection) _ taken c.args.input.now going awaits.0 told.starts in
    let going_now = going_more c.acts_more_law.ensures keys first facts _ _ _ (g.L.Stream.written c.read_more.new.connection) _
    (g.L.Stream.starts c.read_more.new.connection) _ (g.L.Stream.faults c.read_more.new.connection)
    taken taken c.args.input.now more going told.ok.3 told.written prompt told.cause.kept (omega (arith, told.ok.1, c.in-Ok-eq0.field-0-test)) going.most in
    let all : c.waiting.result.now ≡ c.args.input.now
    = same ∙ ap (λ (b : List ℕ). c.args.input.now ++ b) none ∙ append-nil c.args.input.now in
    c.end_of_input.ensures keys first facts _ _ _ _ taken (going_renamed keys first _ taken (c.args.input.now ++ more) c.waiting.result.now going_now same)
    (subst IsShort (sym all) awaits.0) (told.end c.in-Ok-eq0.field-0-test)

pub returns-in-Ok : goal.returns-in-Ok
returns-in-Ok g c = λ keys first facts taken least going awaits below.
    let told = c.in-Ok.ensures in
    let more = told.ok.0 in
    let some : 0 < c.in-Ok.count = grind arith in
    let most : c.in-Ok.count ≤ 81920
    = omega (arith, told.ok.1, told.room, ap (λ (b : List ℕ). length b) told.ok.2, length-append c.args.input.now more) in
    let prompt = prompt_read keys first facts _ _ _ (g.L.Stream.starts c.read_more.new.connection) _ taken c.args.input.now going awaits.0 told.starts in
    let few : taken + c.in-Ok.count < 2 ^ 40 + 81920 = omega (arith, most, below) in
    let going_now = going_more c.acts_more_law.ensures keys first facts _ _ _ (g.L.Stream.written c.read_more.new.connection) _
    (g.L.Stream.starts c.read_more.new.connection) _ (g.L.Stream.faults c.read_more.new.connection)
    taken (taken + c.in-Ok.count) c.args.input.now more going told.ok.3 told.written prompt told.cause.kept (omega (arith, told.ok.1)) few in (
      some,
      most,
      going_renamed keys first _ (taken + c.in-Ok.count) (c.args.input.now ++ more) c.read_more.new.self going_now told.ok.2,
      subst (λ (b : List ℕ). StaysShort b least) (sym told.ok.2) (short_grown c.args.input.now more least awaits.1),
    )

pub returns-in-Err : goal.returns-in-Err
returns-in-Err g c = λ keys first facts taken least going awaits below.
    let told = c.in-Err.ensures in
    let prompt = prompt_read keys first facts _ _ _ (g.L.Stream.starts c.read_more.new.connection) _ taken c.args.input.now going awaits.0 told.starts in
    ends_unread keys first facts _ _ _ _ taken c.args.input.now going _ _ _ _ awaits.0 told.err.1 told.written prompt told.cause.later told.cause.failed
