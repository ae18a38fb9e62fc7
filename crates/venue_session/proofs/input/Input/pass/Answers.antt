use Rattle.std.proofs.Common.{ap, ◌∙◌, drop}
use Rattle.venue_session.proofs.Waiting.{waits_behind}
use Rattle.venue_session.proofs.input.Input.pass.Goals as goal

pub returns : goal.returns
returns c = waits_behind c.self.inside.bytes.items c.self.inside.start c.self.inside.end c.args.count ∙ ap (drop c.args.count) c.self.view_is
