use Rattle.std.proofs.Common.{◌≡◌, ◌∙◌, ◌++◌, string_bytes, codes}
use Rattle.std.proofs.lemmas.Result.{IfOk-weaker}
use Rattle.line_forms.specs.Lines.{line}
use Rattle.venue_commands.proofs.Settling.{keyed_pieces, keyed_line}
use Rattle.venue_commands.proofs.settings.keyed.Goals as goal

pub returns : goal.returns
returns c =
    IfOk-weaker c.format.result (λ s. string_bytes s ≡ keyed_pieces c.args.front.now c.as_str-key.result.now)
    (λ s. string_bytes s ≡ line (c.args.front.now ++ (codes " " ++ c.args.key.now)))
    (λ s wrote. wrote ∙ keyed_line c.args.front.now c.args.key.now c.as_str-key.result.now c.as_str-key.ensures.value) c.format.ensures.ok
