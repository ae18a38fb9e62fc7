use Rattle.std.proofs.Common.{◌≡◌, ◌∙◌, string_bytes}
use Rattle.std.proofs.lemmas.Result.{IfOk-weaker}
use Rattle.check_text.specs.Text.{place_line}
use Rattle.check_text.proofs.Lines.{pieces, place_pieces}
use Rattle.check_text.proofs.text.place_line.Goals as goal

pub returns : goal.returns
returns c =
    let file = c.file_name-file.result.now in
    IfOk-weaker c.format.result (λ s. string_bytes s ≡ pieces c.args.what.now c.args.name.now file c.args.index c.args.member)
    (λ s. string_bytes s ≡ place_line c.args.what.now c.args.name.now c.args.file c.args.index c.args.member)
    (λ s wrote. wrote ∙ place_pieces c.args.what.now c.args.name.now file c.args.file c.args.index c.args.member c.file_name-file.ensures) c.format.ensures.ok
