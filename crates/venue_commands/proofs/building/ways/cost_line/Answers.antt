use Rattle.std.proofs.Common.{◌≡◌, ◌∙◌, ◌++◌, string_bytes, codes, decimal, ap, sym}
use Rattle.std.proofs.lemmas.Result.{IfOk-weaker}
use Rattle.venue_commands.specs.Costs.{way_line}
use Rattle.venue_commands.proofs.Spelling.{two_pieces, three_pieces}
use Rattle.venue_commands.proofs.building.ways.cost_line.Goals as goal

pub returns-in-Some : goal.returns-in-Some
returns-in-Some c =
    let cost = c.in-Some.cost in
    IfOk-weaker c.format.result (λ s. string_bytes s ≡ c.args.name.now ++ (codes " " ++ (decimal cost ++ codes "\n"))) (λ s. string_bytes s ≡ way_line c.args.name.now c.args.cost)
    (λ s wrote. wrote ∙ three_pieces c.args.name.now (codes " ") (decimal cost) ∙ ap (way_line c.args.name.now) (sym c.in-Some.is)) c.format.ensures.ok

pub returns-in-None : goal.returns-in-None
returns-in-None c =
    IfOk-weaker c.format-in-None.result (λ s. string_bytes s ≡ c.args.name.now ++ codes " none\n") (λ s. string_bytes s ≡ way_line c.args.name.now c.args.cost)
    (λ s wrote. wrote ∙ two_pieces c.args.name.now (codes " none") ∙ ap (way_line c.args.name.now) (sym c.in-None.is)) c.format-in-None.ensures.ok
