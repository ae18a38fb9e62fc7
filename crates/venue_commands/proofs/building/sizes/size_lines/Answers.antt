use Rattle.std.proofs.Common.{◌≡◌, ◌∙◌, ◌++◌, string_bytes, codes, decimal}
use Rattle.std.proofs.lemmas.Result.{IfOk-weaker}
use Rattle.line_forms.specs.Lines.{line}
use Rattle.venue_commands.proofs.Spelling.{three_lines}
use Rattle.venue_commands.proofs.building.sizes.size_lines.Goals as goal

pub returns : goal.returns
returns c =
    let features = decimal c.args.features in
    let nodes = decimal c.args.nodes in
    let links = decimal c.args.links in
    IfOk-weaker c.format.result
    (λ s. string_bytes s ≡ codes "features " ++ (features ++ (codes "\nnodes " ++ (nodes ++ (codes "\nlinks " ++ (links ++ codes "\n"))))))
    (λ s. string_bytes s ≡ line (codes "features " ++ features) ++ line (codes "nodes " ++ nodes) ++ line (codes "links " ++ links))
    (λ s wrote. wrote ∙ three_lines (codes "features ") features (codes "nodes ") nodes (codes "links ") links) c.format.ensures.ok
