-- The pieces one behind the other are the text of the reference.
use Rattle.std.proofs.Common.{[], ◌∷◌, ◌∙◌, ap, codes}
use Rattle.json_text.specs.Compact.{quoted, escaped}
use Rattle.json_text.specs.Drafts.{onto}
use Rattle.venue_types.specs.Identifier.{identifier_text}
use Rattle.imdf_write.specs.Values.{type_numbered}
use Rattle.imdf_write.proofs.Pieces.{five, reference_shape}
use Rattle.imdf_write.proofs.values.RefWritten.append.Goals as goal

pub returns : goal.returns
returns c =
    let out = c.args.out.now in
    let type = type_numbered c.args.self.now.feature_type in
    let id = identifier_text c.args.self.now.id in
    let front = codes "{\"feature_type\":" in
    let between = codes ",\"id\":" in
    rw (c.push.ensures, c.append-3.ensures, c.append-2.ensures, c.append_quoted.ensures, c.type_text.ensures, c.append.ensures)
    (five out front (quoted type) between (quoted id) (125 ∷ []) ∙ ap (λ s. onto out s) (reference_shape 34 front (escaped type) (34 ∷ []) between (escaped id) (125 ∷ [])))
