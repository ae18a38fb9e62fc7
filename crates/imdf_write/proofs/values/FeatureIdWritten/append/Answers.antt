-- No byte of the identifier needs an escape.
use Rattle.std.proofs.Common.{[], ◌∷◌, ◌++◌, ◌∙◌, ap, sym}
use Rattle.json_text.specs.Drafts.{onto}
use Rattle.venue_types.specs.Identifier.{identifier_text}
use Rattle.imdf_write.proofs.Identifiers.{escaped-identifier_text}
use Rattle.imdf_write.proofs.Pieces.{three}
use Rattle.imdf_write.proofs.values.FeatureIdWritten.append.Goals as goal

pub returns : goal.returns
returns c =
    rw (c.push-2.ensures, c.append.ensures, c.push.ensures, c.write-text.ensures)
    (three c.args.out.now (34 ∷ []) (identifier_text c.args.self.now) (34 ∷ [])
    ∙ ap (λ s. onto c.args.out.now (34 ∷ (s ++ 34 ∷ []))) (sym (escaped-identifier_text c.args.self.now)))
