use Rattle.std.proofs.Common.{◌≡◌, ◌∙◌, ◌∷◌, [], ◌++◌, Some, rules, arith}
use Rattle.venue_types.specs.Identifier.{identifier_read}
use Rattle.venue_wire.proofs.StopLemmas.{read_on, text_at}
use Rattle.venue_wire.proofs.stops.read_identifiers.Goals as goal

pub loop-text-preserved : goal.loop-text-preserved
loop-text-preserved c =
    let is : identifier_read (text_at c.args.texts.now c.loop-text.text-index) ≡ Some c.in-Some.id = first_of (cc, search rules, grind arith) in
    let pushed : c.push.new.self ≡ c.loop-text.ids ++ c.in-Some.id ∷ [] = first_of (cc, search rules, grind arith) in
    rw pushed (c.loop-text.invariant ∙ read_on c.args.texts.now c.loop-text.text-index c.loop-text.ids c.in-Some.id c.loop-text-test.true is)
