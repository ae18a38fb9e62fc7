use Rattle.std.proofs.lemmas.Option.{IfSome_then}
use Rattle.unit_sight.proofs.AskingLemmas.{wall_near}
use Rattle.unit_sight.proofs.asking.is_free.Goals as goal

pub stops_again-requires-clause-near : goal.stops_again-requires-clause-near
stops_again-requires-clause-near c = IfSome_then c.args.last.now c.requires.wall (λ it is. wall_near c.args.bands.now it c.args.from c.args.to is c.requires.near)
