use Rattle.unit_sight.proofs.Wholes.{in_sights, seen_known}
use Rattle.unit_sight.proofs.sights.Sights.next.Goals as goal

pub whole_next-requires : goal.whole_next-requires
whole_next-requires c = in_sights c.self.inside.size c.self.inside.rows c.args.self.now c.args.i c.self.invariant c.self.view_is c.requires.row

pub returns-then-is_some : goal.returns-then-is_some
returns-then-is_some c =
    seen_known c.self.inside.size c.self.inside.rows c.args.self.now c.args.i c.args.known c.args.from c.is_some.result c.self.invariant c.self.view_is c.in-None.is
    c.requires.row c.requires.known c.is_some.ensures c.if-is_some.true
