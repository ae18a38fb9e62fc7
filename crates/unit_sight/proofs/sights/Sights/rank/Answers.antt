use Rattle.std.proofs.Common.{arith}
use Rattle.unit_sight.proofs.Wholes.{in_sights, kept_rank, seen_rank}
use Rattle.unit_sight.proofs.sights.Sights.rank.Goals as goal

pub whole_rank-requires-clause-row : goal.whole_rank-requires-clause-row
whole_rank-requires-clause-row c = in_sights c.self.inside.size c.self.inside.rows c.args.self.now c.args.i c.self.invariant c.self.view_is c.requires.row

pub whole_rank-requires-clause-column : goal.whole_rank-requires-clause-column
whole_rank-requires-clause-column c =
    let low = in_sights c.self.inside.size c.self.inside.rows c.args.self.now c.args.j c.self.invariant c.self.view_is c.requires.column in
    omega arith

pub returns-in-None : goal.returns-in-None
returns-in-None c =
    seen_rank c.self.inside.size c.self.inside.rows c.args.self.now c.args.i c.args.j c.whole_rank.result c.self.view_is c.in-None.is c.requires.column c.whole_rank.ensures

pub returns-in-Some : goal.returns-in-Some
returns-in-Some c =
    kept_rank c.self.inside.size c.self.inside.rows c.args.self.now c.in-Some.rows c.args.i c.args.j c.rank.result c.self.view_is c.in-Some.is c.requires.column c.rank.ensures
