use Rattle.std.proofs.Common.{sym, ◌∙◌}
use Rattle.unit_sight.proofs.Masks.{kept_both, seen_both}
use Rattle.unit_sight.proofs.Wholes.{in_sights, seen_length}
use Rattle.unit_sight.proofs.sights.Sights.both.Goals as goal

pub whole_both-requires-clause-row : goal.whole_both-requires-clause-row
whole_both-requires-clause-row c = in_sights c.self.inside.size c.self.inside.rows c.args.self.now c.args.i c.self.invariant c.self.view_is c.requires.row

pub whole_both-requires-clause-same : goal.whole_both-requires-clause-same
whole_both-requires-clause-same c = c.requires.same ∙ sym (seen_length c.self.inside.size c.self.inside.rows c.args.self.now c.self.invariant c.self.view_is)

pub returns-in-None : goal.returns-in-None
returns-in-None c =
    seen_both c.self.inside.size c.self.inside.rows c.args.self.now c.args.i c.args.mask.now c.whole_both.result c.self.invariant c.self.view_is c.in-None.is c.whole_both.ensures

pub returns-in-Some : goal.returns-in-Some
returns-in-Some c =
    kept_both c.self.inside.size c.self.inside.rows c.args.self.now c.in-Some.rows c.args.i c.args.mask.now c.both.result c.self.view_is c.in-Some.is c.both.ensures
