use Rattle.std.proofs.Common.{arith}
use Rattle.unit_sight.proofs.Masks.{seen_mask, seen_mask_bit}
use Rattle.unit_sight.proofs.mask.Mask.has.Goals as goal

pub index-requires : goal.index-requires
index-requires c =
    let same = seen_mask c.self.inside.size c.self.inside.words.items c.args.self.now c.self.view_is in
    let count = c.self.invariant.count in
    let low = c.requires in
    omega arith

pub returns : goal.returns
returns c =
    seen_mask_bit c.self.inside.size c.self.inside.words.items c.args.self.now c.args.place c.index.result.now c.has_bit.result c.self.view_is c.self.invariant c.requires c.index.ensures
    c.has_bit.ensures
