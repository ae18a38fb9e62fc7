use Rattle.std.proofs.Common.{arith}
use Rattle.unit_sight.proofs.Masks.{seen_mask, seen_mask_put, seen_mask_put_bits}
use Rattle.unit_sight.proofs.mask.Mask.put.Goals as goal

pub index-requires : goal.index-requires
index-requires c =
    let same = seen_mask c.self.inside.size c.self.inside.words.items c.args.self.now c.self.view_is in
    let count = c.self.invariant.count in
    let low = c.requires in
    omega arith

pub index_mut-requires : goal.index_mut-requires
index_mut-requires c =
    let same = seen_mask c.self.inside.size c.self.inside.words.items c.args.self.now c.self.view_is in
    let count = c.self.invariant.count in
    let low = c.requires in
    omega arith

pub invariant_of-self : goal.invariant_of-self
invariant_of-self c =
    seen_mask_put_bits c.self.inside.size c.self.inside.words.items c.args.self.now c.args.place c.index.result.now c.with_bit.result c.self.view_is c.self.invariant c.requires c.index.ensures
    c.with_bit.ensures.set c.with_bit.ensures.others

pub returns : goal.returns
returns c =
    seen_mask_put c.self.inside.size c.self.inside.words.items c.args.self.now c.args.place c.index.result.now c.with_bit.result c.self.view_is c.self.invariant c.requires c.index.ensures
    c.with_bit.ensures.set c.with_bit.ensures.others
