use Rattle.std.proofs.Common.{arith}
use Rattle.unit_sight.proofs.Masks.{seen_mask, seen_mask_word}
use Rattle.unit_sight.proofs.mask.Mask.word.Goals as goal

pub index-requires : goal.index-requires
index-requires c =
    let same = seen_mask c.self.inside.size c.self.inside.words.items c.args.self.now c.self.view_is in
    let count = c.self.invariant.count in
    let low = c.requires in
    omega arith

pub returns : goal.returns
returns c = seen_mask_word c.self.inside.size c.self.inside.words.items c.args.self.now c.args.w c.index.result.now c.self.view_is c.self.invariant c.requires c.index.ensures
