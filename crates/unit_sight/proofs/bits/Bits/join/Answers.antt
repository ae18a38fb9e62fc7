use Rattle.std.proofs.Common.{arith}
use Rattle.unit_sight.proofs.WordLemmas.{put_length, put_twice}
use Rattle.unit_sight.proofs.bits.Bits.join.Goals as goal

pub put-requires-2-clause-row : goal.put-requires-2-clause-row
put-requires-2-clause-row c = let same = put_length c.args.self.now c.put.new.self c.args.i c.args.j c.put.ensures in let low = c.requires.column in omega arith

pub put-requires-2-clause-column : goal.put-requires-2-clause-column
put-requires-2-clause-column c = let same = put_length c.args.self.now c.put.new.self c.args.i c.args.j c.put.ensures in let low = c.requires.row in omega arith

pub returns : goal.returns
returns c = put_twice c.args.self.now c.put.new.self c.put-2.new.self c.args.i c.args.j c.put.ensures c.put-2.ensures
