use Rattle.std.proofs.Common.{arith}
use Rattle.unit_sight.proofs.Ones.{first_has, first_none, first_within, none_behind}
use Rattle.unit_sight.proofs.words.first_bit.Goals as goal

pub returns-then-rest-eq0-clause-none : goal.returns-then-rest-eq0-clause-none
returns-then-rest-eq0-clause-none c = λ k behind below. none_behind c.args.word c.args.from k (omega arith) behind

pub returns-else-rest-eq0-clause-range : goal.returns-else-rest-eq0-clause-range
returns-else-rest-eq0-clause-range c = let within = first_within c.args.word c.args.from (omega arith) (omega arith) in omega arith

pub returns-else-rest-eq0-clause-bit : goal.returns-else-rest-eq0-clause-bit
returns-else-rest-eq0-clause-bit c = λ within. first_has c.args.word c.args.from (omega arith) (omega arith)

pub returns-else-rest-eq0-clause-none : goal.returns-else-rest-eq0-clause-none
returns-else-rest-eq0-clause-none c = λ k behind below. first_none c.args.word c.args.from k (omega arith) (omega arith) behind below
