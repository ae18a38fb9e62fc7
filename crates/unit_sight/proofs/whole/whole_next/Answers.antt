use Rattle.std.proofs.Common.{arith, sym, inl, inr}
use Rattle.unit_sight.proofs.Wholes.{whole_end, whole_found}
use Rattle.unit_sight.proofs.whole.whole_next.Goals.{then-from-i, else-from-i}
use Rattle.unit_sight.proofs.whole.whole_next.Goals as goal

pub returns-then-place-size : goal.returns-then-place-size
returns-then-place-size c = elim c.if-from-i.branch [
  | then-from-i w ↦
      (let here = w.if-from-i.true in
      let place = w.place-is in
      sym (whole_found c.args.size c.args.i c.args.from c.if-from-i.place c.requires c.if-place-size.true (omega arith) (omega arith) (inr (omega arith, omega arith))))
  | else-from-i w ↦
      (let apart = w.if-from-i.false in
      let place = w.place-is in
      sym (whole_found c.args.size c.args.i c.args.from c.if-from-i.place c.requires c.if-place-size.true (omega arith) (omega arith) (inl (omega arith))))
]

pub returns-else-place-size : goal.returns-else-place-size
returns-else-place-size c = elim c.if-from-i.branch [
  | then-from-i w ↦
      (let here = w.if-from-i.true in
      let place = w.place-is in
      whole_end c.args.size c.args.i c.args.from c.if-from-i.place c.requires c.if-place-size.false (inr (omega arith, omega arith)))
  | else-from-i w ↦
      (let apart = w.if-from-i.false in
      let place = w.place-is in
      whole_end c.args.size c.args.i c.args.from c.if-from-i.place c.requires c.if-place-size.false (inl (omega arith)))
]
