use Rattle.std.proofs.Common.{rules, subst, sym, IsTrue}
use Rattle.opening_match.proofs.EdgeNearness.{overlap_read, least_x, greatest_x, least_y, greatest_y}
use Rattle.opening_match.proofs.edges.Edge.comes_near.Goals as goal
use Rattle.opening_match.proofs.edges.Edge.comes_near.Goals.{then-overlap, else-overlap}

pub returns-else-overlap-2 : goal.returns-else-overlap-2
returns-else-overlap-2 c = λ p box span close near.
    let a = c.args.self.now.from in
    let b = c.args.self.now.to in
    let extent = c.args.extent.now in
    let t = c.args.tolerance in
    elim c.if-overlap.branch [
      | then-overlap w ↦
          let over = overlap_read a.y b.y extent.south extent.north p.y t (search rules) (search rules) (search rules) (search rules) w.overlap-then-overlap.ensures box.south box.north (least_y p a b t near) (greatest_y p a b t near) in
          subst IsTrue (sym w.value-is) over
      | else-overlap w ↦
          let over = overlap_read a.x b.x extent.west extent.east p.x t (search rules) (search rules) (search rules) (search rules) c.overlap.ensures box.west box.east (least_x p a b t near) (greatest_x p a b t near) in
          let same = w.if-overlap.false in let is = w.value-is in cc
    ]
