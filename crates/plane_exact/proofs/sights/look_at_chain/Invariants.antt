use Rattle.std.proofs.Common.{◌≡◌, ◌∷◌, drop}
use Rattle.plane_exact.specs.Figure.{edges_from}
use Rattle.plane_exact.specs.Looks.{FitsWay, joined_look, look_at}
use Rattle.plane_exact.proofs.sights.look_at_chain.Given as goal

-- what was told so far and what is told ahead make up all
abbrev pub invariant-loop-b : goal.invariant-loop-b
invariant-loop-b l = record {
  fits : FitsWay l.way (l.a ∷ drop l.b-index l.rest);
  told : joined_look l.look (look_at l.way (edges_from l.a (drop l.b-index l.rest)) (drop l.b-index l.rest)) ≡ look_at l.way (edges_from l.fn.start l.rest) (l.fn.start ∷ l.rest);
}
