use Rattle.std.proofs.Common.{◌≡◌, inl, inr, ℕ, ◌<◌, Some, length, refl, subst, arith}
use Rattle.std.specs.Prelude.{slice_get}
use Rattle.std.proofs.lemmas.Bool.{cases_lt}
use Rattle.std.proofs.lemmas.Option.{slice_get_within}
use Rattle.link_graph.specs.Graphs.{network}
use Rattle.route_search.proofs.Covers.{quiet}
use Rattle.route_search.proofs.quiet.is_quiet.Goals as goal

pub loop-k-preserved : goal.loop-k-preserved
loop-k-preserved c j stretch low is = elim (cases_lt j c.loop-k.k) [
  | inl before ↦ c.loop-k.invariant j stretch before is
  | inr last ↦
      (let here : j ≡ c.loop-k.k = omega arith in
      c.if-not-is_own.ensures refl stretch (subst (λ (i : ℕ). slice_get ((network c.args.graph.now).stretches c.args.node) i ≡ Some stretch) here is))
]

pub returns : goal.returns
returns c _ = quiet (network c.args.graph.now) c.args.link.now.via c.args.link.now.from c.args.node (c.stretch_law.ensures c.args.node c.requires.node) c.member_law.ensures
    (λ j stretch is. (let within : j < length ((network c.args.graph.now).stretches c.args.node) = slice_get_within _ j stretch is in
    c.loop-k.invariant j stretch (omega (arith, within, c.loop-k-test.false, c.stretches-count.ensures)) is))
