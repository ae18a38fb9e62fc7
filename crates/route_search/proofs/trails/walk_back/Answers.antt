use Rattle.std.proofs.Common.{sym, ap, subst, ◌∙◌}
use Rattle.route_search.specs.declared.labels.Last.{Last}
use Rattle.route_search.specs.Trails.{IsTrail}
use Rattle.route_search.proofs.TrailWalks.{IsBack, back_more, back_all, back_within, back_less}
use Rattle.route_search.proofs.trails.walk_back.Goals as goal

pub get-requires : goal.get-requires
get-requires c = back_within c.args.lasts.now c.args.to c.loop-link.here c.loop-link.back.items c.requires (c.loop-link.invariant c.requires)

pub loop-link-smaller : goal.loop-link-smaller
loop-link-smaller c =
    back_less c.args.lasts.now c.args.to c.loop-link.here c.in-Some.link c.loop-link.back.items c.requires (ap (λ (y : Last). y.by) (sym c.get.ensures) ∙ c.in-Some.is) (c.loop-link.invariant c.requires)

pub loop-link-preserved : goal.loop-link-preserved
loop-link-preserved c known =
    subst (IsBack known.costs c.args.lasts.now c.args.to c.in-Some.link.from) (sym c.in_ok-push.ensures.items)
    (back_more c.args.lasts.now c.args.to c.loop-link.here c.in-Some.link c.loop-link.back.items known (ap (λ (y : Last). y.by) (sym c.get.ensures) ∙ c.in-Some.is) (c.loop-link.invariant known))

pub returns : goal.returns
returns c known =
    subst (IsTrail known.costs c.args.lasts.now known.from c.args.to) (sym (c.from_vec.ensures ∙ c.reverse.ensures.items))
    (back_all c.args.lasts.now c.args.to c.loop-link.here c.loop-link.back.items known (ap (λ (y : Last). y.by) (sym c.get.ensures) ∙ c.in_default.is) (c.loop-link.invariant known))
