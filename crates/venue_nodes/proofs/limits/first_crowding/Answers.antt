use Rattle.std.proofs.Common.{◌<◌, subst, refl, ℕ}
use Rattle.venue_nodes.proofs.Limiting.{first_crowded, none_crowded, squares_are}
use Rattle.venue_nodes.proofs.limits.first_crowding.Goals as goal

pub returns-in-Some : goal.returns-in-Some
returns-in-Some c = first_crowded c.args.features.now c.args.settings.now c.args.rows.now c.in-Some.w c.unit_index.result c.requires.rows c.in-Some.ensures c.unit_index.ensures

pub returns-in-None : goal.returns-in-None
returns-in-None c =
    let features = c.args.features.now in
    let settings = c.args.settings.now in
    let rows = c.args.rows.now in (
      none_crowded features settings rows c.requires.rows c.in-None.ensures,
      subst (λ (n : ℕ). 20000000 < n) (squares_are features settings rows c.requires.rows) (c.if-squares_pass.ensures.0 refl),
    )
