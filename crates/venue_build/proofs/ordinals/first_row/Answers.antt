use Rattle.std.proofs.Common.{Some, None, ap, sym, ◌∙◌}
use Rattle.std.specs.Option.{option_copied}
use Rattle.link_graph.specs.Identity.{is_same}
use Rattle.venue_build.proofs.FirstRows.{found_at}
use Rattle.venue_build.proofs.ordinals.first_row.Goals as goal

pub returns-in_err-k : goal.returns-in_err-k
returns-in_err-k g c =
    ap option_copied c.from_residual.ensures
    ∙ found_at (λ row. is_same (g.R.HasId.id_of row) c.args.id) c.args.rows.now None (sym c.in_err-k.was ∙ c.place_of.ensures ∙ c.requires.first c.args.id)

pub returns : goal.returns
returns g c = c.get.ensures ∙ found_at (λ row. is_same (g.R.HasId.id_of row) c.args.id) c.args.rows.now (Some c.in_ok-k.k) (sym c.in_ok-k.was ∙ c.place_of.ensures ∙ c.requires.first c.args.id)
