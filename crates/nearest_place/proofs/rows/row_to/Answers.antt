use Rattle.nearest_place.proofs.rows.row_to.Goals as goal

pub returns-clause-walked : goal.returns-clause-walked
returns-clause-walked c = record {
  least = λ network closed profile from over. c.in_ok-walk.ensures.least network closed profile from c.args.entry.cost over c.requires;
  few = c.in_ok-walk.ensures.few;
}
