-- The first feature is added, then the others, each behind a comma.
use Rattle.imdf_write.proofs.Lists.{first_and_more, no_item}
use Rattle.imdf_write.proofs.file.append_features.Goals as goal

pub returns-in-Some : goal.returns-in-Some
returns-in-Some g c =
    first_and_more (g.R.Canonical.feature c.args.file) c.args.rows.now c.in-Some.others.now c.in-Some.first.now c.args.out.now c.append.new.out c.append_more.new.out
    c.in-Some.ensures.cases.0 c.append.ensures c.append_more.ensures

pub returns-in_default : goal.returns-in_default
returns-in_default g c = no_item (g.R.Canonical.feature c.args.file) c.args.rows.now c.args.out.now c.in_default.ensures.cases
