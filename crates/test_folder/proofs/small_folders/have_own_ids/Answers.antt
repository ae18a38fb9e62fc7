use Rattle.imdf_refs.specs.Rules.{IsMisnamed}
use Rattle.test_folder.proofs.Silence.{nothing}
use Rattle.test_folder.proofs.small_folders.have_own_ids.Goals as goal

pub returns : goal.returns
returns c =
    let found = c.in_ok-misnamed.misnamed in
    c.own_ids_law.ensures c.args.features.now (nothing (IsMisnamed c.args.features.now) found (c.is_empty.ensures.0 c.if-not-is_empty.false) c.in_ok-misnamed.ensures.whole)
