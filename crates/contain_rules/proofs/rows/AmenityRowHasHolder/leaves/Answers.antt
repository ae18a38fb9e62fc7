use Rattle.std.proofs.Common.{◌↔◌, IsTrue, List, subst}
use Rattle.venue_types.specs.declared.feature_id.FeatureId.{FeatureId}
use Rattle.contain_rules.specs.Judging.{OneHolds}
use Rattle.contain_rules.proofs.RowRules.{amenity_rule}
use Rattle.contain_rules.proofs.rows.AmenityRowHasHolder.leaves.Goals as goal

pub returns : goal.returns
returns c = amenity_rule c.args.features.now c.args.tolerance c.args.self.now c.one_holds.result
    (subst (λ (ids : List FeatureId). IsTrue c.one_holds.result ↔ OneHolds c.args.features.now c.args.tolerance c.args.self.now.point ids) c.as_slice.ensures c.one_holds.ensures)
