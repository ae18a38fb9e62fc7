use Rattle.opening_match.proofs.Gaining.{folder_kept}
use Rattle.opening_match.proofs.Touching.{units_beside}
use Rattle.opening_match.proofs.touch_rows.touches.Goals as goal

pub matches_by-requires-clause-close : goal.matches_by-requires-clause-close
matches_by-requires-clause-close c =
    units_beside c.opening_point_law.ensures.unit c.args.features.now c.as_slice-openings.result.now c.as_slice-units.result.now c.requires.close c.as_slice-openings.ensures c.as_slice-units.ensures

pub returns : goal.returns
returns c = folder_kept c.args.settings.now.border_tol c.args.features.now c.as_slice-openings.result.now c.as_slice-units.result.now c.in_ok-matches.matches c.as_slice-openings.ensures c.as_slice-units.ensures c.in_ok-matches.ensures
