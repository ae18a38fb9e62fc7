use Rattle.std.proofs.Common.{FitsSigned, w64, rules}
use Rattle.venue_nodes.proofs.Boxes.{same_bounds, min_kept, max_kept}
use Rattle.venue_nodes.proofs.spots.Bounds.with.Goals as goal

pub returns : goal.returns
returns c =
    let west : FitsSigned w64 c.min.result = search rules in
    let east : FitsSigned w64 c.max.result = search rules in
    let south : FitsSigned w64 c.min-2.result = search rules in
    let north : FitsSigned w64 c.max-2.result = search rules in
    let w : FitsSigned w64 c.args.self.west = search rules in
    let e : FitsSigned w64 c.args.self.east = search rules in
    let s : FitsSigned w64 c.args.self.south = search rules in
    let n : FitsSigned w64 c.args.self.north = search rules in
    let x : FitsSigned w64 c.args.p.x = search rules in
    let y : FitsSigned w64 c.args.p.y = search rules in
    same_bounds _ _ _ _ _ _ _ _ (min_kept _ _ _ west w x c.min.ensures.value) (max_kept _ _ _ east e x c.max.ensures.value)
    (min_kept _ _ _ south s y c.min-2.ensures.value) (max_kept _ _ _ north n y c.max-2.ensures.value)
