use Rattle.std.proofs.Common.{refl}
use Rattle.unit_sight.proofs.GuestLemmas.{rows_of}
use Rattle.test_plane.proofs.joined.put.Goals as goal

pub returns : goal.returns
returns c = rows_of _ _ _ _ c.put.ensures refl
