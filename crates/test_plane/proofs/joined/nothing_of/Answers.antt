use Rattle.std.proofs.Common.{refl}
use Rattle.unit_sight.proofs.GuestLemmas.{rows_of}
use Rattle.test_plane.proofs.joined.nothing_of.Goals as goal

pub returns-in-Ok : goal.returns-in-Ok
returns-in-Ok c = rows_of _ _ _ _ c.in-Ok.ensures refl
