use Rattle.std.proofs.Common.{◌≡◌, Bool, true, false, not, refl}
use Rattle.route_search.proofs.quiet.has_to_wait.Goals as goal

not_off : (b : Bool) → not b ≡ false → b ≡ true
not_off true off = refl
not_off false off = absurd cc

pub returns-else-is_end : goal.returns-else-is_end
returns-else-is_end g c off = c.is_quiet.ensures (not_off c.is_quiet.result off)
