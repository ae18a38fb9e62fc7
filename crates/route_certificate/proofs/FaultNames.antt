-- The line that a fault names.
use Rattle.std.proofs.Common.{◌≡◌, ℕ}
use Rattle.std.specs.Prelude.{Err, IsErrOf}
use Rattle.route_certificate.specs.declared.table.FormFault.{FormFault}
use Rattle.route_certificate.specs.declared.table.FormFault.TheVariants.{Line}

pub named : {T : Type 0} (k n : ℕ) → IsErrOf {T = T} {E = FormFault} (Err (Line k)) (Line n) → k ≡ n
named k n e = cc
