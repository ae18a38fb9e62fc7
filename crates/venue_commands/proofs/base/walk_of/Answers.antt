use Rattle.std.proofs.Common.{refl, subst, List, ℕ}
use Rattle.line_forms.specs.Faults.{IsFaultLine}
use Rattle.route_certificate.specs.declared.table.WalkIn.{WalkIn}
use Rattle.venue_commands.specs.Files.{walk_limit, walk_name}
use Rattle.venue_commands.specs.Output.{WalkForm}
use Rattle.venue_commands.proofs.Judging.{malformed_stops}
use Rattle.venue_commands.proofs.base.walk_of.Goals as goal

pub returns-in-Err-Line-clause-told : goal.returns-in-Err-Line-clause-told
returns-in-Err-Line-clause-told g c =
    let fault = rw c.in-Err-Line.field-0-is at c.in-Err-Line.ensures in
    let line = c.in-Err-Line.line in
    malformed_stops (WalkForm c.args.table.now) walk_limit (g.F.Folders.files c.args.folders.now) c.args.base.now walk_name c.in_ok-load.field-0 c.in-Whole.bytes line c.in_ok-load.ensures.told c.in-Whole.is
    (subst (λ (bs : List ℕ). IsFaultLine (λ text. (x : WalkIn) × WalkForm c.args.table.now text x) bs line) c.as_slice.ensures.value (fault.fault line refl))
