use Rattle.std.proofs.Common.{List, refl, subst}
use Rattle.venue_types.specs.declared.finding.Finding.{Finding}
use Rattle.venue_types.specs.declared.folder_file.File.TheVariants as file
use Rattle.rule_reports.specs.Passes.{Adds}
use Rattle.imdf_read.specs.Gathering.{FindsInSlot}
use Rattle.imdf_read.proofs.Folders.{started}
use Rattle.imdf_read.proofs.progress.read_manifest.Goals as goal

pub returns : goal.returns
returns c =
    started c.args.slots.now c.slot_of.result.now c.judge_manifest.new.findings.items _ c.slot_of.ensures
    (subst (λ (xs : List Finding). Adds (FindsInSlot file.Manifest c.slot_of.result.now) xs c.judge_manifest.new.findings.items) c.new-findings.ensures.items c.in_ok-judge_manifest.ensures)
    refl c.new.ensures.items refl refl
