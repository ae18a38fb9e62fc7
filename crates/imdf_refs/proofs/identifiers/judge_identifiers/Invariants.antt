use Rattle.std.proofs.Common.{◌+◌}
use Rattle.venue_types.specs.FolderFiles.{feature_files}
use Rattle.rule_reports.specs.Passes.{Adds}
use Rattle.rule_reports.proofs.Adding.{Below}
use Rattle.imdf_refs.specs.Index.{HasBefore}
use Rattle.imdf_refs.specs.Gathering.{RepeatsIn}
use Rattle.imdf_refs.proofs.identifiers.judge_identifiers.Given as goal

-- the features of the files before are in the index, and those of them that repeat an identifier are found
abbrev pub invariant-loop-file : goal.invariant-loop-file
invariant-loop-file l = record {
  known : HasBefore l.features (l.file-index + 1) 0 l.known;
  told : Adds (Below (λ i f. RepeatsIn l.features f) feature_files l.file-index) l.initial.findings.items l.findings.items;
}
